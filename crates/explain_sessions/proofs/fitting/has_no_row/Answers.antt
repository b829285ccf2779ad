use Rattle.std.proofs.Common.{refl, ap, sym, ◌∙◌, subst, ◌≡◌, []}
use Rattle.std.specs.Option.{option_map}
use Rattle.sessions.specs.TypeTerms.Promised.Rules.{sized_rules}
use Rattle.sessions.specs.TypeTerms.Promised.Handles.{trees_at}
use Rattle.sessions.specs.TypeTerms.Promised.Trees.{tree}
use Rattle.sessions.specs.Declarations.Heads.{label_of, head_of}
use Rattle.sessions.specs.Declarations.Items.{declared}
use Rattle.explain_sessions.specs.Rules.{is_bare}
use Rattle.explain_sessions.proofs.Rowless.{rowless, unlike}
use Rattle.explain_sessions.proofs.fitting.has_no_row.Goals as goal

pub returns-in-Str : goal.returns-in-Str
returns-in-Str c = λ q cs.
    let es = c.args.cx.now.entries in
    let d = c.args.declarations.now in
    let t = trees_at es c.in-Some.ty.0 in
    rowless es d cs c.args.reference c.in-Some-simplify_type.head t c.in-Some.ensures.head
    (subst (λ o. option_map label_of o ≡ head_of t) c.in-Some-simplify_type.is c.simplify_type.ensures) (ap (λ h. is_bare (label_of h)) c.in-Str.is) (sym (c.is_auto.ensures es) ∙ c.if-is_auto.false) c.if-number-eq-UNSIZE.false
    (λ _ x y. subst (λ h. sized_rules (record (declared es d) { crates = cs }) (tree (label_of h) x y) ≡ []) (sym c.in-Str.is) refl)

pub returns-in-Slice : goal.returns-in-Slice
returns-in-Slice c = λ q cs.
    let es = c.args.cx.now.entries in
    let d = c.args.declarations.now in
    let t = trees_at es c.in-Some.ty.0 in
    rowless es d cs c.args.reference c.in-Some-simplify_type.head t c.in-Some.ensures.head
    (subst (λ o. option_map label_of o ≡ head_of t) c.in-Some-simplify_type.is c.simplify_type.ensures) (ap (λ h. is_bare (label_of h)) c.in-Slice.is) (sym (c.is_auto.ensures es) ∙ c.if-is_auto.false) c.if-number-eq-UNSIZE.false
    (λ _ x y. subst (λ h. sized_rules (record (declared es d) { crates = cs }) (tree (label_of h) x y) ≡ []) (sym c.in-Slice.is) refl)

pub returns-then-number-ne-SIZED : goal.returns-then-number-ne-SIZED
returns-then-number-ne-SIZED c = λ q cs.
    let es = c.args.cx.now.entries in
    let d = c.args.declarations.now in
    let t = trees_at es c.in-Some.ty.0 in
    rowless es d cs c.args.reference c.in-Some-simplify_type.head t c.in-Some.ensures.head
    (subst (λ o. option_map label_of o ≡ head_of t) c.in-Some-simplify_type.is c.simplify_type.ensures) (sym c.is_bare.ensures ∙ q) (sym (c.is_auto.ensures es) ∙ c.if-is_auto.false) c.if-number-eq-UNSIZE.false
    (unlike c.args.reference.def_id.index c.if-number-ne-SIZED.true)
