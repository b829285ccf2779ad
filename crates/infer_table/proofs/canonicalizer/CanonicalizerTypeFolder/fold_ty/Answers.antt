use Rattle.std.proofs.Common.{ap, Err, arith, ◌≡◌, Bool, true, false, refl, sym, ◌∙◌, ◌&&◌}
use Rattle.type_terms.specs.Trees.{Single}
use Rattle.type_terms.specs.Promised.Handles.{trees_at, types}
use Rattle.type_terms.proofs.Sorts.{type-single}
use Rattle.type_terms.specs.Binders.{counts_of}
use Rattle.type_terms.specs.Kept.{is-at}
use Rattle.term_folds.proofs.FoldFacts.{TyIs}
use Rattle.type_terms.proofs.FailFacts.{faulted, refused-term}
use Rattle.infer_table.specs.Leaves.{labels, root_label, are_closed_flags, is_closed_by, is_type_label, numbering}
use Rattle.infer_table.proofs.Numbers.{enters-at, stays-at, says-stays, says-enters}
use Rattle.infer_table.proofs.canonicalizer.CanonicalizerTypeFolder.fold_ty.Goals as goal

both-true : (x y : Bool) → x ≡ true → y ≡ true → (x && y) ≡ true
both-true x y p q = rw (p, q) refl

last-false : (x y : Bool) → y ≡ false → (x && y) ≡ false
last-false true y e = e
last-false false y e = refl

pub returns-then-is_closed-clause-answer : goal.returns-then-is_closed-clause-answer
returns-then-is_closed-clause-answer c =
    let es = c.args.cx.now.entries in
    let t = trees_at es c.args.ty.0 in
    let b = c.args.self.now.in_clause in
    let ls = labels es c.args.self.now.leaves.now.keys in
    let bs = counts_of c.args._binders.now in
    let s : Single t = type-single es c.lawful.ensures.sorted c.args.ty.0 c.requires.held in
    let closed : is_closed_by b t ≡ true = sym (c.if-is_closed.ensures ∙ ap (are_closed_flags b) c.flags.ensures) in
    says-stays (TyIs es) (numbering b ls bs t) t c.args.ty
    (stays-at b ls bs t s (c.if-not-is_open_ty.ensures.open b) (both-true (is_type_label (root_label t)) (is_closed_by b t) c.is_open_ty.ensures.type_label closed))
    (is-at es types c.args.ty.0 c.requires.held)

pub returns-else-is_closed-clause-answer : goal.returns-else-is_closed-clause-answer
returns-else-is_closed-clause-answer c =
    let es = c.args.cx.now.entries in
    let t = trees_at es c.args.ty.0 in
    let b = c.args.self.now.in_clause in
    let ls = labels es c.args.self.now.leaves.now.keys in
    let bs = counts_of c.args._binders.now in
    let s : Single t = type-single es c.lawful.ensures.sorted c.args.ty.0 c.requires.held in
    let marked : is_closed_by b t ≡ false = sym (c.if-is_closed.ensures ∙ ap (are_closed_flags b) c.flags.ensures) in
    says-enters (TyIs es) (numbering b ls bs t)
    (enters-at b ls bs t s (c.if-not-is_open_ty.ensures.open b) (last-false (is_type_label (root_label t)) (is_closed_by b t) marked))

pub returns-in_err-variable-clause-full : goal.returns-in_err-variable-clause-full
returns-in_err-variable-clause-full c =
    let refused = c.in_err-variable.ensures in
    faulted _ c.from_residual-in_err-variable.result c.from_residual-in_err-variable.ensures.1
    (λ q. refused-term types (omega arith) (refused.full (ap Err q)) refused.grew.limit refused.refused)
