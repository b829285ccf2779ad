use Rattle.std.proofs.Common.{◌≡◌, None, ◌&&◌, refl, sym, ap, ◌∙◌, subst}
use Rattle.std.specs.Option.{option_map}
use Rattle.type_terms.specs.Promised.Handles.{trees_at}
use Rattle.type_terms.specs.declared.ImplId.{ImplId}
use Rattle.declarations.specs.declared.heads.ImplKey.TheVariants.{Open, Fixed}
use Rattle.declarations.specs.Index.{has_key, has_open_head, ids_of}
use Rattle.declarations.specs.Items.{HeldImpl}
use Rattle.declarations.specs.Merges.{IsMerge, Rises}
use Rattle.declarations.specs.Relevant.{next_above, impl_indices, smaller_of}
use Rattle.declarations.proofs.Above.{first, next-either}
use Rattle.declarations.proofs.Matched.{is_open_of, open-lists, can_meet, fixed-matching}
use Rattle.declarations.proofs.Merging.{rises-filtered}
use Rattle.declarations.proofs.Walking.{meets, walk-finds}
use Rattle.declarations.proofs.declarations.Declarations.next_of_fixed.Goals as goal

pub next_meeting-open-requires-clause-first : goal.next_meeting-open-requires-clause-first
next_meeting-open-requires-clause-first c =
    subst Rises (sym c.with_key-open_blanket.ensures.is)
    (rises-filtered (λ (i : HeldImpl). i.id) (has_key (Open (record { trait_id = c.args.trait_ref.def_id; self_ty = None }))) c.args.self.now.impls c.with_key-open_blanket.ensures.rises)

pub next_meeting-open-requires-clause-second : goal.next_meeting-open-requires-clause-second
next_meeting-open-requires-clause-second c =
    subst Rises (sym c.open_with_head-open_same_head.ensures)
    (rises-filtered (λ (i : HeldImpl). i.id) (has_open_head c.args.trait_ref.def_id c.args.self_ty) c.args.self.now.impls c.with_key-open_blanket.ensures.rises)

pub first_above-requires : goal.first_above-requires
first_above-requires c =
    subst Rises (sym c.with_key-own.ensures.is) (rises-filtered (λ (i : HeldImpl). i.id) (has_key (Fixed c.args.trait_ref)) c.args.self.now.impls c.with_key-open_blanket.ensures.rises)

pub returns-clause-is : goal.returns-clause-is
returns-clause-is c =
    let es = c.args.cx.now.entries in
    let d = c.args.self.now in
    let r = c.args.trait_ref in
    let t = r.def_id in
    let s = c.args.self_ty in
    let last = c.args.last in
    let args = trees_at es r.args.0 in
    let rises = c.with_key-open_blanket.ensures.rises in
    let all = ids_of (is_open_of t s) d.impls in
    let number = option_map (λ (i : ImplId). i.index) in
    let second = subst (λ l. IsMerge (ids_of (has_key (Open (record { trait_id = t; self_ty = None }))) d.impls) l all) (sym c.open_with_head-open_same_head.ensures) (open-lists t s d.impls) in
    let merged = subst (λ l. IsMerge l c.open_with_head-open_same_head.result.now all) (sym c.with_key-open_blanket.ensures.is) second in
    let walked : number c.next_meeting-open.result ≡ first last (λ i. is_open_of t s i && meets es args i) d.impls =
    ap number (c.next_meeting-open.ensures all merged (rises-filtered (λ (i : HeldImpl). i.id) (is_open_of t s) d.impls rises)) ∙ walk-finds last es d args (is_open_of t s) rises in
    let own : number c.first_above.result ≡ first last (has_key (Fixed r)) d.impls = c.first_above.ensures ∙ ap (λ l. next_above last (impl_indices l)) c.with_key-own.ensures.is in
    c.smaller.ensures
    ∙ ap (λ o. smaller_of o (number c.first_above.result)) walked
    ∙ ap (smaller_of (first last (λ i. is_open_of t s i && meets es args i) d.impls)) own
    ∙ sym (next-either last (λ i. is_open_of t s i && meets es args i) (has_key (Fixed r)) (can_meet es c.lawful.ensures r c.requires.reference c.requires.first s c.requires.head c.requires.fixed) (λ i. refl) d.impls rises)
    ∙ ap (next_above last) (fixed-matching es c.lawful.ensures r c.requires.reference c.requires.first s c.requires.head c.requires.fixed d c.requires.held)
