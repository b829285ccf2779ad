use Rattle.std.proofs.Common.{None, refl, sym, ap, ◌∙◌, subst}
use Rattle.std.specs.Option.{option_map}
use Rattle.type_terms.specs.Promised.Label.{of_type}
use Rattle.type_terms.specs.Promised.Trees.{IsA}
use Rattle.type_terms.specs.Promised.Handles.{trees_at, types}
use Rattle.type_terms.specs.Kept.{trees-is}
use Rattle.type_terms.specs.declared.ImplId.{ImplId}
use Rattle.declarations.specs.Heads.{head_of}
use Rattle.declarations.specs.Items.{ids_with, ids_headed}
use Rattle.declarations.specs.Merges.{Rises}
use Rattle.declarations.specs.Relevant.{impl_indices, next_above, smaller_of}
use Rattle.declarations.proofs.Relevance.{all-relevant}
use Rattle.declarations.proofs.Above.{rises-with, rises-headed, next-headed}
use Rattle.declarations.proofs.declarations.Declarations.next_relevant_impl.Goals as goal

pub first_above-requires : goal.first_above-requires
first_above-requires c = subst Rises (sym c.impls_with.ensures.is) (rises-with c.args.trait_id.index None c.args.self.now.impls c.impls_with.ensures.rises)

pub first_above-requires-2 : goal.first_above-requires-2
first_above-requires-2 c = subst Rises (sym c.with_head-same_head.ensures) (rises-headed c.args.trait_id.index _ c.args.self.now.impls c.impls_with.ensures.rises)

pub returns-clause-is : goal.returns-clause-is
returns-clause-is c =
    let es = c.args.cx.now.entries in
    let d = c.args.self.now in
    let t = c.args.trait_id.index in
    let last = c.args.last in
    let S = trees_at es c.args.self_ty.0 in
    let h = head_of S in
    let typed = (c.lawful.ensures.sorted c.args.self_ty.0 _ c.requires.self_held.1).as_type refl in
    let term = trees-is es types c.args.self_ty.0 c.requires.self_held.0 c.requires.self_held.1 in
    let number = option_map (λ (i : ImplId). i.index) in
    c.smaller.ensures
    ∙ ap (λ o. smaller_of o (number c.first_above-2.result)) (c.first_above.ensures ∙ ap (λ l. next_above last (impl_indices l)) c.impls_with.ensures.is)
    ∙ ap (smaller_of (next_above last (impl_indices (ids_with t None d.impls))))
    (c.first_above-2.ensures ∙ ap (λ l. next_above last (impl_indices l)) (c.with_head-same_head.ensures ∙ ap (λ k. ids_headed t k d.impls) c.simplify_type.ensures))
    ∙ sym (next-headed last t h d.impls c.impls_with.ensures.rises)
    ∙ ap (next_above last) (all-relevant es d t S (subst (IsA of_type) (sym term) typed) c.requires.held)
