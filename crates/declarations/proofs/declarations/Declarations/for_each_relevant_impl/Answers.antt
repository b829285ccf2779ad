use Rattle.std.proofs.Common.{refl, sym, ap, ◌∙◌, None, subst, List}
use Rattle.std.specs.Prelude.{map, filter}
use Rattle.type_terms.specs.Promised.Label.{of_type}
use Rattle.type_terms.specs.Promised.Trees.{IsA}
use Rattle.type_terms.specs.Promised.Handles.{trees_at, types}
use Rattle.type_terms.specs.Kept.{trees-is}
use Rattle.type_terms.specs.declared.ImplId.{ImplId}
use Rattle.declarations.specs.Heads.{head_of}
use Rattle.declarations.specs.Items.{HeldImpl, ids_with, ids_headed}
use Rattle.declarations.specs.Merges.{IsMerge}
use Rattle.declarations.proofs.Merging.{rises-filtered}
use Rattle.declarations.proofs.Relevance.{rel, all-relevant, two-keys}
use Rattle.declarations.proofs.declarations.Declarations.for_each_relevant_impl.Goals as goal

pub returns : goal.returns
returns g c =
    let d = c.args.self.now in
    let t = c.args.trait_id.index in
    let S = trees_at c.args.cx.now.entries c.args.self_ty.0 in
    let ids : List ImplId = map (λ i. i.id) (filter (rel t (head_of S)) d.impls) in
    let lawful = c.lawful.ensures in
    let typed = (lawful.sorted c.args.self_ty.0 _ c.requires.self_held.1).as_type refl in
    let term = trees-is c.args.cx.now.entries types c.args.self_ty.0 c.requires.self_held.0 c.requires.self_held.1 in
    let first = c.impls_with-blanket.ensures.is in
    let second = c.with_head-same_head.ensures ∙ ap (λ h. ids_headed t h d.impls) c.simplify_type.ensures in
    let merged = subst (λ l. IsMerge l c.with_head-same_head.result.now ids) (sym first) (subst (λ l. IsMerge (ids_with t None d.impls) l ids) (sym second) (two-keys t (head_of S) d.impls)) in
    let called = c.for_each_merged.ensures ids merged (rises-filtered (λ (i : HeldImpl). i.id) (rel t (head_of S)) d.impls c.impls_with-blanket.ensures.rises) in
    (ids, called.0, all-relevant c.args.cx.now.entries d t S (subst (IsA of_type) (sym term) typed) c.requires.held, called.1)
