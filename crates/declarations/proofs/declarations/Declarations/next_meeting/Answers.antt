use Rattle.std.proofs.Common.{◌≡◌, ◌∷◌, [], Some, refl, sym, ap, ◌∙◌, subst, rules, if◌then◌else◌}
use Rattle.std.specs.Prelude.{filter}
use Rattle.type_terms.specs.Promised.Handles.{trees_at}
use Rattle.type_terms.specs.declared.ImplId.{ImplId}
use Rattle.declarations.specs.Merges.{IsMerge, Rises}
use Rattle.declarations.specs.Relevant.{is_above}
use Rattle.declarations.specs.Walks.{header_meets, first_that}
use Rattle.declarations.proofs.Walking.{merge-kept, rises-kept}
use Rattle.declarations.proofs.declarations.Declarations.next_meeting.Goals as goal

pub impls-init : goal.impls-init
impls-init c ids m r =
    let above = λ (i : ImplId). is_above c.args.last i.index in
    let kept = merge-kept above c.args.first.now c.args.second.now ids m in
    let second = subst (λ l. IsMerge (filter above c.args.first.now) l (filter above ids)) (sym c.ids_above-second_rest.ensures) kept in
    (filter above ids, subst (λ l. IsMerge l c.ids_above-second_rest.result.now (filter above ids)) (sym c.ids_above-first_rest.ensures) second, rises-kept above ids r, refl)

pub returns-then-header_meets : goal.returns-then-header_meets
returns-then-header_meets c ids m r =
    let meets = header_meets c.args.cx.now.entries c.args.self.now (trees_at c.args.cx.now.entries c.args.args.0) in
    let i = c.impls.invariant ids m r in
    let n = c.in-Some.ensures.next i.0 i.1 i.2 in
    sym (i.3 ∙ ap (first_that meets) n.1 ∙ ap (λ b. if b then Some c.in-Some.id else first_that meets n.0) (sym c.header_meets.ensures ∙ c.if-header_meets.true))

pub impls-preserved : goal.impls-preserved
impls-preserved c ids m r =
    let meets = header_meets c.args.cx.now.entries c.args.self.now (trees_at c.args.cx.now.entries c.args.args.0) in
    let i = c.impls.invariant ids m r in
    let n = c.in-Some.ensures.next i.0 i.1 i.2 in
    let rises : Rises (c.in-Some.id ∷ n.0) = subst Rises n.1 i.2 in
    (n.0, n.2, rises.1, i.3 ∙ ap (first_that meets) n.1 ∙ ap (λ b. if b then Some c.in-Some.id else first_that meets n.0) (sym c.header_meets.ensures ∙ c.if-header_meets.false))

pub returns : goal.returns
returns c ids m r =
    let meets = header_meets c.args.cx.now.entries c.args.self.now (trees_at c.args.cx.now.entries c.args.args.0) in
    let i = c.impls.invariant ids m r in
    let none : i.0 ≡ [] = search (rules, c.in_default.ensures.next i.0 i.1 i.2) in
    sym (i.3 ∙ ap (first_that meets) none)
