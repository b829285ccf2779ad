use Rattle.std.proofs.Common.{sym, ap, ◌∙◌, not, ◌||◌}
use Rattle.type_terms.specs.Promised.Handles.{bounds_lists}
use Rattle.type_terms.specs.Kinds.{autos_trees, bounds_trees}
use Rattle.type_terms.specs.Kept.{trees-is}
use Rattle.declarations.specs.Items.{written}
use Rattle.candidate_assembly.proofs.Finding.{among, bounds-with, bounds-without}
use Rattle.candidate_assembly.proofs.visitors.bounds_are_declared.Goals as goal

pub returns-then-trait_is_declared : goal.returns-then-trait_is_declared
returns-then-trait_is_declared c =
    let es = c.args.cx.now.entries in
    let V = written es c.args.declarations.now in
    let b = c.bounds-bounds.result.now in
    let p = c.in-Some.principal in
    let declared = sym (c.trait_is_declared.ensures es) ∙ c.if-trait_is_declared.true in
    c.traits_are_declared.ensures es ∙ ap (λ l. not (among V (autos_trees l))) c.deref.ensures.value
    ∙ sym (ap (λ z. not (not z || among V (autos_trees b.autos.items))) declared)
    ∙ sym (ap not (bounds-with V es b p c.in-Some.is)) ∙ sym (ap (λ t. not (among V t)) (trees-is es bounds_lists c.args.bounds.0 (bounds_trees es b) c.bounds-bounds.ensures.is))

pub returns-in-None : goal.returns-in-None
returns-in-None c =
    let es = c.args.cx.now.entries in
    let V = written es c.args.declarations.now in
    let b = c.bounds-bounds.result.now in
    c.traits_are_declared-in-None.ensures es ∙ ap (λ l. not (among V (autos_trees l))) c.deref-in-None.ensures.value
    ∙ sym (ap not (bounds-without V es b c.in-None.is)) ∙ sym (ap (λ t. not (among V t)) (trees-is es bounds_lists c.args.bounds.0 (bounds_trees es b) c.bounds-bounds.ensures.is))
