use Rattle.std.proofs.Common.{sym, ap, ◌∙◌, not}
use Rattle.std.specs.Prelude.{◌==◌}
use Rattle.std.specs.List.{list_any}
use Rattle.type_terms.specs.Promised.Trees.{◌+++◌}
use Rattle.type_terms.specs.Promised.Rules.{unsize}
use Rattle.type_terms.specs.Promised.Handles.{bounds_lists}
use Rattle.type_terms.specs.Kinds.{bounds_trees}
use Rattle.type_terms.specs.Promised.Handles.{region_trees}
use Rattle.type_terms.specs.declared.TraitId.{TraitId}
use Rattle.type_terms.specs.Kept.{trees-is}
use Rattle.candidate_assembly.proofs.Fitting.{bounds_both, bounds-with, bounds-without}
use Rattle.candidate_assembly.proofs.decided.bounds_fit.Goals as goal

pub returns-then-principal_fits : goal.returns-then-principal_fits
returns-then-principal_fits c r =
    let es = c.args.cx.now.entries in
    let d = c.args.declarations.now in
    let b = c.bounds-bounds.result.now in
    ap not (c.names_unsize.ensures ∙ ap (list_any (λ (x : TraitId). x.index == unsize)) c.deref.ensures.value)
    ∙ bounds-with d es b c.in-Some.principal r c.in-Some.is (sym c.principal_fits.ensures ∙ c.if-principal_fits.true)
    ∙ sym (ap (λ t. bounds_both d (t +++ region_trees r)) (trees-is es bounds_lists c.args.bounds.0 (bounds_trees es b) c.bounds-bounds.ensures.is))

pub returns-in-None : goal.returns-in-None
returns-in-None c r =
    let es = c.args.cx.now.entries in
    let d = c.args.declarations.now in
    let b = c.bounds-bounds.result.now in
    ap not (c.names_unsize-in-None.ensures ∙ ap (list_any (λ (x : TraitId). x.index == unsize)) c.deref-in-None.ensures.value)
    ∙ bounds-without d es b r c.in-None.is
    ∙ sym (ap (λ t. bounds_both d (t +++ region_trees r)) (trees-is es bounds_lists c.args.bounds.0 (bounds_trees es b) c.bounds-bounds.ensures.is))
