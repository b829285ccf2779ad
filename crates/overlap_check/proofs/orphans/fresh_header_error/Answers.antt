use Rattle.std.proofs.Common.{ap, ◌∙◌, subst}
use Rattle.type_terms.specs.Promised.Erased.{erased_reference}
use Rattle.type_terms.specs.Promised.Handles.{trees_at}
use Rattle.infer_table.specs.Content.{Table}
use Rattle.declarations.specs.Items.{declared, reference_in}
use Rattle.overlap_check.specs.Headers.{sorts_of_impl, IsHeaderOver}
use Rattle.overlap_check.specs.Orphans.{IsHeaderError, IsWalkError}
use Rattle.overlap_check.proofs.Judged.{ok-then, header-judged}
use Rattle.overlap_check.proofs.Unknowns.{fresh-values}
use Rattle.overlap_check.proofs.orphans.fresh_header_error.Goals as goal

pub walk_error-requires-clause-unvalued : goal.walk_error-requires-clause-unvalued
walk_error-requires-clause-unvalued c =
    ap (λ (t : Table). t.values) c.in_ok-header.ensures.made ∙ fresh-values c.args.table.now (sorts_of_impl c.args.def.now) ∙ ap (λ (t : Table). t.values) c.requires.empty

pub returns-clause-found : goal.returns-clause-found
returns-clause-found c = λ foreign.
    let es = c.args.cx.now.entries in
    let new = c.fresh_impl_header.new.cx.entries in
    let d = c.args.declarations.now in
    let def = c.args.def.now in
    let x = c.in_ok-header.header in
    ok-then (IsWalkError (declared new d) d.local (trees_at new x.trait_ref.args.0) new) (IsHeaderError (declared es d) d.local (erased_reference (reference_in es def.header)) new) c.walk_error.result
    (header-judged es c.lawful.ensures d c.requires.held def c.requires.impl_held c.requires.written c.requires.params new c.fresh_impl_header.ensures.terms.grew.keeps x
    (subst (λ t. IsHeaderOver es t def new x) c.requires.empty c.in_ok-header.ensures.header) foreign) c.walk_error.ensures.found
