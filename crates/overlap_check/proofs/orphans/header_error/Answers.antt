use Rattle.std.proofs.Common.{sym, ◌∙◌}
use Rattle.type_terms.specs.Promised.Erased.{erased_reference}
use Rattle.declarations.specs.Items.{declared, reference_in}
use Rattle.overlap_check.proofs.Judged.{own-keeps}
use Rattle.overlap_check.proofs.orphans.header_error.Goals as goal

pub returns-then-trait_is_local-clause-found : goal.returns-then-trait_is_local-clause-found
returns-then-trait_is_local-clause-found c =
    let es = c.args.cx.now.entries in
    let d = c.args.declarations.now in
    own-keeps (declared es d) d.local (erased_reference (reference_in es c.args.def.now.header)) (sym c.if-trait_is_local.true ∙ c.trait_is_local.ensures es)

pub returns-clause-found : goal.returns-clause-found
returns-clause-found c = c.fresh_header_error.ensures.found (sym (c.trait_is_local.ensures c.args.cx.now.entries) ∙ c.if-trait_is_local.false)
