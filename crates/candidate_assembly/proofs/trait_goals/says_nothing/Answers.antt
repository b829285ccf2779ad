use Rattle.std.proofs.Common.{true, false, ◌==◌, length, refl, sym, ◌∙◌, ap}
use Rattle.infer_table.specs.Values.{values_of}
use Rattle.goal_evaluator.specs.Responses.{is_identity_modulo_regions}
use Rattle.candidate_assembly.proofs.Settled.{says-is}
use Rattle.candidate_assembly.proofs.trait_goals.says_nothing.Goals as goal

pub returns-then-is_identity_modulo_regions : goal.returns-then-is_identity_modulo_regions
returns-then-is_identity_modulo_regions c =
    let es = c.args.cx.now.entries in
    says-is es c.args.response.now c.requires.fits true c.has_no_constraints.result (sym c.if-is_identity_modulo_regions.true ∙ c.is_identity_modulo_regions.ensures ∙ ap (λ z. is_identity_modulo_regions 0 (values_of es z)) c.deref.ensures.value) c.has_no_constraints.ensures

pub returns-else-is_identity_modulo_regions : goal.returns-else-is_identity_modulo_regions
returns-else-is_identity_modulo_regions c =
    let es = c.args.cx.now.entries in
    c.if-is_identity_modulo_regions.false ∙ says-is es c.args.response.now c.requires.fits false (length c.args.response.now.region_constraints.items == 0) (sym c.if-is_identity_modulo_regions.false ∙ c.is_identity_modulo_regions.ensures ∙ ap (λ z. is_identity_modulo_regions 0 (values_of es z)) c.deref.ensures.value) refl
