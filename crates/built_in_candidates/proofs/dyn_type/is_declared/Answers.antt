use Rattle.std.proofs.Common.{sym, ap, ◌∙◌}
use Rattle.type_terms.specs.Promised.Rules.{are_declared}
use Rattle.goal_evaluator.specs.Merge.{if_there}
use Rattle.declarations.specs.Items.{reference_in, written}
use Rattle.declarations.specs.Applied.{references_in}
use Rattle.built_in_candidates.proofs.Objects.{declared-one, declared-none}
use Rattle.built_in_candidates.proofs.dyn_type.is_declared.Goals as goal

pub returns-in-Some-trait_def : goal.returns-in-Some-trait_def
returns-in-Some-trait_def c = λ es now.
    let V = written es c.args.declarations.now in
    declared-one V (reference_in now c.in-Some.trait_ref) _ (c.in-Some-trait_def.ensures.written es) ∙ ap (λ o. are_declared V (references_in now (if_there o))) (sym c.in-Some.is)

pub returns-in-None-trait_def : goal.returns-in-None-trait_def
returns-in-None-trait_def c = λ es now.
    let V = written es c.args.declarations.now in
    declared-none V (reference_in now c.in-Some.trait_ref) (c.in-None-trait_def.ensures.written es) ∙ ap (λ o. are_declared V (references_in now (if_there o))) (sym c.in-Some.is)
