use Rattle.std.proofs.Common.{sym, ◌∙◌, ap}
use Rattle.goal_evaluator.specs.Content.{trait_of}
use Rattle.declarations.specs.Items.{written}
use Rattle.candidate_model.specs.Facts.{is_coinductive_trait}
use Rattle.candidate_assembly.proofs.solver.SolverGoalHandler.trait_is_coinductive.Goals as goal

pub returns : goal.returns
returns c = λ es mode form t. c.is_coinductive.ensures es ∙ sym (ap (is_coinductive_trait (written es c.args.self.now.declarations)) (ap trait_of t.1))
