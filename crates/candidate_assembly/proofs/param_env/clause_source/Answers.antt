use Rattle.std.proofs.Common.{ap, ◌∙◌, sym, if◌then◌else◌}
use Rattle.goal_evaluator.specs.declared.candidate.ParamEnvSource.TheVariants.{Global, NonGlobal}
use Rattle.candidate_assembly.proofs.param_env.clause_source.Goals as goal

pub returns-then-has_open_places : goal.returns-then-has_open_places
returns-then-has_open_places c = ap (λ b. if b then NonGlobal else Global) (sym c.if-has_open_places.true ∙ c.has_open_places.ensures)

pub returns-else-has_open_places : goal.returns-else-has_open_places
returns-else-has_open_places c = ap (λ b. if b then NonGlobal else Global) (sym c.if-has_open_places.false ∙ c.has_open_places.ensures)
