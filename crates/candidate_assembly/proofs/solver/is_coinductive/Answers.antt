use Rattle.std.proofs.Common.{◌==◌, ◌||◌, sym, ap, ◌∙◌}
use Rattle.type_terms.specs.Promised.Rules.{sized}
use Rattle.candidate_assembly.proofs.solver.is_coinductive.Goals as goal

pub returns-then-is_auto : goal.returns-then-is_auto
returns-then-is_auto c = λ es. c.if-is_auto.true ∙ ap (λ b. b || (c.args.def_id.index == sized)) (sym c.if-is_auto.true ∙ c.is_auto.ensures es)

pub returns-else-is_auto : goal.returns-else-is_auto
returns-else-is_auto c = λ es. ap (λ b. b || (c.args.def_id.index == sized)) (sym c.if-is_auto.false ∙ c.is_auto.ensures es)
