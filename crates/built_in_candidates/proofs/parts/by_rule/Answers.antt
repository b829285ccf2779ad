use Rattle.std.proofs.Common.{sym, subst}
use Rattle.infer_table.specs.Content.{AllConstraintsHeld}
use Rattle.built_in_candidates.proofs.parts.by_rule.Goals as goal

pub returns-clause-held : goal.returns-clause-held
returns-clause-held c = λ es h e p. record {
  equations = e;
  constraints = subst (AllConstraintsHeld es) (sym c.new-2.ensures.items) tt;
  nested = c.in_ok-nested_goals.ensures.held es h p;
}
