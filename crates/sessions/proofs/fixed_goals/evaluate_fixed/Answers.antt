use Rattle.std.proofs.Common.{◌∙◌}
use Rattle.infer_table.proofs.TableFacts.{empty-ready}
use Rattle.sessions.specs.Checking.{solving_in}
use Rattle.solver_graph.proofs.Growing.{limits-further}
use Rattle.sessions.proofs.FixedGoals.{evaluated-refuted}
use Rattle.sessions.proofs.Keeping.{limits-searched}
use Rattle.sessions.proofs.ShortCalls.{handed-by-terms}
use Rattle.sessions.proofs.fixed_goals.evaluate_fixed.Goals as goal

pub returns-in_err-reference-clause-rests : goal.returns-in_err-reference-clause-rests
returns-in_err-reference-clause-rests c = record {
  rest = c.rest_laws.ensures.rest c.args.search.now.graph.root_depth c.args.search.now.cx c.reference_of.new.cx c.args.search.now.graph c.args.search.now.cache c.requires.rest c.reference_of.ensures.advances;
  solving = c.rest_laws.ensures.meaning c.args.search.now.cx c.reference_of.new.cx c.requires.rest.ready c.reference_of.ensures.advances;
  entries = c.reference_of.ensures.advances.entries;
  limits = c.reference_of.ensures.advances.limits;
}

pub returns-in_err-reference-clause-full : goal.returns-in_err-reference-clause-full
returns-in_err-reference-clause-full c = handed-by-terms c.reference_of.new.cx c.from_residual.result c.from_residual.ensures.1 c.in_err-reference.ensures.full

pub is_impossible-requires-clause-cache : goal.is_impossible-requires-clause-cache
is_impossible-requires-clause-cache c =
    (c.rest_laws.ensures.rest c.args.search.now.graph.root_depth c.args.search.now.cx c.reference_of.new.cx c.args.search.now.graph c.args.search.now.cache c.requires.rest c.reference_of.ensures.advances).cached

pub is_impossible-requires-clause-table : goal.is_impossible-requires-clause-table
is_impossible-requires-clause-table c = empty-ready c.reference_of.new.cx.interner.entries c.new-table.result c.new-table.ensures

pub returns-clause-rests : goal.returns-clause-rests
returns-clause-rests c = record {
  rest = record { empty = c.is_impossible.ensures.empty; depth = c.is_impossible.ensures.depth; cached = c.is_impossible.ensures.cache; ready = c.is_impossible.ensures.ready };
  solving = c.is_impossible.ensures.keeps.world ∙ c.rest_laws.ensures.meaning c.args.search.now.cx c.reference_of.new.cx c.requires.rest.ready c.reference_of.ensures.advances;
  entries = λ i e h. c.is_impossible.ensures.entries i e (c.reference_of.ensures.advances.entries i e h);
  limits = limits-further c.args.search.now.cx c.reference_of.new.cx c.is_impossible.new.search.cx c.reference_of.ensures.advances.limits
      (limits-searched _ c.reference_of.new.cx c.is_impossible.new.search.cx c.is_impossible.ensures.keeps);
}

pub returns-clause-refuted : goal.returns-clause-refuted
returns-clause-refuted c = λ d n depth s.
    evaluated-refuted d n depth c.args.search.now.cx c.args.search.now.graph c.args.search.now.cache s c.reference_of.new.cx.interner.entries c.reference_of.ensures.advances.ready.lawful c.reference_of.ensures.advances.entries
    c.args.goal c.requires.held c.requires.fixed c.in_ok-reference.reference c.in_ok-reference.ensures.held c.in_ok-reference.ensures.is c.new-table.result c.new-table.ensures
    (solving_in c.reference_of.new.cx) (c.rest_laws.ensures.meaning c.args.search.now.cx c.reference_of.new.cx c.requires.rest.ready c.reference_of.ensures.advances) c.is_impossible.result c.is_impossible.ensures.impossible
