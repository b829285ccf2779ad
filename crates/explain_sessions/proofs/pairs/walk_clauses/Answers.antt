use Rattle.std.proofs.Common.{subst}
use Rattle.sessions.specs.Declarations.Applied.{TraitRefsHeld}
use Rattle.sessions.proofs.Declarations.Growth.{reference-kept}
use Rattle.explain_sessions.proofs.Rests.{rests-further, rests-here, rests-none}
use Rattle.explain_sessions.proofs.pairs.walk_clauses.Goals as goal

pub clauses-init : goal.clauses-init
clauses-init c = record { rests = rests-none c.args.search.now.graph.root_depth c.args.search.now.cx c.args.search.now.graph c.args.search.now.cache c.requires.rest; table = c.requires.table; walked = c.requires.walked; left = c.requires.clauses }

pub walk_clause-requires-clause-rest : goal.walk_clause-requires-clause-rest
walk_clause-requires-clause-rest c = rests-here c.args.search.now.graph.root_depth c.clauses.search.cx c.clauses.search.graph c.clauses.search.cache c.clauses.invariant.rests.rest

pub walk_clause-requires-clause-clause : goal.walk_clause-requires-clause-clause
walk_clause-requires-clause-clause c =
    let es = c.args.search.now.cx.interner.entries in
    reference-kept es c.clauses.search.cx.interner.entries c.clauses.invariant.rests.keeps c.in-Some.clause.now (subst (TraitRefsHeld es) c.in-Some.ensures.cases.0 c.clauses.invariant.left).0

pub returns-in_err-place-clause-rests : goal.returns-in_err-place-clause-rests
returns-in_err-place-clause-rests c = rests-further c.args.search.now.graph.root_depth c.args.search.now.cx c.clauses.search.cx c.walk_clause.new.search.cx c.clauses.search.graph c.walk_clause.new.search.graph c.clauses.search.cache c.walk_clause.new.search.cache (c.clauses.invariant.rests) (c.walk_clause.ensures.rests)

pub returns-in_err-push-clause-rests : goal.returns-in_err-push-clause-rests
returns-in_err-push-clause-rests c = rests-further c.args.search.now.graph.root_depth c.args.search.now.cx c.clauses.search.cx c.walk_clause.new.search.cx c.clauses.search.graph c.walk_clause.new.search.graph c.clauses.search.cache c.walk_clause.new.search.cache (c.clauses.invariant.rests) (c.walk_clause.ensures.rests)

pub clauses-preserved : goal.clauses-preserved
clauses-preserved c =
    let es = c.args.search.now.cx.interner.entries in
    record {
      rests = rests-further c.args.search.now.graph.root_depth c.args.search.now.cx c.clauses.search.cx c.walk_clause.new.search.cx c.clauses.search.graph c.walk_clause.new.search.graph c.clauses.search.cache c.walk_clause.new.search.cache (c.clauses.invariant.rests) (c.walk_clause.ensures.rests);
      table = c.walk_clause.ensures.table;
      walked = c.walk_clause.ensures.walked;
      left = (subst (TraitRefsHeld es) c.in-Some.ensures.cases.0 c.clauses.invariant.left).1;
    }

pub walk_clause-requires-clause-table : goal.walk_clause-requires-clause-table
walk_clause-requires-clause-table c = c.clauses.invariant.table

pub walk_clause-requires-clause-walked : goal.walk_clause-requires-clause-walked
walk_clause-requires-clause-walked c = c.clauses.invariant.walked

pub returns-in_err-place-clause-table : goal.returns-in_err-place-clause-table
returns-in_err-place-clause-table c = c.walk_clause.ensures.table

pub returns-in_err-place-clause-walked : goal.returns-in_err-place-clause-walked
returns-in_err-place-clause-walked c = c.walk_clause.ensures.walked

pub returns-in_err-push-clause-table : goal.returns-in_err-push-clause-table
returns-in_err-push-clause-table c = c.walk_clause.ensures.table

pub returns-in_err-push-clause-walked : goal.returns-in_err-push-clause-walked
returns-in_err-push-clause-walked c = c.walk_clause.ensures.walked

pub returns-clause-rests : goal.returns-clause-rests
returns-clause-rests c = c.clauses.invariant.rests

pub returns-clause-table : goal.returns-clause-table
returns-clause-table c = c.clauses.invariant.table

pub returns-clause-walked : goal.returns-clause-walked
returns-clause-walked c = c.clauses.invariant.walked
