use Rattle.std.proofs.Common.{sym, subst}
use Rattle.sessions.specs.TypeTerms.Kept.{has-later}
use Rattle.sessions.specs.TypeTerms.Terms.{args_lists}
use Rattle.sessions.specs.Declarations.Applied.{TraitRefsHeld}
use Rattle.sessions.proofs.Declarations.Growth.{references-kept}
use Rattle.explain_traces.specs.Walking.{ReferencesHeld}
use Rattle.explain_sessions.proofs.Rests.{rests-further, rests-here}
use Rattle.explain_sessions.proofs.pairs.walk_intersection.Goals as goal

pub walk_clauses-requires-clause-walked : goal.walk_clauses-requires-clause-walked
walk_clauses-requires-clause-walked c = subst (ReferencesHeld c.args.search.now.cx.interner.entries) (sym c.new-walk.ensures.references) tt

pub walk_clauses-requires-clause-clauses : goal.walk_clauses-requires-clause-clauses
walk_clauses-requires-clause-clauses c = subst (TraitRefsHeld c.args.search.now.cx.interner.entries) (sym c.deref.ensures.value) c.requires.left

pub walk_clauses-requires-2-clause-rest : goal.walk_clauses-requires-2-clause-rest
walk_clauses-requires-2-clause-rest c = rests-here c.args.search.now.graph.root_depth c.walk_clauses.new.search.cx c.walk_clauses.new.search.graph c.walk_clauses.new.search.cache c.walk_clauses.ensures.rests.rest

pub walk_clauses-requires-2-clause-clauses : goal.walk_clauses-requires-2-clause-clauses
walk_clauses-requires-2-clause-clauses c = subst (TraitRefsHeld c.walk_clauses.new.search.cx.interner.entries) (sym c.deref-2.ensures.value) (references-kept c.args.search.now.cx.interner.entries c.walk_clauses.new.search.cx.interner.entries c.walk_clauses.ensures.rests.keeps c.args.found.now.right.items c.requires.right)

pub returns-in_err-right-clause-rests : goal.returns-in_err-right-clause-rests
returns-in_err-right-clause-rests c = rests-further c.args.search.now.graph.root_depth c.args.search.now.cx c.walk_clauses.new.search.cx c.walk_clauses-2.new.search.cx c.walk_clauses.new.search.graph c.walk_clauses-2.new.search.graph c.walk_clauses.new.search.cache c.walk_clauses-2.new.search.cache (c.walk_clauses.ensures.rests) (c.walk_clauses-2.ensures.rests)

pub returns-clause-rests : goal.returns-clause-rests
returns-clause-rests c = rests-further c.args.search.now.graph.root_depth c.args.search.now.cx c.walk_clauses.new.search.cx c.walk_clauses-2.new.search.cx c.walk_clauses.new.search.graph c.walk_clauses-2.new.search.graph c.walk_clauses.new.search.cache c.walk_clauses-2.new.search.cache (c.walk_clauses.ensures.rests) (c.walk_clauses-2.ensures.rests)

pub returns-clause-held : goal.returns-clause-held
returns-clause-held c =
    let old = c.args.search.now.cx.interner.entries in
    let new = c.walk_clauses-2.new.search.cx.interner.entries in
    record {
      common = has-later old new (λ i e h. c.walk_clauses-2.ensures.rests.keeps i e (c.walk_clauses.ensures.rests.keeps i e h)) args_lists c.args.common.0.args.0 c.requires.common;
      walked = c.walk_clauses-2.ensures.walked;
    }

pub walk_clauses-requires-clause-rest : goal.walk_clauses-requires-clause-rest
walk_clauses-requires-clause-rest c = c.requires.rest

pub walk_clauses-requires-clause-table : goal.walk_clauses-requires-clause-table
walk_clauses-requires-clause-table c = c.requires.table

pub walk_clauses-requires-2-clause-table : goal.walk_clauses-requires-2-clause-table
walk_clauses-requires-2-clause-table c = c.walk_clauses.ensures.table

pub walk_clauses-requires-2-clause-walked : goal.walk_clauses-requires-2-clause-walked
walk_clauses-requires-2-clause-walked c = c.walk_clauses.ensures.walked

pub returns-in_err-left-clause-rests : goal.returns-in_err-left-clause-rests
returns-in_err-left-clause-rests c = c.walk_clauses.ensures.rests
