use Rattle.explain_sessions.proofs.Rests.{rests-none}
use Rattle.std.proofs.Common.{sym, subst}
use Rattle.sessions.specs.Declarations.Applied.{TraitRefsHeld}
use Rattle.sessions.specs.Declarations.Held.{ReferenceHeld}
use Rattle.explain_sessions.proofs.ShownSteps.{each-moved}
use Rattle.explain_sessions.proofs.supertraits.walk_numbered.Goals as goal

pub walk_under-requires-clause-clauses : goal.walk_under-requires-clause-clauses
walk_under-requires-clause-clauses c = subst (TraitRefsHeld c.args.search.now.cx.interner.entries) (sym c.deref-2.ensures.value) c.requires.clauses

pub walk_under-requires-clause-asked : goal.walk_under-requires-clause-asked
walk_under-requires-clause-asked c = each-moved (ReferenceHeld c.args.search.now.cx.interner.entries) c.args.goals.now.supertraits.items c.deref.result.now c.deref.ensures.value _ c.in-Some-reference_at.asked c.requires.supertraits c.in-Some-reference_at.ensures

pub returns-in_default-clause-rests : goal.returns-in_default-clause-rests
returns-in_default-clause-rests c = rests-none c.args.search.now.graph.root_depth c.args.search.now.cx c.args.search.now.graph c.args.search.now.cache c.requires.rest

pub returns-in_default-reference_at-clause-rests : goal.returns-in_default-reference_at-clause-rests
returns-in_default-reference_at-clause-rests c = rests-none c.args.search.now.graph.root_depth c.args.search.now.cx c.args.search.now.graph c.args.search.now.cache c.requires.rest

pub walk_under-requires-clause-rest : goal.walk_under-requires-clause-rest
walk_under-requires-clause-rest c = c.requires.rest

pub returns-in_err-walk-clause-rests : goal.returns-in_err-walk-clause-rests
returns-in_err-walk-clause-rests c = c.walk_under.ensures.rests

pub returns-clause-rests : goal.returns-clause-rests
returns-clause-rests c = c.walk_under.ensures.rests

pub returns-clause-held : goal.returns-clause-held
returns-clause-held c = c.in_ok-walk.ensures.held
