use Rattle.sessions.proofs.TypeTerms.Grown.{grew-none, grew-on}
use Rattle.sessions.proofs.Declarations.Growth.{reference-kept, references-kept}
use Rattle.explain_sessions.proofs.steps.clause_place.Goals as goal

pub by_clause-requires-clause-clauses : goal.by_clause-requires-clause-clauses
by_clause-requires-clause-clauses c = references-kept c.args.cx.now.entries c.loop-place.cx.entries c.loop-place.invariant.grew.keeps c.args.clauses.now c.requires.clauses

pub by_clause-requires-clause-reference : goal.by_clause-requires-clause-reference
by_clause-requires-clause-reference c = reference-kept c.args.cx.now.entries c.loop-place.cx.entries c.loop-place.invariant.grew.keeps c.args.reference c.requires.reference

pub loop-place-init : goal.loop-place-init
loop-place-init c = record { grew = grew-none }

pub returns-in_err-by_clause : goal.returns-in_err-by_clause
returns-in_err-by_clause c = record { grew = grew-on c.loop-place.invariant.grew c.by_clause.ensures.terms.grew }

pub returns-then-branch : goal.returns-then-branch
returns-then-branch c = record { grew = grew-on c.loop-place.invariant.grew c.by_clause.ensures.terms.grew }

pub loop-place-preserved : goal.loop-place-preserved
loop-place-preserved c = record { grew = grew-on c.loop-place.invariant.grew c.by_clause.ensures.terms.grew }

pub returns : goal.returns
returns c = record { grew = c.loop-place.invariant.grew }
