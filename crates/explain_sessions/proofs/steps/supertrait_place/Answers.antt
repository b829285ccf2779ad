use Rattle.sessions.proofs.TypeTerms.Grown.{grew-none, grew-on}
use Rattle.sessions.proofs.Declarations.Elaborating.{have-bounds-later}
use Rattle.sessions.proofs.Declarations.Growth.{all-held, reference-kept, references-kept}
use Rattle.explain_sessions.proofs.steps.supertrait_place.Goals as goal

pub by_supertrait-requires-clause-declared : goal.by_supertrait-requires-clause-declared
by_supertrait-requires-clause-declared c = all-held c.args.cx.now.entries c.loop-place.cx.entries c.loop-place.invariant.grew.keeps c.args.declarations.now c.requires.declared

pub by_supertrait-requires-clause-bounds : goal.by_supertrait-requires-clause-bounds
by_supertrait-requires-clause-bounds c = have-bounds-later c.args.cx.now.entries c.loop-place.cx.entries c.loop-place.invariant.grew.keeps c.args.declarations.now c.requires.declared c.requires.bounds

pub by_supertrait-requires-clause-clauses : goal.by_supertrait-requires-clause-clauses
by_supertrait-requires-clause-clauses c = references-kept c.args.cx.now.entries c.loop-place.cx.entries c.loop-place.invariant.grew.keeps c.args.clauses.now c.requires.clauses

pub by_supertrait-requires-clause-reference : goal.by_supertrait-requires-clause-reference
by_supertrait-requires-clause-reference c = reference-kept c.args.cx.now.entries c.loop-place.cx.entries c.loop-place.invariant.grew.keeps c.args.reference c.requires.reference

pub loop-place-init : goal.loop-place-init
loop-place-init c = record { grew = grew-none }

pub returns-in_err-by_supertrait : goal.returns-in_err-by_supertrait
returns-in_err-by_supertrait c = record { grew = grew-on c.loop-place.invariant.grew c.by_supertrait.ensures.terms.grew }

pub returns-then-branch : goal.returns-then-branch
returns-then-branch c = record { grew = grew-on c.loop-place.invariant.grew c.by_supertrait.ensures.terms.grew }

pub loop-place-preserved : goal.loop-place-preserved
loop-place-preserved c = record { grew = grew-on c.loop-place.invariant.grew c.by_supertrait.ensures.terms.grew }

pub returns : goal.returns
returns c = record { grew = c.loop-place.invariant.grew }
