use Rattle.built_in_candidates.proofs.UnsizeRows.{place-first, place-later}
use Rattle.built_in_candidates.proofs.unsize.at_place.Goals as goal

pub returns-then-place-eq0-clause-is : goal.returns-then-place-eq0-clause-is
returns-then-place-eq0-clause-is c = λ V t es. place-first V t es c.args.candidate c.args.place c.if-place-eq0.true

pub returns-else-place-eq0-clause-is : goal.returns-else-place-eq0-clause-is
returns-else-place-eq0-clause-is c = λ V t es. place-later V t es c.args.candidate c.args.place c.if-place-eq0.false
