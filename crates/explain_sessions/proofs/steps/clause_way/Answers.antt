use Rattle.sessions.proofs.TypeTerms.Grown.{grew-on}
use Rattle.sessions.proofs.Declarations.Elaborating.{have-bounds-later}
use Rattle.sessions.proofs.Declarations.Growth.{all-held, references-kept}
use Rattle.explain_sessions.proofs.steps.clause_way.Goals as goal

pub supertrait_place-requires-clause-declared : goal.supertrait_place-requires-clause-declared
supertrait_place-requires-clause-declared c = all-held c.args.cx.now.entries c.clause_place.new.cx.entries c.clause_place.ensures.grew.keeps c.args.declarations.now c.requires.declared

pub supertrait_place-requires-clause-bounds : goal.supertrait_place-requires-clause-bounds
supertrait_place-requires-clause-bounds c = have-bounds-later c.args.cx.now.entries c.clause_place.new.cx.entries c.clause_place.ensures.grew.keeps c.args.declarations.now c.requires.declared c.requires.bounds

pub supertrait_place-requires-clause-clauses : goal.supertrait_place-requires-clause-clauses
supertrait_place-requires-clause-clauses c = references-kept c.args.cx.now.entries c.clause_place.new.cx.entries c.clause_place.ensures.grew.keeps c.args.clauses.now c.requires.clauses

pub clause_place-requires-clause-clauses : goal.clause_place-requires-clause-clauses
clause_place-requires-clause-clauses c = c.requires.clauses

pub clause_place-requires-clause-reference : goal.clause_place-requires-clause-reference
clause_place-requires-clause-reference c = c.requires.reference

pub returns-in_err-place-clause-grew : goal.returns-in_err-place-clause-grew
returns-in_err-place-clause-grew c = c.clause_place.ensures.grew

pub returns-in-Some-clause-grew : goal.returns-in-Some-clause-grew
returns-in-Some-clause-grew c = c.clause_place.ensures.grew

pub returns-in-Some-clause-held : goal.returns-in-Some-clause-held
returns-in-Some-clause-held c = tt

pub returns-in_err-place-2-clause-grew : goal.returns-in_err-place-2-clause-grew
returns-in_err-place-2-clause-grew c = grew-on c.clause_place.ensures.grew c.supertrait_place.ensures.grew

pub returns-in-Some-2-clause-grew : goal.returns-in-Some-2-clause-grew
returns-in-Some-2-clause-grew c = grew-on c.clause_place.ensures.grew c.supertrait_place.ensures.grew

pub returns-in-Some-2-clause-held : goal.returns-in-Some-2-clause-held
returns-in-Some-2-clause-held c = tt

pub returns-in-None-clause-grew : goal.returns-in-None-clause-grew
returns-in-None-clause-grew c = grew-on c.clause_place.ensures.grew c.supertrait_place.ensures.grew

pub returns-in-None-clause-held : goal.returns-in-None-clause-held
returns-in-None-clause-held c = tt
