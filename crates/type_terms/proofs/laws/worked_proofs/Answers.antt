use Rattle.type_terms.proofs.WorkedProofs.{nested, where-clauses, coinductive, in-place, copies}
use Rattle.type_terms.proofs.laws.worked_proofs.Goals as goal

pub returns-clause-nested : goal.returns-clause-nested
returns-clause-nested c = nested

pub returns-clause-where_clauses : goal.returns-clause-where_clauses
returns-clause-where_clauses c = where-clauses

pub returns-clause-coinductive : goal.returns-clause-coinductive
returns-clause-coinductive c = coinductive

pub returns-clause-in_place : goal.returns-clause-in_place
returns-clause-in_place c = in-place

pub returns-clause-copies : goal.returns-clause-copies
returns-clause-copies c = copies
