use Rattle.infer_table.proofs.Covers.{known-empty, known-later, known-equates}
use Rattle.infer_table.proofs.KnownUnknowns.{known-more}
use Rattle.infer_table.proofs.laws.known_unknowns_laws.Goals as goal

pub returns-clause-empty : goal.returns-clause-empty
returns-clause-empty c = λ counts. known-empty counts

pub returns-clause-more : goal.returns-clause-more
returns-clause-more c = λ counts more bs le own. known-later counts more bs le own

pub returns-clause-equated : goal.returns-clause-equated
returns-clause-equated c = λ counts old new a b e ka kb own. known-equates counts old new a b e ka kb own

pub returns-clause-terms : goal.returns-clause-terms
returns-clause-terms c = λ counts more t le own. known-more counts more le t own
