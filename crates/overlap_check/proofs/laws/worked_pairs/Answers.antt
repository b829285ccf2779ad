use Rattle.overlap_check.proofs.WorkedVerdicts.{cleared-by-a-clause, refused-for-some-day, lifetimes-alone, a-later-pair, not-accepted-unlinked}
use Rattle.overlap_check.proofs.laws.worked_pairs.Goals as goal

pub returns-clause-cleared : goal.returns-clause-cleared
returns-clause-cleared c = cleared-by-a-clause

pub returns-clause-some_day : goal.returns-clause-some_day
returns-clause-some_day c = refused-for-some-day

pub returns-clause-lifetimes : goal.returns-clause-lifetimes
returns-clause-lifetimes c = lifetimes-alone

pub returns-clause-later : goal.returns-clause-later
returns-clause-later c = a-later-pair

pub returns-clause-unlinked : goal.returns-clause-unlinked
returns-clause-unlinked c = not-accepted-unlinked
