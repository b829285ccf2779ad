use Rattle.candidate_model.proofs.WrittenCore.{written-core-is-linked}
use Rattle.candidate_model.proofs.Views.{known-by-view-rule, supers-by-view}
use Rattle.candidate_model.proofs.views_tell.Goals as goal

pub returns-clause-known : goal.returns-clause-known
returns-clause-known g W = known-by-view-rule W

pub returns-clause-supertraits : goal.returns-clause-supertraits
returns-clause-supertraits g W = supers-by-view W

pub returns-clause-core : goal.returns-clause-core
returns-clause-core g = written-core-is-linked
