use Rattle.sessions.proofs.ClausesApply.{texts-clauses-apply}
use Rattle.sessions.proofs.SolversClauses.{solvers-clauses-apply}
use Rattle.sessions.proofs.laws.clauses_apply.Goals as goal

pub returns-clause-seen : goal.returns-clause-seen
returns-clause-seen c = texts-clauses-apply

pub returns-clause-solved : goal.returns-clause-solved
returns-clause-solved c = solvers-clauses-apply
