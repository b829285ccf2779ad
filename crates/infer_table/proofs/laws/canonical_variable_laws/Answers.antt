use Rattle.infer_table.proofs.WithoutCanonical.{resolving-keeps-out, equations-keep-out, answers-keep-out}
use Rattle.infer_table.proofs.laws.canonical_variable_laws.Goals as goal

pub returns-clause-resolving : goal.returns-clause-resolving
returns-clause-resolving c = resolving-keeps-out

pub returns-clause-equations : goal.returns-clause-equations
returns-clause-equations c = equations-keep-out

pub returns-clause-answers : goal.returns-clause-answers
returns-clause-answers c = answers-keep-out
