-- When a context of the solver is at a limit.
use Rattle.std.proofs.Common.{◌≡◌, sym, subst, Result, Ok, Err, OnErr, IfErr}
use Rattle.std.specs.Prelude.{IsErrAnd}
use Rattle.type_terms.specs.declared.Fault.{Fault}
use Rattle.type_terms.specs.declared.Fault.TheVariants.{Full}
use Rattle.infer_table.specs.declared.certainty.EqError.{EqError}
use Rattle.infer_table.specs.declared.certainty.EqError.TheVariants as Eq
use Rattle.solver_graph.specs.declared.context.SolverCx.{SolverCx}
use Rattle.solver_graph.specs.Errors.{error_of_equation}
use Rattle.solver_graph.specs.declared.outcome.RootError.TheVariants as Root
use Rattle.solver_graph.specs.Shortages.{ContextFullAtLimit, RootFullAtLimit}

-- what is left after an error
pub at-error : {T E : Type 0} {P : Type 0} (r : Result T E) {e : E} → r ≡ Err e → OnErr r P → P
at-error (Ok x) q h = cc
at-error (Err e) q h = h

-- what holds of an error, where it is handed on
pub handed : {T E : Type 0} (P : E → Type 0) (r : Result T E) {x : E} → IsErrAnd r (λ y. y ≡ x) → P x → IfErr r P
handed P (Ok y) h p = absurd h
handed P (Err y) h p = subst P (sym h) p

-- a fault as that of a root goal
pub root-fault : {Handler : Type 0} {c : SolverCx Handler} {x : Fault} → ContextFullAtLimit c x → RootFullAtLimit c (Root.Fault x)
root-fault f q = f cc

-- the error of an equation
pub equation-full : (error : EqError) → error_of_equation error ≡ Root.Fault Full → error ≡ Eq.Fault Full
equation-full Eq.NoSolution e = absurd (cc)
equation-full (Eq.Fault fault) e = cc
