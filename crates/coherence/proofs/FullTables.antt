-- A session's fault is handed on, and is no fault of a stream.
use Rattle.std.proofs.Common.{◌≡◌, ◌∙◌, sym}
use Rattle.std.specs.Prelude.{◌≢◌, Result, Ok, Err, IsErrAnd, IfErr}
use Rattle.sessions.specs.TypeTerms.declared.Fault.{Fault}
use Rattle.sessions.specs.TypeTerms.declared.Fault.TheVariants as wants
use Rattle.sessions.specs.Promised.Shortages.{SessionFullAtLimit}
use Rattle.sessions.specs.Promised.Subjects.{Subject}
use Rattle.coherence.specs.Faults.{of_fault}
use Rattle.coherence.specs.declared.status.RunFault.{RunFault}
use Rattle.coherence.specs.declared.status.RunFault.TheVariants as faults

pub handed-on : {T : Type 0} (s : Subject) (r : Result T Fault) (f : Fault) → IsErrAnd r (λ y. y ≡ f) → SessionFullAtLimit s f → IfErr r (SessionFullAtLimit s)
handed-on s (Ok y) f h full = absurd h
handed-on s (Err y) f h full = λ e. full (sym h ∙ e)

none-is-read : (f : Fault) → of_fault f ≡ faults.Read → ⊥
none-is-read wants.Full e = absurd cc
none-is-read wants.Memory e = absurd cc

pub nothing-read : {T : Type 0} (r : Result T RunFault) (f : Fault) → IsErrAnd r (λ y. y ≡ of_fault f) → IfErr r (λ y. y ≢ faults.Read)
nothing-read (Ok y) f h = absurd h
nothing-read (Err y) f h = λ e. none-is-read f (sym h ∙ e)
