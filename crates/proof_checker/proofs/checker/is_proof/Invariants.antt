use Rattle.std.proofs.Common.{◌≡◌, ◌<◌, ◌++◌, ℕ, Some}
use Rattle.std.specs.List.{slice_get}
use Rattle.declarations.specs.Items.{declared}
use Rattle.type_terms.specs.Growth.{Grew}
use Rattle.proof_checker.specs.declared.steps.Step.{Step}
use Rattle.proof_checker.specs.Steps.{terms_of, steps_say, assumed_in}
use Rattle.proof_checker.proofs.Ends.{StepFollows}
use Rattle.proof_checker.proofs.checker.is_proof.Given as goal

abbrev pub invariant-steps : goal.invariant-steps
invariant-steps l = record {
  grew : Grew l.fn.cx l.cx;
  follow : (i : ℕ) (s : Step) → i < l.place → slice_get l.fn.steps i ≡ Some s
      → StepFollows (declared l.fn.cx.entries l.fn.declarations) (terms_of l.fn.cx.entries l.fn.clauses ++ assumed_in l.fn.cx.entries l.fn.steps) l.fn.cx.entries (steps_say l.fn.cx.entries l.fn.steps) i s;
}
