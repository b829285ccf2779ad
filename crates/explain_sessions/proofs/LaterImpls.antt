-- Why impls of a section may not be added.
use Rattle.std.proofs.Common.{◌≡◌, ◌-◌, ℕ, List, Option, Some, None, subst}
use Rattle.std.specs.List.{slice_get}
use Rattle.sessions.specs.TypeTerms.Promised.Worlds.{World, Reference}
use Rattle.sessions.specs.Declarations.Items.{declared}
use Rattle.sessions.proofs.Declarations.Growth.{all-declared}
use Rattle.sessions.specs.SolverGraph.Contexts.{entries_of}
use Rattle.sessions.specs.SolverGraph.declared.context.SolverCx.{SolverCx}
use Rattle.sessions.specs.CandidateAssembly.declared.solver.Solver.{Solver}
use Rattle.sessions.specs.Checking.{IsReadySolver, SolverStaysReady, rules_in}
use Rattle.explain_sessions.specs.Causes.{IsCauseAt, IsCauseOf}
use Rattle.explain_sessions.specs.declared.breaking.BreakingCause.{BreakingCause}

pub cause-there : (V : World) (c : ℕ) (hs : List Reference) (n : ℕ) (h : Reference) (o : Option BreakingCause) → slice_get hs (n - 1) ≡ Some h → IsCauseOf V c h o → IsCauseAt V c hs n o
cause-there V c hs n h None e p = tt
cause-there V c hs n h (Some x) e p = (h, e, p)

-- what is said once the context had grown is said of it as it was
pub cause-grown : (old new : SolverCx Solver) → IsReadySolver old → SolverStaysReady old new → (hs ks : List Reference) → hs ≡ ks → (n : ℕ) (o : Option BreakingCause)
    → IsCauseAt (rules_in new) new.handler.declarations.local hs n o → IsCauseAt (rules_in old) old.handler.declarations.local ks n o
cause-grown old new ready grown hs ks e n o h =
    let d = old.handler.declarations in
    subst (λ rs. IsCauseAt (rules_in old) d.local rs n o) e
    (subst (λ V. IsCauseAt V d.local hs n o) (all-declared (entries_of old) (entries_of new) grown.entries d ready.handler.held)
    (subst (λ (s : Solver). IsCauseAt (declared (entries_of new) s.declarations) s.declarations.local hs n o) grown.handler h))
