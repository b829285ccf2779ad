-- What walks keep, one call after the other.
use Rattle.std.proofs.Common.{◌≡◌, ◌∙◌, ap, refl, ℕ, List}
use Rattle.fulfillment.specs.Selecting.{CanSelect, HasSelected}
use Rattle.fulfillment.specs.declared.obligation.Obligation.{Obligation}
use Rattle.sessions.specs.InferTable.Content.{Table}
use Rattle.sessions.specs.InferTable.declared.certainty.TypingMode.{TypingMode}
use Rattle.sessions.specs.SearchGraph.SearchState.{SearchState}
use Rattle.sessions.specs.Declarations.Items.{declared}
use Rattle.sessions.proofs.Declarations.Growth.{all-declared}
use Rattle.sessions.specs.GoalFrames.Stores.{limit_of}
use Rattle.sessions.specs.SolverGraph.Contexts.{entries_of, InternerGrows}
use Rattle.sessions.specs.SolverGraph.Searching.{solver_meaning, of_limits}
use Rattle.sessions.specs.SolverGraph.declared.context.SolverCx.{SolverCx}
use Rattle.sessions.proofs.SolverGraph.Caches.{justified-later}
use Rattle.sessions.proofs.SolverGraph.Growing.{further, keeps, later}
use Rattle.sessions.specs.CandidateAssembly.SolverLaws.{solver-laws}
use Rattle.sessions.specs.CandidateAssembly.SolverMeaning.{solver_by_view}
use Rattle.sessions.specs.CandidateAssembly.declared.solver.Solver.{Solver}
use Rattle.explain_traces.specs.Walking.{WalkIsAskable, WalkHasAsked}
use Rattle.sessions.specs.Checking.{rules_in}
use Rattle.sessions.specs.Proving.{SolverAdvances, SolverIsReady}
use Rattle.sessions.specs.Resting.{Cached}
use Rattle.sessions.specs.Sessions.{SolverRests}
use Rattle.explain_sessions.specs.Walked.{RestsAfter}

-- ---- a context that grows
pub grown : (c d : SolverCx Solver) → SolverIsReady c → InternerGrows c d → SolverAdvances c d
grown c d r g = later solver_by_view.IsReady solver-laws.ready_kept c d r g.handler g.store g.entries g.lawful g.limit

pub unchanged : (c : SolverCx Solver) → SolverIsReady c → SolverAdvances c c
unchanged c r = grown c c r (record { handler = refl; store = refl; entries = λ i e h. h; lawful = r.lawful; limit = refl })

pub advanced-further : (c d e : SolverCx Solver) → SolverAdvances c d → SolverAdvances d e → SolverAdvances c e
advanced-further c d e x y = further solver_by_view.IsReady c d e x y

-- rules are read from it as before
pub rules-grown : (c d : SolverCx Solver) → SolverIsReady c → SolverAdvances c d → rules_in d ≡ rules_in c
rules-grown c d r a =
    ap (λ (s : Solver). declared (entries_of d) s.declarations) a.handler ∙ all-declared (entries_of c) (entries_of d) a.entries c.handler.declarations r.handler.held

-- ---- all at rest
pub rests-none : (n : ℕ) (c : SolverCx Solver) (g : SearchState) (ks : Cached) → SolverRests n c g ks → RestsAfter n c c g ks
rests-none n c g ks r = record { rest = r; solving = refl; keeps = λ i e h. h; limits = record { terms = refl; kept = refl } }

pub rests-advanced : (n : ℕ) (c d : SolverCx Solver) (g : SearchState) (ks : Cached) → SolverRests n c g ks → SolverAdvances c d → RestsAfter n c d g ks
rests-advanced n c d g ks r a =
    let k = keeps solver_by_view solver-laws.world_kept c d r.ready a in
    record {
      rest = record { empty = r.empty; depth = r.depth; cached = justified-later (solver_meaning solver_by_view) c d ks k r.cached; ready = a.ready };
      solving = k.world;
      keeps = a.entries;
      limits = a.limits;
    }

pub rests-further : (n : ℕ) (c d e : SolverCx Solver) (g h : SearchState) (ks ls : Cached) → RestsAfter n c d g ks → RestsAfter g.root_depth d e h ls → RestsAfter n c e h ls
rests-further n c d e g h ks ls x y = record {
  rest = record { empty = y.rest.empty; depth = y.rest.depth ∙ x.rest.depth; cached = y.rest.cached; ready = y.rest.ready };
  solving = y.solving ∙ x.solving;
  keeps = λ i z p. y.keeps i z (x.keeps i z p);
  limits = record { terms = y.limits.terms ∙ x.limits.terms; kept = y.limits.kept ∙ x.limits.kept };
}

pub rests-here : (n : ℕ) (c : SolverCx Solver) (g : SearchState) (ks : Cached) → SolverRests n c g ks → SolverRests g.root_depth c g ks
rests-here n c g ks r = record { empty = r.empty; depth = refl; cached = r.cached; ready = r.ready }

-- ---- askings
pub askable-at-rest : (n : ℕ) (c : SolverCx Solver) (g : SearchState) (ks : Cached) → SolverRests n c g ks → WalkIsAskable solver_by_view g ks c
askable-at-rest n c g ks r = record { empty = r.empty; cache = r.cached; ready = r.ready }

pub rests-asked : (n : ℕ) (c d : SolverCx Solver) (g h : SearchState) (ks ls : Cached) → SolverRests n c g ks → WalkIsAskable solver_by_view h ls d → WalkHasAsked solver_by_view g c h d
    → RestsAfter n c d h ls
rests-asked n c d g h ks ls r a k = record {
  rest = record { empty = a.empty; depth = k.depth ∙ r.depth; cached = a.cache; ready = a.ready };
  solving = k.keeps.world;
  keeps = k.entries;
  limits = let same = k.keeps.held (of_limits c.interner.limit (limit_of c.store)) (refl, refl) in record { terms = same.0; kept = same.1 };
}

-- a selection of goals over a table
pub rests-selected : (n : ℕ) (c d : SolverCx Solver) (g h : SearchState) (ks ls : Cached) (t u : Table) (os ps : List Obligation) (mode : TypingMode) → SolverRests n c g ks
    → CanSelect solver_by_view h ls d u ps → HasSelected solver_by_view mode g ks c t os h ls d u ps → RestsAfter n c d h ls
rests-selected n c d g h ks ls t u os ps mode r a k =
    rests-asked n c d g h ks ls r (record { empty = a.empty; cache = a.cache; ready = a.ready })
    (record { depth = k.asked.depth; keeps = k.asked.keeps; entries = k.asked.entries })
