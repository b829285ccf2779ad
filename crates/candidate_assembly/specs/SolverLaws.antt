-- What the solver means for goals keeps the laws of handlers: it is lawful for each goal, terms get no wider and nested goals no more from
-- goal to goal, and the solutions of nested goals are looked for where those of the goal are.
use Rattle.std.proofs.Common.{◌≡◌, ◌≤◌, ℕ, ◌+◌, ◌*◌, max, arith, false, ◌&&◌, refl, sym, ◌∙◌, ap}
use Rattle.std.proofs.lemmas.Nat.{mul-le}
use Rattle.std.proofs.Math.Nat.{le_refl}
use Rattle.type_terms.specs.Promised.Worlds.{World}
use Rattle.infer_table.specs.Canonical.{CanonicalForm}
use Rattle.infer_table.specs.declared.certainty.TypingMode.{TypingMode}
use Rattle.infer_table.specs.declared.certainty.TypingMode.TheVariants.{Coherence, PostAnalysis}
use Rattle.goal_evaluator.specs.Handler.{IsHandler}
use Rattle.goal_evaluator.specs.History.{evaluate, asks, CameInOrder}
use Rattle.goal_evaluator.specs.Promises.{frame_of_goal, Anything, History}
use Rattle.goal_evaluator.specs.Content.{Fact, NestedQuestion}
use Rattle.goal_evaluator.specs.Widths.{number_of}
use Rattle.goal_evaluator.specs.Tables.{frame_tables}
use Rattle.goal_frames.specs.Handlers.{same_answer, applies_always}
use Rattle.goal_frames.specs.HandlerPrograms.{AreLawfulGoals, HandlerIsLawful}
use Rattle.goal_frames.proofs.Same.{answers-are, applies-to-yeses}
use Rattle.candidate_model.specs.Facts.{reference_in}
use Rattle.candidate_model.specs.Meaning.{proved_at}
use Rattle.candidate_model.specs.DeclaredWell.{is_declared_well}
use Rattle.candidate_model.specs.Lifetimes.{form_gives_lifetimes, given_by, GivesLifetimes}
use Rattle.candidate_model.specs.Lawful.{ViewIsDeclaredWell}
use Rattle.candidate_model.specs.Promised.Widths.{declared_width, number_at, clauses_in, supertraits_in}
use Rattle.candidate_model.specs.Solver.{widest_of, IsSolution}
use Rattle.candidate_model.proofs.DeclaredWell.{tests-tell}
use Rattle.candidate_model.proofs.SolverLaw.{solver-is-lawful-and-covers}
use Rattle.candidate_model.proofs.Worlds.{same-place, keep-worlds}
use Rattle.type_terms.proofs.Made.{left, right}
use Rattle.built_in_candidates.proofs.Noted.{none-noted}
use Rattle.candidate_assembly.specs.Kept.{ready-kept, solving-kept}
use Rattle.candidate_assembly.specs.Solving.{Solving, meaning_for, solver_for}
use Rattle.candidate_assembly.specs.SolverMeaning.{goals_by_view, solver_by_view}

-- ---- each goal
declared-well : (s : Solving) (f : CanonicalForm) → ViewIsDeclaredWell (meaning_for s f)
declared-well s f e = tests-tell s.view (left (is_declared_well s.view) (s.fits f && form_gives_lifetimes s.view f) e)

lifetimes-given : (s : Solving) (f : CanonicalForm) → GivesLifetimes (meaning_for s f) f
lifetimes-given s f e a is =
    ap (given_by s.view) (sym is) ∙ right (s.fits f) (form_gives_lifetimes s.view f) (right (is_declared_well s.view) (s.fits f && form_gives_lifetimes s.view f) e)

pub solver-is-lawful : (s : Solving) (mode : TypingMode) (f : CanonicalForm) → IsHandler frame_tables (solver_for s mode f)
solver-is-lawful s mode f = (solver-is-lawful-and-covers applies_always applies-to-yeses same_answer answers-are (meaning_for s f) (declared-well s f) f (lifetimes-given s f)).0 mode

-- ---- goals together
greater-first : (a b d : ℕ) → a ≤ max b d → max a d ≤ max b d
greater-first a b d h = omega (arith, h)

-- the bound on nested goals grows with the width
number-grows : (V : World) (m k : ℕ) → m ≤ k → number_at V m ≤ number_at V k
number-grows V m k h = sums (clauses_in V) (supertraits_in V) (m * supertraits_in V) (k * supertraits_in V) (mul-le m (supertraits_in V) k (supertraits_in V) h (le_refl (supertraits_in V)))
  where
    sums : (c s x y : ℕ) → x ≤ y → c + (s + ((m + (m + 2)) + (s + x))) ≤ c + (s + ((k + (k + 2)) + (s + y)))
    sums c s x y e = omega (arith, h, e)

pub goals-are-lawful : AreLawfulGoals goals_by_view
goals-are-lawful = record {
  begins = λ s mode g. refl;
  handlers = solver-is-lawful;
  instances = λ s mode q v. refl;
  rules = λ s mode g f premises r. r;
  kinds = λ s mode g v. refl;
  numbers = λ s mode g q h.
      let wide : widest_of s.view q.form ≤ widest_of s.view g = greater-first (number_of q) (number_of (record { form = g; coinductive = false })) (declared_width s.view) h in
      (wide, number-grows s.view (widest_of s.view q.form) (widest_of s.view g) wide);
  worlds = by;
}
  where
    by : (s : Solving) (mode : TypingMode) (g : CanonicalForm) (heard : History frame_tables (solver_for s mode g)) (q : NestedQuestion)
        → CameInOrder (Anything frame_tables (solver_for s mode g)) (frame_of_goal frame_tables (solver_for s mode g)) heard
        → asks (frame_of_goal frame_tables (solver_for s mode g)) heard ≡ evaluate q
        → (x : (solver_for s mode g).World) → (y : (solver_for s mode q.form).World) × ((f : Fact) → (solver_for s mode g).Proves x f → (solver_for s mode q.form).Proves y f)
    by s PostAnalysis g heard q came e x =
        let k = keep-worlds applies_always same_answer (meaning_for s g) PostAnalysis g heard q came e x in
        (record { crates = k.0.crates; begin = k.0.begin; sized_alone = k.0.sized_alone; no_clauses = k.0.no_clauses; no_placeholders = k.0.no_placeholders }, k.1)
    by s Coherence g heard q came e x =
        let k = keep-worlds applies_always same_answer (meaning_for s g) Coherence g heard q came e x in
        let p = same-place s.view s.crate (meaning_for s g).is_sound (meaning_for s q.form).is_sound k.0.place in (
          record { place = p.0; no_clauses = k.0.no_clauses; no_placeholders = k.0.no_placeholders },
          λ f y. let z : IsSolution (proved_at k.0.place) f = k.1 f y in record { asks = z.asks; proper = z.proper; closed = z.closed; proof = p.1 (reference_in f) z.proof },
        )

pub solver-laws : HandlerIsLawful solver_by_view
solver-laws = record {
  ready_kept = λ h old new k r. ready-kept h.declarations old new k r;
  world_kept = λ h old new k r. solving-kept h.declarations old new k r;
  no_notes = λ h es. none-noted es h.declarations;
  goals = goals-are-lawful;
}
