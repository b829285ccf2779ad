-- Goals that the headers of a pair of impls fix, and what is noted of them while a crate is checked.
use Rattle.std.specs.Prelude.{◌≡◌, ℕ, true, Bool, ◌&&◌, ◌==◌, List, [], Some}
use Rattle.std.specs.HashMap.{get_by}
use Rattle.type_terms.specs.Promised.Handles.{Entry, Has, Keeps, types, trees_at}
use Rattle.type_terms.specs.Promised.Questions.{IsRefuted}
use Rattle.type_terms.specs.Promised.Worlds.{ImplDecl}
use Rattle.declarations.specs.Apart.{is_fixed}
use Rattle.declarations.specs.Promised.Elaboration.{Each}
use Rattle.overlap_check.specs.FixedClauses.{fixed_reference}
use Rattle.overlap_check.specs.SessionLaws.{CoversClause}
use Rattle.overlap_check.specs.declared.fixed.FixedGoal.{FixedGoal}
use Rattle.search_graph.specs.SearchState.{SearchState}
use Rattle.solver_graph.specs.declared.context.SolverCx.{SolverCx}
use Rattle.solver_graph.specs.Contexts.{entries_of, KeepsLimits}
use Rattle.candidate_assembly.specs.declared.solver.Solver.{Solver}
use Rattle.text_language.specs.Promised.Declarations.{Declarations}
use Rattle.sessions.specs.Checking.{IsPairOf, rules_in, solving_in}
use Rattle.sessions.specs.Promised.Promises.{view_in}
use Rattle.sessions.specs.Promised.Subjects.{Subject}
use Rattle.sessions.specs.Resting.{Cached}
use Rattle.sessions.specs.Sessions.{SolverRests}
use Rattle.sessions.specs.declared.fixed_goals.FixedAnswers.{FixedAnswers}

-- In crate c of the text the goal has no solution.
pub record IsRefutedIn (d : Declarations) (c : ℕ) (es : List Entry) (g : FixedGoal) : Type 0 where
  pub held : Has es types g.self_ty.0
  pub refuted : IsRefuted (view_in d c) c [] (fixed_reference es g)

-- Two goals are one.
abbrev pub is_goal : FixedGoal → FixedGoal → Bool
is_goal g h = (g.def_id.index == h.def_id.index) && (g.self_ty.0 == h.self_ty.0)

-- Each goal that is noted as refuted is.
abbrev pub AreRefutedAsNoted : Declarations → ℕ → List Entry → FixedAnswers → Type 0
AreRefutedAsNoted d c es m = (g : FixedGoal) → get_by (is_goal g) m.refuted ≡ Some true → IsRefutedIn d c es g

-- The same of what a session asks about.
abbrev pub AreRefutedInSession : Subject → FixedAnswers → Type 0
AreRefutedInSession s m = AreRefutedAsNoted s.declarations s.of_crate s.terms m

-- The goal has no parameters, variables and lifetimes, and it covers a where-clause of the pairs with these numbers.
pub record IsGoalAt (cx : SolverCx Solver) (k j : ℕ) (g : FixedGoal) : Type 0 where
  pub held : Has (entries_of cx) types g.self_ty.0
  pub fixed : is_fixed (trees_at (entries_of cx) g.self_ty.0) ≡ true
  pub covers : (x y : ImplDecl) → IsPairOf (rules_in cx) cx.handler.declarations.local k j x y → CoversClause x y [] (fixed_reference (entries_of cx) g)

abbrev pub AreGoalsAt : SolverCx Solver → ℕ → ℕ → List FixedGoal → Type 0
AreGoalsAt cx k j gs = Each (IsGoalAt cx k j) gs

-- A search is at rest, solves by the same declarations as before, and its context has grown at most.
pub record RestsSince (depth : ℕ) (old new : SolverCx Solver) (graph : SearchState) (cache : Cached) : Type 0 where
  pub rest : SolverRests depth new graph cache
  pub solving : solving_in new ≡ solving_in old
  pub entries : Keeps (entries_of old) (entries_of new)
  pub limits : KeepsLimits old new
