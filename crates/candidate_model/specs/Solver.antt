-- The solver: the plan of each goal, and what it means.
use Rattle.std.specs.Prelude.{◌≡◌, ◌==◌, ℕ, ◌+◌, ◌*◌, max, Bool, true, false, ◌||◌, ◌&&◌, not, if◌then◌else◌, List, [], ◌∷◌, ◌++◌, length, Option, Some, None, is_some}
use Rattle.std.specs.List.{list_any}
use Rattle.type_terms.specs.Promised.Trees.{none}
use Rattle.type_terms.specs.Trees.{is_no_tree}
use Rattle.type_terms.specs.Promised.Proofs.{In}
use Rattle.type_terms.specs.Promised.Rules.{is_auto, sized}
use Rattle.type_terms.specs.Promised.Worlds.{World, CrateDecl, Reference, ImplDecl}
use Rattle.type_terms.specs.Promised.Answers.{is_closed}
use Rattle.infer_table.specs.Canonical.{CanonicalForm}
use Rattle.infer_table.specs.declared.canonical.CanonicalVarKind.{CanonicalVarKind}
use Rattle.infer_table.specs.declared.canonical.CanonicalVarKind.TheVariants.{PlaceholderTy, PlaceholderConst}
use Rattle.infer_table.specs.declared.certainty.TypingMode.{TypingMode}
use Rattle.infer_table.specs.declared.certainty.TypingMode.TheVariants.{Coherence, PostAnalysis}
use Rattle.infer_table.specs.Responses.{AnswerTrees}
use Rattle.goal_evaluator.specs.declared.candidate.CandidateSource.{CandidateSource}
use Rattle.goal_evaluator.specs.declared.candidate.CandidateSource.TheVariants.{Impl, BuiltinImpl, ParamEnv}
use Rattle.goal_evaluator.specs.declared.candidate.BuiltinImplSource.TheVariants.{Trivial, Object}
use Rattle.goal_evaluator.specs.declared.candidate.ParamEnvSource.TheVariants.{Global, NonGlobal}
use Rattle.goal_evaluator.specs.Table.{workings}
use Rattle.goal_evaluator.specs.Candidate.{Considered}
use Rattle.goal_evaluator.specs.Handler.{Handled}
use Rattle.goal_evaluator.specs.Content.{Fact, fact_of, trait_of}
use Rattle.goal_evaluator.specs.FrameTables.{kinds_known, FrameTable}
use Rattle.goal_evaluator.specs.TableAnswers.{has_values}
use Rattle.goal_evaluator.specs.Promised.Widths.{count}
use Rattle.goal_evaluator.specs.Widths.{number_of}
use Rattle.goal_evaluator.specs.TableOperations.{begin}
use Rattle.goal_evaluator.specs.Tables.{frame_tables}
use Rattle.goal_evaluator.specs.Plans.{Plan, Planned, planned, each_of, first_alone}
use Rattle.goal_evaluator.specs.PlanAnswers.{all_merged, kept_merged, first_taken}
use Rattle.candidate_model.specs.Facts.{FollowsByView, is_coinductive_trait, reference_in, beside}
use Rattle.candidate_model.specs.Meaning.{ViewMeaning, SelfTypesBegin, SolutionPlace, proved_at, proved_alone}
use Rattle.candidate_model.specs.Knowing.{is_knowable}
use Rattle.candidate_model.specs.Asking.{GoalOverKinds, goal_over_kinds, clauses, self_of, begins_unknown}
use Rattle.candidate_model.specs.Candidates.{unsure, unknowable, by_clauses, built_in, by_impls, by_objects}
use Rattle.candidate_model.specs.Promised.Widths.{declared_width, number_at}

abbrev pub SolverPast : Type 0
SolverPast = List (Considered (workings frame_tables))

-- ---- what was considered
abbrev pub is_clause : CandidateSource → Bool
is_clause (ParamEnv g) = true
is_clause s = false

abbrev pub is_non_global : CandidateSource → Bool
is_non_global (ParamEnv NonGlobal) = true
is_non_global s = false

abbrev pub is_global : CandidateSource → Bool
is_global (ParamEnv Global) = true
is_global s = false

abbrev pub is_impl : CandidateSource → Bool
is_impl (Impl i) = true
is_impl s = false

abbrev pub is_object : CandidateSource → Bool
is_object (BuiltinImpl (Object i)) = true
is_object s = false

abbrev pub is_trivial : CandidateSource → Bool
is_trivial (BuiltinImpl Trivial) = true
is_trivial s = false

abbrev pub from : (CandidateSource → Bool) → Considered (workings frame_tables) → Bool
from p c = p c.spec.source

-- A candidate with such a source was not refused.
abbrev pub holds_from : (CandidateSource → Bool) → SolverPast → Bool
holds_from p seen = list_any (λ (c : Considered (workings frame_tables)). from p c && is_some c.response) seen

-- The response has no values for type and const variables, and no constraints on lifetimes.
abbrev pub says_nothing : Option AnswerTrees → Bool
says_nothing None = false
says_nothing (Some r) = not (has_values r) && is_no_tree r.constraints

abbrev pub gives_none : Option AnswerTrees → Bool → Bool → Bool
gives_none (Some r) true otherwise = not (has_values r)
gives_none r b otherwise = otherwise

-- The oldest candidate with such a source that was not refused has no values for type and const variables.
abbrev pub oldest_gives_none : (CandidateSource → Bool) → Bool → SolverPast → Bool
oldest_gives_none p otherwise [] = otherwise
oldest_gives_none p otherwise (c ∷ seen) = oldest_gives_none p (gives_none c.response (from p c) otherwise) seen

-- The candidates that are merged if no where-clause is preferred. Impls are left out if a bound of a `dyn` has no values. Global
-- where-clauses are left out if there is any other candidate.
abbrev pub remain : SolverPast → CandidateSource → Bool
remain seen s = not (is_impl s && oldest_gives_none is_object false seen)

abbrev pub remains : SolverPast → CandidateSource → Bool
remains seen s = remain seen s && (not (is_global s) || not (holds_from (λ r. remain seen r && not (is_global r)) seen))

-- A where-clause that is not global has a response without values and constraints.
abbrev pub is_settled : SolverPast → Bool
is_settled seen = list_any (λ (c : Considered (workings frame_tables)). from is_non_global c && says_nothing c.response) seen

-- ---- plans
module _ (applicable : AnswerTrees → Bool) (same : AnswerTrees → AnswerTrees → Bool) (begin_table : FrameTable) where
  abbrev pub merged : (CandidateSource → Bool) → SolverPast → Plan frame_tables
  merged kept seen = kept_merged frame_tables applicable same begin_table (from kept) seen

  -- Outside coherence the trivial rule is preferred, then where-clauses if one of them is not global, then the other candidates.
  abbrev pub preferred : SolverPast → Plan frame_tables
  preferred seen =
      if holds_from is_trivial seen then merged is_trivial seen
      else if holds_from is_non_global seen then first_taken frame_tables applicable same begin_table (from is_clause) seen
      else merged (remains seen) seen

  -- In coherence all candidates are merged.
  abbrev pub everything : SolverPast → Plan frame_tables
  everything seen = all_merged frame_tables applicable same begin_table seen

  abbrev pub in_coherence : World → ℕ → GoalOverKinds → Plan frame_tables
  in_coherence V crate a =
      let all = by_clauses V a (clauses a) ++ (built_in V a ++ (by_impls V a V.impls ++ by_objects V a)) in
      if is_knowable V crate a.reference
      then each_of frame_tables all everything []
      else first_alone frame_tables (unknowable V a) (λ seen. each_of frame_tables all everything seen) everything []

  abbrev pub outside_coherence : World → GoalOverKinds → Plan frame_tables
  outside_coherence V a =
      each_of frame_tables (by_clauses V a (clauses a) ++ built_in V a)
      (λ seen. if is_settled seen then preferred seen else each_of frame_tables (by_impls V a V.impls ++ by_objects V a) preferred seen)
      []

  abbrev pub by_mode : ViewMeaning → TypingMode → GoalOverKinds → Plan frame_tables
  by_mode m Coherence a = in_coherence m.view m.crate a
  by_mode m PostAnalysis a = outside_coherence m.view a

  -- A goal that is not decided, or whose self type is an inference variable, has only the ambiguous candidate.
  abbrev pub plan_for : ViewMeaning → TypingMode → Option GoalOverKinds → Plan frame_tables
  plan_for m mode None = each_of frame_tables (unsure ∷ []) everything []
  plan_for m mode (Some a) =
      if not m.is_sound || begins_unknown a.kinds (self_of a) then each_of frame_tables (unsure ∷ []) everything [] else by_mode m mode a

abbrev pub widest_of : World → CanonicalForm → ℕ
widest_of V f = max (number_of (record { form = f; coinductive = false })) (declared_width V)

-- A bound of the number of candidates. It counts where-clauses, impls, built-in rules, supertraits for upcasts, bounds of a `dyn`, and the
-- unknowable candidate.
abbrev pub most_candidates : World → CanonicalForm → ℕ
most_candidates V f = length V.impls + (3 * widest_of V f + 13) + count f.goal.environment

-- ---- where solutions are looked for
abbrev pub has_placeholder : List CanonicalVarKind → Bool
has_placeholder [] = false
has_placeholder (PlaceholderTy ∷ ks) = true
has_placeholder (PlaceholderConst ∷ ks) = true
has_placeholder (k ∷ ks) = has_placeholder ks

-- In coherence, solutions are looked for by the crate's view and in every linked set with the crate. The goal has no where-clauses and no
-- placeholders.
pub record Searched (m : ViewMeaning) (f : CanonicalForm) : Type 0 where
  pub place : SolutionPlace m
  pub no_clauses : f.goal.environment ≡ none
  pub no_placeholders : has_placeholder (kinds_known f.kinds) ≡ false

-- `Sized` has its built-in rule alone.
pub record SizedIsBuiltIn (V : World) : Type 0 where
  pub no_impls : (i : ImplDecl) → In i V.impls → (i.header.trait == sized) ≡ false
  pub no_auto : is_auto V sized ≡ false

-- Outside coherence, solutions are looked for by the crate's view alone, with any list of crates. The goal has no where-clauses, since these
-- are preferred to other candidates, and no placeholders.
pub record SearchedAlone (m : ViewMeaning) (f : CanonicalForm) : Type 0 where
  pub crates : List CrateDecl
  pub begin : SelfTypesBegin m.view
  pub sized_alone : SizedIsBuiltIn m.view
  pub no_clauses : f.goal.environment ≡ none
  pub no_placeholders : has_placeholder (kinds_known f.kinds) ≡ false

abbrev pub searched_world : ViewMeaning → TypingMode → CanonicalForm → Type 0
searched_world m Coherence f = Searched m f
searched_world m PostAnalysis f = SearchedAlone m f

-- A proper fact of a concrete trait reference that has a proof.
pub record IsSolution (H : Reference → Type 0) (f : Fact) : Type 0 where
  pub asks : beside f (reference_in f) ≡ f
  pub proper : f.proper ≡ true
  pub closed : is_closed (reference_in f).args ≡ true
  pub proof : H (reference_in f)

abbrev pub proves_in : (m : ViewMeaning) (mode : TypingMode) (f : CanonicalForm) → searched_world m mode f → Fact → Type 0
proves_in m Coherence f w g = IsSolution (proved_at w.place) g
proves_in m PostAnalysis f w g = IsSolution (proved_alone m w.crates) g

-- ---- the handler
module _ (applicable : AnswerTrees → Bool) (same : AnswerTrees → AnswerTrees → Bool) where
  abbrev pub solver_planned : ViewMeaning → TypingMode → CanonicalForm → Planned frame_tables
  solver_planned m mode f = record {
    goal = λ v. fact_of (record { form = f; coinductive = false }) v;
    begin = begin (kinds_known f.kinds);
    plan = plan_for applicable same (begin (kinds_known f.kinds)) m mode (goal_over_kinds m.view f);
    Rule = FollowsByView m.view;
    World = searched_world m mode f;
    Proves = proves_in m mode f;
    coinductive = is_coinductive_trait m.view (trait_of f.goal.predicate);
    candidates = most_candidates m.view f;
    number = number_at m.view (widest_of m.view f);
    widest = widest_of m.view f;
  }

  -- What the solver means for a goal.
  abbrev pub solver_handled : ViewMeaning → TypingMode → CanonicalForm → Handled frame_tables
  solver_handled m mode f = planned frame_tables (solver_planned m mode f)
