-- How far the assembly of a goal has come. The candidates of a goal come in sections, one after the other. What was considered determines
-- how many of each there were, so what is next is a function of the goal and of that.
use Rattle.std.specs.Prelude.{◌≡◌, ℕ, Bool, true, false, ◌&&◌, ◌||◌, ◌==◌, not, if◌then◌else◌, List, [], ◌∷◌, map, length, filter, Option, Some, None, IfSome}
use Rattle.std.specs.List.{slice_get, list_any}
use Rattle.type_terms.specs.Promised.Label.{dynamic}
use Rattle.type_terms.specs.Promised.Trees.{Trees, none, tree}
use Rattle.type_terms.specs.Promised.Worlds.{World, Reference}
use Rattle.type_terms.specs.Promised.Rules.{unsize, autos_with}
use Rattle.type_terms.specs.Promised.Handles.{Entry}
use Rattle.type_terms.specs.declared.ImplId.{ImplId}
use Rattle.infer_table.specs.declared.canonical.CanonicalVarKind.{CanonicalVarKind}
use Rattle.infer_table.specs.declared.certainty.TypingMode.{TypingMode}
use Rattle.infer_table.specs.declared.certainty.TypingMode.TheVariants.{Coherence, PostAnalysis}
use Rattle.infer_table.specs.Canonical.{CanonicalForm}
use Rattle.goal_evaluator.specs.declared.candidate.CandidateSource.{CandidateSource}
use Rattle.goal_evaluator.specs.declared.candidate.CandidateSource.TheVariants.{Impl, BuiltinImpl, CoherenceUnknowable}
use Rattle.goal_evaluator.specs.declared.candidate.BuiltinImplSource.TheVariants.{Trivial, Misc, Object, TraitUpcasting}
use Rattle.goal_evaluator.specs.Candidate.{Next, consider, IsHistory}
use Rattle.goal_evaluator.specs.Merge.{or_else}
use Rattle.goal_evaluator.specs.Plans.{Plan, wanted}
use Rattle.goal_evaluator.specs.Table.{workings}
use Rattle.goal_evaluator.specs.FrameTables.{kinds_known}
use Rattle.goal_evaluator.specs.Tables.{frame_tables}
use Rattle.declarations.specs.Items.{Items, written}
use Rattle.declarations.specs.Merges.{Rises}
use Rattle.goal_frames.specs.Handlers.{same_answer, applies_always}
use Rattle.candidate_model.specs.Meaning.{ViewMeaning}
use Rattle.candidate_model.specs.Knowing.{is_knowable}
use Rattle.candidate_model.specs.Asking.{GoalOverKinds, goal_over_kinds, clauses, self_of, begins_unknown}
use Rattle.candidate_model.specs.Candidates.{Candidate, unsure, unknowable, by_clauses, built_in, by_impls, by_objects}
use Rattle.candidate_model.specs.Solver.{SolverPast, from, holds_from, is_clause, is_impl, is_settled, solver_handled}
use Rattle.candidate_assembly.specs.Headers.{impls_above}
use Rattle.candidate_assembly.specs.Merging.{end_in}

-- ---- sections
-- The self type is a `dyn`.
abbrev pub begins_dyn : Trees → Bool
begins_dyn (tree dynamic c o) = true
begins_dyn t = false

-- Whether, for this goal, a source that says no more than 'built-in' is a bound. For a `dyn` only `Unsize` has such built-in rules. The
-- auto traits that it is written with are such bounds.
abbrev pub misc_is_bound : GoalOverKinds → Bool
misc_is_bound a = begins_dyn (self_of a) && not (a.reference.trait == unsize)

abbrev pub is_unknowable : CandidateSource → Bool
is_unknowable CoherenceUnknowable = true
is_unknowable s = false

abbrev pub is_built_in : Bool → CandidateSource → Bool
is_built_in b (BuiltinImpl Trivial) = true
is_built_in b (BuiltinImpl Misc) = not b
is_built_in b (BuiltinImpl (TraitUpcasting i)) = true
is_built_in b s = false

abbrev pub is_bound : Bool → CandidateSource → Bool
is_bound b (BuiltinImpl (Object i)) = true
is_bound b (BuiltinImpl Misc) = b
is_bound b s = false

-- The auto traits that a `dyn` is written with.
abbrev pub autos_of : Trees → List Reference
autos_of (tree dynamic bounds o) = autos_with (tree dynamic bounds none) bounds
autos_of t = []

-- The sources tell the sections apart: no `dyn` is written with `Unsize` as an auto trait.
abbrev pub sources_tell : GoalOverKinds → Bool
sources_tell a = not (a.reference.trait == unsize) || not (list_any (λ (r : Reference). r.trait == unsize) (autos_of (self_of a)))

-- How many candidates with such a source were considered.
abbrev pub considered_from : (CandidateSource → Bool) → SolverPast → ℕ
considered_from p seen = length (filter (from p) seen)

-- ---- what is next
-- Among where-clauses and built-in rules.
abbrev pub early : World → GoalOverKinds → SolverPast → Option Candidate
early V a seen = or_else (slice_get (by_clauses V a (clauses a)) (considered_from is_clause seen)) (slice_get (built_in V a) (considered_from (is_built_in (misc_is_bound a)) seen))

-- Among impls and object bounds.
abbrev pub late : World → GoalOverKinds → SolverPast → Option Candidate
late V a seen = or_else (slice_get (by_impls V a V.impls) (considered_from is_impl seen)) (slice_get (by_objects V a) (considered_from (is_bound (misc_is_bound a)) seen))

abbrev pub is_first_step : SolverPast → Bool
is_first_step [] = true
is_first_step (c ∷ seen) = false

-- In coherence it is first that other crates may have an impl, if the goal is not knowable. If that holds, nothing else comes.
abbrev pub next_inside : World → ℕ → GoalOverKinds → SolverPast → Option Candidate
next_inside V crate a seen =
    if is_first_step seen && not (is_knowable V crate a.reference) then Some (unknowable V a)
    else if holds_from is_unknowable seen then None else or_else (early V a seen) (late V a seen)

-- Outside coherence no impls and object bounds come if a where-clause has settled the goal.
abbrev pub next_outside : World → GoalOverKinds → SolverPast → Option Candidate
next_outside V a seen = or_else (early V a seen) (if is_settled seen then None else late V a seen)

abbrev pub next_in : ViewMeaning → TypingMode → GoalOverKinds → SolverPast → Option Candidate
next_in m Coherence a seen = next_inside m.view m.crate a seen
next_in m PostAnalysis a seen = next_outside m.view a seen

-- The goal, if it is decided.
abbrev pub decided : ViewMeaning → Option GoalOverKinds → Option GoalOverKinds
decided m None = None
decided m (Some a) = if not m.is_sound || begins_unknown a.kinds (self_of a) then None else Some a

-- A goal that is not decided has one candidate, which is ambiguous.
abbrev pub next_candidate : ViewMeaning → TypingMode → Option GoalOverKinds → SolverPast → Option Candidate
next_candidate m mode None seen = if is_first_step seen then Some unsure else None
next_candidate m mode (Some a) seen = next_in m mode a seen

-- The answer when no candidate is left. A goal that is not decided is merged as in coherence.
abbrev pub end_of : TypingMode → Option GoalOverKinds → List CanonicalVarKind → SolverPast → Plan frame_tables
end_of mode None kinds seen = end_in Coherence kinds seen
end_of mode (Some a) kinds seen = end_in mode kinds seen

-- The candidate, or the end if there is none.
abbrev pub or_end : Option Candidate → Plan frame_tables → Next (workings frame_tables)
or_end (Some s) end = consider s
or_end None end = wanted frame_tables end

-- After each history of a goal, the plan takes the candidate that is next there, or its end if there is none.
abbrev pub HistoriesTell : Type 0
HistoriesTell =
    (m : ViewMeaning) (mode : TypingMode) (f : CanonicalForm) → let o = decided m (goal_over_kinds m.view f) in IfSome o (λ a. sources_tell a ≡ true)
    → let next = (solver_handled applies_always same_answer m mode f).next in
    (seen : SolverPast) → IsHistory (workings frame_tables) next seen → next seen ≡ or_end (next_candidate m mode o seen) (end_of mode o (kinds_known f.kinds) seen)

-- ---- where the walk over impls goes on
abbrev pub impl_or : CandidateSource → Option ImplId → Option ImplId
impl_or (Impl i) other = Some i
impl_or s other = other

-- The impl that was considered last.
abbrev pub last_impl : SolverPast → Option ImplId
last_impl [] = None
last_impl (c ∷ seen) = impl_or c.spec.source (last_impl seen)

-- After each history of a goal that is decided, the next candidate by an impl is the first one after the impl considered last, if the
-- numbers of impls rise.
abbrev pub WalksGoOn : Type 0
WalksGoOn =
    (es : List Entry) (d : Items) → Rises (map (λ i. i.id) d.impls) → (m : ViewMeaning) → m.view ≡ written es d
    → (mode : TypingMode) (f : CanonicalForm) (a : GoalOverKinds) → decided m (goal_over_kinds m.view f) ≡ Some a → sources_tell a ≡ true
    → (seen : SolverPast) → IsHistory (workings frame_tables) (solver_handled applies_always same_answer m mode f).next seen
    → let is = (written es d).impls in slice_get (by_impls (written es d) a (impls_above (last_impl seen) is)) 0 ≡ slice_get (by_impls (written es d) a is) (considered_from is_impl seen)
