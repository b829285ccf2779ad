-- The questions of a goal without where-clauses and placeholders have none.
use Rattle.std.proofs.Common.{◌≡◌, ℕ, Bool, true, false, not, ◌||◌, if◌then◌else◌, List, [], ◌∷◌, ◌++◌, filter, map, length, refl, sym, ◌∙◌, ap, subst, Option, Some, None}
use Rattle.std.specs.Prelude.{option_map}
use Rattle.type_terms.specs.Promised.Label.{Label, of_type, of_const, of_lifetime, infer, param, placeholder, static}
use Rattle.type_terms.specs.Promised.Trees.{none}
use Rattle.type_terms.specs.Promised.Worlds.{World, Reference}
use Rattle.type_terms.specs.Promised.Rules.{is_coinductive}
use Rattle.infer_table.specs.Canonical.{CanonicalForm, kind_of_leaf, kind_in_clause, goal_leaves, canonical_label, relabeled}
use Rattle.infer_table.specs.Solutions.{resolved}
use Rattle.infer_table.specs.Unification.{TableTrees}
use Rattle.infer_table.specs.declared.certainty.TypingMode.TheVariants.{Coherence, PostAnalysis}
use Rattle.infer_table.proofs.SolutionLaws.{resolved-none}
use Rattle.infer_table.specs.Responses.{AnswerTrees}
use Rattle.goal_evaluator.specs.Lists.{Every}
use Rattle.goal_evaluator.specs.Instances.{put_in}
use Rattle.goal_evaluator.specs.Content.{NestedQuestion}
use Rattle.goal_evaluator.specs.FrameTables.{kinds_known, good_in, FrameTable, IsMadeFrame, Nested, slot_at, goal_in}
use Rattle.type_terms.proofs.Made.{false-true}
use Rattle.type_terms.proofs.Walking.{left}
use Rattle.goal_evaluator.specs.TableOperations.{begin, with_content}
use Rattle.goal_evaluator.proofs.TableBeginning.{begin-made}
use Rattle.goal_evaluator.proofs.Equating.{with-content-is}
use Rattle.goal_evaluator.proofs.Applying.{AreTheirs, goal-leaves}
use Rattle.goal_evaluator.specs.Tables.{frame_tables}
use Rattle.goal_evaluator.proofs.FrameTableLaws.{tables_are_lawful}
use Rattle.goal_evaluator.proofs.Kept.{AreKept, AreSo, questions_so, made_kept}
use Rattle.goal_evaluator.specs.Plans.{Plan, each_of, first_alone, after}
use Rattle.goal_evaluator.specs.PlanAnswers.{first_passing, first_taken, taken_or_merged}
use Rattle.goal_evaluator.specs.Table.{workings}
use Rattle.goal_evaluator.specs.Candidate.{Considered}
use Rattle.declarations.specs.Promised.Elaboration.{supertraits}
use Rattle.candidate_model.specs.Meaning.{ViewMeaning, SolutionPlace, by_view, in_set, proved_at}
use Rattle.candidate_model.specs.Knowing.{is_knowable}
use Rattle.candidate_model.specs.Asking.{GoalOverKinds, goal_over_kinds, clauses, self_of, begins_unknown, all_known}
use Rattle.candidate_model.specs.Candidates.{Candidate, premise, unsure, unknowable, rules_behind, by_clauses, built_in, by_impls, by_objects}
use Rattle.candidate_model.specs.Solver.{SolverPast, from, holds_from, is_clause, is_non_global, is_settled, is_trivial, merged, preferred, remains, everything, in_coherence, outside_coherence, by_mode, plan_for, has_placeholder, solver_handled}
use Rattle.candidate_model.specs.Cover.{all_candidates}
use Rattle.candidate_model.specs.Worlds.{KeepWorlds}
use Rattle.candidate_model.proofs.Basics.{append-assoc}
use Rattle.candidate_model.proofs.CandidateKinds.{every-split}
use Rattle.candidate_model.proofs.Cover.{asked-by}
use Rattle.candidate_model.proofs.Filled.{no-placeholder}
use Rattle.goal_evaluator.proofs.Unplaced.{place-kind}
use Rattle.candidate_model.proofs.Rowwise.{AreRows, all-so}
use Rattle.candidate_model.proofs.Considering.{ConsidersOnly, after-only, wanted-only, each-only, first-only}
use Rattle.goal_evaluator.proofs.Basics.{every-of, every-unit}

-- the question has no where-clauses and no placeholders
abbrev IsBare : NestedQuestion → Type 0
IsBare q = (q.form.goal.environment ≡ none) × (has_placeholder (kinds_known q.form.kinds) ≡ false)

-- ---- tables keep the kinds of the goal
abbrev HasNone : FrameTable → Type 0
HasNone T = IsMadeFrame T × (has_placeholder T.kinds ≡ false)

none-after : (T : FrameTable) (o : Option TableTrees) (U : FrameTable) → option_map (with_content T) o ≡ Some U → HasNone T → has_placeholder U.kinds ≡ false
none-after T o U e h = ap (λ (V : FrameTable). has_placeholder V.kinds) (sym (with-content-is T o U e).2) ∙ h.1

made : AreKept frame_tables IsBare IsMadeFrame
made = made_kept frame_tables tables_are_lawful IsBare

kept-tables : AreKept frame_tables IsBare HasNone
kept-tables = record {
  fresh = λ T kinds h. (made.fresh T kinds h.0, h.1);
  equate = λ T U es h e. (made.equate T U es h.0 e, none-after T _ U e h);
  recorded = λ T c h. (made.recorded T c h.0, h.1);
  apply = λ T U n r h e. (made.apply T U n r h.0 e, none-after T _ U e h);
}

-- ---- questions
no-kinds : (T : FrameTable) → HasNone T → (ls : List Label) → AreTheirs (good_in T) ls → has_placeholder (kinds_known (map kind_of_leaf ls)) ≡ false
no-kinds T h [] e = refl
no-kinds T h (infer of_type v ∷ ls) e = no-kinds T h ls e.1
no-kinds T h (infer of_const v ∷ ls) e = no-kinds T h ls e.1
no-kinds T h (infer of_lifetime v ∷ ls) e = no-kinds T h ls e.1
no-kinds T h (param of_type v ∷ ls) e = absurd (false-true e.0)
no-kinds T h (param of_const v ∷ ls) e = absurd (false-true e.0)
no-kinds T h (param of_lifetime v ∷ ls) e = no-kinds T h ls e.1
no-kinds T h (placeholder of_type v ∷ ls) e = absurd (place-kind T.kinds (no-placeholder T.kinds h.1) of_type v (left (good_in T (placeholder of_type v)) _ e.0) refl)
no-kinds T h (placeholder of_const v ∷ ls) e = absurd (place-kind T.kinds (no-placeholder T.kinds h.1) of_const v (left (good_in T (placeholder of_const v)) _ e.0) refl)
no-kinds T h (placeholder of_lifetime v ∷ ls) e = no-kinds T h ls e.1
no-kinds T h (static ∷ ls) e = no-kinds T h ls e.1
no-kinds T h (l ∷ ls) e = no-kinds T h ls e.1

bare-question : (n : Nested) → n.goal.environment ≡ none → AreSo frame_tables IsBare HasNone n
bare-question n e T h = (
  ap (λ z. relabeled kind_in_clause (canonical_label (goal_leaves (goal_in T n))) (resolved T.content.bindings (put_in (slot_at T.labels) z))) e
      ∙ ap (relabeled kind_in_clause (canonical_label (goal_leaves (goal_in T n)))) (resolved-none T.content.bindings),
  no-kinds T h (goal_leaves (goal_in T n)) (goal-leaves T h.0 n),
)

-- ---- candidates
abbrev AreBare : Candidate → Type 0
AreBare c = Every (AreSo frame_tables IsBare HasNone) c.nested

module _ (V : World) (a : GoalOverKinds) (no_clauses : a.environment ≡ none) where
  premises-bare : (kind : Bool) (rs : List Reference) → Every (AreSo frame_tables IsBare HasNone) (map (premise a kind) rs)
  premises-bare kind [] = tt
  premises-bare kind (r ∷ rs) = (bare-question (premise a kind r) no_clauses, premises-bare kind rs)

  rows : AreRows V a AreBare (λ es. Unit {0})
  rows = record {
    rule = λ source es ps u. premises-bare (is_coinductive V a.reference.trait) ps;
    nothing = tt;
    calls = λ n l types c others e. tt;
    arrays = λ l m c n d p o e. tt;
    upcasts = λ b d o e. every-of (λ q. every-of (λ p. (tt, every-unit _)) _) _;
    structs = λ s u b d o e x. tt;
    clauses = every-unit (clauses a);
    bounds = λ bounds others e. (every-unit _, every-unit _);
    impls = λ i j. premises-bare (is_coinductive V a.reference.trait) (map (rules_behind (length a.kinds)) i.clauses);
    unsures = tt;
    records = λ r c h. h;
  }

  all-bare : Every AreBare (all_candidates V a)
  all-bare = all-so V a AreBare (λ es. Unit {0}) rows

  unknowable-bare : AreBare (unknowable V a)
  unknowable-bare = premises-bare false (supertraits V a.reference)

-- ---- the plan in coherence
module _ (applicable : AnswerTrees → Bool) (same : AnswerTrees → AnswerTrees → Bool) (start : FrameTable) (m : ViewMeaning) where
  abbrev Only : Plan frame_tables → Type 0
  Only p = ConsidersOnly frame_tables AreBare p

  unsure-only : Only (each_of frame_tables (unsure ∷ []) (everything applicable same start) [])
  unsure-only = each-only frame_tables AreBare (unsure ∷ []) (everything applicable same start) [] (tt, tt) (λ later. tt)

  asked-only : (a : GoalOverKinds) → a.environment ≡ none → Only (in_coherence applicable same start m.view m.crate a)
  asked-only a e = by (is_knowable m.view m.crate a.reference)
    where
      each : (seen : SolverPast) → Only (each_of frame_tables (all_candidates m.view a) (everything applicable same start) seen)
      each seen = each-only frame_tables AreBare (all_candidates m.view a) (everything applicable same start) seen (all-bare m.view a e) (λ later. tt)

      by : (b : Bool) → Only (if b then each_of frame_tables (all_candidates m.view a) (everything applicable same start) []
          else first_alone frame_tables (unknowable m.view a) (λ seen. each_of frame_tables (all_candidates m.view a) (everything applicable same start) seen) (everything applicable same start) [])
      by true = each []
      by false =
          first-only frame_tables AreBare (unknowable m.view a) (λ seen. each_of frame_tables (all_candidates m.view a) (everything applicable same start) seen) (everything applicable same start) []
          (unknowable-bare m.view a e) (λ later. each later) (λ later. tt)

  plan-only : (o : Option GoalOverKinds) → ((a : GoalOverKinds) → o ≡ Some a → a.environment ≡ none) → Only (plan_for applicable same start m Coherence o)
  plan-only None f = unsure-only
  plan-only (Some a) f = by (not m.is_sound || begins_unknown a.kinds (self_of a))
    where
      by : (b : Bool) → Only (if b then each_of frame_tables (unsure ∷ []) (everything applicable same start) [] else by_mode applicable same start m Coherence a)
      by true = unsure-only
      by false = asked-only a (f a refl)

-- ---- the plan outside it
module _ (applicable : AnswerTrees → Bool) (same : AnswerTrees → AnswerTrees → Bool) (start : FrameTable) (m : ViewMeaning) where
  taken-only : (xs : SolverPast) (o : Option (Considered (workings frame_tables))) → ConsidersOnly frame_tables AreBare (taken_or_merged frame_tables applicable same start xs o)
  taken-only xs None = tt
  taken-only xs (Some c) = tt

  preferred-only : (seen : SolverPast) → ConsidersOnly frame_tables AreBare (preferred applicable same start seen)
  preferred-only seen = by (holds_from is_trivial seen) (holds_from is_non_global seen)
    where
      by : (b c : Bool) → ConsidersOnly frame_tables AreBare (if b then merged applicable same start is_trivial seen
          else if c then first_taken frame_tables applicable same start (from is_clause) seen else merged applicable same start (remains seen) seen)
      by true c = tt
      by false true = taken-only (filter (from is_clause) seen) (first_passing frame_tables applicable same start (filter (from is_clause) seen))
      by false false = tt

  outside-only : (a : GoalOverKinds) → a.environment ≡ none → ConsidersOnly frame_tables AreBare (outside_coherence applicable same start m.view a)
  outside-only a e =
      let parts = every-split AreBare early late (subst (Every AreBare) (append-assoc (by_clauses m.view a (clauses a)) (built_in m.view a) late) (all-bare m.view a e)) in
      each-only frame_tables AreBare early (λ seen. if is_settled seen then preferred applicable same start seen else each_of frame_tables late (preferred applicable same start) seen) [] parts.0
      (λ later. by later (is_settled later) parts.1)
    where
      early : List Candidate
      early = by_clauses m.view a (clauses a) ++ built_in m.view a

      late : List Candidate
      late = by_impls m.view a m.view.impls ++ by_objects m.view a

      by : (later : SolverPast) (b : Bool) → Every AreBare late → ConsidersOnly frame_tables AreBare (if b then preferred applicable same start later else each_of frame_tables late (preferred applicable same start) later)
      by later true h = preferred-only later
      by later false h = each-only frame_tables AreBare late (preferred applicable same start) later h (λ seen. preferred-only seen)

  plain-only : (o : Option GoalOverKinds) → ((a : GoalOverKinds) → o ≡ Some a → a.environment ≡ none) → ConsidersOnly frame_tables AreBare (plan_for applicable same start m PostAnalysis o)
  plain-only None f = each-only frame_tables AreBare (unsure ∷ []) (everything applicable same start) [] (tt, tt) (λ later. tt)
  plain-only (Some a) f = by (not m.is_sound || begins_unknown a.kinds (self_of a))
    where
      by : (b : Bool) → ConsidersOnly frame_tables AreBare (if b then each_of frame_tables (unsure ∷ []) (everything applicable same start) [] else by_mode applicable same start m PostAnalysis a)
      by true = each-only frame_tables AreBare (unsure ∷ []) (everything applicable same start) [] (tt, tt) (λ later. tt)
      by false = outside-only a (f a refl)

-- ---- the questions
pub asked-bare : (m : ViewMeaning) (f : CanonicalForm) → f.goal.environment ≡ none → (a : GoalOverKinds) → goal_over_kinds m.view f ≡ Some a → a.environment ≡ none
asked-bare m f e a is = sym (asked-by m.view f.goal.environment f.goal.predicate (all_known f.kinds) a is).environment_is ∙ e

-- where solutions are looked for does not depend on whether a goal is decided
pub same-place : (V : World) (crate : ℕ) (x y : Bool) (p : SolutionPlace (record { view = V; crate = crate; is_sound = x }))
    → (q : SolutionPlace (record { view = V; crate = crate; is_sound = y })) × ((r : Reference) → proved_at p r → proved_at q r)
same-place V crate x y (by_view crates begin) = (by_view crates begin, λ r h. h)
same-place V crate x y (in_set w) = (in_set (record { set = w.set; views = w.views; rank = w.rank; linked = w.linked; numbers = w.numbers; crates = w.crates; holds = w.holds }), λ r h. h)

pub keep-worlds : KeepWorlds
keep-worlds applicable same m PostAnalysis f heard q came e x =
    let start = begin (kinds_known f.kinds) in
    let plan = plan_for applicable same start m PostAnalysis (goal_over_kinds m.view f) in
    let only = plain-only applicable same start m (goal_over_kinds m.view f) (λ a is. asked-bare m f x.no_clauses a is) in
    let bare =
    questions_so frame_tables IsBare HasNone kept-tables (solver_handled applicable same m PostAnalysis f) (begin-made (kinds_known f.kinds), x.no_placeholders)
    (λ seen c is. wanted-only frame_tables AreBare (after frame_tables plan seen) c (after-only frame_tables AreBare plan seen only) is) heard q came e in
    (record { crates = x.crates; begin = x.begin; sized_alone = x.sized_alone; no_clauses = bare.0; no_placeholders = bare.1 }, λ g p. p)
keep-worlds applicable same m Coherence f heard q came e x =
    let start = begin (kinds_known f.kinds) in
    let plan = plan_for applicable same start m Coherence (goal_over_kinds m.view f) in
    let only = plan-only applicable same start m (goal_over_kinds m.view f) (λ a is. asked-bare m f x.no_clauses a is) in
    let bare =
    questions_so frame_tables IsBare HasNone kept-tables (solver_handled applicable same m Coherence f) (begin-made (kinds_known f.kinds), x.no_placeholders)
    (λ seen c is. wanted-only frame_tables AreBare (after frame_tables plan seen) c (after-only frame_tables AreBare plan seen only) is) heard q came e in
    (record { place = x.place; no_clauses = bare.0; no_placeholders = bare.1 }, λ g p. p)
