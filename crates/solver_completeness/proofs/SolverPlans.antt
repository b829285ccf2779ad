-- The solver's plans evaluate the candidates of a goal without inference variables like exact plans.
use Rattle.infer_table.specs.declared.certainty.TypingMode.{TypingMode}
use Rattle.std.proofs.Common.{◌≡◌, ℕ, Bool, true, false, not, ◌||◌, if◌then◌else◌, List, [], ◌∷◌, ◌++◌, map, refl, sym, ◌∙◌, ap, subst, Option, Some, None, zero, suc}
use Rattle.type_terms.specs.Promised.Label.{of_type, canonical}
use Rattle.type_terms.specs.Promised.Trees.{Trees, none, tree}
use Rattle.infer_table.specs.Canonical.{CanonicalForm}
use Rattle.infer_table.specs.Responses.{AnswerTrees}
use Rattle.infer_table.specs.declared.canonical.CanonicalVarKind.{CanonicalVarKind}
use Rattle.infer_table.specs.declared.canonical.CanonicalVarKind.TheVariants.{Ty, PlaceholderTy, Const, PlaceholderConst, Region}
use Rattle.infer_table.specs.declared.certainty.Certainty.{Certainty}
use Rattle.infer_table.specs.declared.certainty.TypingMode.TheVariants.{Coherence, PostAnalysis}
use Rattle.goal_evaluator.specs.Candidate.{answer}
use Rattle.goal_evaluator.specs.Plans.{Plan, each_of, came, if_refused, first_alone}
use Rattle.goal_evaluator.specs.Merge.{responses}
use Rattle.goal_evaluator.specs.FrameTables.{FrameTable, kind_at, kinds_known}
use Rattle.goal_evaluator.specs.TableOperations.{begin}
use Rattle.goal_evaluator.proofs.TableBeginning.{begin-made}
use Rattle.goal_evaluator.specs.Tables.{frame_tables}
use Rattle.solver_completeness.specs.ClosedTables.{AreClosed, IsClosedKind}
use Rattle.solver_completeness.specs.Exact.{WereConsidered, IsMadeOfResponses}
use Rattle.solver_completeness.proofs.ClosedLaws.{closed_tables_are_lawful}
use Rattle.solver_completeness.proofs.ExactPlans.{IsExactFrom, left_at, goes, makes, EndsSo, each-ends, ends-so}
use Rattle.solver_completeness.proofs.Listed.{each-exact}
use Rattle.solver_completeness.proofs.Merging.{merged, merged-one, merged-some, merged-bare}
use Rattle.candidate_model.specs.Meaning.{ViewMeaning}
use Rattle.candidate_model.specs.Knowing.{is_knowable}
use Rattle.candidate_model.specs.Asking.{GoalOverKinds, goal_over_kinds, all_known, clauses, self_of, begins_unknown, is_unknown_kind}
use Rattle.candidate_model.specs.Candidates.{Candidate, unknowable, by_clauses, built_in, by_impls, by_objects}
use Rattle.candidate_model.specs.Cover.{all_candidates}
use Rattle.candidate_model.specs.Solver.{SolverPast, everything, preferred, is_settled, in_coherence, outside_coherence, plan_for, solver_planned, solver_handled, by_mode}
use Rattle.candidate_model.proofs.Cover.{asked-by, known-kinds}
use Rattle.candidate_model.proofs.SoundCandidates.{kinds-whole}
use Rattle.solver_completeness.specs.SolverPlans.{specs_in_coherence, specs_outside, GoesThrough, PlansAreExact}
use Rattle.solver_completeness.proofs.Preferences.{preferred-exact, settled-heard, MergesSo, preferred-ends}

-- some are considered, and then the plan goes on with others
pub each-then : (first others : List Candidate) (go : SolverPast → Plan frame_tables) (seen : SolverPast) → ((later : SolverPast) → IsExactFrom frame_tables others later (go later))
    → IsExactFrom frame_tables (first ++ others) seen (each_of frame_tables first go seen)
each-then [] others go seen h = h seen
each-then (c ∷ first) others go seen h = ([], first ++ others, refl, λ n. refl, λ a n. each-then first others go (came frame_tables c a n ∷ seen) h)

module _ (applicable : AnswerTrees → Bool) (same : AnswerTrees → AnswerTrees → Bool) (begin_table : FrameTable) (silent : (c : Certainty) → frame_tables.has_values (frame_tables.respond begin_table c) ≡ false) where
  abbrev Joined : List AnswerTrees → Option AnswerTrees
  Joined rs = merged frame_tables applicable same begin_table rs

  -- the one response of the first candidate is the answer, whatever is left
  one-made : (left : List Candidate) (seen : SolverPast) (r : AnswerTrees) → responses frame_tables seen ≡ r ∷ [] → IsMadeOfResponses frame_tables left seen (Joined (responses frame_tables seen))
  one-made left seen r e = record {
    refused = λ n. absurd (never (sym n ∙ e));
    answers = λ x xs n. let z = merged-some frame_tables applicable same begin_table x xs in (z.0, ap Joined n ∙ z.1);
    bare = λ h. merged-bare frame_tables applicable same begin_table silent (responses frame_tables seen) h;
    only = λ x n i. ap Joined n ∙ merged-one frame_tables applicable same begin_table x;
  }
    where
      never : [] ≡ r ∷ [] → ⊥
      never q = absurd (cc)

  module _ (m : ViewMeaning) (a : GoalOverKinds) where
    abbrev all : List Candidate
    all = all_candidates m.view a

    -- after the unknowable candidate
    after-first : (o : Option AnswerTrees) (n : ℕ)
        → IsExactFrom frame_tables all (came frame_tables (unknowable m.view a) o n ∷ [])
        (if_refused frame_tables (each_of frame_tables all (everything applicable same begin_table) (came frame_tables (unknowable m.view a) o n ∷ [])) (everything applicable same begin_table (came frame_tables (unknowable m.view a) o n ∷ [])) o)
    after-first None n = each-exact frame_tables applicable same begin_table silent all (came frame_tables (unknowable m.view a) None n ∷ [])
    after-first (Some r) n = one-made all (came frame_tables (unknowable m.view a) (Some r) n ∷ []) r refl

    pub coherence-exact : IsExactFrom frame_tables (specs_in_coherence m a) [] (in_coherence applicable same begin_table m.view m.crate a)
    coherence-exact = by (is_knowable m.view m.crate a.reference)
      where
        by : (b : Bool)
            → IsExactFrom frame_tables (if b then all else unknowable m.view a ∷ all) []
            (if b then each_of frame_tables all (everything applicable same begin_table) []
            else first_alone frame_tables (unknowable m.view a) (λ seen. each_of frame_tables all (everything applicable same begin_table) seen) (everything applicable same begin_table) [])
        by true = each-exact frame_tables applicable same begin_table silent all []
        by false = ([], all, refl, λ n. refl, after-first)

    abbrev late : List Candidate
    late = by_impls m.view a m.view.impls ++ by_objects m.view a

    append-none : (xs : List Candidate) → xs ++ [] ≡ xs
    append-none [] = refl
    append-none (x ∷ xs) = ap (λ z. x ∷ z) (append-none xs)

    after-early : (seen : SolverPast) (b : Bool) → is_settled seen ≡ b
        → IsExactFrom frame_tables late seen (if b then preferred applicable same begin_table seen else each_of frame_tables late (preferred applicable same begin_table) seen)
    after-early seen true e = preferred-exact applicable same begin_table silent late seen (λ n. absurd (settled-heard seen e n))
    after-early seen false e =
        subst (λ z. IsExactFrom frame_tables z seen (each_of frame_tables late (preferred applicable same begin_table) seen)) (append-none late)
        (each-then late [] (preferred applicable same begin_table) seen (λ later. preferred-exact applicable same begin_table silent [] later (λ n. refl)))

    pub outside-exact : IsExactFrom frame_tables (specs_outside m a) [] (outside_coherence applicable same begin_table m.view a)
    outside-exact =
        each-then (by_clauses m.view a (clauses a) ++ built_in m.view a) late
        (λ seen. if is_settled seen then preferred applicable same begin_table seen else each_of frame_tables late (preferred applicable same begin_table) seen) []
        (λ later. after-early later (is_settled later) refl)

    -- each leaf merges one definite yes of a where-clause, and one of another candidate, to a definite yes
    pub outside-ends : EndsSo frame_tables MergesSo [] (outside_coherence applicable same begin_table m.view a)
    outside-ends =
        each-ends frame_tables MergesSo (by_clauses m.view a (clauses a) ++ built_in m.view a)
        (λ seen. if is_settled seen then preferred applicable same begin_table seen else each_of frame_tables late (preferred applicable same begin_table) seen) []
        (λ later. by later (is_settled later))
      where
        by : (seen : SolverPast) (b : Bool) → EndsSo frame_tables MergesSo seen (if b then preferred applicable same begin_table seen else each_of frame_tables late (preferred applicable same begin_table) seen)
        by seen true = preferred-ends applicable same begin_table silent seen
        by seen false = each-ends frame_tables MergesSo late (preferred applicable same begin_table) seen (λ later. preferred-ends applicable same begin_table silent later)

-- ---- goals without unknowns
pub closed-at : (ks : List CanonicalVarKind) → AreClosed (map Some ks) → (i : ℕ) (k : CanonicalVarKind) → kind_at ks i ≡ Some k → IsClosedKind (Some k)
closed-at [] c i k e = absurd (cc)
closed-at (j ∷ ks) c zero k e = subst (λ o. IsClosedKind o) e c.0
closed-at (j ∷ ks) c (suc i) k e = closed-at ks c.1 i k e

no-unknown : (o : Option CanonicalVarKind) → ((k : CanonicalVarKind) → o ≡ Some k → IsClosedKind (Some k)) → is_unknown_kind o ≡ false
no-unknown None h = refl
no-unknown (Some Ty) h = absurd (h Ty refl)
no-unknown (Some PlaceholderTy) h = refl
no-unknown (Some Const) h = refl
no-unknown (Some PlaceholderConst) h = refl
no-unknown (Some Region) h = refl

pub begins-known : (ks : List CanonicalVarKind) → AreClosed (map Some ks) → (t : Trees) → begins_unknown ks t ≡ false
begins-known ks c none = refl
begins-known ks c (tree (canonical of_type i) d o) = no-unknown (kind_at ks i) (λ k e. closed-at ks c i k e)
begins-known ks c (tree l d o) = refl

module _ (applicable : AnswerTrees → Bool) (same : AnswerTrees → AnswerTrees → Bool) (m : ViewMeaning) (sound : m.is_sound ≡ true) (f : CanonicalForm) (a : GoalOverKinds) (is_asked : goal_over_kinds m.view f ≡ Some a) (closed : AreClosed f.kinds) where
  pub kinds-closed : AreClosed (map Some a.kinds)
  kinds-closed = subst AreClosed (sym (kinds-whole f.kinds a.kinds (asked-by m.view f.goal.environment f.goal.predicate (all_known f.kinds) a is_asked).kinds_are)) closed

  pub kinds-are : kinds_known f.kinds ≡ a.kinds
  kinds-are = known-kinds f.kinds a.kinds (asked-by m.view f.goal.environment f.goal.predicate (all_known f.kinds) a is_asked).kinds_are

  begin-closed : AreClosed (map Some (kinds_known f.kinds))
  begin-closed = subst (λ ks. AreClosed (map Some ks)) (sym kinds-are) kinds-closed

  pub silent : (c : Certainty) → frame_tables.has_values (frame_tables.respond (begin (kinds_known f.kinds)) c) ≡ false
  silent c = closed_tables_are_lawful.silent (begin (kinds_known f.kinds)) c (begin-made (kinds_known f.kinds)) begin-closed

  decided : (b d : Bool) → b ≡ true → d ≡ false → (p q : Plan frame_tables) → (if not b || d then p else q) ≡ q
  decided true false e g p q = refl
  decided true true e g p q = absurd (cc)
  decided false d e g p q = absurd (cc)

  module _ (mode : TypingMode) where
    abbrev table : FrameTable
    table = begin (kinds_known f.kinds)

    abbrev by_its_mode : Plan frame_tables
    by_its_mode = by_mode applicable same table m mode a

    pub plan-is : (solver_planned applicable same m mode f).plan ≡ by_its_mode
    plan-is =
        ap (plan_for applicable same table m mode) is_asked
        ∙ decided m.is_sound (begins_unknown a.kinds (self_of a)) sound (begins-known a.kinds kinds-closed (self_of a)) _ by_its_mode

    pub ends-through : EndsSo frame_tables MergesSo [] by_its_mode → (seen : SolverPast) (b : Option AnswerTrees) (ignored : List ℕ)
        → WereConsidered frame_tables (solver_handled applicable same m mode f).next seen → (solver_handled applicable same m mode f).next seen ≡ answer b ignored → MergesSo seen b
    ends-through e seen b ignored w q =
        ends-so frame_tables MergesSo (solver_planned applicable same m mode f).plan (subst (EndsSo frame_tables MergesSo []) (sym plan-is) e) seen b ignored w q

    pub goes-through : (specs : List Candidate) → IsExactFrom frame_tables specs [] by_its_mode → GoesThrough (solver_handled applicable same m mode f) specs
    goes-through specs e =
        let p = (solver_planned applicable same m mode f).plan in
        let x : IsExactFrom frame_tables specs [] p = subst (IsExactFrom frame_tables specs []) (sym plan-is) e in
        record { left = left_at frame_tables p specs x; all = refl; considers = λ seen c w q. goes frame_tables p specs x seen c w q; makes = λ seen b ns w q. makes frame_tables p specs x seen b ns w q }

pub plans-are-exact : PlansAreExact
plans-are-exact applicable same m sound f a e c =
    let quiet = silent applicable same m sound f a e c in
    record {
      in_coherence = goes-through applicable same m sound f a e c Coherence (specs_in_coherence m a) (coherence-exact applicable same (begin (kinds_known f.kinds)) quiet m a);
      outside = goes-through applicable same m sound f a e c PostAnalysis (specs_outside m a) (outside-exact applicable same (begin (kinds_known f.kinds)) quiet m a);
    }
