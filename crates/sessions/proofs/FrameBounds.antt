-- The frames of a session's questions are within numbers of what the crate sees, of the question and of the depth.
use Rattle.std.proofs.Common.{◌≡◌, ◌≤◌, ◌+◌, ◌*◌, ℕ, zero, suc, max, List, [], ◌∷◌, inl, inr, Some, length, false, arith, refl, sym, ◌∙◌, ap, subst}
use Rattle.std.proofs.Math.Nat.{le_refl, mul-le-mul_left}
use Rattle.type_terms.specs.Promised.Label.{Sort, of_type, of_const, of_lifetime}
use Rattle.type_terms.specs.Promised.Trees.{Trees, none, tree, IsA}
use Rattle.type_terms.specs.Promised.Worlds.{World, Reference, TraitDecl}
use Rattle.type_terms.specs.Promised.Proofs.{In}
use Rattle.type_terms.specs.Promised.Handles.{Entry}
use Rattle.infer_table.specs.Canonical.{GoalTrees, canonical_form, canonical_label, goal_leaves, kind_in_clause, kind_of_leaf, relabeled}
use Rattle.infer_table.specs.Goals.{goal_resolved}
use Rattle.infer_table.specs.Responses.{AnswerTrees}
use Rattle.infer_table.specs.Solutions.{Binding}
use Rattle.infer_table.specs.Unification.{TableTrees, table_trees}
use Rattle.infer_table.specs.declared.certainty.TypingMode.{TypingMode}
use Rattle.infer_table.specs.declared.certainty.TypingMode.TheVariants.{Coherence, PostAnalysis}
use Rattle.search_graph.specs.SearchPaths.declared.path_kind.PathKind.{PathKind}
use Rattle.search_graph.specs.declared.delegate.Request.{Request}
use Rattle.search_graph.specs.declared.delegate.Request.TheVariants.{Evaluate, EnterCandidate, FinishCandidate, IgnoreCandidate, Done}
use Rattle.search_graph.specs.declared.delegate.Reply.{Reply}
use Rattle.search_graph.specs.declared.delegate.Reply.TheVariants.{Begin, Result, Entered, Finished, Ignored}
use Rattle.search_graph.specs.Promised.FrameBound.{frame_bound}
use Rattle.search_graph.specs.Computed.{Hears, nothing, also, given, computed, IsGiven, IsComputed, HoldsNoResult}
use Rattle.search_graph.specs.Meaning.{Meaning, IsLawful, IsFair, IsReplyBy, AreReplies}
use Rattle.declarations.specs.Promised.Elaboration.{elaborate}
use Rattle.declarations.specs.Items.{Items, written}
use Rattle.goal_evaluator.specs.declared.TheConstants.{FIXPOINT_STEP_LIMIT}
use Rattle.goal_evaluator.specs.Lists.{Every}
use Rattle.goal_evaluator.specs.Promised.Widths.{count, width}
use Rattle.goal_evaluator.specs.Widths.{number_of, number_of_values, BindingsWithin}
use Rattle.goal_evaluator.proofs.Widths.{AllOne, ArePredicatesWithin, IsWithin, leaf-values-one, predicates-relabeled, predicates-resolved, width-of-predicates, within}
use Rattle.goal_evaluator.proofs.WidthLaws.{put-into-within, makes-canonical as makes-no-bounds}
use Rattle.goal_frames.proofs.HandlerPrograms.{handlers-are-programs}
use Rattle.candidate_model.specs.Facts.{trees_of_clauses}
use Rattle.candidate_model.specs.Promised.Widths.{built_in_rows, clauses_in, declared_width, dyn_bounds, greatest, number_at, supers_of, supertraits_in, width_of}
use Rattle.candidate_model.specs.Solver.{widest_of}
use Rattle.candidate_model.proofs.CandidateWidths.{instance-within}
use Rattle.candidate_model.proofs.DeclaredWidths.{greatest-at}
use Rattle.candidate_model.proofs.Elaborating.{elaborated-so, every-in}
use Rattle.candidate_assembly.specs.Solving.{Solving}
use Rattle.candidate_assembly.specs.SolverLaws.{goals-are-lawful}
use Rattle.candidate_assembly.specs.SolverMeaning.{goals_by_view, solver_by_view}
use Rattle.solver_graph.specs.Askings.{AreTermsOfSorts, AskingsStartFrames, frames_for}
use Rattle.solver_graph.specs.Evaluations.{IsFoundBySearch}
use Rattle.solver_graph.specs.Lawful.{solver-lawful}
use Rattle.solver_graph.specs.Roots.{values_in}
use Rattle.solver_graph.specs.Searching.{solver_meaning}
use Rattle.text_language.specs.Promised.Declarations.{Declarations, Question}
use Rattle.text_lowering.specs.Promised.SeenWorlds.{all_kept, plainly_seen_from, unbound_reference}
use Rattle.text_lowering.specs.Plain.{unbound_references}
use Rattle.text_lowering.specs.Promised.Questions.{variable_kinds}
use Rattle.sessions.specs.Asking.{asked_alone, goal_alone}
use Rattle.sessions.specs.Promised.FrameBounds.{most_frames}
use Rattle.sessions.specs.Goals.{goal_of}
use Rattle.sessions.specs.Promised.Promises.{view_in}
use Rattle.sessions.specs.Proving.{asked_outside, goal_asking}
use Rattle.sessions.specs.Tables.{table_of}
use Rattle.solver_graph.specs.declared.settling.TheConstants.{MAX_ASKINGS}
use Rattle.sessions.proofs.SeenPlainly.{rules-are}
use Rattle.sessions.proofs.ErasedWidths.{IsErasedWorld, clauses-in-erased, declared-erased, plain-width, supertraits-erased}
use Rattle.goal_evaluator.proofs.ListLaws.{Every-map as every-map}

-- ---- what a search finds is no wider than its goal
module _ {C I R F : Type 0} (m : Meaning C I R F) (law : IsLawful m) (w : m.World) where
  no-result-by : (P : m.Goal → m.Answer → Type 0) (q : Request m.Goal m.Answer) (reply : Reply m.Answer) → HoldsNoResult reply → IsReplyBy m P q reply
  no-result-by P (Evaluate h k) Begin quiet = tt
  no-result-by P (Evaluate h k) (Result a) quiet = absurd quiet
  no-result-by P (Evaluate h k) Entered quiet = tt
  no-result-by P (Evaluate h k) (Finished n) quiet = tt
  no-result-by P (Evaluate h k) Ignored quiet = tt
  no-result-by P EnterCandidate reply quiet = tt
  no-result-by P FinishCandidate reply quiet = tt
  no-result-by P (IgnoreCandidate n) reply quiet = tt
  no-result-by P (Done a) reply quiet = tt

  result-by : (P : m.Goal → m.Answer → Type 0) (asked : Request m.Goal m.Answer) (q : m.Goal) (k : PathKind) (a : m.Answer) → asked ≡ Evaluate q k → P q a → IsReplyBy m P asked (Result a)
  result-by P asked q k a e p = subst (λ z. IsReplyBy m P z (Result a)) (sym e) p

  given-fair : (g : m.Goal) (a : m.Answer) → IsGiven m w g a → IsFair m w g a
  given-fair g a (inl e) = subst (IsFair m w g) (sym e) (law.stack_overflow_fair w g)
  given-fair g a (inr (inl e)) = subst (IsFair m w g) (sym e) (law.fixpoint_overflow_fair w g)
  given-fair g a (inr (inr x)) = subst (IsFair m w g) (sym x.1) (law.initial_fair w g x.0)

  heard-fair : {g : m.Goal} {heard : List (Reply m.Answer)} → Hears m w (IsGiven m w) g heard → AreReplies m (IsFair m w) w g heard
  heard-fair nothing = tt
  heard-fair {g = g} (also {heard = heard} {reply = reply} h due quiet) = (due, no-result-by (IsFair m w) (m.asks w g heard) reply quiet, heard-fair h)
  heard-fair {g = g} (given {q = q} {k = k} {heard = heard} {a = a} h e due x) = (due, result-by (IsFair m w) (m.asks w g heard) q k a e (given-fair q a x), heard-fair h)
  heard-fair {g = g} (computed {q = q} {k = k} {heard = heard} {nested = nested} {a = a} h e due x done closed) =
      (due, result-by (IsFair m w) (m.asks w g heard) q k a e (law.done_fair w q nested a (heard-fair x) done), heard-fair h)

  pub computed-fair : (g : m.Goal) (a : m.Answer) → IsComputed m w (IsGiven m w) g a → IsFair m w g a
  computed-fair g a x = elim x.how [ inl y ↦ given-fair g a y | inr y ↦ law.done_fair w g y.0 a (heard-fair y.1) y.2 ]

-- ---- the values of a table
none-counted : (t : Trees) → t ≡ none → suc (count t) ≡ 1
none-counted t e = subst (λ z. suc (count z) ≡ 1) (sym e) refl

one-term : (s : Sort) (t : Trees) → IsA s t → count t ≡ 1
one-term s none h = absurd h
one-term of_lifetime (tree l c o) h = none-counted o h.2
one-term of_type (tree l c o) h = none-counted o h.1
one-term of_const (tree l c o) h = none-counted o h.1

all-one : (n : ℕ) (bs : List Binding) → AreTermsOfSorts bs → BindingsWithin n bs → AllOne n bs
all-one n [] terms h = tt
all-one n (b ∷ bs) terms h = (record { one = one-term b.sort b.value terms.0; within = within n b.value h.0 }, all-one n bs terms.1 h.1)

-- ---- goals of references
less-both : (a b c : ℕ) → a ≤ b → b ≤ c → a ≤ c
less-both a b c h k = omega (arith, h, k)

left-within : (a b n : ℕ) → max a b ≤ n → a ≤ n
left-within a b n h = omega (arith, h)

right-within : (a b n : ℕ) → max a b ≤ n → b ≤ n
right-within a b n h = omega (arith, h)

both-within : (a b n : ℕ) → a ≤ n → b ≤ n → max a b ≤ n
both-within a b n h k = omega (arith, h, k)

args-within : (r : Reference) (n : ℕ) → width_of r ≤ n → (count r.args ≤ n) × IsWithin n r.args
args-within r n h = (left-within (count r.args) (width r.args) n h, within n r.args (right-within (count r.args) (width r.args) n h))

clauses-within : (n : ℕ) (rs : List Reference) → Every (λ r. width_of r ≤ n) rs → ArePredicatesWithin n (trees_of_clauses rs)
clauses-within n [] h = tt
clauses-within n (r ∷ rs) h = let x = args-within r n h.0 in (x.0, x.1, clauses-within n rs h.1)

-- no predicate and no where-clause of the goal is wider
pub record IsGoalWithin (n : ℕ) (g : GoalTrees) : Type 0 where
  pub environment : ArePredicatesWithin n g.environment
  pub predicate : ArePredicatesWithin n g.predicate

goal-of-within : (n : ℕ) (r : Reference) (rs : List Reference) → width_of r ≤ n → Every (λ q. width_of q ≤ n) rs → IsGoalWithin n (goal_of rs r)
goal-of-within n r rs h each = let x = args-within r n h in record { environment = clauses-within n rs each; predicate = (x.0, x.1, tt) }

goal-alone-within : (n : ℕ) (r : Reference) → width_of r ≤ n → IsGoalWithin n (goal_alone r)
goal-alone-within n r h = let x = args-within r n h in record { environment = tt; predicate = (x.0, x.1, tt) }

-- nor is it once a table resolves it
resolved-within : (n : ℕ) (t : TableTrees) (g : GoalTrees) → AllOne n t.bindings → IsGoalWithin n g → IsGoalWithin n (goal_resolved t.bindings g)
resolved-within n t g one h = record {
  environment = predicates-resolved n t.bindings g.environment one h.environment;
  predicate = predicates-resolved n t.bindings g.predicate one h.predicate;
}

form-within : (n : ℕ) (g : GoalTrees) → IsGoalWithin n g → number_of (record { form = canonical_form g; coinductive = false }) ≤ n
form-within n g h =
    let ls = goal_leaves g in
    both-within _ _ n
    (width-of-predicates n (relabeled kind_in_clause (canonical_label ls) g.environment) (predicates-relabeled n kind_in_clause (canonical_label ls) (makes-no-bounds ls) g.environment h.environment))
    (width-of-predicates n (relabeled kind_of_leaf (canonical_label ls) g.predicate) (predicates-relabeled n kind_of_leaf (canonical_label ls) (makes-no-bounds ls) g.predicate h.predicate))

-- the bounds of traits are no wider than what is declared
bounds-within : (V : World) (n : ℕ) → declared_width V ≤ n → (x : TraitDecl) → In x V.traits → (b : Reference) → In b x.bounds → width_of b ≤ n
bounds-within V n h x i b j =
    by _ (supers_of V x) (length x.bounds) (greatest width_of x.bounds) (width_of b) _ _ h
    (greatest-at (λ (y : TraitDecl). max (supers_of V y) (max (length y.bounds) (greatest width_of y.bounds))) V.traits x i) (greatest-at width_of x.bounds b j)
  where
    by : (s p q r w t u : ℕ) → max s (max t u) ≤ n → max p (max q r) ≤ t → w ≤ r → w ≤ n
    by s p q r w t u h f g = omega (arith, h, f, g)

-- so supertraits are no wider than what is declared and the references that have them
elaborated-within : (V : World) (n : ℕ) → declared_width V ≤ n → (rs : List Reference) → Every (λ r. width_of r ≤ n) rs → Every (λ r. width_of r ≤ n) (elaborate V rs)
elaborated-within V n declared rs h =
    elaborated-so V (λ r. width_of r ≤ n) (λ r g x i b j. instance-within n r.args b (args-within r n g).1 (bounds-within V n declared x i b j)) rs h

-- ---- numbers
times-more : (a b c d : ℕ) → a ≤ b → c ≤ d → a * c ≤ b * d
times-more a b c d h k = let x = mul-le-mul_left a k in let y = mul-le-mul_left d h in omega (arith, x, y)

number-more : (V : World) (m n : ℕ) → m ≤ n → number_at V m ≤ number_at V n
number-more V m n h = let x = times-more m n (supertraits_in V) (supertraits_in V) h (le_refl (supertraits_in V)) in omega (arith, x, h)

one-more : (a b : ℕ) → a ≤ b → 1 + a ≤ 1 + b
one-more a b h = omega (arith, h)

frames-more : (limit width more depth : ℕ) → width ≤ more → frame_bound limit width depth ≤ frame_bound limit more depth
unfolding frame_bound
frames-more limit width more zero h = le_refl limit
frames-more limit width more (suc depth) h =
    times-more limit limit (1 + width * frame_bound limit width depth) (1 + more * frame_bound limit more depth) (le_refl limit)
    (one-more (width * frame_bound limit width depth) (more * frame_bound limit more depth)
    (times-more width more (frame_bound limit width depth) (frame_bound limit more depth) h (frames-more limit width more depth h)))

after-more : (a b x y : ℕ) → a ≤ b + x → x ≤ y → a ≤ b + y
after-more a b x y h k = omega (arith, h, k)

after-one : (a b x y k : ℕ) → a ≤ b + x → x ≤ y → a ≤ b + suc k * y
after-one a b x y k h g = omega (arith, h, g)

after-others : (a b x y k : ℕ) → a ≤ b + x + k * y → x ≤ y → a ≤ b + suc k * y
after-others a b x y k h g = omega (arith, h, g)

module _ (s : Solving) (depth n : ℕ) (declared : declared_width s.view ≤ n) where
  abbrev most : ℕ
  most = frame_bound FIXPOINT_STEP_LIMIT (FIXPOINT_STEP_LIMIT * number_at s.view n) depth

  widest-within : (g : GoalTrees) → IsGoalWithin n g → widest_of s.view (canonical_form g) ≤ n
  widest-within g h = both-within _ _ n (form-within n g h) declared

  -- a goal that is asked once
  once-within : (mode : TypingMode) (g : GoalTrees) → IsGoalWithin n g → frames_for solver_by_view s depth (mode, canonical_form g) ≤ most
  once-within mode g h =
      let wide = widest_of s.view (canonical_form g) in
      frames-more FIXPOINT_STEP_LIMIT (FIXPOINT_STEP_LIMIT * number_at s.view wide) (FIXPOINT_STEP_LIMIT * number_at s.view n) depth
      (times-more FIXPOINT_STEP_LIMIT FIXPOINT_STEP_LIMIT (number_at s.view wide) (number_at s.view n) (le_refl FIXPOINT_STEP_LIMIT) (number-more s.view wide n (widest-within g h)))

  -- an answer of the search to it
  found-within : (mode : TypingMode) (g : GoalTrees) (a : AnswerTrees) → IsGoalWithin n g → IsFoundBySearch (solver_meaning solver_by_view) s depth (mode, canonical_form g) (Some a) → number_of_values a.values ≤ n
  found-within mode g a h found =
      let fair = computed-fair (solver_meaning solver_by_view) (solver-lawful solver_by_view (handlers-are-programs goals_by_view goals-are-lawful)) s (mode, canonical_form g) (Some a) found.computed in
      less-both (number_of_values a.values) (widest_of s.view (canonical_form g)) n fair.covers.within (widest-within g h)

  -- a goal that is asked again
  askings-within : (g : GoalTrees) → IsGoalWithin n g → (k : ℕ) (t : TableTrees) (before after : ℕ) → AreTermsOfSorts t.bindings → BindingsWithin n t.bindings
      → AskingsStartFrames solver_by_view PostAnalysis s depth g k t before after → after ≤ before + k * most
  unfolding AskingsStartFrames
  askings-within g h zero t before after terms narrow x = omega (arith, x)
  askings-within g h (suc k) t before after terms narrow (inl x) =
      let now = resolved-within n t g (all-one n t.bindings terms narrow) h in
      after-one after before _ most k x (once-within PostAnalysis (goal_resolved t.bindings g) now)
  askings-within g h (suc k) t before after terms narrow (inr x) =
      let resolved = goal_resolved t.bindings g in
      let now = resolved-within n t g (all-one n t.bindings terms narrow) h in
      let left = put-into-within n t (values_in resolved) x.0 x.2.0 narrow (leaf-values-one n (goal_leaves resolved)) (found-within PostAnalysis resolved x.0 now x.1) x.2.1 in
      after-others after before (frames_for solver_by_view s depth (asked_outside resolved)) most k
      (askings-within g h k x.2.0 (before + frames_for solver_by_view s depth (asked_outside resolved)) after x.2.2 left x.2.3)
      (once-within PostAnalysis resolved now)

-- ---- questions
each-in : (xs all : List Reference) (n : ℕ) → ((r : Reference) → In r xs → In r all) → greatest width_of all ≤ n → Every (λ r. width_of (unbound_reference r) ≤ n) xs
each-in xs all n f h =
    every-in (λ r. width_of (unbound_reference r) ≤ n) xs
    (λ r i. subst (λ z. z ≤ n) (sym (plain-width all_kept r)) (less-both (width_of r) (greatest width_of all) n (greatest-at width_of all r (f r i)) h))

-- what the solver of a session solves by, without lifetimes, is what the answers speak of
pub seen-erased-world : (es : List Entry) (items : Items) (d : Declarations) (c : ℕ) → written es items ≡ plainly_seen_from d c → IsErasedWorld (written es items) (view_in d c)
seen-erased-world es items d c e =
    let all = rules-are es items d c e in
    record { structs = ap (λ (V : World). V.structs) all; traits = ap (λ (V : World). V.traits) all; impls = ap (λ (V : World). V.impls) all }

number-erased : (V W : World) → IsErasedWorld V W → (n : ℕ) → number_at V n ≡ number_at W n
number-erased V W e n =
    ap (λ z. z + (supertraits_in V + (built_in_rows n + dyn_bounds V n))) (clauses-in-erased V W e)
    ∙ ap (λ z. clauses_in W + (z + (built_in_rows n + (z + n * z)))) (supertraits-erased V W e)

module _ (s : Solving) (W : World) (is : IsErasedWorld s.view W) (depth : ℕ) (q : Question) (before after : ℕ) where
  -- a question's reference alone
  pub refutation-within : after ≤ before + frames_for solver_by_view s depth (asked_alone (unbound_reference q.asked)) → after ≤ before + most_frames W depth (q.asked ∷ [])
  refutation-within x =
      let n = max (greatest width_of (q.asked ∷ [])) (declared_width W) in
      let declared = subst (λ z. z ≤ n) (sym (declared-erased s.view W is)) (right-within (greatest width_of (q.asked ∷ [])) (declared_width W) n (le_refl n)) in
      let narrow = each-in (q.asked ∷ []) (q.asked ∷ []) n (λ r i. i) (left-within (greatest width_of (q.asked ∷ [])) (declared_width W) n (le_refl n)) in
      subst (λ z. after ≤ before + frame_bound FIXPOINT_STEP_LIMIT (FIXPOINT_STEP_LIMIT * z) depth) (number-erased s.view W is n)
      (after-more after before _ _ x (once-within s depth n declared Coherence (goal_alone (unbound_reference q.asked)) (goal-alone-within n (unbound_reference q.asked) narrow.0)))

  -- a question's reference under its where-clauses
  pub question-within : AskingsStartFrames solver_by_view PostAnalysis s depth (goal_asking s.view q) MAX_ASKINGS (table_trees [] (table_of (variable_kinds q))) before after
      → after ≤ before + MAX_ASKINGS * most_frames W depth (q.asked ∷ q.clauses)
  question-within x =
      let n = max (greatest width_of (q.asked ∷ q.clauses)) (declared_width W) in
      let declared = subst (λ z. z ≤ n) (sym (declared-erased s.view W is)) (right-within (greatest width_of (q.asked ∷ q.clauses)) (declared_width W) n (le_refl n)) in
      let narrow = each-in (q.asked ∷ q.clauses) (q.asked ∷ q.clauses) n (λ r i. i) (left-within (greatest width_of (q.asked ∷ q.clauses)) (declared_width W) n (le_refl n)) in
      let clauses = elaborated-within s.view n declared (unbound_references q.clauses) (every-map (λ r. width_of r ≤ n) unbound_reference q.clauses narrow.1) in
      subst (λ z. after ≤ before + MAX_ASKINGS * frame_bound FIXPOINT_STEP_LIMIT (FIXPOINT_STEP_LIMIT * z) depth) (number-erased s.view W is n)
      (askings-within s depth n declared (goal_asking s.view q) (goal-of-within n (unbound_reference q.asked) (elaborate s.view (unbound_references q.clauses)) narrow.0 clauses)
      MAX_ASKINGS (table_trees [] (table_of (variable_kinds q))) before after tt tt x)
