-- A reference that is asked alone, as a goal in code, and while a context grows.
use Rattle.std.proofs.Common.{◌≡◌, ◌⊎◌, inl, inr, ◌+◌, ℕ, Bool, true, false, List, [], refl, sym, ◌∙◌, ap, subst, Option, Some, Result, Ok, Err}
use Rattle.std.specs.Prelude.{IfOk, IfErr, IsTrue}
use Rattle.std.proofs.lemmas.Result.{IfErr-weaker}
use Rattle.type_terms.specs.Promised.Label.{Sort, of_trait, predicate}
use Rattle.type_terms.specs.Promised.Trees.{none, tree}
use Rattle.type_terms.specs.Promised.Worlds.{Reference}
use Rattle.type_terms.specs.Promised.Handles.{Entry, Keeps}
use Rattle.type_terms.specs.declared.Fault.{Fault}
use Rattle.term_folds.specs.declared.predicate.TraitRef.{TraitRef}
use Rattle.infer_table.specs.Canonical.{GoalTrees, CanonicalForm, canonical_form, HasNoCanonical}
use Rattle.infer_table.specs.Content.{Table, Ready, content, variables_of}
use Rattle.infer_table.specs.Covers.{AreKnown, IsOfKnown}
use Rattle.infer_table.specs.Goals.{goal_resolved, goal_trees}
use Rattle.infer_table.specs.Inputs.{IsWithoutCanonical}
use Rattle.infer_table.specs.Kept.{content-kept}
use Rattle.infer_table.specs.Responses.{AnswerTrees}
use Rattle.infer_table.specs.Solutions.{Assignment, Binding, Solves, resolved}
use Rattle.infer_table.specs.declared.certainty.TypingMode.{TypingMode}
use Rattle.infer_table.specs.declared.certainty.TypingMode.TheVariants.{Coherence}
use Rattle.infer_table.specs.declared.goal.Goal.{Goal}
use Rattle.infer_table.proofs.SolutionLaws.{resolved-none, resolved-rigid}
use Rattle.declarations.specs.Held.{ReferenceHeld}
use Rattle.declarations.specs.Items.{reference_in}
use Rattle.declarations.proofs.Growth.{reference-same}
use Rattle.goal_evaluator.specs.Handler.{Handled}
use Rattle.goal_evaluator.specs.Tables.{frame_tables}
use Rattle.search_graph.specs.Meaning as Search
use Rattle.search_graph.specs.Plain.{IsNotPlain}
use Rattle.search_graph.specs.SearchState.{SearchState}
use Rattle.goal_frames.specs.declared.frame.GoalFrame.{GoalFrame}
use Rattle.goal_frames.specs.declared.store.InputId.{InputId}
use Rattle.goal_frames.specs.declared.store.ResponseId.{ResponseId}
use Rattle.solver_graph.specs.declared.context.SolverCx.{SolverCx}
use Rattle.solver_graph.specs.declared.outcome.GoalEvaluation.{GoalEvaluation}
use Rattle.solver_graph.specs.declared.outcome.RootError.{RootError}
use Rattle.solver_graph.specs.declared.outcome.RootError.TheVariants as Root
use Rattle.solver_graph.specs.declared.outcome.RootError.TheVariants.{Conflict}
use Rattle.solver_graph.specs.Contexts.{Asked, entries_of}
use Rattle.solver_graph.specs.Evaluations.{IsFoundBySearch, asked_in}
use Rattle.solver_graph.specs.Roots.{AtProvedSolutions, fact_under}
use Rattle.solver_graph.specs.Searching.{of_term, solver_meaning}
use Rattle.solver_graph.specs.Shortages.{ContextFullAtLimit, RootFullAtLimit}
use Rattle.goal_frames.specs.Meanings.{HandlerMeaning}
use Rattle.pair_checks.specs.Impossible.{alone, resolved_alone, asked_alone, HasNoProofInWorlds, IsImpossible, SearchLeavesOpen, IsNoRefusal}

-- ---- what became of a goal
-- what holds where a call says true, or false
pub if-true : (E : Type 0) (P : Type 0) (r : Result Bool E) → (r ≡ Ok true → P) → IfOk r (λ b. IsTrue b → P)
if-true E P (Ok true) f = λ _. f refl
if-true E P (Ok false) f = λ e. absurd (never e)
  where
    never : IsTrue false → ⊥
    never e = cc
if-true E P (Err e) f = tt

pub if-false : (E : Type 0) (P : Type 0) (r : Result Bool E) → (r ≡ Ok false → P) → IfOk r (λ b. b ≡ false → P)
if-false E P (Ok false) f = λ _. f refl
if-false E P (Ok true) f = λ e. absurd (never e)
  where
    never : true ≡ false → ⊥
    never e = cc
if-false E P (Err e) f = tt

-- what is no refusal has an answer, or is a conflict
pub left-open : (P : GoalEvaluation → Type 0) (A Q : Type 0) (e : Result GoalEvaluation RootError) → IfOk e P → ((x : GoalEvaluation) → P x → A) → (e ≡ Err Conflict → Q) → IsNoRefusal e → A ⊎ Q
left-open P A Q (Ok x) h f g (inl k) = inl (f x h)
left-open P A Q (Ok x) h f g (inr k) = cc
left-open P A Q (Err c) h f g (inl k) = cc
left-open P A Q (Err c) h f g (inr k) = inr (g k)

-- a fault that is handed out of an evaluation
pub full-inside : {Handler A : Type 0} (c : SolverCx Handler) (e : Result GoalEvaluation RootError) (r : Result A Fault) → IfErr e (RootFullAtLimit c) → IfErr r (λ fault. e ≡ Err (Root.Fault fault))
    → IfErr r (ContextFullAtLimit c)
full-inside c e r h is = IfErr-weaker r (λ fault. e ≡ Err (Root.Fault fault)) (ContextFullAtLimit c) (λ fault same q. subst (λ z. IfErr z (RootFullAtLimit c)) same h (ap Root.Fault q)) is

-- ---- what was asked, as a goal in code
-- a goal without where-clauses is its reference alone
pub goal-is-alone : (es : List Entry) (g : Goal) (r : TraitRef) → g.param_env.items ≡ [] → g.predicate.trait_ref ≡ r → goal_trees es g ≡ alone (reference_in es r)
goal-is-alone es g r e f = cc

-- what is known of the goal, part by part
abbrev NoProofOf : (TypingMode → CanonicalForm → Handled frame_tables) → (Sort → ℕ) → List Binding → GoalTrees → Type 0
NoProofOf handled counts bs g =
    IsWithoutCanonical (goal_resolved bs g) → AreKnown counts (goal_resolved bs g).environment → AreKnown counts (goal_resolved bs g).predicate → IsOfKnown counts bs
    → let h = handled Coherence (canonical_form (goal_resolved bs g)) in
    (x : h.World) (s : Assignment) → Solves s bs → h.Proves x (fact_under s g) → ⊥

resolved-alone : (bs : List Binding) (r : Reference) → resolved bs (alone r).predicate ≡ tree (predicate (of_trait r.trait)) (resolved bs r.args) none
resolved-alone bs r = resolved-rigid bs (predicate (of_trait r.trait)) r.args none refl ∙ ap (λ o. tree (predicate (of_trait r.trait)) (resolved bs r.args) o) (resolved-none bs)

-- a goal that has no proof, asked alone
pub alone-has-none : (handled : TypingMode → CanonicalForm → Handled frame_tables) (es : List Entry) (t : Table) (g : Goal) (r : TraitRef) → goal_trees es g ≡ alone (reference_in es r)
    → AtProvedSolutions handled Coherence es t g (λ s. ⊥) → HasNoProofInWorlds handled es t r
alone-has-none handled es t g r e f = λ k o.
    let bs = content es t.values in
    let at = resolved-alone bs (reference_in es r) in
    let whole : NoProofOf handled (variables_of t) bs (goal_trees es g) = λ c x p q. f (record { clean = c; environment_known = x; predicate_known = p; table_known = q }) in
    subst (NoProofOf handled (variables_of t) bs) e whole
    (record { environment = subst HasNoCanonical (sym (resolved-none bs)) tt; predicate = subst HasNoCanonical (sym at) (o.clean, tt) })
    (subst (AreKnown (variables_of t)) (sym (resolved-none bs)) tt) (subst (AreKnown (variables_of t)) (sym at) (o.known, tt)) k

-- ---- while a context grows
same-resolved : (bs cs : List Binding) (g h : Reference) → bs ≡ cs → g ≡ h → goal_resolved bs (alone g) ≡ goal_resolved cs (alone h)
same-resolved bs cs g h p q = cc

module _ (old new : List Entry) (k : Keeps old new) (t : Table) (ready : Ready old t) (r : TraitRef) (held : ReferenceHeld old r) where
  pub resolved-later : resolved_alone new t r ≡ resolved_alone old t r
  resolved-later = same-resolved (content new t.values) (content old t.values) (reference_in new r) (reference_in old r) (content-kept old new t.values k ready.held) (reference-same old new k r held)

  pub asked-later : asked_alone new t r ≡ asked_alone old t r
  asked-later = ap (λ g. (Coherence, canonical_form g)) resolved-later

-- without a proof in the words of bindings and references
abbrev NoProofAt : (TypingMode → CanonicalForm → Handled frame_tables) → (Sort → ℕ) → List Binding → Reference → Type 0
NoProofAt handled counts bs g =
    IsOfKnown counts bs → AreKnown counts (resolved bs g.args) → HasNoCanonical (resolved bs g.args) → let h = handled Coherence (canonical_form (goal_resolved bs (alone g))) in
    (x : h.World) (s : Assignment) → Solves s bs → h.Proves x (fact_under s (alone g)) → ⊥

module _ {Handler : Type 0} (handler : HandlerMeaning Handler) where
  abbrev m : Search.Meaning (SolverCx Handler) InputId (Option ResponseId) GoalFrame
  m = solver_meaning handler

  abbrev AnsweredAt : AnswerTrees → handler.goals.World → ℕ → Asked → Type 0
  AnsweredAt a w depth g = IsFoundBySearch m w depth g (Some a)

  abbrev OpenAt : handler.goals.World → ℕ → Asked → Type 0
  OpenAt w depth g = ((a : AnswerTrees) × AnsweredAt a w depth g) ⊎ IsNotPlain m w (depth + 1) g

  -- a goal in code is left open as its reference alone is
  pub still-open : (c : SolverCx Handler) (s : SearchState) (t : Table) (g : Goal) (r : TraitRef) → goal_trees (entries_of c) g ≡ alone (reference_in (entries_of c) r)
      → OpenAt (m.world c) s.root_depth (asked_in Coherence (entries_of c) t g) → SearchLeavesOpen handler c s t r
  still-open c s t g r e x = subst (λ z. OpenAt (m.world c) s.root_depth (Coherence, canonical_form z)) (ap (goal_resolved (content (entries_of c) t.values)) e) x

  at-all : (P : handler.goals.World → ℕ → Asked → Type 0) (w v : handler.goals.World) (d e : ℕ) (g h : Asked) → w ≡ v → d ≡ e → g ≡ h → P w d g → P v e h
  at-all P w v d e g h p q r x = subst (λ z. P z e h) p (subst (λ z. P w z h) q (subst (P w d) r x))

  -- what is said in a context that has grown, by a graph of the same depth and over the same table, is so in the one before
  module _ (c d : SolverCx Handler) (k : Search.KeepsContext m c d) (s u : SearchState) (depth : u.root_depth ≡ s.root_depth) (t v : Table) (same : v ≡ t) (tr : Ready (entries_of c) t)
      (r : TraitRef) (held : ReferenceHeld (entries_of c) r) where
    entries : Keeps (entries_of c) (entries_of d)
    entries = λ i e h. k.held (of_term i e) h

    asked : asked_alone (entries_of d) t r ≡ asked_alone (entries_of c) t r
    asked = asked-later (entries_of c) (entries_of d) entries t tr r held

    pub open-before : SearchLeavesOpen handler d u v r → SearchLeavesOpen handler c s t r
    open-before x = at-all OpenAt _ _ _ _ _ _ k.world depth asked (subst (λ z. SearchLeavesOpen handler d u z r) same x)

    pub impossible-before : IsImpossible handler d v r → IsImpossible handler c t r
    impossible-before f = λ o x.
        let there = subst (λ z. IsImpossible handler d z r) same f in
        let now : NoProofAt (handler.goals.handled (handler.world d.handler (entries_of d))) (variables_of t) (content (entries_of d) t.values) (reference_in (entries_of d) r) = λ a b e. there a (record { known = b; clean = e }) in
        let one = subst (λ w. NoProofAt (handler.goals.handled w) (variables_of t) (content (entries_of d) t.values) (reference_in (entries_of d) r)) k.world now in
        let two = subst (λ bs. NoProofAt (handler.goals.handled (handler.world c.handler (entries_of c))) (variables_of t) bs (reference_in (entries_of d) r)) (content-kept (entries_of c) (entries_of d) t.values entries tr.held) one in
        subst (NoProofAt (handler.goals.handled (handler.world c.handler (entries_of c))) (variables_of t) (content (entries_of c) t.values)) (reference-same (entries_of c) (entries_of d) entries r held) two o x.known x.clean
