-- Of a decided question the solver says neither `Unproved` nor `Maybe` wrongly.
use Rattle.std.proofs.Common.{◌≡◌, ℕ, IsTrue, true, false, not, ◌||◌, List, [], ◌∷◌, map, Option, Some, None, inl, inr, refl, sym, ◌∙◌, ap, subst}
use Rattle.type_terms.specs.Promised.Answers.{SingleWay, is_variable}
use Rattle.type_terms.specs.Promised.Label.{Label, Sort, of_type, of_const, of_lifetime, infer, canonical, bound}
use Rattle.type_terms.specs.Promised.Proofs.{HasProof}
use Rattle.type_terms.specs.Promised.Erased.{erased_reference}
use Rattle.type_terms.specs.Promised.Trees.{Trees, none, tree, some_node}
use Rattle.type_terms.specs.Promised.Worlds.{World, Reference}
use Rattle.type_terms.proofs.Members.{in-nothing}
use Rattle.type_terms.specs.Made.{terms}
use Rattle.type_terms.proofs.Made.{right, false-true}
use Rattle.infer_table.specs.Canonical.{GoalTrees}
use Rattle.infer_table.specs.Certainties.{is_certain}
use Rattle.infer_table.specs.Responses.{AnswerTrees}
use Rattle.infer_table.specs.Content.{Table, Ready, content}
use Rattle.infer_table.specs.Solutions.{AllValued, Binding, HasValues, replace, resolved}
use Rattle.infer_table.specs.Unification.{table_trees}
use Rattle.infer_table.proofs.ContentFacts.{valued}
use Rattle.goal_evaluator.specs.Law.{IsYes}
use Rattle.goal_evaluator.specs.TableAnswers.{has_values}
use Rattle.goal_evaluator.specs.Tables.{frame_tables}
use Rattle.goal_evaluator.proofs.Labels.{IsGoodLabel, made-labels}
use Rattle.goal_evaluator.proofs.Reading.{EachLabel}
use Rattle.solver_graph.specs.Roots.{left_by}
use Rattle.declarations.specs.Promised.Elaboration.{elaborate}
use Rattle.declarations.specs.Items.{written}
use Rattle.text_language.specs.Promised.Declarations.{Declarations, Question}
use Rattle.text_lowering.specs.Promised.SeenWorlds.{unbound_reference}
use Rattle.text_lowering.specs.Plain.{unbound_references}
use Rattle.text_lowering.specs.Promised.Questions.{variable_kinds}
use Rattle.text_lowering.specs.Promised.Questions.{IsQuestion}
use Rattle.candidate_assembly.specs.Solving.{Solving}
use Rattle.candidate_assembly.specs.SolverMeaning.{solver_by_view}
use Rattle.sessions.specs.Answers.{IsRightOf, TellsProof}
use Rattle.sessions.specs.Decided.{IsAnsweredRightly, IsAnsweredExactly}
use Rattle.sessions.specs.DecidedAnswers.{OtherAnswersAreRight}
use Rattle.sessions.specs.Fitting.{sorts_in}
use Rattle.sessions.specs.Goals.{goal_of, is_fixed, are_fixed}
use Rattle.sessions.specs.Promised.Given.{answer_in}
use Rattle.sessions.specs.Promised.Promises.{EndsWithin, HasFewRules, view_in}
use Rattle.sessions.specs.Foreign.{is_unknown_term}
use Rattle.sessions.specs.Proving.{is_bound_term, goal_asking, speak_of_own, HasUnknowns, IsNotSettled, IsRefusedGoal, IsUnsettledGoal}
use Rattle.type_terms.specs.Promised.Handles.{Entry}
use Rattle.type_terms.specs.Promised.Questions as answers
use Rattle.sessions.specs.Questions.{IsFormedAsWritten}
use Rattle.sessions.specs.Sessions.{IsSolvingOf}
use Rattle.sessions.specs.Promised.Subjects.{IsOfText}
use Rattle.sessions.specs.Tables.{table_of}
use Rattle.sessions.specs.declared.answers.ProveAnswer.TheVariants.{Maybe}
use Rattle.sessions.proofs.BareAnswers.{bare-is-left}
use Rattle.sessions.proofs.CoveringAnswers.{maybe-covers, unsolved}
use Rattle.sessions.proofs.DecidedAnswers.{decided-are-answered, short-are-answered, formed-so, as-asked, as-written}
use Rattle.sessions.proofs.OpaqueTerms.{node}
use Rattle.sessions.proofs.ProvedQuestions.{one-alone, speaks}
use Rattle.sessions.proofs.ExactRefusals.{not-so}

-- ---- terms in which nothing may get a value but lifetimes, which get none
abbrev pub IsFixed : Label → Type 0
IsFixed l = IsGoodLabel is_fixed l

-- resolving changes none of them
lifetime-stays : (k : Sort) (v w : ℕ) (r c o : Trees) → HasValues k → replace k v r (tree (infer of_lifetime w) c o) ≡ tree (infer of_lifetime w) c (replace k v r o)
lifetime-stays of_type v w r c o h = refl
lifetime-stays of_const v w r c o h = refl
lifetime-stays of_lifetime v w r c o h = absurd h

replaced-stays : (k : Sort) (v : ℕ) (r t : Trees) → HasValues k → EachLabel IsFixed t → replace k v r t ≡ t
replaced-stays k v r none b h = refl
replaced-stays k v r (tree (infer of_type w) c o) b h = absurd (false-true (h.0 refl))
replaced-stays k v r (tree (infer of_const w) c o) b h = absurd (false-true (h.0 refl))
replaced-stays k v r (tree (infer of_lifetime w) c o) b h = lifetime-stays k v w r c o b ∙ ap (tree (infer of_lifetime w) c) (replaced-stays k v r o b h.2)
replaced-stays k v r (tree l c o) b h = node l (replaced-stays k v r c b h.1) (replaced-stays k v r o b h.2)

pub resolved-stays : (bs : List Binding) → AllValued bs → (t : Trees) → EachLabel IsFixed t → resolved bs t ≡ t
resolved-stays [] v t h = refl
resolved-stays (b ∷ bs) v t h = ap (replace b.sort b.var (resolved bs b.value)) (resolved-stays bs v.1 t h) ∙ replaced-stays b.sort b.var (resolved bs b.value) t v.0 h

-- and none is bound
not-bound : (l : Label) → IsFixed l → is_bound_term l ≡ false
not-bound (canonical s i) g = absurd (false-true (g refl))
not-bound (bound s j i) g = absurd (false-true (g refl))
not-bound l g = refl

none-bound : (t : Trees) → EachLabel IsFixed t → some_node is_bound_term t ≡ false
none-bound none h = refl
none-bound (tree l c o) h =
    ap (λ b. b || some_node is_bound_term c || some_node is_bound_term o) (not-bound l h.0) ∙ ap (λ b. b || some_node is_bound_term o) (none-bound c h.1) ∙ none-bound o h.2

-- and none is unknown
not-unknown : (l : Label) → IsFixed l → is_unknown_term l ≡ false
not-unknown (infer of_type i) g = absurd (false-true (g refl))
not-unknown (infer of_const i) g = absurd (false-true (g refl))
not-unknown (infer of_lifetime i) g = refl
not-unknown l g = refl

none-unknown : (t : Trees) → EachLabel IsFixed t → some_node is_unknown_term t ≡ false
none-unknown none h = refl
none-unknown (tree l c o) h =
    ap (λ b. b || some_node is_unknown_term c || some_node is_unknown_term o) (not-unknown l h.0) ∙ ap (λ b. b || some_node is_unknown_term o) (none-unknown c h.1) ∙ none-unknown o h.2

-- a definite yes holds no values
yes-is-bare : (a : AnswerTrees) → IsYes frame_tables (Some a) → has_values a ≡ false
yes-is-bare a y = not-so (has_values a) (right (is_certain a.certainty) (not (has_values a)) y)

some-none : (a : AnswerTrees) → Some a ≡ None → ⊥
some-none a e = cc

-- ---- a reference under where-clauses
module _ (d : Declarations) (c : ℕ) (s : Solving) (of : IsSolvingOf d c s) (E : List Reference) (r : Reference)
    (formed : IsFormedAsWritten (written of.entries of.declarations) (sorts_in of.declarations) E r) where
  abbrev goal_so : GoalTrees
  goal_so = goal_of (elaborate s.view E) r

  -- no type and no constant that it asks about is unknown or bound
  pub asked-fixed : are_fixed r.args ≡ true
  asked-fixed = (formed.asked [] refl (λ x t i j. absurd (in-nothing x i))).terms

  goal-fixed : EachLabel IsFixed goal_so.predicate
  goal-fixed = (λ o. absurd (false-true o), made-labels is_fixed terms r.args asked-fixed, tt)

  -- no table gives values with which something bound occurs
  none-bound-there : ((es : List Entry) × (t : Table) × Ready es t × (some_node is_bound_term (resolved (content es t.values) goal_so.predicate) ≡ true)) → ⊥
  none-bound-there h =
      let stays = resolved-stays (content h.0 h.1.values) (valued h.0 h.1.values) goal_so.predicate goal-fixed in
      false-true (sym (ap (some_node is_bound_term) stays ∙ none-bound goal_so.predicate goal-fixed) ∙ h.3)

-- ---- asked over the table of unknowns of these kinds
module _ (d : Declarations) (text : IsOfText d) (c : ℕ) (s : Solving) (of : IsSolvingOf d c s) (E : List Reference) (r : Reference)
    (formed : IsFormedAsWritten (written of.entries of.declarations) (sorts_in of.declarations) E r) (ks : List Sort) (depth : ℕ)
    (single : SingleWay depth (view_in d c) (map erased_reference E) (erased_reference r)) where
  abbrev V : World
  V = view_in d c

  abbrev own : List Reference
  own = map erased_reference E

  abbrev goal : GoalTrees
  goal = goal_of (elaborate s.view E) r

  answered : IsAnsweredRightly s depth V E r
  answered = decided-are-answered d text c s of E r formed depth single

  -- the table refuses no definite yes
  pub refused-unproved : IsRefusedGoal solver_by_view s depth ks goal
      → HasProof V own (erased_reference r) → ⊥
  refused-unproved h proof = by h.0 h.2 (answered.found h.0 h.1)
    where
      by : (a : Option AnswerTrees) → left_by (table_trees [] (table_of ks)) goal a ≡ None → IsRightOf V own (erased_reference r) a → ⊥
      by a left (inr x) = x.0 proof
      by (Some a) left (inl x) = bare-is-left (table_trees [] (table_of ks)) refl goal a (yes-is-bare a x.1) left
      by None left (inl x) = x.1

  pub never-unsettled : IsUnsettledGoal solver_by_view s depth goal → ⊥
  never-unsettled (inl h) = answered.plainly h
  never-unsettled (inr (inl h)) = by (answered.found (Some h.0) h.1)
    where
      by : IsRightOf V own (erased_reference r) (Some h.0) → ⊥
      by (inl x) = false-true (sym h.2 ∙ x.1)
      by (inr x) = some-none h.0 x.1
  never-unsettled (inr (inr h)) = none-bound-there d c s of E r formed h

-- ---- of short chains
module _ (d : Declarations) (text : IsOfText d) (c : ℕ) (s : Solving) (of : IsSolvingOf d c s) (E : List Reference) (r : Reference)
    (formed : IsFormedAsWritten (written of.entries of.declarations) (sorts_in of.declarations) E r) (ks : List Sort) (depth : ℕ)
    (short : EndsWithin depth (view_in d c) (map erased_reference E) (erased_reference r)) where
  abbrev Proved : Type 0
  Proved = HasProof (view_in d c) (map erased_reference E) (erased_reference r)

  abbrev goal_then : GoalTrees
  goal_then = goal_of (elaborate s.view E) r

  exact : IsAnsweredExactly s depth (view_in d c) E r
  exact = short-are-answered d text c s of E r formed depth short

  -- a refusal has no proof
  refused-exactly : IsRefusedGoal solver_by_view s depth ks goal_then → Proved → ⊥
  refused-exactly h = by h.0 h.2 (exact.found h.0 h.1)
    where
      by : (a : Option AnswerTrees) → left_by (table_trees [] (table_of ks)) goal_then a ≡ None → TellsProof Proved a → Proved → ⊥
      by None left told = told
      by (Some a) left told = λ p. bare-is-left (table_trees [] (table_of ks)) refl goal_then a told.1 left

  -- what is not settled has a proof, and more than one rule at some step
  unsettled-exactly : IsUnsettledGoal solver_by_view s depth goal_then → Proved × (HasFewRules depth (view_in d c) (map erased_reference E) (erased_reference r) → ⊥)
  unsettled-exactly (inl h) = absurd (exact.plainly h)
  unsettled-exactly (inr (inl h)) = ((exact.found (Some h.0) h.1).0, λ few. false-true (sym h.2 ∙ exact.sure few h.0 h.1))
  unsettled-exactly (inr (inr h)) = absurd (none-bound-there d c s of E r formed h)

-- ---- questions
module _ (d : Declarations) (text : IsOfText d) (n : ℕ) (q : Question) (is : IsQuestion d n q) (s : Solving) (of : IsSolvingOf d q.asker s) (depth : ℕ)
    (closed : IsTrue (not (some_node is_variable (erased_reference q.asked).args))) where
  abbrev ks : List Sort
  ks = variable_kinds q

  abbrev E : List Reference
  E = unbound_references q.clauses

  abbrev r : Reference
  r = unbound_reference q.asked

  abbrev seen_by : World
  seen_by = view_in d q.asker

  formed : IsFormedAsWritten (written of.entries of.declarations) (sorts_in of.declarations) E r
  formed = formed-so d text n q is s of closed

  -- of its terms without binders, and back
  there : (P : List Reference → Reference → Type 0) → P (map erased_reference q.clauses) (erased_reference q.asked) → P (map erased_reference E) (erased_reference r)
  there P h = as-asked d text n q is s of closed P h

  back : (P : List Reference → Reference → Type 0) → P (map erased_reference E) (erased_reference r) → P (map erased_reference q.clauses) (erased_reference q.asked)
  back P h = as-written d text n q is s of closed P h

  unproved : SingleWay depth seen_by (map erased_reference q.clauses) (erased_reference q.asked) → IsRefusedGoal solver_by_view s depth ks (goal_asking s.view q)
      → HasProof seen_by (map erased_reference q.clauses) (erased_reference q.asked) → ⊥
  unproved single h p = refused-unproved d text q.asker s of E r formed ks depth (there (λ F x. SingleWay depth seen_by F x) single) h (there (λ F x. HasProof seen_by F x) p)

  unproved-exactly : EndsWithin depth seen_by (map erased_reference q.clauses) (erased_reference q.asked) → IsRefusedGoal solver_by_view s depth ks (goal_asking s.view q)
      → HasProof seen_by (map erased_reference q.clauses) (erased_reference q.asked) → ⊥
  unproved-exactly short h p = refused-exactly d text q.asker s of E r formed ks depth (there (λ F x. EndsWithin depth seen_by F x) short) h (there (λ F x. HasProof seen_by F x) p)

  -- nothing that it asks about is unknown, so no value is foreign
  known : some_node is_unknown_term r.args ≡ false
  known = none-unknown r.args (made-labels is_fixed terms r.args (asked-fixed d q.asker s of E r formed))

  never-maybe : SingleWay depth seen_by (map erased_reference q.clauses) (erased_reference q.asked) → (es : List Entry) → IsNotSettled s depth q es → ⊥
  never-maybe single es (inl h) = never-unsettled d text q.asker s of E r formed ks depth (there (λ F x. SingleWay depth seen_by F x) single) h
  never-maybe single es (inr h) = false-true (sym known ∙ h.unknowns)

  maybe-exactly : EndsWithin depth seen_by (map erased_reference q.clauses) (erased_reference q.asked) → (es : List Entry) → IsNotSettled s depth q es
      → HasProof seen_by (map erased_reference q.clauses) (erased_reference q.asked) × (HasFewRules depth seen_by (map erased_reference q.clauses) (erased_reference q.asked) → ⊥)
  maybe-exactly short es (inl h) =
      let x = unsettled-exactly d text q.asker s of E r formed ks depth (there (λ F y. EndsWithin depth seen_by F y) short) h in
      (back (λ F y. HasProof seen_by F y) x.0, λ few. x.1 (there (λ F y. HasFewRules depth seen_by F y) few))
  maybe-exactly short es (inr h) = absurd (false-true (sym known ∙ h.unknowns))

pub other-answers-are-right : OtherAnswersAreRight
other-answers-are-right d text n q is e s of depth es = (
  λ h.
      one-alone d text n q is s of depth answers.unproved e tt tt (λ bare alone sol. unsolved d text n q is s of depth h bare alone sol)
      ((λ decided proof. unproved d text n q is s of depth decided.0 decided.1 h proof), tt, λ closed short proof. unproved-exactly d text n q is s of depth closed short h proof),
  λ values h.
      one-alone d text n q is s of depth (answer_in es (Maybe values)) e tt
      (speaks d text n q is s of es values (subst (λ (x : Solving). HasUnknowns q → speak_of_own x q es values.items ≡ true) of.is h.2))
      (λ alone. maybe-covers d text n q is s of es values h.1 h.3 alone)
      ((λ decided. never-maybe d text n q is s of depth decided.0 decided.1 es h.0), tt, λ closed short. maybe-exactly d text n q is s of depth closed short es h.0),
)
