-- The canonical form of a nested goal is decided if its instances can be goals.
use Rattle.std.proofs.Common.{◌≡◌, ℕ, Bool, true, false, not, ◌&&◌, ◌||◌, ◌==◌, List, [], ◌∷◌, map, inl, inr, refl, sym, ◌∙◌, ap, subst, Some, if◌then◌else◌, is_some}
use Rattle.std.specs.Prelude.{IsSome}
use Rattle.type_terms.specs.Promised.Label.{Label, Sort, of_type, of_const, of_lifetime, infer, param, placeholder, canonical, bound, value, static, of_trait, predicate}
use Rattle.type_terms.specs.Promised.Trees.{Trees, none, tree, ◌+++◌, sort_of, is_sort, some_node}
use Rattle.type_terms.specs.Promised.Worlds.{World}
use Rattle.type_terms.specs.Promised.Answers.{is_open, is_undeclared, written_in}
use Rattle.type_terms.specs.Promised.Rules.{unsize}
use Rattle.type_terms.specs.Promised.Walks.{trait_is}
use Rattle.type_terms.proofs.Walking.{left, right, both}
use Rattle.type_terms.proofs.Fitting.{head-shut, child-shut, next-shut}
use Rattle.type_terms.specs.Made.{terms, is_made}
use Rattle.type_terms.proofs.Made.{false-true}
use Rattle.infer_table.specs.Canonical.{GoalTrees, StandsIn, StandsInGoal, kind_of_leaf, kind_in_clause, relabeled, is_label_among, canonical_label, goal_leaves, canonical_form}
use Rattle.infer_table.specs.Solutions.{Binding, HasValues, replace, resolved}
use Rattle.infer_table.specs.declared.canonical.CanonicalVarKind.{CanonicalVarKind}
use Rattle.infer_table.proofs.SolutionLaws.{resolved-none}
use Rattle.goal_evaluator.specs.Lists.{Every}
use Rattle.goal_evaluator.specs.Instances.{read_with, put_in, term_at}
use Rattle.goal_evaluator.specs.Content.{ChosenTerms, standing, given}
use Rattle.goal_evaluator.specs.FrameTables.{FrameTable, IsMadeFrame, Allows, Nested, good_in, goal_in, question, fact, slot_at, is_open_label}
use Rattle.goal_evaluator.specs.TableAnswers.{kinds_of_labels}
use Rattle.goal_evaluator.specs.Finite.{IsDetermined}
use Rattle.goal_evaluator.proofs.Equating.{made-put, slots-of}
use Rattle.goal_evaluator.proofs.Labels.{made-more}
use Rattle.goal_evaluator.proofs.Nodes.{AreNodes, nodes-put, nodes-resolved}
use Rattle.goal_evaluator.proofs.Questions.{put-in-slots, read-resolved}
use Rattle.goal_evaluator.proofs.Reading.{read-put, read-append}
use Rattle.goal_evaluator.proofs.Resolved.{made-resolved}
use Rattle.goal_evaluator.proofs.Whole.{as-place-one, read-one}
use Rattle.goal_evaluator.specs.Variables.{is_variable_over}
use Rattle.goal_frames.specs.Forms.{is_unnumbered}
use Rattle.solver_completeness.specs.ClosedTables.{AreClosed}
use Rattle.solver_completeness.proofs.FreeTables.{no-unknown}
use Rattle.candidate_model.specs.Facts.{is_unerased, reference_in}
use Rattle.candidate_model.specs.Asking.{GoalOverKinds, goal_over_kinds, asked_if, asked_with, are_clauses, begins_with_type, next_of}
use Rattle.solver_completeness.specs.GoalSets.{begins_typed, any_label, IsAskableFact}
use Rattle.solver_completeness.proofs.QuestionTerms.{is_unknown, made-back}
use Rattle.solver_completeness.proofs.QuestionNames.{names-back, names-numbered}
use Rattle.solver_completeness.proofs.Renumbering.{kinds-known, made-numbered, made-in-clause, goal-open, goal-listed}
use Rattle.infer_table.proofs.Basics.{same-goal}
use Rattle.type_terms.proofs.BooleanBasics.{none-of}

pub no-unknowns : (t : Trees) → ((k : Sort) (v : ℕ) → HasValues k → StandsIn kind_of_leaf t (infer k v) → ⊥) → some_node is_unknown t ≡ false
no-unknowns none h = refl
no-unknowns (tree l c o) h = none-of (is_unknown l) (some_node is_unknown c) (some_node is_unknown o) (first l (λ k v g e i. h k v g (inl (e, i)))) (no-unknowns c (λ k v g i. h k v g (inr (inl i)))) (no-unknowns o (λ k v g i. h k v g (inr (inr i))))
  where
    first : (m : Label) → ((k : Sort) (v : ℕ) → HasValues k → m ≡ infer k v → IsSome (kind_of_leaf m) → ⊥) → is_unknown m ≡ false
    first (infer of_type v) f = absurd (f of_type v tt refl refl)
    first (infer of_const v) f = absurd (f of_const v tt refl refl)
    first (infer of_lifetime v) f = refl
    first m f = refl

-- ---- the first type
module _ (s : ChosenTerms) (sorted : (k : Sort) (v : ℕ) → sort_of (s.unknowns k v).0 ≡ k) (ls : List Label) where
  abbrev read : Trees → Trees
  read t = read_with (standing s) t

  abbrev numbered : Trees → Trees
  numbered t = relabeled kind_of_leaf (canonical_label ls) t

  begins-numbered : (t : Trees) → AreNodes t → some_node is_unknown t ≡ false → some_node is_unerased (read t) ≡ false → begins_typed (read t) ≡ true → begins_with_type (numbered t) ≡ true
  begins-numbered none n u p h = absurd (false-true h)
  begins-numbered (tree (infer of_type v) c o) n u p h = absurd (false-true (sym (head-shut is_unknown (infer of_type v) c o u)))
  begins-numbered (tree (infer of_const v) c o) n u p h = absurd (false-true (sym (head-shut is_unknown (infer of_const v) c o u)))
  begins-numbered (tree (infer of_lifetime v) c o) n u p h = absurd (false-true h)
  begins-numbered (tree (placeholder of_type i) c o) n u p h = refl
  begins-numbered (tree (placeholder of_const i) c o) n u p h =
      let x = as-place-one of_const (term_at s.own.terms i) in
      absurd (false-true (sym (ap (λ z. is_sort z of_type) x.2) ∙ subst (λ z. begins_typed (z +++ read o) ≡ true) x.1 h))
  begins-numbered (tree (placeholder of_lifetime i) c o) n u p h = absurd (false-true h)
  begins-numbered (tree (param of_type i) c o) n u p h = absurd n.0
  begins-numbered (tree (param of_const i) c o) n u p h = absurd n.0
  begins-numbered (tree (param of_lifetime i) c o) n u p h = absurd (false-true h)
  begins-numbered (tree (canonical k i) c o) n u p h = absurd n.0
  begins-numbered (tree static c o) n u p h = absurd (false-true h)
  begins-numbered (tree (bound of_type i j) c o) n u p h = absurd (false-true (sym (head-shut is_unerased (bound of_type i j) (read c) (read o) p)))
  begins-numbered (tree (bound of_const i j) c o) n u p h = absurd (false-true h)
  begins-numbered (tree (bound of_lifetime i j) c o) n u p h = absurd (false-true h)
  begins-numbered (tree (value k) c o) n u p h = absurd (false-true h)
  begins-numbered (tree l c o) n u p h = refl

  next-numbered : (t : Trees) → AreNodes t → some_node is_unknown t ≡ false → some_node is_unerased (read t) ≡ false → begins_typed (next_of (read t)) ≡ true → begins_with_type (next_of (numbered t)) ≡ true
  next-numbered none n u p h = absurd (false-true h)
  next-numbered (tree l c o) n u p h =
      let x = read-one s sorted l c in
      begins-numbered o n.2 (next-shut is_unknown l c o u)
      (next-shut is_unerased x.label x.children (read o) (subst (λ z. some_node is_unerased z ≡ false) (at x.label x.children x.is) p))
      (subst (λ z. begins_typed (next_of z) ≡ true) (at x.label x.children x.is) h)
    where
      whole : read (tree l c o) ≡ read (tree l c none) +++ read o
      whole = read-append (standing s) (tree l c none) o

      at : (m : Label) (d : Trees) → read (tree l c none) ≡ tree m d none → read (tree l c o) ≡ tree m d (read o)
      at m d e = whole ∙ ap (λ z. z +++ read o) e

-- ---- where-clauses
replace-node : (k : Sort) (v : ℕ) (r : Trees) (l : Label) (c o : Trees) → is_open l ≡ false → replace k v r (tree l c o) ≡ tree l (replace k v r c) (replace k v r o)
replace-node k v r (infer j w) c o e = absurd (false-true (sym e))
replace-node k v r l c o e = refl

resolved-node : (bs : List Binding) (l : Label) (c o : Trees) → is_open l ≡ false → resolved bs (tree l c o) ≡ tree l (resolved bs c) (resolved bs o)
resolved-node [] l c o e = refl
resolved-node (b ∷ older) l c o e = ap (replace b.sort b.var (resolved older b.value)) (resolved-node older l c o e) ∙ replace-node b.sort b.var (resolved older b.value) l (resolved older c) (resolved older o) e

-- what stands below the label of a clause once terms are put in
abbrev below : Label → Trees → Trees
below static c = none
below l c = c

put-node : (ls : List Label) (l : Label) (c o : Trees) → is_open l ≡ false → put_in (slot_at ls) (tree l c o) ≡ tree l (put_in (slot_at ls) (below l c)) (put_in (slot_at ls) o)
put-node ls (param k i) c o e = absurd (false-true (sym e))
put-node ls (placeholder k i) c o e = absurd (false-true (sym e))
put-node ls (infer k i) c o e = absurd (false-true (sym e))
put-node ls (canonical k i) c o e = absurd (false-true (sym e))
put-node ls (bound k i j) c o e = absurd (false-true (sym e))
put-node ls l c o e = refl

clause-label : (f : Label → Label) (l : Label) → is_open l ≡ false → (if is_some (kind_in_clause l) then f l else l) ≡ l
clause-label f (param k i) e = absurd (false-true (sym e))
clause-label f (placeholder k i) e = absurd (false-true (sym e))
clause-label f (infer k i) e = absurd (false-true (sym e))
clause-label f (canonical k i) e = absurd (false-true (sym e))
clause-label f (bound k i j) e = absurd (false-true (sym e))
clause-label f l e = refl

below-made : (p : Label → Bool) (l : Label) (c : Trees) → is_made p terms c ≡ true → is_made p terms (below l c) ≡ true
below-made p static c h = refl
below-made p l c h = h

over-open : (kinds : List CanonicalVarKind) (l : Label) → is_variable_over kinds l ≡ true → is_open_label l ≡ true
over-open kinds (infer k v) h = absurd (false-true h)
over-open kinds (param k v) h = absurd (false-true h)
over-open kinds (placeholder k v) h = absurd (false-true h)
over-open kinds l h = refl

not-open : (b : Bool) → not b ≡ true → b ≡ false
not-open true h = absurd (false-true h)
not-open false h = refl

-- ---- the form of a goal
unnumbered : (T : FrameTable) (l : Label) → good_in T l ≡ true → is_unnumbered l ≡ true
unnumbered T (canonical k i) g = absurd (false-true g)
unnumbered T l g = refl

module _ (T : FrameTable) (made : IsMadeFrame T) where
  abbrev inside : Trees → Trees
  inside x = resolved T.content.bindings (put_in (slot_at T.labels) x)

  inside-node : (l : Label) (c o : Trees) → is_open l ≡ false → inside (tree l c o) ≡ tree l (inside (below l c)) (inside o)
  inside-node l c o e = ap (resolved T.content.bindings) (put-node T.labels l c o e) ∙ resolved-node T.content.bindings l (put_in (slot_at T.labels) (below l c)) (put_in (slot_at T.labels) o) e

  inside-made : (kinds : List CanonicalVarKind) (x : Trees) → is_made (is_variable_over kinds) terms x ≡ true → is_made is_unnumbered terms (inside x) ≡ true
  inside-made kinds x h =
      made-more (good_in T) is_unnumbered (unnumbered T) terms (inside x)
      (made-resolved (good_in T) T.content.bindings made.table.values terms (put_in (slot_at T.labels) x)
      (made-put (good_in T) T.labels (slots-of T made) terms x
      (made-more (is_variable_over kinds) is_open_label (over-open kinds) terms x h)))

  module _ (ls : List Label) (opens : Every (λ l. IsSome (kind_of_leaf l)) ls) where
    clauses-numbered : (kinds : List CanonicalVarKind) (x : Trees) → are_clauses kinds x ≡ true → ((l : Label) → StandsIn kind_in_clause (inside x) l → is_label_among l ls ≡ true)
        → are_clauses (kinds_of_labels ls) (relabeled kind_in_clause (canonical_label ls) (inside x)) ≡ true
    clauses-numbered kinds none h f = ap (λ z. are_clauses (kinds_of_labels ls) (relabeled kind_in_clause (canonical_label ls) z)) (resolved-none T.content.bindings)
    clauses-numbered kinds (tree l c o) h f =
        let e : is_open l ≡ false = not-open (is_open l) (left (not (is_open l)) _ h) in
        let m : is_made (is_variable_over kinds) terms c ≡ true = left (is_made (is_variable_over kinds) terms c) (are_clauses kinds o) (right (not (is_open l)) _ h) in
        let r : are_clauses kinds o ≡ true = right (is_made (is_variable_over kinds) terms c) (are_clauses kinds o) (right (not (is_open l)) _ h) in
        let is = inside-node l c o e in
        let stands = λ (k : Label) (s : StandsIn kind_in_clause (tree l (inside (below l c)) (inside o)) k). f k (subst (λ z. StandsIn kind_in_clause z k) (sym is) s) in
        subst (λ z. are_clauses (kinds_of_labels ls) (relabeled kind_in_clause (canonical_label ls) z) ≡ true) (sym is)
        (subst (λ z. (not (is_open z) && (is_made (is_variable_over (kinds_of_labels ls)) terms (relabeled kind_in_clause (canonical_label ls) (inside (below l c))) && are_clauses (kinds_of_labels ls) (relabeled kind_in_clause (canonical_label ls) (inside o)))) ≡ true)
        (sym (clause-label (canonical_label ls) l e))
        (both (not (is_open l)) _ (ap not e)
        (both (is_made (is_variable_over (kinds_of_labels ls)) terms (relabeled kind_in_clause (canonical_label ls) (inside (below l c)))) _
        (made-in-clause ls opens terms (inside (below l c)) (inside-made kinds (below l c) (below-made (is_variable_over kinds) l c m)) (λ k s. stands k (inr (inl s))))
        (clauses-numbered kinds o r (λ k s. stands k (inr (inr s)))))))

-- ---- the question of a nested goal
resolved-trait : (bs : List Binding) (t : ℕ) (c : Trees) → resolved bs (tree (predicate (of_trait t)) c none) ≡ tree (predicate (of_trait t)) (resolved bs c) none
resolved-trait [] t c = refl
resolved-trait (b ∷ older) t c = ap (replace b.sort b.var (resolved older b.value)) (resolved-trait older t c)

pub all-true : (a b c d e : Bool) → a ≡ true → b ≡ true → c ≡ true → d ≡ true → e ≡ true → (a && (b && ((c && d) && e))) ≡ true
all-true a b c d e f g h i j = rw (f, g, h, i, j) refl

module _ (V : World) (T : FrameTable) (made : IsMadeFrame T) (closed : AreClosed (map Some T.kinds)) (s : ChosenTerms) (allowed : Allows T s) where
  -- a goal for this trait and these arguments, under where-clauses over variables of these kinds
  module _ (kinds : List CanonicalVarKind) (environment : Trees) (clauses : are_clauses kinds environment ≡ true) (t : ℕ) (args : Trees) (coinductive : Bool) where
    abbrev n : Nested
    n = record { goal = record { environment = environment; predicate = tree (predicate (of_trait t)) args none }; coinductive = coinductive }

    abbrev e : Trees
    e = inside T made environment

    abbrev x : Trees
    x = inside T made args

    abbrev g : GoalTrees
    g = record { environment = e; predicate = tree (predicate (of_trait t)) x none }

    goal-is : goal_in T n ≡ g
    goal-is = same-goal _ _ _ _ refl (resolved-trait T.content.bindings t (put_in (slot_at T.labels) args))

    nodes : AreNodes x
    nodes =
        nodes-resolved T.kinds T.content.ty_vars T.content.const_vars T.content.bindings made.table.values (put_in (slot_at T.labels) args)
        (nodes-put T.kinds T.content.ty_vars T.content.const_vars T.labels made.leaves args)

    reads : read_with (standing s) x ≡ read_with (given s.slots) args
    reads =
        read-resolved (good_in T) s T.content.bindings made.table.values allowed.hold (put_in (slot_at T.labels) args)
        ∙ read-put (standing s) (given s.slots) (slot_at T.labels) (put-in-slots s allowed.sorted T.labels allowed.slots) args

    abbrev ls : List Label
    ls = goal_leaves g

    opens : Every (λ l. IsSome (kind_of_leaf l)) ls
    opens = goal-open g

    module _ (determined : IsDetermined T n) (askable : IsAskableFact V (fact n s)) where
      known : some_node is_unknown x ≡ false
      known = no-unknowns x (λ k v h i. no-unknown T made closed n determined k h v (subst (λ z. StandsInGoal z (infer k v)) (sym goal-is) (inr (inr (inl i)))))

      back : (P : Trees → Type 0) → P (reference_in (fact n s)).args → P (read_with (standing s) x)
      back P p = subst P (sym reads) p

      plain : some_node is_unerased (read_with (standing s) x) ≡ false
      plain = back (λ z. some_node is_unerased z ≡ false) (child-plain (read_with (given s.slots) args) askable.goal.plain)
        where
          child-plain : (c : Trees) → not (some_node is_unerased (tree (predicate (of_trait t)) c none)) ≡ true → some_node is_unerased c ≡ false
          child-plain c h = child-shut is_unerased (predicate (of_trait t)) c none (not-open (some_node is_unerased (tree (predicate (of_trait t)) c none)) h)

      abbrev y : Trees
      y = relabeled kind_of_leaf (canonical_label ls) x

      abbrev d : Trees
      d = relabeled kind_in_clause (canonical_label ls) e

      is-made : is_made (is_variable_over (kinds_of_labels ls)) terms y ≡ true
      is-made =
          made-numbered ls opens terms x (made-back s allowed.sorted any_label terms x nodes known (back (λ z. is_made any_label terms z ≡ true) askable.made))
          (λ l i. goal-listed g l (inr (inr (inl i))))

      written : written_in V (record { trait = t; args = y }) ≡ true
      written =
          let w = askable.written in
          both (trait_is (λ z. true) V t) _ (left (trait_is (λ z. true) V t) _ w)
          (ap not (names-numbered V kind_of_leaf ls x (names-back V s x nodes known
          (back (λ z. some_node (is_undeclared V) z ≡ false) (not-open _ (right (trait_is (λ z. true) V t) _ w))))))

      begins : begins_with_type y ≡ true
      begins = begins-numbered s allowed.sorted ls x nodes known plain (back (λ z. begins_typed z ≡ true) askable.begins)

      target : (not (t == unsize) || begins_with_type (next_of y)) ≡ true
      target = by (t == unsize) (back (λ z. (not (t == unsize) || begins_typed (next_of z)) ≡ true) askable.target)
        where
          by : (b : Bool) → (not b || begins_typed (next_of (read_with (standing s) x))) ≡ true → (not b || begins_with_type (next_of y)) ≡ true
          by true h = next-numbered s allowed.sorted ls x nodes known plain h
          by false h = refl

      clauses-are : are_clauses (kinds_of_labels ls) d ≡ true
      clauses-are = clauses-numbered T made ls opens kinds environment clauses (λ l i. goal-listed g l (inl i))

      abbrev form : GoalOverKinds
      form = record { kinds = kinds_of_labels ls; environment = d; reference = record { trait = t; args = y } }

      form-asked : goal_over_kinds V (canonical_form g) ≡ Some form
      form-asked =
          ap (asked_with V d (tree (predicate (of_trait t)) y none)) (kinds-known ls opens)
          ∙ ap (λ b. asked_if b form)
          (all-true (written_in V form.reference) (is_made (is_variable_over (kinds_of_labels ls)) terms y) (begins_with_type y) (not (t == unsize) || begins_with_type (next_of y)) (are_clauses (kinds_of_labels ls) d) written is-made begins target clauses-are)

      pub question-decided : (a : GoalOverKinds) × (goal_over_kinds V (question T n).form ≡ Some a)
      question-decided = (form, ap (λ z. goal_over_kinds V (canonical_form z)) goal-is ∙ form-asked)
