-- Questions without unknowns whose terms are formed are goals that are answered exactly.
use Rattle.std.proofs.Common.{◌≡◌, ◌==◌, ℕ, zero, suc, Bool, true, false, ◌||◌, not, List, [], ◌∷◌, map, Some, refl, sym, ◌∙◌, ap, subst, inl, inr}
use Rattle.std.specs.Prelude.{IsSome}
use Rattle.std.specs.List.{list_all}
use Rattle.type_terms.specs.Promised.Label.{Label, Sort, of_type, of_const, of_lifetime, adt, tuple, fn_ptr, raw_pointer, ref, array, slice, dynamic, static, value, principal, auto_trait, of_trait, predicate, param, placeholder, infer, canonical, bound}
use Rattle.type_terms.specs.Promised.Erased.{erased_reference}
use Rattle.type_terms.specs.Promised.Trees.{Trees, none, tree, leaf, sort_of, is_sort, erase_label, erase, some_node}
use Rattle.type_terms.specs.Trees.{is_no_tree}
use Rattle.type_terms.specs.Promised.Worlds.{World, Reference}
use Rattle.type_terms.specs.Promised.Rules.{unsize, autos_with}
use Rattle.type_terms.specs.Promised.Answers.{is_undeclared, written_in}
use Rattle.type_terms.specs.Promised.Walks.{trait_is}
use Rattle.type_terms.proofs.Fitting.{child-shut, next-shut}
use Rattle.type_terms.proofs.Members.{same-number}
use Rattle.type_terms.proofs.Walking.{left, right, both}
use Rattle.type_terms.specs.Made.{Standing, terms, bounds, traits, is_leaf_label, is_made}
use Rattle.type_terms.proofs.Made.{is_ordinary, false-true, no-tree, IsLast, made-ordinary, makes-ordinary, made-weaker, last-bound, last-trait, never-dynamic, never-dynamic-bound, never-principal}
use Rattle.infer_table.specs.Canonical.{OpenKinds, kind_of_leaf, kind_in_clause, StandsIn, relabeled, canonical_label, leaves, is_label_among, GoalTrees, goal_leaves, canonical_form, HasNoCanonical}
use Rattle.infer_table.specs.Solutions.{Assignment, IsSorted, instance}
use Rattle.goal_evaluator.specs.Lists.{Every}
use Rattle.goal_evaluator.specs.Instances.{as_place, term_at}
use Rattle.goal_evaluator.specs.Content.{Fact, fact_of}
use Rattle.goal_evaluator.specs.TableAnswers.{kinds_of_labels}
use Rattle.goal_evaluator.specs.Variables.{is_variable_over}
use Rattle.goal_evaluator.proofs.ListLaws.{Every-mono}
use Rattle.goal_evaluator.proofs.Nodes.{every-leaf}
use Rattle.goal_evaluator.proofs.Readings.{HasLeaves, made-leaves}
use Rattle.declarations.specs.Applied.{sorts_of}
use Rattle.candidate_model.specs.Asking.{GoalOverKinds, goal_over_kinds, asked_with, asked_if, are_clauses, begins_with_type, next_of}
use Rattle.candidate_model.specs.DeclaredWell.{are_distinct}
use Rattle.candidate_model.specs.Facts.{trees_of_clauses, clauses_of, reference_in, is_unerased}
use Rattle.candidate_model.proofs.Instances.{is_bound}
use Rattle.goal_frames.specs.Forms.{is_unnumbered}
use Rattle.solver_graph.specs.Roots.{fact_under, values_under, question_of}
use Rattle.solver_graph.proofs.Forms.{form-instance}
use Rattle.solver_completeness.specs.ClosedTables.{IsClosedKind, AreClosed, FitPlaces, TellPlaces}
use Rattle.solver_completeness.specs.FormedAnswers.{IsFormedGoal}
use Rattle.solver_completeness.specs.FormedFacts.{Sorts, AreTypeSorts, FitsNode, NodesFit, IsFormed, IsFormedFact, IsFormedView}
use Rattle.solver_completeness.specs.GoalSets.{begins_typed, any_label}
use Rattle.solver_completeness.specs.SolverChoices.{IsElaborated}
use Rattle.solver_completeness.specs.UnboundGoals.{is_unbound}
use Rattle.solver_completeness.proofs.ClosedQuestions.{IsAt, placeholder-at, once-leaves, one-place}
use Rattle.solver_completeness.proofs.QuestionNames.{names-numbered}
use Rattle.solver_completeness.proofs.Renumbering.{kinds-known, made-numbered, made-in-clause, goal-open, goal-listed}
use Rattle.solver_completeness.proofs.UnboundTerms.{numbered-unbound}
use Rattle.sessions.specs.Goals.{goal_of, is_fixed, are_fixed, IsFormedQuestion, AsksUnderClauses, FormedQuestionsAreGoals}
use Rattle.infer_table.proofs.Basics.{clause-known as clause-open}
use Rattle.type_terms.proofs.BooleanBasics.{not-true, none-of}
use Rattle.solver_completeness.proofs.NestedForms.{all-true}

-- ---- labels
abbrev is_loose : Label → Bool
is_loose l = not (is_fixed l)

-- no node of the trees is loose
abbrev Fixed : Trees → Type 0
Fixed t = some_node is_loose t ≡ false

first-of : (a b c : Bool) → (a || b || c) ≡ false → a ≡ false
first-of false b c h = refl
first-of true b c h = absurd cc

pub not-false : (b : Bool) → not b ≡ false → b ≡ true
not-false true h = refl
not-false false h = absurd cc

own-label : (l : Label) (c o : Trees) → Fixed (tree l c o) → is_fixed l ≡ true
own-label l c o h = not-false (is_fixed l) (first-of (is_loose l) (some_node is_loose c) (some_node is_loose o) h)

fixed-node : (l : Label) (c o : Trees) → is_fixed l ≡ true → Fixed c → Fixed o → Fixed (tree l c o)
fixed-node l c o h f g = none-of (is_loose l) (some_node is_loose c) (some_node is_loose o) (not-true (is_fixed l) h) f g

fixed-last : (l : Label) (c o : Trees) → IsLast is_fixed l c o → Fixed (tree l c o)
fixed-last l c o x = fixed-node l c o x.good_label (subst Fixed (sym x.children) refl) (subst Fixed (sym x.rest) refl)

pub all-fixed : (m : Standing) (t : Trees) → is_made is_fixed m t ≡ true → Fixed t
all-fixed terms none h = refl
all-fixed terms (tree dynamic c o) h = fixed-node dynamic c o refl (all-fixed bounds c (left (is_made is_fixed bounds c) _ h)) (all-fixed terms o (right (is_made is_fixed bounds c) _ h))
all-fixed terms (tree (principal n i) c o) h = absurd (false-true h)
all-fixed terms (tree (auto_trait i) c o) h = absurd (false-true h)
all-fixed terms (tree (predicate k) c o) h = absurd (false-true h)
all-fixed terms (tree l c o) h = let x = made-ordinary is_fixed l c o refl h in fixed-node l c o x.0 (all-fixed terms c x.2) (all-fixed terms o x.3)
all-fixed bounds none h = absurd (false-true h)
all-fixed bounds (tree (principal n i) c o) h = fixed-node (principal n i) c o refl (all-fixed terms c (left (is_made is_fixed terms c) _ h)) (all-fixed traits o (right (is_made is_fixed terms c) _ h))
all-fixed bounds (tree (auto_trait i) c o) h = fixed-node (auto_trait i) c o refl (subst Fixed (sym (no-tree c (left (is_no_tree c) _ h))) refl) (all-fixed traits o (right (is_no_tree c) _ h))
all-fixed bounds (tree (predicate k) c o) h = absurd (false-true h)
all-fixed bounds (tree dynamic c o) h = absurd (never-dynamic-bound is_fixed c o h)
all-fixed bounds (tree l c o) h = fixed-last l c o (last-bound is_fixed l c o refl h)
all-fixed traits none h = absurd (false-true h)
all-fixed traits (tree (auto_trait i) c o) h = fixed-node (auto_trait i) c o refl (subst Fixed (sym (no-tree c (left (is_no_tree c) _ h))) refl) (all-fixed traits o (right (is_no_tree c) _ h))
all-fixed traits (tree (predicate k) c o) h = absurd (false-true h)
all-fixed traits (tree dynamic c o) h = absurd (never-dynamic is_fixed c o h)
all-fixed traits (tree (principal n i) c o) h = absurd (never-principal is_fixed n i c o h)
all-fixed traits (tree l c o) h = fixed-last l c o (last-trait is_fixed l c o refl h)

-- a label test that no fixed label passes
pub none-pass : (p : Label → Bool) → ((l : Label) → is_fixed l ≡ true → p l ≡ false) → (t : Trees) → Fixed t → some_node p t ≡ false
none-pass p f none h = refl
none-pass p f (tree l c o) h =
    none-of (p l) (some_node p c) (some_node p o) (f l (own-label l c o h)) (none-pass p f c (child-shut is_loose l c o h)) (none-pass p f o (next-shut is_loose l c o h))

fixed-unnumbered : (l : Label) → is_fixed l ≡ true → is_unnumbered l ≡ true
fixed-unnumbered (canonical k i) h = absurd (false-true h)
fixed-unnumbered l h = refl

pub fixed-unbound : (l : Label) → is_fixed l ≡ true → is_bound l ≡ false
fixed-unbound (bound k j i) h = absurd (false-true h)
fixed-unbound l h = refl

clean : (t : Trees) → Fixed t → HasNoCanonical t
clean none h = tt
clean (tree (canonical k i) c o) h = absurd (false-true (own-label (canonical k i) c o h))
clean (tree l c o) h = (clean c (child-shut is_loose l c o h), clean o (next-shut is_loose l c o h))

-- ---- up to lifetimes
instance-is : (s : Assignment) (t : Trees) → Fixed t → instance s t ≡ erase t
instance-is s none h = refl
instance-is s (tree (infer of_type v) c o) h = absurd (false-true (own-label (infer of_type v) c o h))
instance-is s (tree (infer of_const v) c o) h = absurd (false-true (own-label (infer of_const v) c o h))
instance-is s (tree l c o) h =
    ap (λ z. tree (erase_label l) z (instance s o)) (instance-is s c (child-shut is_loose l c o h)) ∙ ap (λ z. tree (erase_label l) (erase c) z) (instance-is s o (next-shut is_loose l c o h))

erased-plain-label : (l : Label) → is_fixed l ≡ true → is_unerased (erase_label l) ≡ false
erased-plain-label (placeholder of_type i) h = refl
erased-plain-label (placeholder of_const i) h = refl
erased-plain-label (placeholder of_lifetime i) h = refl
erased-plain-label (param of_lifetime i) h = refl
erased-plain-label (infer of_lifetime i) h = refl
erased-plain-label (param of_type i) h = absurd (false-true h)
erased-plain-label (param of_const i) h = absurd (false-true h)
erased-plain-label (infer of_type i) h = absurd (false-true h)
erased-plain-label (infer of_const i) h = absurd (false-true h)
erased-plain-label (canonical k i) h = absurd (false-true h)
erased-plain-label (bound k j i) h = absurd (false-true h)
erased-plain-label (fn_ptr n) h = refl
erased-plain-label (principal n t) h = refl
erased-plain-label l h = refl

pub erased-plain : (t : Trees) → Fixed t → some_node is_unerased (erase t) ≡ false
erased-plain none h = refl
erased-plain (tree l c o) h =
    none-of (is_unerased (erase_label l)) (some_node is_unerased (erase c)) (some_node is_unerased (erase o)) (erased-plain-label l (own-label l c o h)) (erased-plain c (child-shut is_loose l c o h)) (erased-plain o (next-shut is_loose l c o h))

erased-sort : (l : Label) → sort_of (erase_label l) ≡ sort_of l
erased-sort (param of_type i) = refl
erased-sort (param of_const i) = refl
erased-sort (param of_lifetime i) = refl
erased-sort (placeholder of_type i) = refl
erased-sort (placeholder of_const i) = refl
erased-sort (placeholder of_lifetime i) = refl
erased-sort (infer of_type i) = refl
erased-sort (infer of_const i) = refl
erased-sort (infer of_lifetime i) = refl
erased-sort (canonical of_type i) = refl
erased-sort (canonical of_const i) = refl
erased-sort (canonical of_lifetime i) = refl
erased-sort (bound of_type i j) = refl
erased-sort (bound of_const i j) = refl
erased-sort (bound of_lifetime i j) = refl
erased-sort (fn_ptr n) = refl
erased-sort (principal n t) = refl
erased-sort l = refl

pub erased-sorts : (t : Trees) → sorts_of (erase t) ≡ sorts_of t
erased-sorts none = refl
erased-sorts (tree l c o) = ap (λ s. s ∷ sorts_of (erase o)) (erased-sort l) ∙ ap (λ ss. sort_of l ∷ ss) (erased-sorts o)

pub erased-begins : (t : Trees) → begins_typed (erase t) ≡ begins_typed t
erased-begins none = refl
erased-begins (tree l c o) = ap (λ s. is_sort s of_type) (erased-sort l)

pub erased-next : (t : Trees) → next_of (erase t) ≡ erase (next_of t)
erased-next none = refl
erased-next (tree l c o) = refl

erased-none : (c : Trees) → is_no_tree c ≡ true → is_no_tree (erase c) ≡ true
erased-none none h = refl
erased-none (tree l c o) h = absurd (false-true h)

-- terms stay made
ordinary-erased : (l : Label) → is_fixed l ≡ true → is_ordinary l ≡ true → is_ordinary (erase_label l) ≡ true
ordinary-erased (placeholder of_type i) h e = refl
ordinary-erased (placeholder of_const i) h e = refl
ordinary-erased (placeholder of_lifetime i) h e = refl
ordinary-erased (param of_lifetime i) h e = refl
ordinary-erased (infer of_lifetime i) h e = refl
ordinary-erased (param of_type i) h e = absurd (false-true h)
ordinary-erased (param of_const i) h e = absurd (false-true h)
ordinary-erased (infer of_type i) h e = absurd (false-true h)
ordinary-erased (infer of_const i) h e = absurd (false-true h)
ordinary-erased (canonical k i) h e = absurd (false-true h)
ordinary-erased (bound k j i) h e = absurd (false-true h)
ordinary-erased (fn_ptr n) h e = refl
ordinary-erased (principal n t) h e = absurd (false-true e)
ordinary-erased l h e = e

leaf-erased : (l : Label) → is_fixed l ≡ true → is_leaf_label (erase_label l) ≡ is_leaf_label l
leaf-erased (placeholder of_type i) h = refl
leaf-erased (placeholder of_const i) h = refl
leaf-erased (placeholder of_lifetime i) h = refl
leaf-erased (param of_lifetime i) h = refl
leaf-erased (infer of_lifetime i) h = refl
leaf-erased (param of_type i) h = absurd (false-true h)
leaf-erased (param of_const i) h = absurd (false-true h)
leaf-erased (infer of_type i) h = absurd (false-true h)
leaf-erased (infer of_const i) h = absurd (false-true h)
leaf-erased (canonical k i) h = absurd (false-true h)
leaf-erased (bound k j i) h = absurd (false-true h)
leaf-erased (fn_ptr n) h = refl
leaf-erased (principal n t) h = refl
leaf-erased l h = refl

lifetime-static : (l : Label) → is_fixed l ≡ true → is_sort (sort_of l) of_lifetime ≡ true → erase_label l ≡ static
lifetime-static static h e = refl
lifetime-static (placeholder of_lifetime i) h e = refl
lifetime-static (placeholder of_type i) h e = absurd (false-true e)
lifetime-static (placeholder of_const i) h e = absurd (false-true e)
lifetime-static (param of_lifetime i) h e = refl
lifetime-static (infer of_lifetime i) h e = refl
lifetime-static (param of_type i) h e = absurd (false-true h)
lifetime-static (param of_const i) h e = absurd (false-true h)
lifetime-static (infer of_type i) h e = absurd (false-true h)
lifetime-static (infer of_const i) h e = absurd (false-true h)
lifetime-static (canonical k i) h e = absurd (false-true h)
lifetime-static (bound k j i) h e = absurd (false-true h)
lifetime-static l h e = absurd (false-true e)

abbrev Made : Standing → Trees → Type 0
Made m t = is_made any_label m t ≡ true

last-static : (m : Standing) → Made m (tree static none none) → (l : Label) (c o : Trees) → IsLast is_fixed l c o → Made m (tree (erase_label l) (erase c) (erase o))
last-static m h l c o x =
    subst (λ z. Made m (tree z (erase c) (erase o))) (sym (lifetime-static l x.good_label x.lifetime))
    (subst (λ z. Made m (tree static (erase z) (erase o))) (sym x.children) (subst (λ z. Made m (tree static none (erase z))) (sym x.rest) h))

pub made-erased : (m : Standing) (t : Trees) → is_made is_fixed m t ≡ true → Made m (erase t)
made-erased terms none h = refl
made-erased terms (tree dynamic c o) h =
    both (is_made any_label bounds (erase c)) (is_made any_label terms (erase o)) (made-erased bounds c (left (is_made is_fixed bounds c) _ h)) (made-erased terms o (right (is_made is_fixed bounds c) _ h))
made-erased terms (tree (principal n i) c o) h = absurd (false-true h)
made-erased terms (tree (auto_trait i) c o) h = absurd (false-true h)
made-erased terms (tree (predicate k) c o) h = absurd (false-true h)
made-erased terms (tree l c o) h =
    let x = made-ordinary is_fixed l c o refl h in
    makes-ordinary any_label (erase_label l) (erase c) (erase o) (ordinary-erased l x.0 refl) refl (children (is_leaf_label l) (leaf-erased l x.0) x.1) (made-erased terms c x.2) (made-erased terms o x.3)
  where
    children : (b : Bool) → is_leaf_label (erase_label l) ≡ b → (not b || is_no_tree c) ≡ true → (not (is_leaf_label (erase_label l)) || is_no_tree (erase c)) ≡ true
    children true e g = ap (λ z. not z || is_no_tree (erase c)) e ∙ erased-none c g
    children false e g = ap (λ z. not z || is_no_tree (erase c)) e
made-erased bounds none h = absurd (false-true h)
made-erased bounds (tree (principal n i) c o) h =
    both (is_made any_label terms (erase c)) (is_made any_label traits (erase o)) (made-erased terms c (left (is_made is_fixed terms c) _ h)) (made-erased traits o (right (is_made is_fixed terms c) _ h))
made-erased bounds (tree (auto_trait i) c o) h =
    both (is_no_tree (erase c)) (is_made any_label traits (erase o)) (erased-none c (left (is_no_tree c) _ h)) (made-erased traits o (right (is_no_tree c) _ h))
made-erased bounds (tree (predicate k) c o) h = absurd (false-true h)
made-erased bounds (tree dynamic c o) h = absurd (never-dynamic-bound is_fixed c o h)
made-erased bounds (tree l c o) h = last-static bounds refl l c o (last-bound is_fixed l c o refl h)
made-erased traits none h = absurd (false-true h)
made-erased traits (tree (auto_trait i) c o) h =
    both (is_no_tree (erase c)) (is_made any_label traits (erase o)) (erased-none c (left (is_no_tree c) _ h)) (made-erased traits o (right (is_no_tree c) _ h))
made-erased traits (tree (predicate k) c o) h = absurd (false-true h)
made-erased traits (tree dynamic c o) h = absurd (never-dynamic is_fixed c o h)
made-erased traits (tree (principal n i) c o) h = absurd (never-principal is_fixed n i c o h)
made-erased traits (tree l c o) h = last-static traits refl l c o (last-trait is_fixed l c o refl h)

-- ---- names and sorts
module _ (V : World) (sorts : Sorts) where
  abbrev autos_named : Trees → List ℕ
  autos_named t = map (λ (r : Reference). r.trait) (autos_with none t)

  pub autos-erased : (t : Trees) → autos_named (erase t) ≡ autos_named t
  autos-erased none = refl
  autos-erased (tree (auto_trait n) c o) = ap (λ z. n ∷ z) (autos-erased o)
  autos-erased (tree (param of_type i) c o) = autos-erased o
  autos-erased (tree (param of_const i) c o) = autos-erased o
  autos-erased (tree (param of_lifetime i) c o) = autos-erased o
  autos-erased (tree (placeholder of_type i) c o) = autos-erased o
  autos-erased (tree (placeholder of_const i) c o) = autos-erased o
  autos-erased (tree (placeholder of_lifetime i) c o) = autos-erased o
  autos-erased (tree (infer of_type i) c o) = autos-erased o
  autos-erased (tree (infer of_const i) c o) = autos-erased o
  autos-erased (tree (infer of_lifetime i) c o) = autos-erased o
  autos-erased (tree (canonical of_type i) c o) = autos-erased o
  autos-erased (tree (canonical of_const i) c o) = autos-erased o
  autos-erased (tree (canonical of_lifetime i) c o) = autos-erased o
  autos-erased (tree (bound of_type j i) c o) = autos-erased o
  autos-erased (tree (bound of_const j i) c o) = autos-erased o
  autos-erased (tree (bound of_lifetime j i) c o) = autos-erased o
  autos-erased (tree (fn_ptr n) c o) = autos-erased o
  autos-erased (tree (principal n t) c o) = autos-erased o
  autos-erased (tree l c o) = autos-erased o

  node-erased : (l : Label) (c : Trees) → is_fixed l ≡ true → FitsNode V sorts l c → FitsNode V sorts (erase_label l) (erase c)
  node-erased (adt s) c f h = (h.0, erased-sorts c ∙ h.1)
  node-erased (principal n t) c f h = (h.0, ap (λ ss. of_type ∷ ss) (erased-sorts c) ∙ h.1)
  node-erased (auto_trait t) c f h = h
  node-erased (predicate (of_trait t)) c f h = (h.0, erased-sorts c ∙ h.1)
  node-erased tuple c f h = subst AreTypeSorts (sym (erased-sorts c)) h
  node-erased (fn_ptr n) c f h = subst AreTypeSorts (sym (erased-sorts c)) h
  node-erased (raw_pointer b) c f h = erased-begins c ∙ h
  node-erased array c f h = erased-begins c ∙ h
  node-erased slice c f h = erased-begins c ∙ h
  node-erased (ref b) c f h = ap begins_typed (erased-next c) ∙ erased-begins (next_of c) ∙ h
  node-erased dynamic c f h = ap are_distinct (autos-erased c) ∙ h
  node-erased (placeholder of_type i) c f h = tt
  node-erased (placeholder of_const i) c f h = tt
  node-erased (placeholder of_lifetime i) c f h = tt
  node-erased (param of_lifetime i) c f h = tt
  node-erased (infer of_lifetime i) c f h = tt
  node-erased (param of_type i) c f h = absurd (false-true f)
  node-erased (param of_const i) c f h = absurd (false-true f)
  node-erased (infer of_type i) c f h = absurd (false-true f)
  node-erased (infer of_const i) c f h = absurd (false-true f)
  node-erased (canonical k i) c f h = absurd (false-true f)
  node-erased (bound k j i) c f h = absurd (false-true f)
  node-erased l c f h = tt

  pub nodes-erased : (t : Trees) → Fixed t → NodesFit V sorts t → NodesFit V sorts (erase t)
  nodes-erased none f h = tt
  nodes-erased (tree l c o) f h = (node-erased l c (own-label l c o f) h.0, nodes-erased c (child-shut is_loose l c o f) h.1, nodes-erased o (next-shut is_loose l c o f) h.2)

  name-declared : (l : Label) (c : Trees) → FitsNode V sorts l c → is_undeclared V l ≡ false
  name-declared (adt s) c h = ap not h.0
  name-declared (principal n t) c h = ap not h.0
  name-declared (auto_trait t) c h = ap not h.0
  name-declared (predicate (of_trait t)) c h = ap not h.0
  name-declared l c h = refl

  names-declared : (t : Trees) → NodesFit V sorts t → some_node (is_undeclared V) t ≡ false
  names-declared none h = refl
  names-declared (tree l c o) h =
      none-of (is_undeclared V l) (some_node (is_undeclared V) c) (some_node (is_undeclared V) o) (name-declared l c h.0) (names-declared c h.1) (names-declared o h.2)

-- ---- the first type, once leaves are numbered
pub head-is : (s t : Sort) (xs ys : List Sort) → s ∷ xs ≡ t ∷ ys → s ≡ t
head-is s t xs ys e = cc

begins-numbered : (ls : List Label) (t : Trees) → Fixed t → begins_typed t ≡ true → begins_with_type (relabeled kind_of_leaf (canonical_label ls) t) ≡ true
begins-numbered ls none f h = absurd (false-true h)
begins-numbered ls (tree (placeholder of_type i) c o) f h = refl
begins-numbered ls (tree (placeholder of_const i) c o) f h = absurd (false-true h)
begins-numbered ls (tree (placeholder of_lifetime i) c o) f h = absurd (false-true h)
begins-numbered ls (tree (param of_type i) c o) f h = absurd (false-true (own-label (param of_type i) c o f))
begins-numbered ls (tree (param of_const i) c o) f h = absurd (false-true (own-label (param of_const i) c o f))
begins-numbered ls (tree (param of_lifetime i) c o) f h = absurd (false-true h)
begins-numbered ls (tree (infer of_type i) c o) f h = absurd (false-true (own-label (infer of_type i) c o f))
begins-numbered ls (tree (infer of_const i) c o) f h = absurd (false-true (own-label (infer of_const i) c o f))
begins-numbered ls (tree (infer of_lifetime i) c o) f h = absurd (false-true h)
begins-numbered ls (tree (canonical k i) c o) f h = absurd (false-true (own-label (canonical k i) c o f))
begins-numbered ls (tree (bound k j i) c o) f h = absurd (false-true (own-label (bound k j i) c o f))
begins-numbered ls (tree static c o) f h = absurd (false-true h)
begins-numbered ls (tree (value n) c o) f h = absurd (false-true h)
begins-numbered ls (tree l c o) f h = refl

next-numbered : (ls : List Label) (t : Trees) → next_of (relabeled kind_of_leaf (canonical_label ls) t) ≡ relabeled kind_of_leaf (canonical_label ls) (next_of t)
next-numbered ls none = refl
next-numbered ls (tree l c o) = refl

first-typed : (t : Trees) (ss : List Sort) → sorts_of t ≡ of_type ∷ ss → begins_typed t ≡ true
first-typed none ss e = absurd cc
first-typed (tree l c o) ss e = ap (λ s. is_sort s of_type) (head-is (sort_of l) of_type (sorts_of o) ss e)

second-typed : (t : Trees) → sorts_of t ≡ of_type ∷ of_type ∷ [] → begins_typed (next_of t) ≡ true
second-typed none e = absurd cc
second-typed (tree l c o) e = first-typed o [] (rest-is (sort_of l) (sorts_of o) e)
  where
    rest-is : (s : Sort) (ss : List Sort) → s ∷ ss ≡ of_type ∷ of_type ∷ [] → ss ≡ of_type ∷ []
    rest-is s ss q = cc

fixed-next : (t : Trees) → Fixed t → Fixed (next_of t)
fixed-next none f = refl
fixed-next (tree l c o) f = next-shut is_loose l c o f

-- ---- leaves
stands-fixed : (kind : OpenKinds) (t : Trees) → Fixed t → (l : Label) → StandsIn kind t l → (is_fixed l ≡ true) × IsSome (kind l)
stands-fixed kind none f l h = absurd h
stands-fixed kind (tree m c o) f l (inl h) = (subst (λ z. is_fixed z ≡ true) h.0 (own-label m c o f), subst (λ z. IsSome (kind z)) h.0 h.1)
stands-fixed kind (tree m c o) f l (inr (inl h)) = stands-fixed kind c (child-shut is_loose m c o f) l h
stands-fixed kind (tree m c o) f l (inr (inr h)) = stands-fixed kind o (next-shut is_loose m c o f) l h

kind-closed : (l : Label) → is_fixed l ≡ true → IsSome (kind_of_leaf l) → IsClosedKind (kind_of_leaf l)
kind-closed (placeholder of_type i) f h = tt
kind-closed (placeholder of_const i) f h = tt
kind-closed (placeholder of_lifetime i) f h = tt
kind-closed static f h = tt
kind-closed (param of_lifetime i) f h = tt
kind-closed (infer of_lifetime i) f h = tt
kind-closed (param of_type i) f h = absurd (false-true f)
kind-closed (param of_const i) f h = absurd (false-true f)
kind-closed (infer of_type i) f h = absurd (false-true f)
kind-closed (infer of_const i) f h = absurd (false-true f)
kind-closed l f h = absurd (false-true h)

all-closed : (ls : List Label) → Every (λ l. IsClosedKind (kind_of_leaf l)) ls → AreClosed (map kind_of_leaf ls)
all-closed [] h = tt
all-closed (l ∷ ls) h = (h.0, all-closed ls h.1)

term-there : (f : Label → Trees) (l : Label) (ls : List Label) (i : ℕ) → IsAt l ls i → term_at (map f ls) i ≡ f l
term-there f l [] i h = absurd h
term-there f l (m ∷ ls) zero h = ap f h
term-there f l (m ∷ ls) (suc i) h = term-there f l ls i h

no-param : (k : Sort) (i : ℕ) → is_sort k of_lifetime ≡ false → is_fixed (param k i) ≡ true → ⊥
no-param of_type i e h = false-true h
no-param of_const i e h = false-true h
no-param of_lifetime i e h = false-true (sym e)

module _ (s : Assignment) where
  abbrev own : Label → Trees
  own l = instance s (leaf l)

  fit-own : (ls : List Label) → FitPlaces (map kind_of_leaf ls) (map own ls)
  fit-own [] = tt
  fit-own (infer of_type v ∷ ls) = fit-own ls
  fit-own (infer of_const v ∷ ls) = fit-own ls
  fit-own (infer of_lifetime v ∷ ls) = fit-own ls
  fit-own (param of_type v ∷ ls) = (refl, fit-own ls)
  fit-own (param of_const v ∷ ls) = (refl, fit-own ls)
  fit-own (param of_lifetime v ∷ ls) = fit-own ls
  fit-own (placeholder of_type v ∷ ls) = (refl, fit-own ls)
  fit-own (placeholder of_const v ∷ ls) = (refl, fit-own ls)
  fit-own (placeholder of_lifetime v ∷ ls) = fit-own ls
  fit-own (static ∷ ls) = fit-own ls
  fit-own (l ∷ ls) = fit-own ls

  own-place : (k : Sort) (i : ℕ) → is_sort k of_lifetime ≡ false → as_place k (own (placeholder k i)) ≡ leaf (placeholder k i)
  own-place of_type i e = refl
  own-place of_const i e = refl
  own-place of_lifetime i e = absurd (false-true (sym e))

  same-number-of : (k : Sort) (i j : ℕ) → leaf (placeholder k i) ≡ leaf (placeholder k j) → i ≡ j
  same-number-of k i j e = cc

abbrev AreFixed : List Reference → Type 0
AreFixed E = list_all (λ (c : Reference). are_fixed c.args) E ≡ true

clauses-fixed : (E : List Reference) → AreFixed E → Fixed (trees_of_clauses E)
clauses-fixed [] h = refl
clauses-fixed (c ∷ E) h = fixed-node (predicate (of_trait c.trait)) c.args (trees_of_clauses E) refl (all-fixed terms c.args (left (are_fixed c.args) _ h)) (clauses-fixed E (right (are_fixed c.args) _ h))

clauses-leaves : (E : List Reference) → AreFixed E → HasLeaves (trees_of_clauses E)
clauses-leaves [] h = tt
clauses-leaves (c ∷ E) h = ((λ e. absurd (false-true e)), made-leaves is_fixed terms c.args (left (are_fixed c.args) _ h), clauses-leaves E (right (are_fixed c.args) _ h))

clauses-erased : (E : List Reference) → clauses_of (erase (trees_of_clauses E)) ≡ map erased_reference E
clauses-erased [] = refl
clauses-erased (c ∷ E) = ap (λ z. erased_reference c ∷ z) (clauses-erased E)

-- up to lifetimes the question's reference is formed
pub formed-reference : (V : World) (sorts : Sorts) (E : List Reference) (r : Reference) → IsFormedQuestion V sorts E r → IsFormed V sorts (erased_reference r)
formed-reference V sorts E r q =
    let fixed = all-fixed terms r.args q.terms in
    record { args = record { made = made-erased terms r.args q.terms; plain = erased-plain r.args fixed; nodes = nodes-erased V sorts r.args fixed q.nodes }; trait = (q.trait.0, erased-sorts r.args ∙ q.trait.1) }

module _ (V : World) (sorts : Sorts) (formed : IsFormedView V sorts) (E : List Reference) (r : Reference) (q : IsFormedQuestion V sorts E r) (s : Assignment) (sorted : IsSorted s) where
  abbrev g : GoalTrees
  g = goal_of E r

  abbrev ls : List Label
  ls = goal_leaves g

  abbrev x : Trees
  x = r.args

  abbrev e : Trees
  e = trees_of_clauses E

  x-fixed : Fixed x
  x-fixed = all-fixed terms x q.terms

  e-fixed : Fixed e
  e-fixed = clauses-fixed E q.clauses

  p-fixed : Fixed g.predicate
  p-fixed = fixed-node (predicate (of_trait r.trait)) x none refl x-fixed refl

  -- ---- the form
  abbrev y : Trees
  y = relabeled kind_of_leaf (canonical_label ls) x

  abbrev d : Trees
  d = relabeled kind_in_clause (canonical_label ls) e

  opens : Every (λ l. IsSome (kind_of_leaf l)) ls
  opens = goal-open g

  unnumbered : (t : Trees) → are_fixed t ≡ true → is_made is_unnumbered terms t ≡ true
  unnumbered t h = made-weaker is_fixed is_unnumbered fixed-unnumbered terms t h

  is-made : is_made (is_variable_over (kinds_of_labels ls)) terms y ≡ true
  is-made = made-numbered ls opens terms x (unnumbered x q.terms) (λ l i. goal-listed g l (inr (inr (inl i))))

  written : written_in V (record { trait = r.trait; args = y }) ≡ true
  written = both (trait_is (λ z. true) V r.trait) _ q.trait.0 (ap not (names-numbered V kind_of_leaf ls x (names-declared V sorts x q.nodes)))

  begins : begins_with_type y ≡ true
  begins = let f = formed.self_first r.trait q.trait.0 in begins-numbered ls x x-fixed (first-typed x f.0 (q.trait.1 ∙ f.1))

  target : (not (r.trait == unsize) || begins_with_type (next_of y)) ≡ true
  target = by (r.trait == unsize) refl
    where
      by : (b : Bool) → (r.trait == unsize) ≡ b → (not b || begins_with_type (next_of y)) ≡ true
      by true h =
          ap begins_with_type (next-numbered ls x)
          ∙ begins-numbered ls (next_of x) (fixed-next x x-fixed) (second-typed x (q.trait.1 ∙ ap sorts.of_trait (same-number r.trait unsize h) ∙ formed.unsizes))
      by false h = refl

  clauses-are : (cs : List Reference) → AreFixed cs → ((l : Label) → StandsIn kind_in_clause (trees_of_clauses cs) l → is_label_among l ls ≡ true)
      → are_clauses (kinds_of_labels ls) (relabeled kind_in_clause (canonical_label ls) (trees_of_clauses cs)) ≡ true
  clauses-are [] h f = refl
  clauses-are (c ∷ cs) h f =
      both (is_made (is_variable_over (kinds_of_labels ls)) terms (relabeled kind_in_clause (canonical_label ls) c.args)) _
      (made-in-clause ls opens terms c.args (unnumbered c.args (left (are_fixed c.args) _ h)) (λ l i. f l (inr (inl i))))
      (clauses-are cs (right (are_fixed c.args) _ h) (λ l i. f l (inr (inr i))))

  abbrev form : GoalOverKinds
  form = record { kinds = kinds_of_labels ls; environment = d; reference = record { trait = r.trait; args = y } }

  form-asked : goal_over_kinds V (canonical_form g) ≡ Some form
  form-asked =
      ap (asked_with V d (tree (predicate (of_trait r.trait)) y none)) (kinds-known ls opens)
      ∙ ap (λ b. asked_if b form)
      (all-true (written_in V form.reference) (is_made (is_variable_over (kinds_of_labels ls)) terms y) (begins_with_type y) (not (r.trait == unsize) || begins_with_type (next_of y)) (are_clauses (kinds_of_labels ls) d) written is-made begins target
      (clauses-are E q.clauses (λ l i. goal-listed g l (inl i))))

  admitted : is_unbound (canonical_form g) ≡ true
  admitted = ap not (numbered-unbound ls g.predicate (none-pass is_bound fixed-unbound g.predicate p-fixed))

  -- ---- the fact
  fact-is : fact_of (question_of g) (values_under s g) ≡ fact_under s g
  fact-is =
      form-instance s sorted g (record { environment = clean e e-fixed; predicate = clean g.predicate p-fixed }) (clauses-leaves E q.clauses)
      ((λ h. absurd (false-true h)), made-leaves is_fixed terms x q.terms, tt)

  read-back : reference_in (fact_under s g) ≡ erased_reference r
  read-back = ap (λ z. record { trait = r.trait; args = z }) (instance-is s x x-fixed)

  clauses-back : clauses_of (fact_under s g).goal.environment ≡ map erased_reference E
  clauses-back = ap clauses_of (instance-is s e e-fixed) ∙ clauses-erased E

  fact-formed : IsFormedFact V sorts (fact_under s g)
  fact-formed = record {
    plain = ap (λ z. not (some_node is_unerased (tree (predicate (of_trait r.trait)) z none))) (instance-is s x x-fixed) ∙ ap not (none-of false (some_node is_unerased (erase x)) false refl (erased-plain x x-fixed) refl);
    reference = subst (λ z. IsFormed V sorts z) (sym read-back) (formed-reference V sorts E r q);
    elaborated = subst (IsElaborated V) (sym clauses-back) q.elaborated;
  }

  -- ---- kinds and places
  leaf-fixed : Every (λ l. (is_fixed l ≡ true) × IsSome (kind_of_leaf l)) ls
  leaf-fixed =
      every-leaf kind_of_leaf (λ l. (is_fixed l ≡ true) × IsSome (kind_of_leaf l)) (leaves kind_in_clause [] e) g.predicate
      (every-leaf kind_in_clause (λ l. (is_fixed l ≡ true) × IsSome (kind_of_leaf l)) [] e tt (λ l i. let z = stands-fixed kind_in_clause e e-fixed l i in (z.0, clause-open l z.1)))
      (λ l i. stands-fixed kind_of_leaf g.predicate p-fixed l i)

  closed : AreClosed (map kind_of_leaf ls)
  closed = all-closed ls (Every-mono (λ l. (is_fixed l ≡ true) × IsSome (kind_of_leaf l)) (λ l. IsClosedKind (kind_of_leaf l)) (λ l z. kind-closed l z.0 z.1) ls leaf-fixed)

  apart : TellPlaces (map kind_of_leaf ls) (map (own s) ls)
  apart k i j a b same n =
      let fixed = Every-mono (λ l. (is_fixed l ≡ true) × IsSome (kind_of_leaf l)) (λ l. is_fixed l ≡ true) (λ l z. z.0) ls leaf-fixed in
      let u = placeholder-at is_fixed no-param k n ls fixed i a in
      let v = placeholder-at is_fixed no-param k n ls fixed j b in
      let at-i = ap (as_place k) (term-there (own s) (placeholder k u.0) ls i u.1.at) ∙ own-place s k u.0 n in
      let at-j = ap (as_place k) (term-there (own s) (placeholder k v.0) ls j v.1.at) ∙ own-place s k v.0 n in
      let one = same-number-of s k u.0 v.0 (sym at-i ∙ same ∙ at-j) in
      one-place (placeholder k v.0) ls i j (once-leaves kind_of_leaf (leaves kind_in_clause [] e) g.predicate (once-leaves kind_in_clause [] e tt)) (subst (λ z. IsAt (placeholder k z) ls i) one u.1.at) v.1.at

  pub formed-question : IsFormedGoal V sorts is_unbound (question_of g) (values_under s g) × AsksUnderClauses E r s
  formed-question = (
    record {
      asked = record { form = form; decided = form-asked; admitted = admitted; of_fact = subst (IsFormedFact V sorts) (sym fact-is) fact-formed };
      closed = closed;
      places = record { proper = refl; fit = fit-own s ls; apart = apart };
    },
    record { reference = ap reference_in fact-is ∙ read-back; clauses = ap (λ (f : Fact). clauses_of f.goal.environment) fact-is ∙ clauses-back },
  )

pub formed-questions-are-goals : FormedQuestionsAreGoals
formed-questions-are-goals V sorts formed E r q s sorted = formed-question V sorts formed E r q s sorted
