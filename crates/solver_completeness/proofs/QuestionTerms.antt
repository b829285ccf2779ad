-- Terms over a table without inference variables whose readings are well-formed are well-formed, without canonical variables.
use Rattle.std.proofs.Common.{◌≡◌, Bool, true, false, not, ◌||◌, ℕ, refl, sym, ◌∙◌, ap, subst}
use Rattle.type_terms.specs.Promised.Label.{Label, Sort, of_type, of_const, of_lifetime, infer, param, placeholder, canonical, bound, value, static, dynamic, principal, auto_trait, predicate}
use Rattle.type_terms.specs.Promised.Trees.{Trees, none, tree, leaf, ◌+++◌, erase_label, sort_of, is_sort, some_node}
use Rattle.type_terms.specs.Trees.{is_no_tree}
use Rattle.type_terms.proofs.Fitting.{head-shut, child-shut, next-shut}
use Rattle.type_terms.specs.Made.{Standing, terms, bounds, traits, is_leaf_label, is_made}
use Rattle.type_terms.proofs.Made.{false-true, left, right, both, is_ordinary, made-ordinary, makes-ordinary, made-rest, last-bound, last-trait, never-dynamic, never-dynamic-bound, never-principal}
use Rattle.infer_table.proofs.SolutionLaws.{is_sort-equal as is-sort}
use Rattle.goal_evaluator.specs.Instances.{read_with, is_place, as_place, term_at}
use Rattle.goal_evaluator.specs.Content.{ChosenTerms, standing}
use Rattle.goal_evaluator.proofs.Labels.{last-made}
use Rattle.goal_evaluator.proofs.Nodes.{AreNodes}
use Rattle.goal_evaluator.proofs.Questions.{is-place}
use Rattle.goal_evaluator.proofs.Reading.{read-append}
use Rattle.goal_evaluator.proofs.Whole.{read-one}
use Rattle.goal_frames.specs.Forms.{is_unnumbered}

-- an unknown type or const
abbrev pub is_unknown : Label → Bool
is_unknown (infer of_type v) = true
is_unknown (infer of_const v) = true
is_unknown l = false

-- ---- places
record IsPlaceLabel (k : Sort) (t : Trees) : Type 0 where
  pub label : Label
  pub is : t ≡ leaf label
  pub sort : sort_of label ≡ k
  pub ordinary : is_ordinary label ≡ true

place-label : (k : Sort) (t : Trees) → is_place k t ≡ true → IsPlaceLabel k t
place-label k none h = absurd (false-true h)
place-label k (tree (param j i) none none) h = record { label = param j i; is = refl; sort = is-sort j k h; ordinary = refl }
place-label k (tree (placeholder j i) none none) h = record { label = placeholder j i; is = refl; sort = is-sort j k h; ordinary = refl }
place-label k t h = absurd (false-true h)

place-of : (k : Sort) (t : Trees) → IsPlaceLabel k (as_place k t)
place-of k t = place-label k (as_place k t) (is-place k t)

module _ (s : ChosenTerms) (sorted : (k : Sort) (v : ℕ) → sort_of (s.unknowns k v).0 ≡ k) (G : Label → Bool) where
  abbrev read : Trees → Trees
  read t = read_with (standing s) t

  -- what is read as nothing is nothing
  no-read : (c : Trees) → is_no_tree (read c) ≡ true → c ≡ none
  no-read none h = refl
  no-read (tree l d o) h =
      let x = read-one s sorted l d in
      absurd (false-true (ap is_no_tree (ap (λ z. z +++ read o) (sym x.is) ∙ sym (read-append (standing s) (tree l d none) o)) ∙ h))

  leaf-made : (l : Label) (c o : Trees) → is_ordinary l ≡ true → is_unnumbered l ≡ true → c ≡ none → is_made is_unnumbered terms o ≡ true → is_made is_unnumbered terms (tree l c o) ≡ true
  leaf-made l c o i g e h = subst (λ z. is_made is_unnumbered terms (tree l z o) ≡ true) (sym e) (makes-ordinary is_unnumbered l none o i g (or-true (not (is_leaf_label l))) refl h)
    where
      or-true : (b : Bool) → (b || true) ≡ true
      or-true true = refl
      or-true false = refl

  -- a place, and what stands behind it
  behind-place : (k : Sort) (i : ℕ) (o : Trees) → is_made G terms (as_place k (term_at s.own.terms i) +++ o) ≡ true → is_made G terms o ≡ true
  behind-place k i o h =
      let x = place-of k (term_at s.own.terms i) in
      made-rest G x.label none o (subst (λ z. is_made G terms (z +++ o) ≡ true) x.is h)

  not-lifetime : (k : Sort) (l : Label) → sort_of l ≡ k → is_sort k of_lifetime ≡ false → is_sort (sort_of l) of_lifetime ≡ true → ⊥
  not-lifetime k l e f g = false-true (sym f ∙ sym (ap (λ z. is_sort z of_lifetime) e) ∙ g)

  no-place-bound : (k : Sort) (i : ℕ) (o : Trees) → is_sort k of_lifetime ≡ false → is_made G bounds (as_place k (term_at s.own.terms i) +++ o) ≡ true → ⊥
  no-place-bound k i o f h =
      let x = place-of k (term_at s.own.terms i) in
      not-lifetime k x.label x.sort f (last-bound G x.label none o x.ordinary (subst (λ z. is_made G bounds (z +++ o) ≡ true) x.is h)).lifetime

  no-place-trait : (k : Sort) (i : ℕ) (o : Trees) → is_sort k of_lifetime ≡ false → is_made G traits (as_place k (term_at s.own.terms i) +++ o) ≡ true → ⊥
  no-place-trait k i o f h =
      let x = place-of k (term_at s.own.terms i) in
      not-lifetime k x.label x.sort f (last-trait G x.label none o x.ordinary (subst (λ z. is_made G traits (z +++ o) ≡ true) x.is h)).lifetime

  -- the last lifetime among bounds
  last-back : (l : Label) (c o : Trees) → is_sort (sort_of l) of_lifetime ≡ true → is_unnumbered l ≡ true → c ≡ none → o ≡ none
      → (is_made is_unnumbered traits (tree l c o) ≡ true) × (is_made is_unnumbered bounds (tree l c o) ≡ true)
  last-back l c o e g p q =
      subst (λ z. (is_made is_unnumbered traits (tree l z o) ≡ true) × (is_made is_unnumbered bounds (tree l z o) ≡ true)) (sym p)
      (subst (λ z. (is_made is_unnumbered traits (tree l none z) ≡ true) × (is_made is_unnumbered bounds (tree l none z) ≡ true)) (sym q) (last-made is_unnumbered l e g))

  none-behind : (o : Trees) → read o ≡ none → o ≡ none
  none-behind o e = no-read o (ap is_no_tree e)

  last-bound-back : (l : Label) (c o : Trees) → is_sort (sort_of l) of_lifetime ≡ true → is_unnumbered l ≡ true → c ≡ none → is_made G bounds (tree static none (read o)) ≡ true → is_made is_unnumbered bounds (tree l c o) ≡ true
  last-bound-back l c o e g p h = (last-back l c o e g p (none-behind o (last-bound G static none (read o) refl h).rest)).1

  last-trait-back : (l : Label) (c o : Trees) → is_sort (sort_of l) of_lifetime ≡ true → is_unnumbered l ≡ true → c ≡ none → is_made G traits (tree static none (read o)) ≡ true → is_made is_unnumbered traits (tree l c o) ≡ true
  last-trait-back l c o e g p h = (last-back l c o e g p (none-behind o (last-trait G static none (read o) refl h).rest)).0

  abbrev NoUnknowns : Trees → Type 0
  NoUnknowns t = some_node is_unknown t ≡ false

  pub made-back : (m : Standing) (t : Trees) → AreNodes t → NoUnknowns t → is_made G m (read t) ≡ true → is_made is_unnumbered m t ≡ true
  made-back terms none n u h = refl
  made-back terms (tree (infer of_type v) c o) n u h = absurd (false-true (sym (head-shut is_unknown (infer of_type v) c o u)))
  made-back terms (tree (infer of_const v) c o) n u h = absurd (false-true (sym (head-shut is_unknown (infer of_const v) c o u)))
  made-back terms (tree (infer of_lifetime v) c o) n u h =
      leaf-made (infer of_lifetime v) c o refl refl n.0 (made-back terms o n.2 (next-shut is_unknown (infer of_lifetime v) c o u) (made-rest G static none (read o) h))
  made-back terms (tree (placeholder of_type i) c o) n u h =
      leaf-made (placeholder of_type i) c o refl refl n.0 (made-back terms o n.2 (next-shut is_unknown (placeholder of_type i) c o u) (behind-place of_type i (read o) h))
  made-back terms (tree (placeholder of_const i) c o) n u h =
      leaf-made (placeholder of_const i) c o refl refl n.0 (made-back terms o n.2 (next-shut is_unknown (placeholder of_const i) c o u) (behind-place of_const i (read o) h))
  made-back terms (tree (placeholder of_lifetime i) c o) n u h =
      leaf-made (placeholder of_lifetime i) c o refl refl n.0 (made-back terms o n.2 (next-shut is_unknown (placeholder of_lifetime i) c o u) (made-rest G static none (read o) h))
  made-back terms (tree (param of_type i) c o) n u h = absurd n.0
  made-back terms (tree (param of_const i) c o) n u h = absurd n.0
  made-back terms (tree (param of_lifetime i) c o) n u h =
      leaf-made (param of_lifetime i) c o refl refl n.0 (made-back terms o n.2 (next-shut is_unknown (param of_lifetime i) c o u) (made-rest G static none (read o) h))
  made-back terms (tree (canonical k i) c o) n u h = absurd n.0
  made-back terms (tree static c o) n u h = leaf-made static c o refl refl n.0 (made-back terms o n.2 (next-shut is_unknown static c o u) (made-rest G static none (read o) h))
  made-back terms (tree (bound of_lifetime i j) c o) n u h =
      leaf-made (bound of_lifetime i j) c o refl refl n.0 (made-back terms o n.2 (next-shut is_unknown (bound of_lifetime i j) c o u) (made-rest G static none (read o) h))
  made-back terms (tree (bound of_type i j) c o) n u h =
      let x = made-ordinary G (bound of_type i j) (read c) (read o) refl h in
      leaf-made (bound of_type i j) c o refl refl (no-read c x.1) (made-back terms o n.2 (next-shut is_unknown (bound of_type i j) c o u) x.3)
  made-back terms (tree (bound of_const i j) c o) n u h =
      let x = made-ordinary G (bound of_const i j) (read c) (read o) refl h in
      leaf-made (bound of_const i j) c o refl refl (no-read c x.1) (made-back terms o n.2 (next-shut is_unknown (bound of_const i j) c o u) x.3)
  made-back terms (tree (value k) c o) n u h =
      let x = made-ordinary G (value k) (read c) (read o) refl h in
      leaf-made (value k) c o refl refl (no-read c x.1) (made-back terms o n.2 (next-shut is_unknown (value k) c o u) x.3)
  made-back terms (tree dynamic c o) n u h =
      both (is_made is_unnumbered bounds c) (is_made is_unnumbered terms o)
      (made-back bounds c n.1 (child-shut is_unknown dynamic c o u) (left (is_made G bounds (read c)) (is_made G terms (read o)) h))
      (made-back terms o n.2 (next-shut is_unknown dynamic c o u) (right (is_made G bounds (read c)) (is_made G terms (read o)) h))
  made-back terms (tree (principal i j) c o) n u h = absurd (false-true h)
  made-back terms (tree (auto_trait i) c o) n u h = absurd (false-true h)
  made-back terms (tree (predicate k) c o) n u h = absurd (false-true h)
  made-back terms (tree l c o) n u h =
      let x = made-ordinary G (erase_label l) (read c) (read o) refl h in
      makes-ordinary is_unnumbered l c o refl refl refl (made-back terms c n.1 (child-shut is_unknown l c o u) x.2) (made-back terms o n.2 (next-shut is_unknown l c o u) x.3)
  made-back bounds none n u h = absurd (false-true h)
  made-back bounds (tree (infer of_type v) c o) n u h = absurd (false-true (sym (head-shut is_unknown (infer of_type v) c o u)))
  made-back bounds (tree (infer of_const v) c o) n u h = absurd (false-true (sym (head-shut is_unknown (infer of_const v) c o u)))
  made-back bounds (tree (infer of_lifetime v) c o) n u h = last-bound-back (infer of_lifetime v) c o refl refl n.0 h
  made-back bounds (tree (placeholder of_type i) c o) n u h = absurd (no-place-bound of_type i (read o) refl h)
  made-back bounds (tree (placeholder of_const i) c o) n u h = absurd (no-place-bound of_const i (read o) refl h)
  made-back bounds (tree (placeholder of_lifetime i) c o) n u h = last-bound-back (placeholder of_lifetime i) c o refl refl n.0 h
  made-back bounds (tree (param of_type i) c o) n u h = absurd n.0
  made-back bounds (tree (param of_const i) c o) n u h = absurd n.0
  made-back bounds (tree (param of_lifetime i) c o) n u h = last-bound-back (param of_lifetime i) c o refl refl n.0 h
  made-back bounds (tree (canonical k i) c o) n u h = absurd n.0
  made-back bounds (tree static c o) n u h = last-bound-back static c o refl refl n.0 h
  made-back bounds (tree (bound of_lifetime i j) c o) n u h = last-bound-back (bound of_lifetime i j) c o refl refl n.0 h
  made-back bounds (tree (principal i j) c o) n u h =
      both (is_made is_unnumbered terms c) (is_made is_unnumbered traits o)
      (made-back terms c n.1 (child-shut is_unknown (principal i j) c o u) (left (is_made G terms (read c)) (is_made G traits (read o)) h))
      (made-back traits o n.2 (next-shut is_unknown (principal i j) c o u) (right (is_made G terms (read c)) (is_made G traits (read o)) h))
  made-back bounds (tree (auto_trait i) c o) n u h =
      both (is_no_tree c) (is_made is_unnumbered traits o) (ap is_no_tree (no-read c (left (is_no_tree (read c)) (is_made G traits (read o)) h)))
      (made-back traits o n.2 (next-shut is_unknown (auto_trait i) c o u) (right (is_no_tree (read c)) (is_made G traits (read o)) h))
  made-back bounds (tree (predicate k) c o) n u h = absurd (false-true h)
  made-back bounds (tree dynamic c o) n u h = absurd (never-dynamic-bound G (read c) (read o) h)
  made-back bounds (tree l c o) n u h = absurd (false-true (last-bound G (erase_label l) (read c) (read o) refl h).lifetime)
  made-back traits none n u h = absurd (false-true h)
  made-back traits (tree (infer of_type v) c o) n u h = absurd (false-true (sym (head-shut is_unknown (infer of_type v) c o u)))
  made-back traits (tree (infer of_const v) c o) n u h = absurd (false-true (sym (head-shut is_unknown (infer of_const v) c o u)))
  made-back traits (tree (infer of_lifetime v) c o) n u h = last-trait-back (infer of_lifetime v) c o refl refl n.0 h
  made-back traits (tree (placeholder of_type i) c o) n u h = absurd (no-place-trait of_type i (read o) refl h)
  made-back traits (tree (placeholder of_const i) c o) n u h = absurd (no-place-trait of_const i (read o) refl h)
  made-back traits (tree (placeholder of_lifetime i) c o) n u h = last-trait-back (placeholder of_lifetime i) c o refl refl n.0 h
  made-back traits (tree (param of_type i) c o) n u h = absurd n.0
  made-back traits (tree (param of_const i) c o) n u h = absurd n.0
  made-back traits (tree (param of_lifetime i) c o) n u h = last-trait-back (param of_lifetime i) c o refl refl n.0 h
  made-back traits (tree (canonical k i) c o) n u h = absurd n.0
  made-back traits (tree static c o) n u h = last-trait-back static c o refl refl n.0 h
  made-back traits (tree (bound of_lifetime i j) c o) n u h = last-trait-back (bound of_lifetime i j) c o refl refl n.0 h
  made-back traits (tree (auto_trait i) c o) n u h =
      both (is_no_tree c) (is_made is_unnumbered traits o) (ap is_no_tree (no-read c (left (is_no_tree (read c)) (is_made G traits (read o)) h)))
      (made-back traits o n.2 (next-shut is_unknown (auto_trait i) c o u) (right (is_no_tree (read c)) (is_made G traits (read o)) h))
  made-back traits (tree (principal i j) c o) n u h = absurd (never-principal G 0 j (read c) (read o) h)
  made-back traits (tree (predicate k) c o) n u h = absurd (false-true h)
  made-back traits (tree dynamic c o) n u h = absurd (never-dynamic G (read c) (read o) h)
  made-back traits (tree l c o) n u h = absurd (false-true (last-trait G (erase_label l) (read c) (read o) refl h).lifetime)
