-- Matching a rule's head finds the values for which the head is the given trait reference.
use Rattle.std.proofs.Common.{◌≡◌, ℕ, zero, suc, ◌+◌, ◌==◌, arith, Bool, true, false, ◌&&◌, ◌⊎◌, inl, inr, if◌then◌else◌, List, [], ◌∷◌, refl, sym, ◌∙◌, ap, subst, Some, None}
use Rattle.std.proofs.lemmas.Bool.{eqb-true, eq-eqb}
use Rattle.type_terms.specs.Promised.Label.{Label, Sort, of_type, of_const, of_lifetime, infer, param, placeholder, canonical, bound, static}
use Rattle.type_terms.specs.Promised.Trees.{Trees, none, tree, leaf, ◌+++◌, is_sort}
use Rattle.infer_table.specs.Solutions.{HasValues, tree_of}
use Rattle.infer_table.specs.declared.canonical.CanonicalVarKind.{CanonicalVarKind}
use Rattle.infer_table.specs.Raw.{sort_of_kind}
use Rattle.goal_evaluator.specs.Merge.{or_else}
use Rattle.goal_evaluator.specs.Instances.{read_with, of_sort, term_at}
use Rattle.goal_evaluator.specs.Content.{given}
use Rattle.goal_evaluator.specs.FrameTables.{kind_at}
use Rattle.type_terms.proofs.Made.{false-true, left, right}
use Rattle.infer_table.proofs.SolutionLaws.{is_sort-equal}
use Rattle.goal_evaluator.proofs.TableBeginning.{node_of, node-is}
use Rattle.goal_evaluator.specs.Variables.{LabelStandsIn}
use Rattle.goal_evaluator.proofs.Readings.{HasLeaves, AgreeIn}
use Rattle.goal_evaluator.proofs.Slots.{HasKind, of-sort-twice}
use Rattle.solver_completeness.specs.RuleWays.{value_at, or_none, matched}
use Rattle.type_terms.proofs.TermBasics.{is_sort-self}

module _ (ys : List Trees) (k : Sort) (i : ℕ) (g : HasValues k) where
  abbrev read : Trees → Trees
  read t = read_with (given ys) t

  abbrev wanted : Trees
  wanted = of_sort k (term_at ys i)

  -- found with its value, or nowhere
  abbrev Found : Trees → Trees → Type 0
  Found t x = (value_at k i t x ≡ Some wanted) ⊎ ((value_at k i t x ≡ None) × (LabelStandsIn (canonical k i) t → ⊥))

  label-parts : (j : Sort) (m : ℕ) → canonical j m ≡ canonical k i → (j ≡ k) × (m ≡ i)
  label-parts j m e = (cc, cc)

  -- a variable of types or consts
  at-variable : (j : Sort) (m : ℕ) (c o : Trees) → c ≡ none → Found o (read o) → Found (tree (canonical j m) c o) (of_sort j (term_at ys m) +++ read o)
  at-variable j m c o leafy rest =
      subst (λ z. Found (tree (canonical j m) c o) (z +++ read o)) (node-is j (term_at ys m)).whole (by (is_sort j k && (m == i)) refl)
    where
      n : Label × Trees
      n = node_of j (of_sort j (term_at ys m))

      is : j ≡ k → m ≡ i → tree_of n ≡ wanted
      is e f = (node-is j (term_at ys m)).whole ∙ ap (λ z. of_sort z (term_at ys m)) e ∙ ap (λ z. of_sort k (term_at ys z)) f

      not-here : (is_sort j k && (m == i)) ≡ false → (LabelStandsIn (canonical k i) o → ⊥) → LabelStandsIn (canonical k i) (tree (canonical j m) c o) → ⊥
      not-here q h (inl e) =
          let x = label-parts j m e in
          false-true (sym q ∙ subst (λ z. (is_sort z k && (m == i)) ≡ true) (sym x.0) (subst (λ z. (is_sort k k && (z == i)) ≡ true) (sym x.1) (ap (λ b. b && (i == i)) (is_sort-self k) ∙ eq-eqb i i refl)))
      not-here q h (inr (inl s)) = subst (LabelStandsIn (canonical k i)) leafy s
      not-here q h (inr (inr s)) = h s

      on : (is_sort j k && (m == i)) ≡ false → Found o (read o) → Found (tree (canonical j m) c o) (tree_of n +++ read o)
      on q (inl e) = inl (ap (λ b. if b then Some (tree n.0 n.1 none) else value_at k i o (read o)) q ∙ e)
      on q (inr e) = inr (ap (λ b. if b then Some (tree n.0 n.1 none) else value_at k i o (read o)) q ∙ e.0, not-here q e.1)

      by : (b : Bool) → (is_sort j k && (m == i)) ≡ b → Found (tree (canonical j m) c o) (tree_of n +++ read o)
      by true q = inl (ap (λ b. if b then Some (tree n.0 n.1 none) else value_at k i o (read o)) q ∙ ap Some (is (is_sort-equal j k (left (is_sort j k) _ q)) (eqb-true m i (right (is_sort j k) _ q))))
      by false q = on q rest

  -- no variable
  or-found : (l : Label) (c o x y : Trees) → (l ≡ canonical k i → ⊥) → Found c x → Found o y
      → (or_else (value_at k i c x) (value_at k i o y) ≡ Some wanted) ⊎ ((or_else (value_at k i c x) (value_at k i o y) ≡ None) × (LabelStandsIn (canonical k i) (tree l c o) → ⊥))
  or-found l c o x y n (inl e) f = inl (ap (λ z. or_else z (value_at k i o y)) e)
  or-found l c o x y n (inr e) (inl f) = inl (ap (λ z. or_else z (value_at k i o y)) e.0 ∙ f)
  or-found l c o x y n (inr e) (inr f) = inr (ap (λ z. or_else z (value_at k i o y)) e.0 ∙ f.0, by)
    where
      by : LabelStandsIn (canonical k i) (tree l c o) → ⊥
      by (inl s) = n s
      by (inr (inl s)) = e.1 s
      by (inr (inr s)) = f.1 s

  lifetime-absent : (m : ℕ) → canonical of_lifetime m ≡ canonical k i → ⊥
  lifetime-absent m e = subst HasValues (sym (label-parts of_lifetime m e).0) g

  -- a leaf that is read as another leaf
  leafy : (l : Label) (c o x : Trees) → c ≡ none → (l ≡ canonical k i → ⊥) → Found o (read o)
      → (or_else (value_at k i c x) (value_at k i o (read o)) ≡ Some wanted) ⊎ ((or_else (value_at k i c x) (value_at k i o (read o)) ≡ None) × (LabelStandsIn (canonical k i) (tree l c o) → ⊥))
  leafy l c o x e n f = or-found l c o x (read o) n (subst (λ z. Found z x) (sym e) (inr (refl, λ s. s))) f

  pub found : (t : Trees) → HasLeaves t → Found t (read t)
  found none h = inr (refl, λ s. s)
  found (tree (canonical of_type m) c o) h = at-variable of_type m c o (h.0 refl) (found o h.2)
  found (tree (canonical of_const m) c o) h = at-variable of_const m c o (h.0 refl) (found o h.2)
  found (tree (canonical of_lifetime m) c o) h = by (is_sort of_lifetime k && (m == i)) refl (found o h.2)
    where
      never : (is_sort of_lifetime k && (m == i)) ≡ true → ⊥
      never q = subst HasValues (sym (is_sort-equal of_lifetime k (left (is_sort of_lifetime k) _ q))) g

      absent : (LabelStandsIn (canonical k i) o → ⊥) → LabelStandsIn (canonical k i) (tree (canonical of_lifetime m) c o) → ⊥
      absent f (inl e) = lifetime-absent m e
      absent f (inr (inl s)) = subst (LabelStandsIn (canonical k i)) (h.0 refl) s
      absent f (inr (inr s)) = f s

      on : (is_sort of_lifetime k && (m == i)) ≡ false → Found o (read o) → Found (tree (canonical of_lifetime m) c o) (tree static none (read o))
      on q (inl e) = inl (ap (λ b. if b then Some (leaf static) else value_at k i o (read o)) q ∙ e)
      on q (inr e) = inr (ap (λ b. if b then Some (leaf static) else value_at k i o (read o)) q ∙ e.0, absent e.1)

      by : (b : Bool) → (is_sort of_lifetime k && (m == i)) ≡ b → Found o (read o) → Found (tree (canonical of_lifetime m) c o) (tree static none (read o))
      by true q f = absurd (never q)
      by false q f = on q f
  found (tree (infer j m) c o) h = leafy (infer j m) c o none (h.0 refl) (λ e. cc) (found o h.2)
  found (tree (param j m) c o) h = leafy (param j m) c o none (h.0 refl) (λ e. cc) (found o h.2)
  found (tree (placeholder j m) c o) h = leafy (placeholder j m) c o none (h.0 refl) (λ e. cc) (found o h.2)
  found (tree static c o) h = leafy static c o none (h.0 refl) (λ e. cc) (found o h.2)
  found (tree (bound of_lifetime m j) c o) h = leafy (bound of_lifetime m j) c o none (h.0 refl) (λ e. cc) (found o h.2)
  found (tree (bound of_type m j) c o) h = or-found (bound of_type m j) c o (read c) (read o) (λ e. cc) (found c h.1) (found o h.2)
  found (tree (bound of_const m j) c o) h = or-found (bound of_const m j) c o (read c) (read o) (λ e. cc) (found c h.1) (found o h.2)
  found (tree l c o) h = or-found l c o (read c) (read o) (λ e. cc) (found c h.1) (found o h.2)

-- ---- all variables
matched-at : (n : ℕ) (ks : List CanonicalVarKind) (pattern x : Trees) (i : ℕ) (kind : CanonicalVarKind) → kind_at ks i ≡ Some kind
    → term_at (matched n ks pattern x) i ≡ or_none (value_at (sort_of_kind kind) (n + i) pattern x)
matched-at n [] pattern x i kind e = absurd (cc)
matched-at n (k ∷ ks) pattern x zero kind e = ap (λ z. or_none (value_at (sort_of_kind z) n pattern x)) (same e) ∙ ap (λ m. or_none (value_at (sort_of_kind kind) m pattern x)) (plus-zero n)
  where
    same : Some k ≡ Some kind → k ≡ kind
    same e = cc

    plus-zero : (n : ℕ) → n ≡ n + 0
    plus-zero n = omega arith
matched-at n (k ∷ ks) pattern x (suc i) kind e = matched-at (suc n) ks pattern x i kind e ∙ ap (λ m. or_none (value_at (sort_of_kind kind) m pattern x)) (plus-suc n i)
  where
    plus-suc : (n i : ℕ) → suc n + i ≡ n + suc i
    plus-suc n i = omega arith

-- what is matched agrees with the values with which the pattern is read
pub matched-agree : (ks : List CanonicalVarKind) (pattern : Trees) → HasLeaves pattern → ((k : Sort) (i : ℕ) → LabelStandsIn (canonical k i) pattern → HasKind ks k i) → (ys : List Trees)
    → AgreeIn (matched 0 ks pattern (read_with (given ys) pattern)) ys pattern
matched-agree ks pattern leaves kinds ys k i g s =
    let y = kinds k i s in
    ap (of_sort k) (matched-at 0 ks pattern (read_with (given ys) pattern) i y.kind y.is ∙ ap (λ z. or_none (value_at z (0 + i) pattern (read_with (given ys) pattern))) y.sort
    ∙ ap (λ m. or_none (value_at k m pattern (read_with (given ys) pattern))) (zero-plus i) ∙ by (found ys k i g pattern leaves))
    ∙ of-sort-twice k (term_at ys i)
  where
    zero-plus : (i : ℕ) → 0 + i ≡ i
    zero-plus i = omega arith

    by : (value_at k i pattern (read_with (given ys) pattern) ≡ Some (of_sort k (term_at ys i))) ⊎ ((value_at k i pattern (read_with (given ys) pattern) ≡ None) × (LabelStandsIn (canonical k i) pattern → ⊥))
        → or_none (value_at k i pattern (read_with (given ys) pattern)) ≡ of_sort k (term_at ys i)
    by (inl e) = ap or_none e
    by (inr e) = absurd (e.1 s)
