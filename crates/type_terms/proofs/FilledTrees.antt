-- Terms in place of placeholders, and functions of terms.
use Rattle.std.proofs.Common.{◌≡◌, ℕ, zero, suc, Bool, true, false, refl, ap, sym, ◌∙◌, ◌==◌, if◌then◌else◌, subst}
use Rattle.type_terms.specs.Promised.Label.{Label, Sort, of_type, of_const, of_lifetime, never, dynamic, bound, param, placeholder, inside, shift_label}
use Rattle.type_terms.specs.Codes.{same}
use Rattle.type_terms.specs.Promised.Trees.{Trees, none, tree, ◌+++◌, leaf, nth, shift, instantiate, sort_of, some_node, IsA, Fits}
use Rattle.type_terms.specs.Trees.{first_of, standing_at, arguments_from, arguments, Single}
use Rattle.type_terms.specs.Promised.LinkedSet.{is_stray}
use Rattle.type_terms.specs.Promised.Supers.{no_param, dyns_of_bounds}
use Rattle.type_terms.proofs.Walking.{left, right}
use Rattle.type_terms.proofs.TreeLaws.{single-nth, single-shift}
use Rattle.type_terms.proofs.Matching.{same-sound}
use Rattle.type_terms.proofs.Fitting.{child-shut, next-shut}
use Rattle.type_terms.proofs.Applies.{same-complete}
use Rattle.type_terms.proofs.TermBasics.{joined as append-same, node}

-- A tree for each placeholder, of its sort and with no binder number that leads out of it
pub record Filling : Type 0 where
  pub label : Sort → ℕ → Label
  pub inner : Sort → ℕ → Trees
  pub sorted : (s : Sort) (i : ℕ) → sort_of (label s i) ≡ s
  pub bare : (i : ℕ) → inner of_lifetime i ≡ none
  pub label_stays : (d a : ℕ) (s : Sort) (i : ℕ) → shift_label d a (label s i) ≡ label s i
  pub inner_stays : (d a : ℕ) (s : Sort) (i : ℕ) → shift (inside (label s i) d) a (inner s i) ≡ inner s i

abbrev pub new_label : Filling → Label → Bool → Label
new_label σ (placeholder s i) true = σ.label s i
new_label σ (placeholder s i) false = placeholder s i
new_label σ l b = l

abbrev pub new_inner : Filling → Label → Bool → Trees → Trees → Trees
new_inner σ (placeholder s i) true x y = σ.inner s i
new_inner σ (placeholder s i) false x y = x
new_inner σ dynamic b x y = y
new_inner σ l b x y = x

-- The trees put in; not where b is false, and not where a bound of a `dyn` stands
abbrev pub put : Filling → Bool → Trees → Trees
put σ b none = none
put σ b (tree l c o) = tree (new_label σ l b) (new_inner σ l b (put σ true c) (put σ false c)) (put σ b o)

-- What is written in declarations, and may be put into: no open place but parameters, and none as a bound of a `dyn`
abbrev pub Written : Trees → Type 0
Written t = (some_node is_stray t ≡ false) × (dyns_of_bounds t ≡ true)

-- nor in the list, where b is false
abbrev pub top : Trees → Bool → Bool
top t true = true
top t false = no_param t

module _ (σ : Filling) where
  abbrev P : Trees → Trees
  P t = put σ true t

  pub over-append : (b : Bool) (x y : Trees) → put σ b (x +++ y) ≡ put σ b x +++ put σ b y
  over-append b none y = refl
  over-append b (tree l c o) y = ap (λ z. tree (new_label σ l b) (new_inner σ l b (put σ true c) (put σ false c)) z) (over-append b o y)

  pub over-shift : (b : Bool) (d a : ℕ) (t : Trees) → put σ b (shift d a t) ≡ shift d a (put σ b t)
  over-shift b d a none = refl
  over-shift true d a (tree (placeholder s i) c o) = node (sym (σ.label_stays d a s i)) (sym (σ.inner_stays d a s i)) (over-shift true d a o)
  over-shift false d a (tree (placeholder s i) c o) = node refl (over-shift true d a c) (over-shift false d a o)
  over-shift b d a (tree dynamic c o) = node refl (over-shift false d a c) (over-shift b d a o)
  over-shift b d a (tree (bound s k v) c o) = node refl (over-shift true d a c) (over-shift b d a o)
  over-shift b d a (tree l c o) = node refl (over-shift true (inside l d) a c) (over-shift b d a o)

  pub over-nth : (t : Trees) (i : ℕ) → P (nth t i) ≡ nth (P t) i
  over-nth none i = refl
  over-nth (tree l c o) zero = refl
  over-nth (tree l c o) (suc i) = over-nth o i

  pub top-next : (b : Bool) (l : Label) (c o : Trees) → top (tree l c o) b ≡ true → top o b ≡ true
  top-next true l c o h = refl
  top-next false (param s i) c o h = cc
  top-next false l c o h = h

  pub over-instantiate-at : (b : Bool) (d : ℕ) (B t : Trees) → some_node is_stray t ≡ false → dyns_of_bounds t ≡ true → top t b ≡ true
      → put σ b (instantiate d B t) ≡ instantiate d (P B) t
  over-instantiate-at b d B none z w h = refl
  over-instantiate-at true d B (tree (param s i) c o) z w h =
      over-append true (shift zero d (nth B i)) (instantiate d B o)
      ∙ ap (λ x. x +++ P (instantiate d B o)) (over-shift true zero d (nth B i) ∙ ap (shift zero d) (over-nth B i))
      ∙ ap (λ x. shift zero d (nth (P B) i) +++ x) (over-instantiate-at true d B o (next-shut is_stray (param s i) c o z) (right (dyns_of_bounds c) _ w) refl)
  over-instantiate-at false d B (tree (param s i) c o) z w h = cc
  over-instantiate-at b d B (tree (placeholder s i) c o) z w h = cc
  over-instantiate-at b d B (tree dynamic c o) z w h =
      node refl
      (over-instantiate-at false d B c (child-shut is_stray dynamic c o z) (left (dyns_of_bounds c) _ (right (no_param c) _ w)) (left (no_param c) _ w))
      (over-instantiate-at b d B o (next-shut is_stray dynamic c o z) (right (dyns_of_bounds c) _ (right (no_param c) _ w)) (top-next b dynamic c o h))
  over-instantiate-at b d B (tree l c o) z w h =
      node refl (over-instantiate-at true (inside l d) B c (child-shut is_stray l c o z) (left (dyns_of_bounds c) _ w) refl)
      (over-instantiate-at b d B o (next-shut is_stray l c o z) (right (dyns_of_bounds c) _ w) (top-next b l c o h))

  pub over-instantiate : (B t : Trees) → Written t → P (instantiate zero B t) ≡ instantiate zero (P B) t
  over-instantiate B t w = over-instantiate-at true zero B t w.0 w.1 refl

  -- what stands in an instance at the first place of a parameter
  over-first : (x y : Trees) → P (first_of x y) ≡ first_of (P x) (P y)
  over-first none y = refl
  over-first (tree l c o) y = refl

  first-same : {a b c d : Trees} → a ≡ b → c ≡ d → first_of a c ≡ first_of b d
  first-same p q = cc

  at-param : (i : ℕ) (s : Sort) (j : ℕ) (pc po x y : Trees) → Single x → P (standing_at i po y) ≡ standing_at i po (P y)
      → P (standing_at i (tree (param s j) pc po) (x +++ y)) ≡ standing_at i (tree (param s j) pc po) (P (x +++ y))
  at-param i s j pc po none y e h = absurd e
  at-param i s j pc po (tree m c o) y e h = subst (λ z. P (standing_at i (tree (param s j) pc po) (tree m c z +++ y)) ≡ standing_at i (tree (param s j) pc po) (P (tree m c z +++ y))) (sym e) (by (i == j))
    where
      by : (b : Bool) → P (if b then tree m c none else standing_at i po y)
          ≡ (if b then tree (new_label σ m true) (new_inner σ m true (put σ true c) (put σ false c)) none else standing_at i po (P y))
      by true = refl
      by false = h

  over-standing : (i : ℕ) (b : Bool) (d : ℕ) (B h : Trees) → some_node is_stray h ≡ false → dyns_of_bounds h ≡ true → top h b ≡ true
      → P (standing_at i h (instantiate d B h)) ≡ standing_at i h (put σ b (instantiate d B h))
  over-standing i b d B none z w k = refl
  over-standing i true d B (tree (param s j) pc po) z w k =
      at-param i s j pc po (shift zero d (nth B j)) (instantiate d B po) (single-shift zero d (nth B j) (single-nth B j))
      (over-standing i true d B po (next-shut is_stray (param s j) pc po z) (right (dyns_of_bounds pc) _ w) refl)
  over-standing i false d B (tree (param s j) pc po) z w k = cc
  over-standing i b d B (tree (placeholder s j) pc po) z w k = cc
  over-standing i b d B (tree dynamic pc po) z w k =
      over-first (standing_at i pc (instantiate d B pc)) (standing_at i po (instantiate d B po))
      ∙ first-same (over-standing i false d B pc (child-shut is_stray dynamic pc po z) (left (dyns_of_bounds pc) _ (right (no_param pc) _ w)) (left (no_param pc) _ w))
      (over-standing i b d B po (next-shut is_stray dynamic pc po z) (right (dyns_of_bounds pc) _ (right (no_param pc) _ w)) (top-next b dynamic pc po k))
  over-standing i b d B (tree l pc po) z w k =
      over-first (standing_at i pc (instantiate (inside l d) B pc)) (standing_at i po (instantiate d B po))
      ∙ first-same (over-standing i true (inside l d) B pc (child-shut is_stray l pc po z) (left (dyns_of_bounds pc) _ w) refl)
      (over-standing i b d B po (next-shut is_stray l pc po z) (right (dyns_of_bounds pc) _ w) (top-next b l pc po k))

  over-arguments-from : (k n : ℕ) (B h : Trees) → Written h → P (arguments_from k n h (instantiate zero B h)) ≡ arguments_from k n h (P (instantiate zero B h))
  over-arguments-from k zero B h w = refl
  over-arguments-from k (suc n) B h w =
      over-append true (first_of (standing_at k h (instantiate zero B h)) (leaf never)) (arguments_from (suc k) n h (instantiate zero B h))
      ∙ append-same (over-first (standing_at k h (instantiate zero B h)) (leaf never) ∙ ap (λ z. first_of z (leaf never)) (over-standing k true zero B h w.0 w.1 refl))
      (over-arguments-from (suc k) n B h w)

  pub over-arguments : (n : ℕ) (B h : Trees) → Written h → P (arguments n h (instantiate zero B h)) ≡ arguments n h (P (instantiate zero B h))
  over-arguments n B h w = over-arguments-from 0 n B h w

  -- fitting arguments fit
  label-sort : (l : Label) → sort_of (new_label σ l true) ≡ sort_of l
  label-sort (placeholder s i) = σ.sorted s i
  label-sort l = refl

  inner-none : (l : Label) (c : Trees) → sort_of l ≡ of_lifetime → c ≡ none → new_inner σ l true (put σ true c) (put σ false c) ≡ none
  inner-none (placeholder s i) c e q = subst (λ x. σ.inner x i ≡ none) (sym e) (σ.bare i)
  inner-none dynamic c e q = cc
  inner-none l c e q = ap P q

  is-a-filled : (s : Sort) (t : Trees) → IsA s t → IsA s (P t)
  is-a-filled s none h = h
  is-a-filled of_type (tree l c o) h = (label-sort l ∙ h.0, ap P h.1)
  is-a-filled of_const (tree l c o) h = (label-sort l ∙ h.0, ap P h.1)
  is-a-filled of_lifetime (tree l c o) h = (label-sort l ∙ h.0, inner-none l c h.0 h.1, ap P h.2)

  pub fits-filled : (A t : Trees) → Fits A t → Fits (P A) t
  fits-filled A none f = tt
  fits-filled A (tree (param s i) c o) f = (subst (IsA s) (over-nth A i) (is-a-filled s (nth A i) f.0), f.1, fits-filled A o f.2)
  fits-filled A (tree l c o) f = (fits-filled A c f.0, fits-filled A o f.1)

  -- equal trees stay equal
  pub same-filled : (x y : Trees) → same x y ≡ true → same (P x) (P y) ≡ true
  same-filled x y e = same-complete (P x) (P y) (ap P (same-sound x y e))
