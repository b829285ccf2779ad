-- Closed arguments in place of placeholders.
use Rattle.std.proofs.Common.{◌≡◌, ℕ, zero, suc, ◌≤◌, Bool, true, false, refl, ap, sym, ◌∙◌, ◌&&◌, ◌||◌, ◌==◌, subst, ◌⊎◌, inl, inr, arith}
use Rattle.type_terms.specs.Promised.Label.{Label, Sort, of_type, of_const, of_lifetime, dynamic, bound, param, placeholder, inside, shift_label}
use Rattle.type_terms.specs.Promised.Trees.{Trees, none, tree, ◌+++◌, nth, shift, instantiate, sort_of, is_sort, some_node, erase, IsA, Fits}
use Rattle.type_terms.specs.Trees.{outer_binder}
use Rattle.type_terms.specs.Promised.Answers.{is_open}
use Rattle.type_terms.specs.Promised.LinkedSet.{is_stray}
use Rattle.type_terms.specs.Promised.Supers.{no_param, dyns_of_bounds, opaque, mentions_as}
use Rattle.type_terms.proofs.Members.{same-number, self-number}
use Rattle.type_terms.proofs.Walking.{left, right, both, or-left, or-right, or-cases}
use Rattle.type_terms.proofs.TreeLaws.{shift-closed}
use Rattle.type_terms.proofs.Applies.{closed-outer}
use Rattle.type_terms.proofs.Fitting.{is-sort-sound, head-shut, child-shut, next-shut}
use Rattle.type_terms.proofs.FilledTrees.{Filling, put, Written, top, top-next}
use Rattle.type_terms.proofs.Matching.{or-false-left as no-left}
use Rattle.type_terms.proofs.TermBasics.{node, sort-self as sort-itself}

abbrev chosen : Bool → Label → Label → Label
chosen true l m = l
chosen false l m = m

abbrev chosen-trees : Bool → Trees → Trees
chosen-trees true c = c
chosen-trees false c = none

-- the label and the children of a tree of the sort; a tree of another sort isn't taken
abbrev label_for : Sort → ℕ → Trees → Label
label_for s i none = placeholder s i
label_for of_lifetime i (tree l c o) = placeholder of_lifetime i
label_for of_type i (tree l c o) = chosen (is_sort (sort_of l) of_type) l (placeholder of_type i)
label_for of_const i (tree l c o) = chosen (is_sort (sort_of l) of_const) l (placeholder of_const i)

abbrev inner_for : Sort → Trees → Trees
inner_for s none = none
inner_for of_lifetime (tree l c o) = none
inner_for of_type (tree l c o) = chosen-trees (is_sort (sort_of l) of_type) c
inner_for of_const (tree l c o) = chosen-trees (is_sort (sort_of l) of_const) c

pub shift-shut : (d a : ℕ) (t : Trees) → some_node is_open t ≡ false → shift d a t ≡ t
shift-shut d a t h = shift-closed d a t (le (outer_binder t) (closed-outer t h))
  where
    le : (n : ℕ) → n ≡ 0 → n ≤ d
    le n e = subst (λ m. m ≤ d) (sym e) (omega arith)

pub nth-shut : (A : Trees) (i : ℕ) → some_node is_open A ≡ false → some_node is_open (nth A i) ≡ false
nth-shut none i h = refl
nth-shut (tree l c o) zero h = head-shut is_open l c o h
nth-shut (tree l c o) (suc i) h = nth-shut o i (next-shut is_open l c o h)

chosen-sorted : (b : Bool) (s : Sort) (l m : Label) → is_sort (sort_of l) s ≡ b → sort_of m ≡ s → sort_of (chosen b l m) ≡ s
chosen-sorted true s l m e f = is-sort-sound (sort_of l) s e
chosen-sorted false s l m e f = f

closed-label-stays : (d a : ℕ) (l : Label) → is_open l ≡ false → shift_label d a l ≡ l
closed-label-stays d a (bound s k v) h = cc
closed-label-stays d a l h = refl

label-of : (l : Label) (c o : Trees) → some_node is_open (tree l c o) ≡ false → is_open l ≡ false
label-of l c o h = no-left (is_open l) (some_node is_open c) (no-left (is_open l || some_node is_open c) (some_node is_open o) h)

chosen-stays : (b : Bool) (d a : ℕ) (l : Label) (s : Sort) (i : ℕ) → is_open l ≡ false → shift_label d a (chosen b l (placeholder s i)) ≡ chosen b l (placeholder s i)
chosen-stays true d a l s i h = closed-label-stays d a l h
chosen-stays false d a l s i h = refl

chosen-inner-stays : (b : Bool) (d a : ℕ) (c : Trees) → some_node is_open c ≡ false → shift d a (chosen-trees b c) ≡ chosen-trees b c
chosen-inner-stays true d a c h = shift-shut d a c h
chosen-inner-stays false d a c h = refl

pub sorted-for : (s : Sort) (i : ℕ) (t : Trees) → sort_of (label_for s i t) ≡ s
sorted-for s i none = refl
sorted-for of_lifetime i (tree l c o) = refl
sorted-for of_type i (tree l c o) = chosen-sorted (is_sort (sort_of l) of_type) of_type l (placeholder of_type i) refl refl
sorted-for of_const i (tree l c o) = chosen-sorted (is_sort (sort_of l) of_const) of_const l (placeholder of_const i) refl refl

pub bare-for : (t : Trees) → inner_for of_lifetime t ≡ none
bare-for none = refl
bare-for (tree l c o) = refl

pub label-stays-for : (d a : ℕ) (s : Sort) (i : ℕ) (t : Trees) → some_node is_open t ≡ false → shift_label d a (label_for s i t) ≡ label_for s i t
label-stays-for d a s i none h = refl
label-stays-for d a of_lifetime i (tree l c o) h = refl
label-stays-for d a of_type i (tree l c o) h = chosen-stays (is_sort (sort_of l) of_type) d a l of_type i (label-of l c o h)
label-stays-for d a of_const i (tree l c o) h = chosen-stays (is_sort (sort_of l) of_const) d a l of_const i (label-of l c o h)

pub inner-stays-for : (d a : ℕ) (s : Sort) (t : Trees) → some_node is_open t ≡ false → shift d a (inner_for s t) ≡ inner_for s t
inner-stays-for d a s none h = refl
inner-stays-for d a of_lifetime (tree l c o) h = refl
inner-stays-for d a of_type (tree l c o) h = chosen-inner-stays (is_sort (sort_of l) of_type) d a c (child-shut is_open l c o h)
inner-stays-for d a of_const (tree l c o) h = chosen-inner-stays (is_sort (sort_of l) of_const) d a c (child-shut is_open l c o h)

-- Arguments without open places
abbrev pub filling : (A : Trees) → some_node is_open A ≡ false → Filling
filling A h = record {
  label = λ s i. label_for s i (nth A i);
  inner = λ s i. inner_for s (nth A i);
  sorted = λ s i. sorted-for s i (nth A i);
  bare = λ i. bare-for (nth A i);
  label_stays = λ d a s i. label-stays-for d a s i (nth A i) (nth-shut A i h);
  inner_stays = λ d a s i. inner-stays-for (inside (label_for s i (nth A i)) d) a s (nth A i) (nth-shut A i h);
}

-- The arguments are there, of the sorts of the parameters
abbrev pub Meets : Trees → Trees → Type 0
Meets A none = Unit {0}
Meets A (tree (param s i) c o) = IsA s (nth A i) × Meets A o
Meets A (tree l c o) = Meets A c × Meets A o

pub fits-meets : (A t : Trees) → Fits A t → Meets A t
fits-meets A none f = tt
fits-meets A (tree (param s i) c o) f = (f.0, fits-meets A o f.2)
fits-meets A (tree l c o) f = (fits-meets A c f.0, fits-meets A o f.1)

-- what fits each parameter of a header meets what mentions no others
pub fits-mentioned : (A h : Trees) → Fits A h → (s : Sort) (i : ℕ) → mentions_as s i h ≡ true → IsA s (nth A i)
fits-mentioned A none f s i m = cc
fits-mentioned A (tree (param r j) c o) f s i m = by (or-cases (is_sort s r && (i == j)) (mentions_as s i o) m) (fits-mentioned A o f.2 s i)
  where
    by : (is_sort s r && (i == j) ≡ true) ⊎ (mentions_as s i o ≡ true) → (mentions_as s i o ≡ true → IsA s (nth A i)) → IsA s (nth A i)
    by (inl e) g = subst (λ n. IsA s (nth A n)) (sym (same-number i j (right (is_sort s r) _ e))) (subst (λ x. IsA x (nth A j)) (sym (is-sort-sound s r (left (is_sort s r) _ e))) f.0)
    by (inr e) g = g e
fits-mentioned A (tree l c o) f s i m = by (or-cases (mentions_as s i c) (mentions_as s i o) m) (fits-mentioned A c f.0 s i) (fits-mentioned A o f.1 s i)
  where
    by : (mentions_as s i c ≡ true) ⊎ (mentions_as s i o ≡ true) → (mentions_as s i c ≡ true → IsA s (nth A i)) → (mentions_as s i o ≡ true → IsA s (nth A i)) → IsA s (nth A i)
    by (inl e) g k = g e
    by (inr e) g k = k e

pub meets-mentioned : (A t : Trees) → ((s : Sort) (i : ℕ) → mentions_as s i t ≡ true → IsA s (nth A i)) → Meets A t
meets-mentioned A none f = tt
meets-mentioned A (tree (param r j) c o) f = (
  f r j (or-left (is_sort r r && (j == j)) _ (both (is_sort r r) _ (sort-itself r) (self-number j))),
  meets-mentioned A o (λ s i m. f s i (or-right (is_sort s r && (i == j)) (mentions_as s i o) m)),
)
meets-mentioned A (tree l c o) f =
    (meets-mentioned A c (λ s i m. f s i (or-left (mentions_as s i c) _ m)), meets-mentioned A o (λ s i m. f s i (or-right (mentions_as s i c) (mentions_as s i o) m)))

abbrev children-of : Trees → Trees
children-of none = none
children-of (tree l c o) = c

abbrev others-of : Trees → Trees
others-of none = none
others-of (tree l c o) = o

abbrev label-is : Trees → Label
label-is none = dynamic
label-is (tree l c o) = l

-- the tree that stands for a type or const parameter
type-put : (d i : ℕ) (x y : Trees) → IsA of_type x → some_node is_open x ≡ false → tree (label_for of_type i x) (inner_for of_type x) y ≡ shift zero d x +++ y
type-put d i none y h z = absurd h
type-put d i (tree l c o) y h z = sym (ap (λ t. t +++ y) (shift-shut zero d (tree l c o) z) ∙ ap (λ t. tree l c (t +++ y)) h.1 ∙ at (is_sort (sort_of l) of_type) (ap (λ s. is_sort s of_type) h.0))
  where
    at : (b : Bool) → b ≡ true → tree l c y ≡ tree (chosen b l (placeholder of_type i)) (chosen-trees b c) y
    at true e = refl
    at false e = cc

const-put : (d i : ℕ) (x y : Trees) → IsA of_const x → some_node is_open x ≡ false → tree (label_for of_const i x) (inner_for of_const x) y ≡ shift zero d x +++ y
const-put d i none y h z = absurd h
const-put d i (tree l c o) y h z = sym (ap (λ t. t +++ y) (shift-shut zero d (tree l c o) z) ∙ ap (λ t. tree l c (t +++ y)) h.1 ∙ at (is_sort (sort_of l) of_const) (ap (λ s. is_sort s of_const) h.0))
  where
    at : (b : Bool) → b ≡ true → tree l c y ≡ tree (chosen b l (placeholder of_const i)) (chosen-trees b c) y
    at true e = refl
    at false e = cc

-- A tree of a declaration with its parameters opaque, and the arguments put in: its instance
module _ (A : Trees) (z : some_node is_open A ≡ false) where
  over-opaque-at : (b : Bool) (d : ℕ) (t : Trees) → some_node is_stray t ≡ false → dyns_of_bounds t ≡ true → top t b ≡ true → erase t ≡ t → Meets A t
      → put (filling A z) b (opaque t) ≡ instantiate d A t
  over-opaque-at b d none s w h e m = refl
  over-opaque-at true d (tree (param of_type i) c o) s w h e m =
      type-put d i (nth A i) (put (filling A z) true (opaque o)) m.0 (nth-shut A i z)
      ∙ ap (λ x. shift zero d (nth A i) +++ x) (over-opaque-at true d o (next-shut is_stray (param of_type i) c o s) (right (dyns_of_bounds c) _ w) refl (ap others-of e) m.1)
  over-opaque-at true d (tree (param of_const i) c o) s w h e m =
      const-put d i (nth A i) (put (filling A z) true (opaque o)) m.0 (nth-shut A i z)
      ∙ ap (λ x. shift zero d (nth A i) +++ x) (over-opaque-at true d o (next-shut is_stray (param of_const i) c o s) (right (dyns_of_bounds c) _ w) refl (ap others-of e) m.1)
  over-opaque-at true d (tree (param of_lifetime i) c o) s w h e m = let q = ap label-is e in cc
  over-opaque-at false d (tree (param r i) c o) s w h e m = cc
  over-opaque-at b d (tree (placeholder r i) c o) s w h e m = cc
  over-opaque-at b d (tree dynamic c o) s w h e m =
      node refl
      (over-opaque-at false d c (child-shut is_stray dynamic c o s) (left (dyns_of_bounds c) _ (right (no_param c) _ w)) (left (no_param c) _ w) (ap children-of e) m.0)
      (over-opaque-at b d o (next-shut is_stray dynamic c o s) (right (dyns_of_bounds c) _ (right (no_param c) _ w)) (top-next (filling A z) b dynamic c o h) (ap others-of e) m.1)
  over-opaque-at b d (tree l c o) s w h e m =
      node refl (over-opaque-at true (inside l d) c (child-shut is_stray l c o s) (left (dyns_of_bounds c) _ w) refl (ap children-of e) m.0)
      (over-opaque-at b d o (next-shut is_stray l c o s) (right (dyns_of_bounds c) _ w) (top-next (filling A z) b l c o h) (ap others-of e) m.1)

  pub over-opaque : (t : Trees) → Written t → erase t ≡ t → Meets A t → put (filling A z) true (opaque t) ≡ instantiate zero A t
  over-opaque t w e m = over-opaque-at true zero t w.0 w.1 refl e m
