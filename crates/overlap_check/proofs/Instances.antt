-- Instances of what an impl declares: by solutions of a table, and by closed terms.
use Rattle.std.proofs.Common.{◌≡◌, ℕ, zero, suc, Bool, true, false, if◌then◌else◌, List, [], ◌∷◌, refl, sym, ap, ◌∙◌, subst, Some, ◌||◌}
use Rattle.type_terms.specs.Promised.Label.{Label, Sort, of_type, of_const, of_lifetime, infer, param, placeholder, canonical, bound, static, fn_ptr, principal, inside}
use Rattle.type_terms.specs.Promised.Trees.{Trees, none, tree, ◌+++◌, nth, shift, instantiate, sort_of, IsA, Fits, erase, erase_label, some_node}
use Rattle.type_terms.specs.Promised.Answers.{is_open}
use Rattle.type_terms.proofs.Fitting.{head-shut, child-shut, next-shut, or-no}
use Rattle.infer_table.specs.Solutions.{Assignment, instance, tree_of, IsSorted, HasValues}
use Rattle.infer_table.specs.Content.{Table}
use Rattle.infer_table.proofs.SolutionLaws.{instance-append}
use Rattle.term_folds.specs.Arguments.{sort_at}
use Rattle.overlap_check.specs.Fresh.{with_unknown, fresh_unknowns, HasArguments as Speaks}
use Rattle.overlap_check.proofs.Standing.{Gives, default_node, fresh-lifetime, default-sorted as default-sort}
use Rattle.type_terms.proofs.TermBasics.{joined}
use Rattle.type_terms.proofs.Matching.{or-false-left as no-left}
pub use Rattle.overlap_check.proofs.Filling.{node}

pub no-type : of_type ≡ of_lifetime → ⊥
no-type e = cc

pub no-const : of_const ≡ of_lifetime → ⊥
no-const e = cc

-- ---- what is closed is not moved
pub shut-stays : (d a : ℕ) (t : Trees) → some_node is_open t ≡ false → shift d a t ≡ t
shut-stays d a none h = refl
shut-stays d a (tree (bound s k i) c o) h = absurd cc
shut-stays d a (tree (fn_ptr n) c o) h = node refl (shut-stays (suc d) a c (child-shut is_open (fn_ptr n) c o h)) (shut-stays d a o (next-shut is_open (fn_ptr n) c o h))
shut-stays d a (tree (principal n t) c o) h = node refl (shut-stays (suc d) a c (child-shut is_open (principal n t) c o h)) (shut-stays d a o (next-shut is_open (principal n t) c o h))
shut-stays d a (tree l c o) h = node refl (shut-stays d a c (child-shut is_open l c o h)) (shut-stays d a o (next-shut is_open l c o h))

pub nth-shut : (t : Trees) (i : ℕ) → some_node is_open t ≡ false → some_node is_open (nth t i) ≡ false
nth-shut none i h = refl
nth-shut (tree l c o) zero h = head-shut is_open l c o h
nth-shut (tree l c o) (suc i) h = nth-shut o i (next-shut is_open l c o h)

-- ---- with unknowns put in for the parameters: an instance is what the terms for these make of it
module _ (S : Assignment) (I A : Trees) (gives : Gives S I A) (shut : some_node is_open A ≡ false) where
  stays : (d i : ℕ) → shift zero d (nth A i) ≡ nth A i
  stays d i = shut-stays zero d (nth A i) (nth-shut A i shut)

  abbrev Same : ℕ → Trees → Type 0
  Same d t = instance S (instantiate d I t) ≡ instantiate d A (erase t)

  value-put : (d i : ℕ) (k : Sort) (o : Trees) → HasValues k → sort_at I i ≡ Some k → IsA k (nth A i) → Same d o → instance S (shift zero d (nth I i) +++ instantiate d I o) ≡ shift zero d (nth A i) +++ instantiate d A (erase o)
  value-put d i k o v s a e = instance-append S (shift zero d (nth I i)) (instantiate d I o) ∙ joined (gives.known d i k v s a ∙ sym (stays d i)) e

  pub instance-put : (d : ℕ) (t : Trees) → Speaks I t → Fits A (erase t) → Same d t
  instance-put d none h f = refl
  instance-put d (tree (param of_lifetime i) c o) h f =
      instance-append S (shift zero d (nth I i)) (instantiate d I o)
      ∙ joined (gives.lifetime d i h.0) (instance-put d o h.2 f.1)
      ∙ ap (λ x. tree static (instantiate d A (erase x)) (instantiate d A (erase o))) (sym h.1)
  instance-put d (tree (param of_type i) c o) h f = value-put d i of_type o tt h.0 f.0 (instance-put d o h.2 f.2)
  instance-put d (tree (param of_const i) c o) h f = value-put d i of_const o tt h.0 f.0 (instance-put d o h.2 f.2)
  instance-put d (tree (infer of_type v) c o) h f = absurd (no-type h.0)
  instance-put d (tree (infer of_const v) c o) h f = absurd (no-const h.0)
  instance-put d (tree (infer of_lifetime v) c o) h f = node refl (ap (λ x. instance S (instantiate d I x)) h.1 ∙ sym (ap (λ x. instantiate d A (erase x)) h.1)) (instance-put d o h.2 f.1)
  instance-put d (tree (placeholder of_type v) c o) h f = node refl (instance-put d c h.1 f.0) (instance-put d o h.2 f.1)
  instance-put d (tree (placeholder of_const v) c o) h f = node refl (instance-put d c h.1 f.0) (instance-put d o h.2 f.1)
  instance-put d (tree (placeholder of_lifetime v) c o) h f = node refl (instance-put d c h.1 f.0) (instance-put d o h.2 f.1)
  instance-put d (tree (canonical of_type v) c o) h f = node refl (instance-put d c h.1 f.0) (instance-put d o h.2 f.1)
  instance-put d (tree (canonical of_const v) c o) h f = node refl (instance-put d c h.1 f.0) (instance-put d o h.2 f.1)
  instance-put d (tree (canonical of_lifetime v) c o) h f = node refl (instance-put d c h.1 f.0) (instance-put d o h.2 f.1)
  instance-put d (tree (bound of_type k v) c o) h f = node refl (instance-put d c h.1 f.0) (instance-put d o h.2 f.1)
  instance-put d (tree (bound of_const k v) c o) h f = node refl (instance-put d c h.1 f.0) (instance-put d o h.2 f.1)
  instance-put d (tree (bound of_lifetime k v) c o) h f = node refl (instance-put d c h.1 f.0) (instance-put d o h.2 f.1)
  instance-put d (tree (fn_ptr n) c o) h f = node refl (instance-put (suc d) c h.1 f.0) (instance-put d o h.2 f.1)
  instance-put d (tree (principal n i) c o) h f = node refl (instance-put (suc d) c h.1 f.0) (instance-put d o h.2 f.1)
  instance-put d (tree l c o) h f = node refl (instance-put d c h.1 f.0) (instance-put d o h.2 f.1)

-- ---- the terms that an assignment gives to a row of unknowns
nth-instance : (S : Assignment) (t : Table) (ks : List Sort) (d i : ℕ) (k : Sort) → HasValues k → sort_at (fresh_unknowns t ks) i ≡ Some k
    → instance S (shift zero d (nth (fresh_unknowns t ks) i)) ≡ nth (instance S (fresh_unknowns t ks)) i
nth-instance S t [] d i k v e = absurd cc
nth-instance S t (of_type ∷ ks) d zero k v e = refl
nth-instance S t (of_const ∷ ks) d zero k v e = refl
nth-instance S t (of_lifetime ∷ ks) d zero k v e = refl
nth-instance S t (of_type ∷ ks) d (suc i) k v e = nth-instance S (with_unknown t of_type) ks d i k v e
nth-instance S t (of_const ∷ ks) d (suc i) k v e = nth-instance S (with_unknown t of_const) ks d i k v e
nth-instance S t (of_lifetime ∷ ks) d (suc i) k v e = nth-instance S (with_unknown t of_lifetime) ks d i k v e

pub own-gives : (S : Assignment) (t : Table) (ks : List Sort) → Gives S (fresh_unknowns t ks) (instance S (fresh_unknowns t ks))
own-gives S t ks = record { lifetime = fresh-lifetime S t ks; known = λ d i k v e a. nth-instance S t ks d i k v e }

instance-sorted : (S : Assignment) → IsSorted S → (t : Table) (ks : List Sort) (i : ℕ) (k : Sort) → HasValues k → sort_at (fresh_unknowns t ks) i ≡ Some k → IsA k (nth (instance S (fresh_unknowns t ks)) i)
instance-sorted S h t [] i k v e = absurd cc
instance-sorted S h t (of_type ∷ ks) zero of_type v e = (h of_type t.ty_vars, refl)
instance-sorted S h t (of_const ∷ ks) zero of_const v e = (h of_const t.const_vars, refl)
instance-sorted S h t (of_type ∷ ks) zero of_const v e = absurd cc
instance-sorted S h t (of_const ∷ ks) zero of_type v e = absurd cc
instance-sorted S h t (of_lifetime ∷ ks) zero of_type v e = absurd cc
instance-sorted S h t (of_lifetime ∷ ks) zero of_const v e = absurd cc
instance-sorted S h t (j ∷ ks) zero of_lifetime v e = absurd v
instance-sorted S h t (of_type ∷ ks) (suc i) k v e = instance-sorted S h (with_unknown t of_type) ks i k v e
instance-sorted S h t (of_const ∷ ks) (suc i) k v e = instance-sorted S h (with_unknown t of_const) ks i k v e
instance-sorted S h t (of_lifetime ∷ ks) (suc i) k v e = instance-sorted S h (with_unknown t of_lifetime) ks i k v e

-- they fit
module _ (S : Assignment) (sorted : IsSorted S) (t0 : Table) (ks : List Sort) where
  abbrev I : Trees
  I = fresh_unknowns t0 ks

  abbrev A : Trees
  A = instance S I

  pub own-fits : (t : Trees) → Speaks I t → Fits A (erase t)
  own-fits none h = tt
  own-fits (tree (param of_type i) c o) h = (instance-sorted S sorted t0 ks i of_type tt h.0, ap erase h.1, own-fits o h.2)
  own-fits (tree (param of_const i) c o) h = (instance-sorted S sorted t0 ks i of_const tt h.0, ap erase h.1, own-fits o h.2)
  own-fits (tree (param of_lifetime i) c o) h = (subst (λ x. Fits A (erase x)) (sym h.1) tt, own-fits o h.2)
  own-fits (tree (infer of_type v) c o) h = absurd (no-type h.0)
  own-fits (tree (infer of_const v) c o) h = absurd (no-const h.0)
  own-fits (tree (infer of_lifetime v) c o) h = (subst (λ x. Fits A (erase x)) (sym h.1) tt, own-fits o h.2)
  own-fits (tree (placeholder of_type v) c o) h = (own-fits c h.1, own-fits o h.2)
  own-fits (tree (placeholder of_const v) c o) h = (own-fits c h.1, own-fits o h.2)
  own-fits (tree (placeholder of_lifetime v) c o) h = (own-fits c h.1, own-fits o h.2)
  own-fits (tree (canonical of_type v) c o) h = (own-fits c h.1, own-fits o h.2)
  own-fits (tree (canonical of_const v) c o) h = (own-fits c h.1, own-fits o h.2)
  own-fits (tree (canonical of_lifetime v) c o) h = (own-fits c h.1, own-fits o h.2)
  own-fits (tree (bound of_type k v) c o) h = (own-fits c h.1, own-fits o h.2)
  own-fits (tree (bound of_const k v) c o) h = (own-fits c h.1, own-fits o h.2)
  own-fits (tree (bound of_lifetime k v) c o) h = (own-fits c h.1, own-fits o h.2)
  own-fits (tree l c o) h = (own-fits c h.1, own-fits o h.2)

-- ---- assignments of closed terms
abbrev pub IsShut : Assignment → Type 0
IsShut S = (k : Sort) (v : ℕ) → some_node is_open (tree_of (S k v)) ≡ false

shut-node : (l : Label) (c o : Trees) → some_node is_open (tree l c none) ≡ false → some_node is_open o ≡ false → some_node is_open (tree l c o) ≡ false
shut-node l c o h g = or-no (is_open l || some_node is_open c) (some_node is_open o) (no-left (is_open l || some_node is_open c) false h) g

pub own-shut : (S : Assignment) → IsShut S → (t : Table) (ks : List Sort) → some_node is_open (instance S (fresh_unknowns t ks)) ≡ false
own-shut S h t [] = refl
own-shut S h t (of_type ∷ ks) = shut-node (S of_type t.ty_vars).0 (S of_type t.ty_vars).1 (instance S (fresh_unknowns (with_unknown t of_type) ks)) (h of_type t.ty_vars) (own-shut S h (with_unknown t of_type) ks)
own-shut S h t (of_const ∷ ks) = shut-node (S of_const t.const_vars).0 (S of_const t.const_vars).1 (instance S (fresh_unknowns (with_unknown t of_const) ks)) (h of_const t.const_vars) (own-shut S h (with_unknown t of_const) ks)
own-shut S h t (of_lifetime ∷ ks) = own-shut S h (with_unknown t of_lifetime) ks

-- open places closed, each by a term of its sort
abbrev pub closing : Label → Label
closing l = if is_open l then (default_node (sort_of l)).0 else l

abbrev pub closed_off : Trees → Trees
closed_off none = none
closed_off (tree l c o) = tree (closing l) (closed_off c) (closed_off o)

abbrev pub shut_by : Assignment → Assignment
shut_by S k v = (closing (S k v).0, closed_off (S k v).1)

pub default-shut : (k : Sort) → is_open (default_node k).0 ≡ false
default-shut of_type = refl
default-shut of_const = refl
default-shut of_lifetime = refl

pub closing-shut : (l : Label) → is_open (closing l) ≡ false
closing-shut l = by (is_open l) refl
  where
    by : (b : Bool) → is_open l ≡ b → is_open (if b then (default_node (sort_of l)).0 else l) ≡ false
    by true e = default-shut (sort_of l)
    by false e = e

closing-sort : (l : Label) → sort_of (closing l) ≡ sort_of l
closing-sort l = by (is_open l)
  where
    by : (b : Bool) → sort_of (if b then (default_node (sort_of l)).0 else l) ≡ sort_of l
    by true = default-sort (sort_of l)
    by false = refl

pub closing-stays : (l : Label) → is_open l ≡ false → closing l ≡ l
closing-stays l e = ap (λ b. if b then (default_node (sort_of l)).0 else l) e

pub closed-shut : (t : Trees) → some_node is_open (closed_off t) ≡ false
closed-shut none = refl
closed-shut (tree l c o) = or-no (is_open (closing l) || some_node is_open (closed_off c)) (some_node is_open (closed_off o)) (or-no (is_open (closing l)) (some_node is_open (closed_off c)) (closing-shut l) (closed-shut c)) (closed-shut o)

pub shut-by-sorted : (S : Assignment) → IsSorted S → IsSorted (shut_by S)
shut-by-sorted S h = λ k v. closing-sort (S k v).0 ∙ h k v

pub shut-by-shut : (S : Assignment) → IsShut (shut_by S)
shut-by-shut S = λ k v. or-no (is_open (closing (S k v).0) || some_node is_open (closed_off (S k v).1)) false (or-no (is_open (closing (S k v).0)) (some_node is_open (closed_off (S k v).1)) (closing-shut (S k v).0) (closed-shut (S k v).1)) refl

-- Up to lifetimes no place is open but those of unknowns.
abbrev Settled : Trees → Type 0
Settled none = Unit {0}
Settled (tree (infer k v) c o) = Settled c × Settled o
Settled (tree l c o) = (is_open (erase_label l) ≡ false) × Settled c × Settled o

instance-shut : (S : Assignment) (t : Trees) → Settled t → instance (shut_by S) t ≡ closed_off (instance S t)
instance-shut S none h = refl
instance-shut S (tree (infer of_type v) c o) h = node refl refl (instance-shut S o h.1)
instance-shut S (tree (infer of_const v) c o) h = node refl refl (instance-shut S o h.1)
instance-shut S (tree (infer of_lifetime v) c o) h = node refl (instance-shut S c h.0) (instance-shut S o h.1)
instance-shut S (tree l c o) h = node (sym (closing-stays (erase_label l) h.0)) (instance-shut S c h.1) (instance-shut S o h.2)

settled-joined : (x y : Trees) → Settled x → Settled y → Settled (x +++ y)
settled-joined none y h g = g
settled-joined (tree (infer k v) c o) y h g = (h.0, settled-joined o y h.1 g)
settled-joined (tree l c o) y h g = (h.0, h.1, settled-joined o y h.2 g)

settled-unknown : (t : Table) (ks : List Sort) (d i : ℕ) → Settled (shift zero d (nth (fresh_unknowns t ks) i))
settled-unknown t [] d i = (refl, tt, tt)
settled-unknown t (k ∷ ks) d zero = (tt, tt)
settled-unknown t (k ∷ ks) d (suc i) = settled-unknown (with_unknown t k) ks d i

settled-put : (t0 : Table) (ks : List Sort) (d : ℕ) (t : Trees) → Speaks (fresh_unknowns t0 ks) t → Settled (instantiate d (fresh_unknowns t0 ks) t)
settled-put t0 ks d none h = tt
settled-put t0 ks d (tree (param s i) c o) h = settled-joined (shift zero d (nth (fresh_unknowns t0 ks) i)) _ (settled-unknown t0 ks d i) (settled-put t0 ks d o h.2)
settled-put t0 ks d (tree (infer k v) c o) h = (subst (λ x. Settled (instantiate d (fresh_unknowns t0 ks) x)) (sym h.1) tt, settled-put t0 ks d o h.2)
settled-put t0 ks d (tree (placeholder of_type v) c o) h = absurd cc
settled-put t0 ks d (tree (placeholder of_const v) c o) h = absurd cc
settled-put t0 ks d (tree (placeholder of_lifetime v) c o) h = (refl, settled-put t0 ks d c h.1, settled-put t0 ks d o h.2)
settled-put t0 ks d (tree (canonical of_type v) c o) h = absurd cc
settled-put t0 ks d (tree (canonical of_const v) c o) h = absurd cc
settled-put t0 ks d (tree (canonical of_lifetime v) c o) h = (refl, settled-put t0 ks d c h.1, settled-put t0 ks d o h.2)
settled-put t0 ks d (tree (bound of_type k v) c o) h = absurd cc
settled-put t0 ks d (tree (bound of_const k v) c o) h = absurd cc
settled-put t0 ks d (tree (bound of_lifetime k v) c o) h = (refl, settled-put t0 ks d c h.1, settled-put t0 ks d o h.2)
settled-put t0 ks d (tree l c o) h = (refl, settled-put t0 ks (inside l d) c h.1, settled-put t0 ks d o h.2)

-- a solution closed off is one
pub shut-equal : (S : Assignment) (t : Table) (ks : List Sort) (u : Table) (js : List Sort) (x y : Trees) → Speaks (fresh_unknowns t ks) x → Speaks (fresh_unknowns u js) y
    → instance S (instantiate zero (fresh_unknowns t ks) x) ≡ instance S (instantiate zero (fresh_unknowns u js) y)
    → instance (shut_by S) (instantiate zero (fresh_unknowns t ks) x) ≡ instance (shut_by S) (instantiate zero (fresh_unknowns u js) y)
shut-equal S t ks u js x y h g e =
    instance-shut S _ (settled-put t ks zero x h) ∙ ap closed_off e ∙ sym (instance-shut S _ (settled-put u js zero y g))

-- and an instance by it is closed
pub shut-instance : (S : Assignment) (t : Table) (ks : List Sort) (x : Trees) → Speaks (fresh_unknowns t ks) x → some_node is_open (instance (shut_by S) (instantiate zero (fresh_unknowns t ks) x)) ≡ false
shut-instance S t ks x h = ap (some_node is_open) (instance-shut S _ (settled-put t ks zero x h)) ∙ closed-shut (instance S (instantiate zero (fresh_unknowns t ks) x))
