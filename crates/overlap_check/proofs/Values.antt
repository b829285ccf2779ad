-- Values for a table's unknowns are those of a solution, as far as terms are resolved.
use Rattle.std.proofs.Common.{◌≡◌, ℕ, zero, suc, ◌+◌, arith, Bool, true, false, List, [], ◌∷◌, ◌++◌, refl, sym, ap, ◌∙◌, Option, Some, None, ◌||◌, unwrap_or}
use Rattle.std.specs.List.{slice_get}
use Rattle.type_terms.specs.Promised.Label.{Label, Sort, of_type, of_const, of_lifetime, infer}
use Rattle.type_terms.specs.Promised.Trees.{Trees, none, tree, erase}
use Rattle.infer_table.specs.Solutions.{Assignment, Binding, Solves, instance, tree_of, IsSorted, HasValues, is_same_variable, occurs, resolved, value_in}
use Rattle.infer_table.specs.Content.{Table, IsProper}
use Rattle.infer_table.proofs.SolutionLaws.{is_variable-self}
use Rattle.type_terms.specs.Promised.Questions.{FitKinds, of_kind, filled}
use Rattle.overlap_check.specs.Goals.{repeated, unknown_kinds}
use Rattle.overlap_check.proofs.Standing.{own, own-sorted, own-is}
use Rattle.overlap_check.proofs.Instances.{node}
use Rattle.overlap_check.proofs.Covering.{run, all_values, filled-is, Known}
use Rattle.overlap_check.proofs.Solved.{Facts}
use Rattle.type_terms.proofs.BooleanBasics.{later-true}
use Rattle.type_terms.proofs.NumberBasics.{place-here}

-- ---- assignments that agree where a term has unknowns
first-true : (a b : Bool) → a ≡ true → a || b ≡ true
first-true a b e = ap (λ x. x || b) e

pub instance-agrees : (r s : Assignment) (x : Trees) → IsProper x → ((k : Sort) (v : ℕ) → HasValues k → occurs k v x ≡ true → r k v ≡ s k v) → instance r x ≡ instance s x
instance-agrees r s none p h = refl
instance-agrees r s (tree (infer of_type w) c o) p h =
    let e : r of_type w ≡ s of_type w = h of_type w tt (first-true (is_same_variable of_type w of_type w) (occurs of_type w o) (is_variable-self of_type w)) in
    node (ap (λ (q : Label × Trees). q.0) e) (ap (λ (q : Label × Trees). q.1) e) (instance-agrees r s o p.1 (λ k v g m. h k v g (later-true (is_same_variable of_type w k v) (occurs k v o) m)))
instance-agrees r s (tree (infer of_const w) c o) p h =
    let e : r of_const w ≡ s of_const w = h of_const w tt (first-true (is_same_variable of_const w of_const w) (occurs of_const w o) (is_variable-self of_const w)) in
    node (ap (λ (q : Label × Trees). q.0) e) (ap (λ (q : Label × Trees). q.1) e) (instance-agrees r s o p.1 (λ k v g m. h k v g (later-true (is_same_variable of_const w k v) (occurs k v o) m)))
instance-agrees r s (tree (infer of_lifetime w) c o) p h =
    node refl (ap (instance r) p.0 ∙ sym (ap (instance s) p.0)) (instance-agrees r s o p.1 (λ k v g m. h k v g (later-true (is_same_variable of_lifetime w k v) (occurs k v o) m)))
instance-agrees r s (tree l c o) p h =
    node refl (instance-agrees r s c p.0 (λ k v g m. h k v g (first-true (occurs k v c) (occurs k v o) m))) (instance-agrees r s o p.1 (λ k v g m. h k v g (later-true (occurs k v c) (occurs k v o) m)))

-- ---- the values in their places
abbrev pub given : List Sort → List Trees → Assignment
given ks ts k v = own k (unwrap_or (slice_get (of_kind k ks ts) v) none)

pub given-sorted : (ks : List Sort) (ts : List Trees) → IsSorted (given ks ts)
given-sorted ks ts = λ k v. own-sorted k (unwrap_or (slice_get (of_kind k ks ts) v) none)

cons : (x y : Trees) (xs ys : List Trees) → x ≡ y → xs ≡ ys → x ∷ xs ≡ y ∷ ys
cons x y xs ys p q = cc

place-next : (i v : ℕ) → suc i + v ≡ i + suc v
place-next i v = omega arith

-- a run of values in their places are these
run-back : (S : Assignment) (k : Sort) → HasValues k → (i : ℕ) (us : List Trees) (n : ℕ) → FitKinds (repeated k n) us → ((v : ℕ) (u : Trees) → slice_get us v ≡ Some u → S k (i + v) ≡ own k u) → run S k i n ≡ us
run-back S k h i [] zero f g = refl
run-back S k h i (u ∷ us) zero f g = absurd f
run-back S k h i [] (suc n) f g = absurd f
run-back S k h i (u ∷ us) (suc n) f g =
    cons (tree_of (S k i)) u (run S k (suc i) n) us (ap (λ m. tree_of (S k m)) (place-here i) ∙ ap tree_of (g zero u refl) ∙ own-is k u h f.0)
    (run-back S k h (suc i) us n f.1 (λ v w e. ap (S k) (place-next i v) ∙ g (suc v) w e))

-- those of constants come behind those of types
pub record Parts (n m : ℕ) (ts : List Trees) : Type 0 where
  pub types : List Trees
  pub consts : List Trees
  pub is : ts ≡ types ++ consts
  pub types_fit : FitKinds (repeated of_type n) types
  pub consts_fit : FitKinds (repeated of_const m) consts

parts-of : (n m : ℕ) (ts : List Trees) → FitKinds (repeated of_type n ++ repeated of_const m) ts → Parts n m ts
parts-of zero m ts f = record { types = []; consts = ts; is = refl; types_fit = tt; consts_fit = f }
parts-of (suc n) m [] f = absurd f
parts-of (suc n) m (t ∷ ts) f =
    let p = parts-of n m ts f.1 in
    record { types = t ∷ p.types; consts = p.consts; is = ap (λ l. t ∷ l) p.is; types_fit = (f.0, p.types_fit); consts_fit = p.consts_fit }

no-types : (m : ℕ) (ws : List Trees) → FitKinds (repeated of_const m) ws → of_kind of_type (repeated of_const m) ws ≡ []
no-types zero [] f = refl
no-types zero (w ∷ ws) f = absurd f
no-types (suc m) [] f = absurd f
no-types (suc m) (w ∷ ws) f = no-types m ws f.1

all-consts : (m : ℕ) (ws : List Trees) → FitKinds (repeated of_const m) ws → of_kind of_const (repeated of_const m) ws ≡ ws
all-consts zero [] f = refl
all-consts zero (w ∷ ws) f = absurd f
all-consts (suc m) [] f = absurd f
all-consts (suc m) (w ∷ ws) f = ap (λ l. w ∷ l) (all-consts m ws f.1)

the-types : (n m : ℕ) (us ws : List Trees) → FitKinds (repeated of_type n) us → FitKinds (repeated of_const m) ws → of_kind of_type (repeated of_type n ++ repeated of_const m) (us ++ ws) ≡ us
the-types zero m [] ws f g = no-types m ws g
the-types zero m (u ∷ us) ws f g = absurd f
the-types (suc n) m [] ws f g = absurd f
the-types (suc n) m (u ∷ us) ws f g = ap (λ l. u ∷ l) (the-types n m us ws f.1 g)

the-consts : (n m : ℕ) (us ws : List Trees) → FitKinds (repeated of_type n) us → FitKinds (repeated of_const m) ws → of_kind of_const (repeated of_type n ++ repeated of_const m) (us ++ ws) ≡ ws
the-consts zero m [] ws f g = all-consts m ws g
the-consts zero m (u ∷ us) ws f g = absurd f
the-consts (suc n) m [] ws f g = absurd f
the-consts (suc n) m (u ∷ us) ws f g = the-consts n m us ws f.1 g

at-place : (us : List Trees) (ts : List Trees) (v : ℕ) (u : Trees) → ts ≡ us → slice_get us v ≡ Some u → unwrap_or (slice_get ts v) none ≡ u
at-place us ts v u e f = ap (λ l. unwrap_or (slice_get l v) none) e ∙ ap (λ o. unwrap_or o none) f

zero-plus : (v : ℕ) → zero + v ≡ v
zero-plus v = omega arith

-- the values that the assignment gives are these
pub given-back : (t : Table) (ts : List Trees) → FitKinds (unknown_kinds t) ts → all_values (given (unknown_kinds t) ts) t ≡ ts
given-back t ts f =
    let p = parts-of t.ty_vars t.const_vars ts f in
    let S = given (unknown_kinds t) ts in
    let types : of_kind of_type (unknown_kinds t) ts ≡ p.types = ap (of_kind of_type (unknown_kinds t)) p.is ∙ the-types t.ty_vars t.const_vars p.types p.consts p.types_fit p.consts_fit in
    let consts : of_kind of_const (unknown_kinds t) ts ≡ p.consts = ap (of_kind of_const (unknown_kinds t)) p.is ∙ the-consts t.ty_vars t.const_vars p.types p.consts p.types_fit p.consts_fit in
    ap (λ l. l ++ run S of_const 0 t.const_vars)
    (run-back S of_type tt 0 p.types t.ty_vars p.types_fit (λ v u e. ap (S of_type) (zero-plus v) ∙ ap (own of_type) (at-place p.types (of_kind of_type (unknown_kinds t) ts) v u types e)))
    ∙ ap (λ l. p.types ++ l)
    (run-back S of_const tt 0 p.consts t.const_vars p.consts_fit (λ v u e. ap (S of_const) (zero-plus v) ∙ ap (own of_const) (at-place p.consts (of_kind of_const (unknown_kinds t) ts) v u consts e)))
    ∙ sym p.is

-- ---- a solution that reads a term as these values do
module _ (t : Table) (bs : List Binding) (facts : Facts bs) (ts : List Trees) (fit : FitKinds (unknown_kinds t) ts) where
  abbrev chosen : Assignment
  chosen = given (unknown_kinds t) ts

  pub solution : (S : Assignment) × Solves S bs × ((x : Trees) → IsProper x → Known chosen t (resolved bs x) → instance S x ≡ filled (unknown_kinds t) ts (erase (resolved bs x)))
  solution =
      let c = facts.completed chosen (given-sorted (unknown_kinds t) ts) in (
        c.0,
        c.1.solves,
        λ x p k.
            sym (facts.same c.0 x c.1.solves)
            ∙ instance-agrees c.0 chosen (resolved bs x) (facts.proper x p) (λ j v h m. by j v x (value_in bs j v) refl m (c.1.agrees j v))
            ∙ sym (filled-is chosen t (resolved bs x) (facts.proper x p) k)
            ∙ ap (λ us. filled (unknown_kinds t) us (erase (resolved bs x))) (given-back t ts fit),
      )
    where
      by : (j : Sort) (v : ℕ) (x : Trees) (o : Option Trees) → value_in bs j v ≡ o → occurs j v (resolved bs x) ≡ true → {r s : Label × Trees} → (value_in bs j v ≡ None → r ≡ s) → r ≡ s
      by j v x None e m f = f e
      by j v x (Some y) e m f = let n = facts.free j v y x e in absurd (clash m n)
        where
          clash : {b : Bool} → b ≡ true → b ≡ false → ⊥
          clash p q = cc
