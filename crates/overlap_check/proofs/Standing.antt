-- What assignments give to the unknowns that stand for parameters.
use Rattle.std.proofs.Common.{◌≡◌, ℕ, zero, suc, ◌≤◌, ◌<◌, arith, Bool, true, false, if◌then◌else◌, List, [], ◌∷◌, refl, sym, ap, ◌∙◌, subst, Some, ◌&&◌}
use Rattle.type_terms.specs.Promised.Label.{Label, Sort, of_type, of_const, of_lifetime, infer, never, uint, value, static}
use Rattle.type_terms.specs.Promised.Trees.{Trees, none, tree, leaf, nth, shift, sort_of, IsA, is_sort}
use Rattle.type_terms.specs.Trees.{is_a, is_no_tree}
use Rattle.type_terms.proofs.Walking.{left}
use Rattle.infer_table.specs.Solutions.{Assignment, instance, tree_of, is_same_variable, IsSorted, HasValues}
use Rattle.infer_table.specs.Content.{Table, variables_of}
use Rattle.infer_table.proofs.SolutionLaws.{is_sort-equal, is_variable-self, is_variable-equal}
use Rattle.term_folds.specs.Arguments.{sort_at}
use Rattle.overlap_check.specs.Fresh.{with_unknown, with_unknowns, fresh_unknowns}

-- ---- counts
pub one-more : (t : Table) (k : Sort) → variables_of (with_unknown t k) k ≡ suc (variables_of t k)
one-more t of_type = omega arith
one-more t of_const = omega arith
one-more t of_lifetime = omega arith

pub no-fewer : (t : Table) (j k : Sort) → variables_of t k ≤ variables_of (with_unknown t j) k
no-fewer t of_type of_type = omega arith
no-fewer t of_type of_const = omega arith
no-fewer t of_type of_lifetime = omega arith
no-fewer t of_const of_type = omega arith
no-fewer t of_const of_const = omega arith
no-fewer t of_const of_lifetime = omega arith
no-fewer t of_lifetime of_type = omega arith
no-fewer t of_lifetime of_const = omega arith
no-fewer t of_lifetime of_lifetime = omega arith

pub all-no-fewer : (t : Table) (ks : List Sort) (k : Sort) → variables_of t k ≤ variables_of (with_unknowns t ks) k
all-no-fewer t [] k = omega arith
all-no-fewer t (j ∷ ks) k = let a = no-fewer t j k in let b = all-no-fewer (with_unknown t j) ks k in omega (arith, a, b)

-- ---- one tree as what a variable stands for
abbrev pub default_node : Sort → Label × Trees
default_node of_type = (uint 0, none)
default_node of_const = (value 0, none)
default_node of_lifetime = (static, none)

abbrev pub root : Trees → Label × Trees
root none = (never, none)
root (tree l c o) = (l, c)

-- the tree, if it is of the sort
abbrev pub own : Sort → Trees → Label × Trees
own k t = if is_a k t then root t else default_node k

pub default-sorted : (k : Sort) → sort_of (default_node k).0 ≡ k
default-sorted of_type = refl
default-sorted of_const = refl
default-sorted of_lifetime = refl

root-sorted : (k : Sort) (t : Trees) → is_a k t ≡ true → sort_of (root t).0 ≡ k
root-sorted k none h = absurd cc
root-sorted of_type (tree l c o) h = is_sort-equal _ _ (left (is_sort (sort_of l) of_type) (is_no_tree o) h)
root-sorted of_const (tree l c o) h = is_sort-equal _ _ (left (is_sort (sort_of l) of_const) (is_no_tree o) h)
root-sorted of_lifetime (tree l c o) h = is_sort-equal _ _ (left (is_sort (sort_of l) of_lifetime) (is_no_tree c && is_no_tree o) h)

pub own-sorted : (k : Sort) (t : Trees) → sort_of (own k t).0 ≡ k
own-sorted k t = by (is_a k t) refl
  where
    by : (b : Bool) → is_a k t ≡ b → sort_of (if b then root t else default_node k).0 ≡ k
    by true e = root-sorted k t e
    by false e = default-sorted k

-- of the sort, it is itself
is-a-value : (k : Sort) (t : Trees) → HasValues k → IsA k t → (is_a k t ≡ true) × (tree_of (root t) ≡ t)
is-a-value of_type none v h = absurd h
is-a-value of_type (tree l c o) v h = rw (h.0, h.1) (refl, refl)
is-a-value of_const none v h = absurd h
is-a-value of_const (tree l c o) v h = rw (h.0, h.1) (refl, refl)
is-a-value of_lifetime t v h = absurd v

pub own-is : (k : Sort) (t : Trees) → HasValues k → IsA k t → tree_of (own k t) ≡ t
own-is k t v h = let p = is-a-value k t v h in ap (λ b. tree_of (if b then root t else default_node k)) p.0 ∙ p.1

-- ---- values for unknowns in a row
abbrev pub rest_of : Trees → Trees
rest_of none = none
rest_of (tree l c o) = o

nth-rest : (A : Trees) (i : ℕ) → nth A (suc i) ≡ nth (rest_of A) i
nth-rest none i = refl
nth-rest (tree l c o) i = refl

-- the trees of A for the unknowns of these sorts that the table would have next, and for others what s gives
abbrev pub assigned : Table → List Sort → Trees → Assignment → Assignment
assigned t [] A s k v = s k v
assigned t (j ∷ ks) A s k v = if is_same_variable j (variables_of t j) k v then own k (nth A zero) else assigned (with_unknown t j) ks (rest_of A) s k v

pub assigned-sorted : (t : Table) (ks : List Sort) (A : Trees) (s : Assignment) → IsSorted s → IsSorted (assigned t ks A s)
assigned-sorted t [] A s h = h
assigned-sorted t (j ∷ ks) A s h = λ k v. by k v (is_same_variable j (variables_of t j) k v) (assigned-sorted (with_unknown t j) ks (rest_of A) s h k v)
  where
    by : (k : Sort) (v : ℕ) (b : Bool) → sort_of (assigned (with_unknown t j) ks (rest_of A) s k v).0 ≡ k
        → sort_of (if b then own k (nth A zero) else assigned (with_unknown t j) ks (rest_of A) s k v).0 ≡ k
    by k v true e = own-sorted k (nth A zero)
    by k v false e = e

-- the older and the younger ones are as s gives them
pub assigned-older : (t : Table) (ks : List Sort) (A : Trees) (s : Assignment) (k : Sort) (v : ℕ) → v < variables_of t k → assigned t ks A s k v ≡ s k v
assigned-older t [] A s k v h = refl
assigned-older t (j ∷ ks) A s k v h =
    by (is_same_variable j (variables_of t j) k v) refl (assigned-older (with_unknown t j) ks (rest_of A) s k v (let n = no-fewer t j k in omega (arith, n, h)))
  where
    by : (b : Bool) → is_same_variable j (variables_of t j) k v ≡ b → assigned (with_unknown t j) ks (rest_of A) s k v ≡ s k v
        → (if b then own k (nth A zero) else assigned (with_unknown t j) ks (rest_of A) s k v) ≡ s k v
    by true e q =
        let same = is_variable-equal j k (variables_of t j) v e in
        let n : variables_of t k ≡ v = subst (λ (x : Sort). variables_of t x ≡ v) same.0 same.1 in
        absurd (omega (arith, n, h))
    by false e q = q

pub assigned-younger : (t : Table) (ks : List Sort) (A : Trees) (s : Assignment) (k : Sort) (v : ℕ) → variables_of (with_unknowns t ks) k ≤ v → assigned t ks A s k v ≡ s k v
assigned-younger t [] A s k v h = refl
assigned-younger t (j ∷ ks) A s k v h =
    by (is_same_variable j (variables_of t j) k v) refl (assigned-younger (with_unknown t j) ks (rest_of A) s k v h)
  where
    by : (b : Bool) → is_same_variable j (variables_of t j) k v ≡ b → assigned (with_unknown t j) ks (rest_of A) s k v ≡ s k v
        → (if b then own k (nth A zero) else assigned (with_unknown t j) ks (rest_of A) s k v) ≡ s k v
    by true e q =
        let same = is_variable-equal j k (variables_of t j) v e in
        let n : variables_of t k ≡ v = subst (λ (x : Sort). variables_of t x ≡ v) same.0 same.1 in
        let m : variables_of (with_unknown t k) k ≤ variables_of (with_unknowns (with_unknown t k) ks) k = all-no-fewer (with_unknown t k) ks k in
        let o = one-more t k in
        let g : variables_of (with_unknowns (with_unknown t k) ks) k ≤ v = subst (λ (x : Sort). variables_of (with_unknowns (with_unknown t x) ks) k ≤ v) same.0 h in
        absurd (omega (arith, n, m, o, g))
    by false e q = q

-- what an assignment gives to the unknowns in a row: to those of types and constants trees of A of their sort
pub record Gives (S : Assignment) (I A : Trees) : Type 0 where
  pub lifetime : (d i : ℕ) → sort_at I i ≡ Some of_lifetime → instance S (shift zero d (nth I i)) ≡ leaf static
  pub known : (d i : ℕ) (k : Sort) → HasValues k → sort_at I i ≡ Some k → IsA k (nth A i) → instance S (shift zero d (nth I i)) ≡ nth A i

pub instance-unknown : (S : Assignment) (k : Sort) (v : ℕ) → HasValues k → instance S (leaf (infer k v)) ≡ tree_of (S k v)
instance-unknown S of_type v h = refl
instance-unknown S of_const v h = refl
instance-unknown S of_lifetime v h = absurd h

pub some-sort : (j k : Sort) → Some j ≡ Some k → j ≡ k
some-sort j k e = cc

pub fresh-lifetime : (S : Assignment) (t : Table) (ks : List Sort) (d i : ℕ) → sort_at (fresh_unknowns t ks) i ≡ Some of_lifetime → instance S (shift zero d (nth (fresh_unknowns t ks) i)) ≡ leaf static
fresh-lifetime S t [] d i h = absurd cc
fresh-lifetime S t (j ∷ ks) d zero h = rw (some-sort j of_lifetime h) refl
fresh-lifetime S t (j ∷ ks) d (suc i) h = fresh-lifetime S (with_unknown t j) ks d i h

pub fresh-known : (S : Assignment) (t : Table) (ks : List Sort) (A : Trees) (s : Assignment) → ((k : Sort) (v : ℕ) → variables_of t k ≤ v → S k v ≡ assigned t ks A s k v)
    → (d i : ℕ) (k : Sort) → HasValues k → sort_at (fresh_unknowns t ks) i ≡ Some k → IsA k (nth A i) → instance S (shift zero d (nth (fresh_unknowns t ks) i)) ≡ nth A i
fresh-known S t [] A s h d i k v e a = absurd cc
fresh-known S t (j ∷ ks) A s h d zero k v e a =
    let at : S k (variables_of t k) ≡ own k (nth A zero) =
    h k (variables_of t k) (omega arith)
    ∙ ap (λ (x : Sort). if is_same_variable x (variables_of t x) k (variables_of t k) then own k (nth A zero) else assigned (with_unknown t x) ks (rest_of A) s k (variables_of t k)) (some-sort j k e)
    ∙ ap (λ b. if b then own k (nth A zero) else assigned (with_unknown t k) ks (rest_of A) s k (variables_of t k)) (is_variable-self k (variables_of t k)) in
    ap (λ (x : Sort). instance S (leaf (infer x (variables_of t x)))) (some-sort j k e) ∙ instance-unknown S k (variables_of t k) v ∙ ap tree_of at ∙ own-is k (nth A zero) v a
fresh-known S t (j ∷ ks) A s h d (suc i) k v e a =
    fresh-known S (with_unknown t j) ks (rest_of A) s next d i k v e (subst (IsA k) (nth-rest A i) a) ∙ sym (nth-rest A i)
  where
    next : (x : Sort) (w : ℕ) → variables_of (with_unknown t j) x ≤ w → S x w ≡ assigned (with_unknown t j) ks (rest_of A) s x w
    next x w le = h x w (let n = no-fewer t j x in omega (arith, n, le)) ∙ by (is_same_variable j (variables_of t j) x w) refl
      where
        by : (b : Bool) → is_same_variable j (variables_of t j) x w ≡ b
            → (if b then own x (nth A zero) else assigned (with_unknown t j) ks (rest_of A) s x w) ≡ assigned (with_unknown t j) ks (rest_of A) s x w
        by true q =
            let same = is_variable-equal j x (variables_of t j) w q in
            let n : variables_of t x ≡ w = subst (λ (y : Sort). variables_of t y ≡ w) same.0 same.1 in
            let o = one-more t x in
            let g : variables_of (with_unknown t x) x ≤ w = subst (λ (y : Sort). variables_of (with_unknown t y) x ≤ w) same.0 le in
            absurd (omega (arith, n, o, g))
        by false q = refl

pub fresh-gives : (S : Assignment) (t : Table) (ks : List Sort) (A : Trees) (s : Assignment) → ((k : Sort) (v : ℕ) → variables_of t k ≤ v → S k v ≡ assigned t ks A s k v) → Gives S (fresh_unknowns t ks) A
fresh-gives S t ks A s h = record { lifetime = fresh-lifetime S t ks; known = fresh-known S t ks A s h }
