-- No term of a candidate is wider than the goal and what is declared.
use Rattle.std.proofs.Common.{◌≡◌, ℕ, zero, suc, ◌+◌, ◌≤◌, max, Bool, List, [], ◌∷◌, map, refl, sym, ◌∙◌, ap, subst, arith}
use Rattle.type_terms.specs.Promised.Label.{Label, param, canonical, bound, inside, shift_label}
use Rattle.type_terms.specs.Promised.Label.{never}
use Rattle.type_terms.specs.Promised.Trees.{Trees, none, tree, nth, shift, instantiate}
use Rattle.type_terms.specs.Promised.Worlds.{Reference}
use Rattle.goal_evaluator.specs.Lists.{Every}
use Rattle.goal_evaluator.specs.Promised.Widths.{count, with_self, width}
use Rattle.goal_evaluator.specs.Widths.{width_of_predicates, NestedWithin, EquationWithin}
use Rattle.goal_evaluator.proofs.Widths.{IsWithin, IsOneIf, IsOne, leaf-one, count-put, within-put, within, width-within, count-append, within-append}
use Rattle.candidate_model.specs.Asking.{GoalOverKinds}
use Rattle.candidate_model.specs.Candidates.{premise, all_equal, moved, rules_behind}
use Rattle.candidate_model.specs.Promised.Widths.{width_of}

-- ---- equations
pub equal-within : (n : ℕ) (x y : Trees) → width x ≤ n → width y ≤ n → Every (EquationWithin n) (all_equal x y)
equal-within n none none p q = tt
equal-within n none (tree m d o) p q = ((omega arith, omega arith), tt)
equal-within n (tree l c o) none p q = ((omega arith, omega arith), tt)
equal-within n (tree l c o) (tree m d e) p q = ((one (with_self l (count c)) (width c) (width o) p, one (with_self m (count d)) (width d) (width e) q), equal-within n o e (omega (arith, p)) (omega (arith, q)))
  where
    one : (x y z : ℕ) → max x (max y z) ≤ n → max x (max y 0) ≤ n
    one x y z h = omega (arith, h)

-- ---- premises
pub premises-within : (n : ℕ) (a : GoalOverKinds) (kind : Bool) → width_of_predicates a.environment ≤ n → (rs : List Reference) → Every (λ r. width_of r ≤ n) rs → Every (NestedWithin n) (map (premise a kind) rs)
premises-within n a kind h [] e = tt
premises-within n a kind h (r ∷ rs) e = let w = e.0 in ((h, omega (arith, w)), premises-within n a kind h rs e.1)

-- ---- headers and clauses of impls
moved-one : (m n : ℕ) (l : Label) → IsOneIf m (moved n l)
moved-one m n (param k i) = leaf-one m (canonical k (n + i))
moved-one m n l = tt

pub behind-within : (m n : ℕ) (r : Reference) → width_of r ≤ m → width_of (rules_behind n r) ≤ m
behind-within m n r h =
    let many : count (rules_behind n r).args ≤ m = subst (λ z. z ≤ m) (sym (count-put m (moved n) (moved-one m n) r.args)) (omega (arith, h)) in
    let wide = width-within m (rules_behind n r).args (within-put m (moved n) (moved-one m n) r.args (within m r.args (omega (arith, h)))) in
    omega (arith, many, wide)

pub behind-all-within : (m n : ℕ) (rs : List Reference) → Every (λ r. width_of r ≤ m) rs → Every (λ r. width_of r ≤ m) (map (rules_behind n) rs)
behind-all-within m n [] e = tt
behind-all-within m n (r ∷ rs) e = (behind-within m n r e.0, behind-all-within m n rs e.1)

-- ---- instances of what is declared
count-shift : (d a : ℕ) (t : Trees) → count (shift d a t) ≡ count t
count-shift d a none = refl
count-shift d a (tree l c o) = ap suc (count-shift d a o)

-- a label that is shifted counts as many terms
shifted-self : (n d a : ℕ) (l : Label) (m : ℕ) → with_self l m ≤ n → with_self (shift_label d a l) m ≤ n
shifted-self n d a (bound s k v) m h = h
shifted-self n d a l m h = h

within-shift : (n d a : ℕ) (t : Trees) → IsWithin n t → IsWithin n (shift d a t)
within-shift n d a none h = tt
within-shift n d a (tree l c o) h = (shifted-self n d a l (count (shift (inside l d) a c)) (subst (λ z. with_self l z ≤ n) (sym (count-shift (inside l d) a c)) h.0), within-shift n (inside l d) a c h.1, within-shift n d a o h.2)

nth-one : (n i : ℕ) (A : Trees) → IsWithin n A → IsOne n (nth A i)
nth-one n i none h = leaf-one n never
nth-one n zero (tree l c o) h = record { one = refl; within = (h.0, h.1, tt) }
nth-one n (suc i) (tree l c o) h = nth-one n i o h.2

param-count : (x : Trees) (m k : ℕ) → count x ≡ 1 → m ≡ k → count x + m ≡ suc k
param-count x m k e f = omega (arith, e, f)

pub count-instance : (n d : ℕ) (A t : Trees) → IsWithin n A → count (instantiate d A t) ≡ count t
count-instance n d A none h = refl
count-instance n d A (tree (param s i) c o) h =
    count-append (shift zero d (nth A i)) (instantiate d A o)
    ∙ param-count (shift zero d (nth A i)) (count (instantiate d A o)) (count o) (count-shift zero d (nth A i) ∙ (nth-one n i A h).one) (count-instance n d A o h)
count-instance n d A (tree l c o) h = ap suc (count-instance n d A o h)

pub within-instance : (n d : ℕ) (A t : Trees) → IsWithin n A → IsWithin n t → IsWithin n (instantiate d A t)
within-instance n d A none h g = tt
within-instance n d A (tree (param s i) c o) h g = within-append n (shift zero d (nth A i)) (instantiate d A o) (within-shift n zero d (nth A i) (nth-one n i A h).within) (within-instance n d A o h g.2)
within-instance n d A (tree l c o) h g = (subst (λ z. with_self l z ≤ n) (sym (count-instance n (inside l d) A c h)) g.0, within-instance n (inside l d) A c h g.1, within-instance n d A o h g.2)

-- an instance of a bound or clause is no wider than it and the arguments
pub instance-within : (n : ℕ) (A : Trees) (r : Reference) → IsWithin n A → width_of r ≤ n → width_of (record { trait = r.trait; args = instantiate zero A r.args }) ≤ n
instance-within n A r h g =
    let many : count (instantiate zero A r.args) ≤ n = subst (λ z. z ≤ n) (sym (count-instance n zero A r.args h)) (omega (arith, g)) in
    let wide = width-within n (instantiate zero A r.args) (within-instance n zero A r.args h (within n r.args (omega (arith, g)))) in
    omega (arith, many, wide)
