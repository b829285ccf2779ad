-- Instances of trees: their sorts, and how far binder numbers lead out of them.
use Rattle.std.proofs.Common.{◌≡◌, ℕ, zero, suc, ◌≤◌, max, Bool, true, false, cond, [], ◌∷◌, ◌++◌, Option, Some, None, refl, ap, ◌∙◌, arith}
use Rattle.type_terms.specs.Promised.Label.{Label, Sort, inside, param, principal, fn_ptr, shift_label, bound}
use Rattle.type_terms.specs.Promised.Trees.{Trees, none, tree, ◌+++◌, nth, shift, instantiate, sort_of, is_sort}
use Rattle.type_terms.specs.Trees.{outer_binder, own_binder, outside}
use Rattle.type_terms.proofs.TreeLaws.{shift-closed, nth-binder}
use Rattle.term_folds.specs.Arguments.{sort_at, misfit, first_misfit}
use Rattle.term_folds.specs.declared.instantiate.InstantiateError.TheVariants.{ParamKind}
use Rattle.declarations.specs.Applied.{sorts_of}
use Rattle.term_folds.proofs.TypeBasics.{left-none, right-none}
use Rattle.type_terms.proofs.TermBasics.{same-sorts}

-- ---- binders
binder-append : (d : ℕ) (x y : Trees) → outer_binder x ≤ d → outer_binder y ≤ d → outer_binder (x +++ y) ≤ d
binder-append d none y h g = g
binder-append d (tree l c o) y h g = let r = binder-append d o y (omega arith) g in omega (arith, h, r)

pred-of : (n d : ℕ) → n ≤ suc d → outside (fn_ptr 0) n ≤ d
pred-of zero d h = omega arith
pred-of (suc n) d h = omega arith

outside-less : (l : Label) (n d : ℕ) → n ≤ inside l d → outside l n ≤ d
outside-less (fn_ptr k) n d h = pred-of n d h
outside-less (principal k t) n d h = pred-of n d h
outside-less l n d h = h

le-pred : (n d : ℕ) → outside (fn_ptr 0) n ≤ d → n ≤ suc d
le-pred zero d h = omega arith
le-pred (suc n) d h = omega arith

inside-more : (l : Label) (n d : ℕ) → outside l n ≤ d → n ≤ inside l d
inside-more (fn_ptr k) n d h = le-pred n d h
inside-more (principal k t) n d h = le-pred n d h
inside-more l n d h = h

node-within : (l : Label) (d a b c e : ℕ) → max (max (own_binder l) (outside l a)) b ≤ d → (a ≤ inside l d → c ≤ inside l d) → e ≤ d → max (max (own_binder l) (outside l c)) e ≤ d
node-within l d a b c e h f g = let r = outside-less l c d (f (inside-more l a d (omega (arith, h)))) in omega (arith, h, r, g)

instance-within : (d : ℕ) (A t : Trees) → outer_binder A ≡ 0 → outer_binder t ≤ d → outer_binder (instantiate d A t) ≤ d
instance-within d A none z h = omega arith
instance-within d A (tree (param s i) c o) z h =
    let put : outer_binder (shift zero d (nth A i)) ≡ 0 = ap outer_binder (shift-closed zero d (nth A i) (let e = nth-binder A i z in omega (arith, e))) ∙ nth-binder A i z in
    binder-append d (shift zero d (nth A i)) (instantiate d A o) (omega (arith, put)) (instance-within d A o z (omega (arith, h)))
instance-within d A (tree l c o) z h =
    node-within l d (outer_binder c) (outer_binder o) (outer_binder (instantiate (inside l d) A c)) (outer_binder (instantiate d A o)) h (λ g. instance-within (inside l d) A c z g)
    (instance-within d A o z (omega (arith, h)))

no-more : (n : ℕ) → n ≤ 0 → n ≡ 0
no-more n h = omega arith

-- closed arguments in a closed tree
pub instance-closed : (A t : Trees) → outer_binder A ≡ 0 → outer_binder t ≡ 0 → outer_binder (instantiate 0 A t) ≡ 0
instance-closed A t z h = no-more (outer_binder (instantiate 0 A t)) (instance-within 0 A t z (omega (arith, h)))

-- ---- sorts
sorts-append : (x y : Trees) → sorts_of (x +++ y) ≡ sorts_of x ++ sorts_of y
sorts-append none y = refl
sorts-append (tree l c o) y = ap (λ r. sort_of l ∷ r) (sorts-append o y)

shift-sort : (d a : ℕ) (l : Label) → sort_of (shift_label d a l) ≡ sort_of l
shift-sort d a (bound s k v) = refl
shift-sort d a l = refl

one-sort : (A : Trees) (i : ℕ) (s : Sort) → sort_at A i ≡ Some s → (d a : ℕ) → sorts_of (shift d a (nth A i)) ≡ s ∷ []
one-sort none i s e d a = absurd cc
one-sort (tree l c o) zero s e d a = ap (λ r. r ∷ []) (shift-sort d a l) ∙ ap (λ r. r ∷ []) cc
one-sort (tree l c o) (suc i) s e d a = one-sort o i s e d a

fitting-sort : (s : Sort) (o : Option Sort) → misfit s o ≡ None → o ≡ Some s
fitting-sort s None h = cc
fitting-sort s (Some r) h = by (is_sort s r) refl h
  where
    by : (b : Bool) → is_sort s r ≡ b → cond b None (Some ParamKind) ≡ None → Some r ≡ Some s
    by true e h = ap (λ x. Some x) (same-sorts s r e)
    by false e h = cc

-- where each parameter has its argument, the sorts stay
pub instance-sorts : (d : ℕ) (A t : Trees) → first_misfit A t ≡ None → sorts_of (instantiate d A t) ≡ sorts_of t
instance-sorts d A none h = refl
instance-sorts d A (tree (param s i) c o) h =
    let fits = fitting-sort s (sort_at A i) (left-none (misfit s (sort_at A i)) (first_misfit A o) h) in
    let rest = instance-sorts d A o (right-none (misfit s (sort_at A i)) (first_misfit A o) h) in
    sorts-append (shift zero d (nth A i)) (instantiate d A o) ∙ ap (λ r. r ++ sorts_of (instantiate d A o)) (one-sort A i s fits zero d) ∙ ap (λ r. s ∷ r) rest
instance-sorts d A (tree l c o) h = ap (λ r. sort_of l ∷ r) (instance-sorts d A o (right-none (first_misfit A c) (first_misfit A o) h))
