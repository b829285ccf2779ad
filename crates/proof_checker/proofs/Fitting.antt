-- Terms without lifetimes lead out of no more binders.
use Rattle.std.proofs.Common.{◌≡◌, ◌≤◌, ℕ, zero, suc, max, pred, arith}
use Rattle.type_terms.specs.Promised.Label.{Label, of_type, of_const, of_lifetime, param, placeholder, infer, canonical, bound, principal, fn_ptr}
use Rattle.type_terms.specs.Promised.Trees.{Trees, none, tree, erase, erase_label}
use Rattle.type_terms.specs.Trees.{outer_binder, own_binder, outside}

own-less : (l : Label) → own_binder (erase_label l) ≤ own_binder l
own-less (bound of_type k i) = omega arith
own-less (bound of_const k i) = omega arith
own-less (bound of_lifetime k i) = omega arith
own-less (param of_lifetime i) = omega arith
own-less (placeholder of_lifetime i) = omega arith
own-less (infer of_lifetime i) = omega arith
own-less (canonical of_lifetime i) = omega arith
own-less (param of_type i) = omega arith
own-less (placeholder of_type i) = omega arith
own-less (infer of_type i) = omega arith
own-less (canonical of_type i) = omega arith
own-less (param of_const i) = omega arith
own-less (placeholder of_const i) = omega arith
own-less (infer of_const i) = omega arith
own-less (canonical of_const i) = omega arith
own-less l = omega arith

pred-less : (n m : ℕ) → n ≤ m → pred n ≤ pred m
pred-less zero m h = omega arith
pred-less (suc n) zero h = absurd (omega (arith, h))
pred-less (suc n) (suc m) h = omega (arith, h)

outside-less : (l : Label) (n m : ℕ) → n ≤ m → outside (erase_label l) n ≤ outside l m
outside-less (fn_ptr k) n m h = pred-less n m h
outside-less (principal k t) n m h = pred-less n m h
outside-less (bound of_type k i) n m h = h
outside-less (bound of_const k i) n m h = h
outside-less (bound of_lifetime k i) n m h = h
outside-less (param of_lifetime i) n m h = h
outside-less (placeholder of_lifetime i) n m h = h
outside-less (infer of_lifetime i) n m h = h
outside-less (canonical of_lifetime i) n m h = h
outside-less (param of_type i) n m h = h
outside-less (placeholder of_type i) n m h = h
outside-less (infer of_type i) n m h = h
outside-less (canonical of_type i) n m h = h
outside-less (param of_const i) n m h = h
outside-less (placeholder of_const i) n m h = h
outside-less (infer of_const i) n m h = h
outside-less (canonical of_const i) n m h = h
outside-less l n m h = h

maxes : (a b c x y z : ℕ) → a ≤ x → b ≤ y → c ≤ z → max (max a b) c ≤ max (max x y) z
maxes a b c x y z p q r = omega (arith, p, q, r)

erased-less : (t : Trees) → outer_binder (erase t) ≤ outer_binder t
erased-less none = omega arith
erased-less (tree l c o) =
    maxes (own_binder (erase_label l)) (outside (erase_label l) (outer_binder (erase c))) (outer_binder (erase o)) (own_binder l) (outside l (outer_binder c)) (outer_binder o)
    (own-less l) (outside-less l (outer_binder (erase c)) (outer_binder c) (erased-less c)) (erased-less o)

no-more : (n m : ℕ) → n ≤ m → m ≡ 0 → n ≡ 0
no-more n m h e = omega (arith, h, e)

pub erased-closed : (t : Trees) → outer_binder t ≡ 0 → outer_binder (erase t) ≡ 0
erased-closed t h = no-more (outer_binder (erase t)) (outer_binder t) (erased-less t) h
