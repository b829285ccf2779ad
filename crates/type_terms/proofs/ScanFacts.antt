-- What a scan finds, by flags and outer binders.
use Rattle.std.proofs.Common.{◌≡◌, ℕ, zero, suc, ◌+◌, ◌-◌, ◌/◌, max, List, [], ◌∷◌, length, refl, ap, sym, ◌∙◌, arith, Bool, not, ◌||◌, ◌==◌, ltb, bit_and, bit_or}
use Rattle.std.proofs.lemmas.Bool.Decides.{nat_tests}
use Rattle.std.proofs.lemmas.Nat.{or_comm, le_or_l, le_or_r, or_shr}
use lib.Bits.{and_step, or_step, and_zero_r}
use lib.Arith.{bin_ind}
use Rattle.type_terms.specs.Promised.Label.{Label, of_type, of_const, of_lifetime, param, infer, placeholder, canonical, bound, fn_ptr, principal, inside}
use Rattle.type_terms.specs.Promised.Trees.{Trees, none, tree, some_node}
use Rattle.type_terms.specs.Trees.{flags, outer_binder, own_binder, outside, label_flags}
use Rattle.type_terms.specs.Pieces.{Piece, piece_flags, piece_binder}
use Rattle.type_terms.specs.Scans.{some_node_of, has_flag, is_any_param, is_infer, is_bound_from, some_bound_from, some_bound_of}
use Rattle.type_terms.proofs.BooleanBasics.{join-tests}

pub or_none : (n : ℕ) → bit_or n 0 ≡ n
or_none n = or_comm n 0

-- what either of two numbers has in common with a third
pub and_or : (f a b : ℕ) → bit_and (bit_or a b) f ≡ bit_or (bit_and a f) (bit_and b f)
and_or =
    bin_ind (λ (f : ℕ). (a b : ℕ) → bit_and (bit_or a b) f ≡ bit_or (bit_and a f) (bit_and b f))
    (λ a b. and_zero_r (bit_or a b) ∙ sym (ap (λ x. bit_or x (bit_and b 0)) (and_zero_r a) ∙ and_zero_r b))
    (λ f ih a b.
    let p : bit_and (bit_or a b / 2) (f / 2) ≡ bit_or (bit_and (a / 2) (f / 2)) (bit_and (b / 2) (f / 2)) = ap (λ x. bit_and x (f / 2)) (or_shr a b 1) ∙ ih (a / 2) (b / 2) in
    let s = and_step (bit_or a b) f in
    let t = or_step a b in
    let u = or_step (bit_and a f) (bit_and b f) in
    let v = and_step a f in
    let w = and_step b f in
    let x : bit_and a f / 2 ≡ bit_and (a / 2) (f / 2) = omega (arith, v) in
    let y : bit_and b f / 2 ≡ bit_and (b / 2) (f / 2) = omega (arith, w) in
    let z : bit_or (bit_and a f / 2) (bit_and b f / 2) ≡ bit_or (bit_and (a / 2) (f / 2)) (bit_and (b / 2) (f / 2)) = cc in
    omega (arith, p, s, t, u, v, w, z))

-- a union of numbers has a bit in common with f where one of them has
either : (a b f : ℕ) → not (bit_and (bit_or a b) f == 0) ≡ (not (bit_and a f == 0) || not (bit_and b f == 0))
either a b f =
    let e = and_or f a b in
    let l = le_or_l (bit_and a f) (bit_and b f) in
    let r = le_or_r (bit_and a f) (bit_and b f) in
    grind (arith, nat_tests, e, l, r)

pub scan-tree : (f : ℕ) (t : Trees) → some_node (has_flag f) t ≡ not (bit_and (flags t) f == 0)
scan-tree f none = refl
scan-tree f (tree l c o) =
    join-tests _ _ _ _ _ _ refl (scan-tree f c) (scan-tree f o)
    ∙ ap (λ z. z || not (bit_and (flags o) f == 0)) (sym (either (label_flags l) (flags c) f))
    ∙ sym (either (bit_or (label_flags l) (flags c)) (flags o) f)

pub scan-flags : (f : ℕ) (ps : List Piece) → some_node_of (has_flag f) ps ≡ not (bit_and (piece_flags ps) f == 0)
scan-flags f [] = refl
scan-flags f (p ∷ ps) = both _ _ _ _ (scan-tree f p.trees) (scan-flags f ps) ∙ sym (either (flags p.trees) (piece_flags ps) f)
  where
    both : (p q p' q' : Bool) → p ≡ p' → q ≡ q' → (p || q) ≡ (p' || q')
    both p q p' q' x y = cc

-- two tests that agree at each label
module _ (p q : Label → Bool) (h : (l : Label) → p l ≡ q l) where
  same-tree : (t : Trees) → some_node p t ≡ some_node q t
  same-tree none = refl
  same-tree (tree l c o) = join-tests _ _ _ _ _ _ (h l) (same-tree c) (same-tree o)

  pub same-scan : (ps : List Piece) → some_node_of p ps ≡ some_node_of q ps
  same-scan [] = refl
  same-scan (x ∷ xs) = both _ _ _ _ (same-tree x.trees) (same-scan xs)
    where
      both : (p q p' q' : Bool) → p ≡ p' → q ≡ q' → (p || q) ≡ (p' || q')
      both p q p' q' x y = cc

pub param-flag : (l : Label) → is_any_param l ≡ has_flag 273 l
param-flag (param of_type i) = refl
param-flag (param of_lifetime i) = refl
param-flag (param of_const i) = refl
param-flag (infer of_type i) = refl
param-flag (infer of_lifetime i) = refl
param-flag (infer of_const i) = refl
param-flag (placeholder of_type i) = refl
param-flag (placeholder of_lifetime i) = refl
param-flag (placeholder of_const i) = refl
param-flag (canonical of_type i) = refl
param-flag (canonical of_lifetime i) = refl
param-flag (canonical of_const i) = refl
param-flag (bound of_type k i) = refl
param-flag (bound of_lifetime k i) = refl
param-flag (bound of_const k i) = refl
param-flag (fn_ptr zero) = refl
param-flag (fn_ptr (suc n)) = refl
param-flag (principal zero i) = refl
param-flag (principal (suc n) i) = refl
param-flag l = refl

pub infer-flag : (l : Label) → is_infer l ≡ has_flag 546 l
infer-flag (param of_type i) = refl
infer-flag (param of_lifetime i) = refl
infer-flag (param of_const i) = refl
infer-flag (infer of_type i) = refl
infer-flag (infer of_lifetime i) = refl
infer-flag (infer of_const i) = refl
infer-flag (placeholder of_type i) = refl
infer-flag (placeholder of_lifetime i) = refl
infer-flag (placeholder of_const i) = refl
infer-flag (canonical of_type i) = refl
infer-flag (canonical of_lifetime i) = refl
infer-flag (canonical of_const i) = refl
infer-flag (bound of_type k i) = refl
infer-flag (bound of_lifetime k i) = refl
infer-flag (bound of_const k i) = refl
infer-flag (fn_ptr zero) = refl
infer-flag (fn_ptr (suc n)) = refl
infer-flag (principal zero i) = refl
infer-flag (principal (suc n) i) = refl
infer-flag l = refl

pub scan-params : (ps : List Piece) → some_node_of (has_flag 273) ps ≡ some_node_of is_any_param ps
scan-params ps = sym (same-scan is_any_param (has_flag 273) param-flag ps)

pub scan-infers : (ps : List Piece) → some_node_of (has_flag 546) ps ≡ some_node_of is_infer ps
scan-infers ps = sym (same-scan is_infer (has_flag 546) infer-flag ps)

-- ---- binders
above-outside : (l : Label) (k n : ℕ) → ltb (inside l k) n ≡ ltb k (outside l n)
above-outside (fn_ptr m) k zero = grind (arith, nat_tests)
above-outside (fn_ptr m) k (suc n) = grind (arith, nat_tests)
above-outside (principal m i) k zero = grind (arith, nat_tests)
above-outside (principal m i) k (suc n) = grind (arith, nat_tests)
above-outside l k n = refl

own-test : (k : ℕ) (l : Label) → is_bound_from k l ≡ ltb k (own_binder l)
own-test k (bound s n v) = grind (arith, nat_tests)
own-test k l = grind (arith, nat_tests)

above-max : (k a b : ℕ) → (ltb k a || ltb k b) ≡ ltb k (max a b)
above-max k a b = grind (arith, nat_tests)

pub bound-tree : (k : ℕ) (t : Trees) → some_bound_from k t ≡ ltb k (outer_binder t)
bound-tree k none = grind (arith, nat_tests)
bound-tree k (tree l c o) =
    join-tests _ _ _ _ _ _ (own-test k l) (bound-tree (inside l k) c ∙ above-outside l k (outer_binder c)) (bound-tree k o)
    ∙ ap (λ z. z || ltb k (outer_binder o)) (above-max k (own_binder l) (outside l (outer_binder c)))
    ∙ above-max k (max (own_binder l) (outside l (outer_binder c))) (outer_binder o)

below-binders : (d k n m : ℕ) → (ltb (d + k) n || ltb k m) ≡ ltb k (max (n - d) m)
below-binders d k n m = grind (arith, nat_tests)

pub scan-binder : (k : ℕ) (ps : List Piece) → some_bound_of k ps ≡ ltb k (piece_binder ps)
scan-binder k [] = grind (arith, nat_tests)
scan-binder k (p ∷ ps) = both _ _ _ _ (bound-tree (length p.counts + k) p.trees) (scan-binder k ps) ∙ below-binders (length p.counts) k (outer_binder p.trees) (piece_binder ps)
  where
    both : (p q p' q' : Bool) → p ≡ p' → q ≡ q' → (p || q) ≡ (p' || q')
    both p q p' q' x y = cc
