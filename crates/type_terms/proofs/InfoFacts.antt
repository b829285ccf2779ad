-- Flags, outer binders and depths of nodes, from those of their parts.
use Rattle.std.proofs.Common.{◌≡◌, ℕ, zero, suc, ◌+◌, ◌<◌, ◌≤◌, List, [], ◌∷◌, length, refl, ap, sym, ◌∙◌, ◌^◌, arith, max, take, get_or, add-one, subst}
use Rattle.std.specs.Prelude.{bit_or}
use Rattle.std.specs.Int.{bit_at}
use Rattle.std.proofs.lemmas.Nat.{or_comm, or_lt}
use Rattle.std.proofs.lemmas.Nat.Bits.{bit_at_or, same_from_bits_below}
use Rattle.std.proofs.Math.Nat.{max-zero, zero-max, two-pow-succ, pow-le-pow_right}
use Rattle.type_terms.specs.Promised.Label.{Label, fn_ptr, principal, auto_trait}
use Rattle.type_terms.specs.Promised.Trees.{Trees, none, tree, leaf, ◌+++◌}
use Rattle.type_terms.specs.Trees.{flags, outer_binder, depth, label_flags, own_binder, outside}
use Rattle.type_terms.specs.Promised.Handles.{Entry, Has, trees_at, types}
use Rattle.type_terms.specs.Promised.Handles.{arg_trees, ArgHeld, ArgsHeld}
use Rattle.type_terms.specs.Kinds.{args_trees, tys_trees, autos_trees, TysHeld}
use Rattle.type_terms.specs.Infos.{info_of, join, node_info}
use Rattle.type_terms.specs.declared.TraitId.{TraitId}
use Rattle.type_terms.specs.declared.node.Info.{Info}
use Rattle.type_terms.specs.declared.kinds.GenericArgKind.{GenericArgKind}
use Rattle.type_terms.specs.declared.kinds.Ty as of-ty

or-zero : (x : ℕ) → bit_or x 0 ≡ x
or-zero x = or_comm x 0

-- ---- the union of bits
below-power : (n w : ℕ) → n ≤ w → n < 2 ^ w
below-power n w h = omega (arith, n-below n, pow-le-pow_right {n = 2} (omega arith) h)
  where
    n-below : (n : ℕ) → n < 2 ^ n
    n-below zero = omega arith
    n-below (suc n) = omega (arith, n-below n, two-pow-succ n)

max-assoc : (x y z : ℕ) → max (max x y) z ≡ max x (max y z)
max-assoc x y z = omega arith

pub or-assoc : (a b c : ℕ) → bit_or (bit_or a b) c ≡ bit_or a (bit_or b c)
or-assoc a b c =
    let w = a + b + c in
    let below-a : a < 2 ^ w = below-power a w (omega arith) in
    let below-b : b < 2 ^ w = below-power b w (omega arith) in
    let below-c : c < 2 ^ w = below-power c w (omega arith) in
    same_from_bits_below w _ _ (or_lt w _ c (or_lt w a b below-a below-b) below-c) (or_lt w a _ below-a (or_lt w b c below-b below-c))
    (λ i _. rw (bit_at_or (bit_or a b) c i, bit_at_or a b i, bit_at_or a (bit_or b c) i, bit_at_or b c i) (max-assoc (bit_at a i) (bit_at b i) (bit_at c i)))

abbrev made : ℕ → ℕ → ℕ → Info
made f b d = record { flags = f; outer_binder = b; depth = d }

infos-equal : (f g b c d e : ℕ) → f ≡ g → b ≡ c → d ≡ e → made f b d ≡ made g c e
infos-equal f g b c d e p q r = cc

-- one list of trees, and then another
pub info-append : (x y : Trees) → info_of (x +++ y) ≡ join (info_of x) (info_of y)
info-append none y = rw (zero-max (outer_binder y), zero-max (depth y)) refl
info-append (tree l c o) y =
    let rest = info-append o y in
    let own = max (own_binder l) (outside l (outer_binder c)) in
    infos-equal _ _ _ _ _ _ (ap (λ n. bit_or (bit_or (label_flags l) (flags c)) n) (ap (λ f. f.flags) rest) ∙ sym (or-assoc (bit_or (label_flags l) (flags c)) (flags o) (flags y)))
    (ap (λ n. max own n) (ap (λ f. f.outer_binder) rest) ∙ sym (max-assoc own (outer_binder o) (outer_binder y)))
    (ap (λ n. max (suc (depth c)) n) (ap (λ f. f.depth) rest) ∙ sym (max-assoc (suc (depth c)) (depth o) (depth y)))

-- a node over children
pub info-node : (l : Label) (c : Trees) → info_of (tree l c none) ≡ node_info l (info_of c)
info-node l c = rw (or-zero (bit_or (label_flags l) (flags c)), max-zero (max (own_binder l) (outside l (outer_binder c))), max-zero (suc (depth c)), ← add-one (depth c)) refl

-- a node without flags that opens no binder, over children with this info
pub info-plain : (l : Label) (c : Trees) (f : Info) → f ≡ info_of c → label_flags l ≡ 0 → own_binder l ≡ 0 → ((n : ℕ) → outside l n ≡ n)
    → record f { depth = f.depth + 1 } ≡ info_of (tree l c none)
info-plain l c f e p b o = ap (λ (g : Info). record g { depth = g.depth + 1 }) e ∙ sym (info-node l c ∙ rw (p, b, o (outer_binder c), zero-max (outer_binder c)) refl)

-- a node that opens a binder
pub info-binder : (l : Label) (c : Trees) (f : Info) → f ≡ info_of c → node_info l f ≡ info_of (tree l c none)
info-binder l c f e = ap (node_info l) e ∙ sym (info-node l c)

pub info-joined : (x y : Trees) (f g : Info) → f ≡ info_of x → g ≡ info_of y → join f g ≡ info_of (x +++ y)
info-joined x y f g p q = both p q ∙ sym (info-append x y)
  where
    both : f ≡ info_of x → g ≡ info_of y → join f g ≡ join (info_of x) (info_of y)
    both p q = ap (λ h. join h g) p ∙ ap (λ h. join (info_of x) h) q

-- a principal trait opens its binder as a `fn` pointer does
pub principal-info : (n t : ℕ) (f : Info) → node_info (principal n t) f ≡ node_info (fn_ptr n) f
principal-info zero t f = refl
principal-info (suc n) t f = refl

-- a list of auto traits has no flags
pub info-autos : (xs : List TraitId) → 1 ≤ length xs → info_of (autos_trees xs) ≡ record { flags = 0; outer_binder = 0; depth = 1 }
info-autos [] h = absurd (omega arith)
info-autos (x ∷ []) h = refl
info-autos (x ∷ y ∷ xs) h = info-append (leaf (auto_trait x.index)) (autos_trees (y ∷ xs)) ∙ ap (join (info_of (leaf (auto_trait x.index)))) (info-autos (y ∷ xs) (omega arith))

-- ---- a list's info, part by part
join-assoc : (f g h : Info) → join (join f g) h ≡ join f (join g h)
join-assoc f g h = infos-equal _ _ _ _ _ _ (or-assoc f.flags g.flags h.flags) (max-assoc f.outer_binder g.outer_binder h.outer_binder) (max-assoc f.depth g.depth h.depth)

join-none : (f : Info) → join (info_of none) f ≡ f
join-none f = infos-equal _ _ _ _ _ _ refl (zero-max f.outer_binder) (zero-max f.depth)

none-join : (f : Info) → join f (info_of none) ≡ f
none-join f = infos-equal _ _ _ _ _ _ (or-zero f.flags) (max-zero f.outer_binder) (max-zero f.depth)

module _ {X : Type 0} (f : X → Trees) where
  abbrev pub strung : List X → Trees
  strung [] = none
  strung (x ∷ xs) = f x +++ strung xs

  next : (xs : List X) (i : ℕ) (x : X) → i < length xs → x ≡ get_or xs i x
      → join (info_of (strung (take i xs))) (info_of (f x)) ≡ info_of (strung (take (suc i) xs))
  next [] i x h e = absurd (omega arith)
  next (y ∷ xs) zero x h e =
      join-none (info_of (f x)) ∙ ap (λ z. info_of (f z)) e ∙ sym (none-join (info_of (f y))) ∙ sym (info-append (f y) none)
  next (y ∷ xs) (suc i) x h e =
      ap (λ g. join g (info_of (f x))) (info-append (f y) (strung (take i xs)))
      ∙ join-assoc (info_of (f y)) (info_of (strung (take i xs))) (info_of (f x))
      ∙ ap (join (info_of (f y))) (next xs i x (omega arith) e)
      ∙ sym (info-append (f y) (strung (take (suc i) xs)))

args-strung : (es : List Entry) (xs : List GenericArgKind) → args_trees es xs ≡ strung (arg_trees es) xs
args-strung es [] = refl
args-strung es (x ∷ xs) = ap (λ t. arg_trees es x +++ t) (args-strung es xs)

tys-strung : (es : List Entry) (xs : List of-ty.Ty) → tys_trees es xs ≡ strung (λ t. trees_at es t.0) xs
tys-strung es [] = refl
tys-strung es (x ∷ xs) = ap (λ t. trees_at es x.0 +++ t) (tys-strung es xs)

pub args-next : (es : List Entry) (xs : List GenericArgKind) (i : ℕ) (x : GenericArgKind) → i < length xs → x ≡ get_or xs i x
    → join (info_of (args_trees es (take i xs))) (info_of (arg_trees es x)) ≡ info_of (args_trees es (take (i + 1) xs))
args-next es xs i x h e = rw (add-one i, args-strung es (take i xs), args-strung es (take (suc i) xs)) (next (arg_trees es) xs i x h e)

pub tys-next : (es : List Entry) (xs : List of-ty.Ty) (i : ℕ) (x : of-ty.Ty) → i < length xs → x ≡ get_or xs i x
    → join (info_of (tys_trees es (take i xs))) (info_of (trees_at es x.0)) ≡ info_of (tys_trees es (take (i + 1) xs))
tys-next es xs i x h e = rw (add-one i, tys-strung es (take i xs), tys-strung es (take (suc i) xs)) (next (λ t. trees_at es t.0) xs i x h e)

-- ---- each part is held
pub arg-held-at : (es : List Entry) (xs : List GenericArgKind) (i : ℕ) (x : GenericArgKind) → ArgsHeld es xs → i < length xs → x ≡ get_or xs i x → ArgHeld es x
arg-held-at es [] i x h l e = absurd (omega arith)
arg-held-at es (y ∷ xs) zero x h l e = subst (ArgHeld es) (sym e) h.0
arg-held-at es (y ∷ xs) (suc i) x h l e = arg-held-at es xs i x h.1 (omega arith) e

pub ty-held-at : (es : List Entry) (xs : List of-ty.Ty) (i : ℕ) (x : of-ty.Ty) → TysHeld es xs → i < length xs → x ≡ get_or xs i x → Has es types x.0
ty-held-at es [] i x h l e = absurd (omega arith)
ty-held-at es (y ∷ xs) zero x h l e = subst (λ (t : of-ty.Ty). Has es types t.0) (sym e) h.0
ty-held-at es (y ∷ xs) (suc i) x h l e = ty-held-at es xs i x h.1 (omega arith) e

-- whatever the default, an element within the list is the same
pub within-default : {X : Type 0} (xs : List X) (i : ℕ) (d e : X) → i < length xs → get_or xs i d ≡ get_or xs i e
within-default [] i d e h = absurd (omega arith)
within-default (x ∷ xs) zero d e h = refl
within-default (x ∷ xs) (suc i) d e h = within-default xs i d e (omega arith)
