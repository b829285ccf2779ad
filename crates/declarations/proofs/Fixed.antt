-- What is fixed is the same without lifetimes, and stays as it is, whatever is put in.
use Rattle.std.proofs.Common.{◌≡◌, ℕ, zero, suc, refl, sym, ap, ◌∙◌, max, arith}
use Rattle.std.specs.Prelude.{true, bit_or}
use Rattle.std.specs.Int.{bit_at}
use Rattle.std.proofs.lemmas.Nat.Bits.{bit_at_or, bit_at-zero, same_from_bits}
use Rattle.type_terms.specs.Promised.Label.{Label, of_type, of_const, of_lifetime, static, fn_ptr, principal, param, placeholder, infer, canonical, bound}
use Rattle.type_terms.specs.Promised.Trees.{Trees, none, tree, erase, erase_label, instantiate}
use Rattle.type_terms.specs.Trees.{flags, label_flags}
use Rattle.type_terms.proofs.Members.{same-number}
use Rattle.declarations.specs.Apart.{is_fixed}
use Rattle.type_terms.proofs.TermBasics.{three}

-- ---- a union without flags
nothing-left : (x y : ℕ) → max x y ≡ 0 → x ≡ 0
nothing-left x y h = omega arith

nothing-right : (x y : ℕ) → max x y ≡ 0 → y ≡ 0
nothing-right x y h = omega arith

none-at : (a b i : ℕ) → bit_or a b ≡ 0 → max (bit_at a i) (bit_at b i) ≡ 0
none-at a b i h = sym (bit_at_or a b i) ∙ ap (λ n. bit_at n i) h ∙ bit_at-zero i

or-left : (a b : ℕ) → bit_or a b ≡ 0 → a ≡ 0
or-left a b h = same_from_bits a 0 (λ i. nothing-left (bit_at a i) (bit_at b i) (none-at a b i h) ∙ sym (bit_at-zero i))

or-right : (a b : ℕ) → bit_or a b ≡ 0 → b ≡ 0
or-right a b h = same_from_bits b 0 (λ i. nothing-right (bit_at a i) (bit_at b i) (none-at a b i h) ∙ sym (bit_at-zero i))

-- ---- the parts of what is fixed
pub top : (l : Label) (c o : Trees) → flags (tree l c o) ≡ 0 → label_flags l ≡ 0
top l c o h = or-left (label_flags l) (flags c) (or-left (bit_or (label_flags l) (flags c)) (flags o) h)

pub child : (l : Label) (c o : Trees) → flags (tree l c o) ≡ 0 → flags c ≡ 0
child l c o h = or-right (label_flags l) (flags c) (or-left (bit_or (label_flags l) (flags c)) (flags o) h)

pub next : (l : Label) (c o : Trees) → flags (tree l c o) ≡ 0 → flags o ≡ 0
next l c o h = or-right (bit_or (label_flags l) (flags c)) (flags o) h

pub no-flags : (t : Trees) → is_fixed t ≡ true → flags t ≡ 0
no-flags t e = same-number (flags t) 0 e

pub some-flag : (n : ℕ) → suc n ≡ zero → ⊥
some-flag n e = cc

-- ---- it stays
pub fixed-label : (l : Label) → label_flags l ≡ 0 → erase_label l ≡ l
fixed-label (param of_type i) h = cc
fixed-label (param of_const i) h = cc
fixed-label (param of_lifetime i) h = cc
fixed-label (placeholder of_type i) h = cc
fixed-label (placeholder of_const i) h = cc
fixed-label (placeholder of_lifetime i) h = cc
fixed-label (infer of_type i) h = cc
fixed-label (infer of_const i) h = cc
fixed-label (infer of_lifetime i) h = cc
fixed-label (canonical of_type i) h = cc
fixed-label (canonical of_const i) h = cc
fixed-label (canonical of_lifetime i) h = cc
fixed-label (bound of_type k i) h = cc
fixed-label (bound of_const k i) h = cc
fixed-label (bound of_lifetime k i) h = cc
fixed-label static h = cc
fixed-label (fn_ptr zero) h = refl
fixed-label (fn_ptr (suc n)) h = cc
fixed-label (principal zero t) h = refl
fixed-label (principal (suc n) t) h = cc
fixed-label l h = refl

pub fixed-erased : (t : Trees) → flags t ≡ 0 → erase t ≡ t
fixed-erased none h = refl
fixed-erased (tree l c o) h = three (fixed-label l (top l c o h)) (fixed-erased c (child l c o h)) (fixed-erased o (next l c o h))

pub fixed-instance : (d : ℕ) (A t : Trees) → flags t ≡ 0 → instantiate d A t ≡ t
fixed-instance d A none h = refl
fixed-instance d A (tree (param of_type i) c o) h = absurd (some-flag 0 (top (param of_type i) c o h))
fixed-instance d A (tree (param of_const i) c o) h = absurd (some-flag 255 (top (param of_const i) c o h))
fixed-instance d A (tree (param of_lifetime i) c o) h = absurd (some-flag 15 (top (param of_lifetime i) c o h))
fixed-instance d A (tree l c o) h = three refl (fixed-instance _ A c (child l c o h)) (fixed-instance d A o (next l c o h))
