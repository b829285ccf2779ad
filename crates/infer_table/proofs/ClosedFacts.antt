-- Terms in which nothing is open.
use Rattle.std.proofs.Common.{◌≡◌, ℕ, Bool, true, false, refl, ap, sym, ◌∙◌, List, is_some, if◌then◌else◌, arith, min, max, ◌==◌}
use Rattle.std.proofs.lemmas.Bool.Decides.{nat_tests}
use Rattle.std.specs.Prelude.{bit_and, bit_or}
use Rattle.std.specs.Int.{bit_at}
use Rattle.std.proofs.lemmas.Nat.Bits.{bit_at_and, bit_at_or, bit_at-zero, same_from_bits}
use Rattle.type_terms.specs.Promised.Label.{Label, of_type, of_const, of_lifetime, infer, param, placeholder, static}
use Rattle.type_terms.specs.Promised.Trees.{Trees, none, tree}
use Rattle.type_terms.specs.Trees.{flags, label_flags}
use Rattle.infer_table.specs.Canonical.{kind_in_clause, kind_of_leaf, leaves, relabeled, with_label}
use Rattle.infer_table.specs.Solutions.{Binding, resolved}
use Rattle.infer_table.proofs.ResolveFacts.{unknown-free-resolved}
use Rattle.infer_table.specs.Leaves.{open_kinds, open_flags, is_closed_by, OpenAreLeaves}
use Rattle.type_terms.proofs.Made.{false-true}
use Rattle.type_terms.proofs.TermBasics.{tree-cong}

low-part : (x y z : ℕ) → min (max x y) z ≡ 0 → min x z ≡ 0
low-part x y z h = omega arith

high-part : (x y z : ℕ) → min (max x y) z ≡ 0 → min y z ≡ 0
high-part x y z h = omega arith

and-at : (a m i : ℕ) → bit_and a m ≡ 0 → min (bit_at a i) (bit_at m i) ≡ 0
and-at a m i h = sym (bit_at_and a m i) ∙ ap (λ z. bit_at z i) h ∙ bit_at-zero i

or-at : (a b m i : ℕ) → bit_and (bit_or a b) m ≡ 0 → min (max (bit_at a i) (bit_at b i)) (bit_at m i) ≡ 0
or-at a b m i h = ap (λ z. min z (bit_at m i)) (sym (bit_at_or a b i)) ∙ and-at (bit_or a b) m i h

nothing-at : (a m : ℕ) → ((i : ℕ) → min (bit_at a i) (bit_at m i) ≡ 0) → bit_and a m ≡ 0
nothing-at a m h = same_from_bits (bit_and a m) 0 (λ i. bit_at_and a m i ∙ h i ∙ sym (bit_at-zero i))

pub or-left : (a b m : ℕ) → bit_and (bit_or a b) m ≡ 0 → bit_and a m ≡ 0
or-left a b m h = nothing-at a m (λ i. low-part (bit_at a i) (bit_at b i) (bit_at m i) (or-at a b m i h))

pub or-right : (a b m : ℕ) → bit_and (bit_or a b) m ≡ 0 → bit_and b m ≡ 0
or-right a b m h = nothing-at b m (λ i. high-part (bit_at a i) (bit_at b i) (bit_at m i) (or-at a b m i h))

-- what is in no flag of a union is in none of a part of it
and-part : (a n k m : ℕ) → bit_or n k ≡ m → bit_and a m ≡ 0 → bit_and a n ≡ 0
and-part a n k m e h =
    nothing-at a n (λ i. first-part (bit_at a i) (bit_at n i) (bit_at k i) (ap (λ z. min (bit_at a i) z) (sym (bit_at_or n k i) ∙ ap (λ z. bit_at z i) e) ∙ and-at a m i h))
  where
    first-part : (x y z : ℕ) → min x (max y z) ≡ 0 → min x y ≡ 0
    first-part x y z h = omega arith

-- the flags of what is open in a where-clause, and outside
abbrev mask : Bool → ℕ
mask true = 1911
mask false = 10103

closed-label : (b : Bool) (l : Label) → bit_and (label_flags l) (mask b) ≡ 0 → is_some (open_kinds b l) ≡ false
closed-label true l h = in-clause l h
  where
    in-clause : (l : Label) → bit_and (label_flags l) 1911 ≡ 0 → is_some (kind_in_clause l) ≡ false
    in-clause (infer of_type v) h = cc
    in-clause (infer of_const v) h = cc
    in-clause (infer of_lifetime v) h = cc
    in-clause (param of_type v) h = cc
    in-clause (param of_const v) h = cc
    in-clause (param of_lifetime v) h = cc
    in-clause (placeholder of_type v) h = cc
    in-clause (placeholder of_const v) h = cc
    in-clause (placeholder of_lifetime v) h = cc
    in-clause l h = refl
closed-label false l h = outside-clauses l h
  where
    outside-clauses : (l : Label) → bit_and (label_flags l) 10103 ≡ 0 → is_some (kind_of_leaf l) ≡ false
    outside-clauses (infer of_type v) h = cc
    outside-clauses (infer of_const v) h = cc
    outside-clauses (infer of_lifetime v) h = cc
    outside-clauses (param of_type v) h = cc
    outside-clauses (param of_const v) h = cc
    outside-clauses (param of_lifetime v) h = cc
    outside-clauses (placeholder of_type v) h = cc
    outside-clauses (placeholder of_const v) h = cc
    outside-clauses (placeholder of_lifetime v) h = cc
    outside-clauses static h = cc
    outside-clauses l h = refl

module _ (b : Bool) where
  here : (l : Label) (c o : Trees) → bit_and (flags (tree l c o)) (mask b) ≡ 0 → is_some (open_kinds b l) ≡ false
  here l c o h = closed-label b l (or-left (label_flags l) (flags c) (mask b) (or-left (bit_or (label_flags l) (flags c)) (flags o) (mask b) h))

  below : (l : Label) (c o : Trees) → bit_and (flags (tree l c o)) (mask b) ≡ 0 → bit_and (flags c) (mask b) ≡ 0
  below l c o h = or-right (label_flags l) (flags c) (mask b) (or-left (bit_or (label_flags l) (flags c)) (flags o) (mask b) h)

  after : (l : Label) (c o : Trees) → bit_and (flags (tree l c o)) (mask b) ≡ 0 → bit_and (flags o) (mask b) ≡ 0
  after l c o h = or-right (bit_or (label_flags l) (flags c)) (flags o) (mask b) h

  unmarked-leaves : (seen : List Label) (t : Trees) → bit_and (flags t) (mask b) ≡ 0 → leaves (open_kinds b) seen t ≡ seen
  unmarked-leaves seen none h = refl
  unmarked-leaves seen (tree l c o) h =
      ap (λ (x : Bool). leaves (open_kinds b) (leaves (open_kinds b) (if x then with_label l seen else seen) c) o) (here l c o h)
      ∙ ap (λ s. leaves (open_kinds b) s o) (unmarked-leaves seen c (below l c o h))
      ∙ unmarked-leaves seen o (after l c o h)

  unmarked-stays : (f : Label → Label) (t : Trees) → bit_and (flags t) (mask b) ≡ 0 → relabeled (open_kinds b) f t ≡ t
  unmarked-stays f none h = refl
  unmarked-stays f (tree l c o) h =
      tree-cong _ _ _ _ _ _ (ap (λ (x : Bool). if x then f l else l) (here l c o h)) (unmarked-stays f c (below l c o h)) (unmarked-stays f o (after l c o h))

  unmarked-only : (t : Trees) → bit_and (flags t) (mask b) ≡ 0 → OpenAreLeaves (open_kinds b) t
  unmarked-only none h = tt
  unmarked-only (tree l c o) h =
      (λ q. absurd (false-true (sym (here l c o h) ∙ q)), unmarked-only c (below l c o h), unmarked-only o (after l c o h))

pub zero-test : (n : ℕ) → (n == 0) ≡ true → n ≡ 0
zero-test n h = grind (arith, nat_tests)

flags-are : (b : Bool) → open_flags b ≡ mask b
flags-are true = refl
flags-are false = refl

unmarked : (b : Bool) (t : Trees) → is_closed_by b t ≡ true → bit_and (flags t) (mask b) ≡ 0
unmarked b t h = ap (bit_and (flags t)) (sym (flags-are b)) ∙ zero-test _ h

pub closed-leaves : (b : Bool) (seen : List Label) (t : Trees) → is_closed_by b t ≡ true → leaves (open_kinds b) seen t ≡ seen
closed-leaves b seen t h = unmarked-leaves b seen t (unmarked b t h)

pub closed-stays : (b : Bool) (f : Label → Label) (t : Trees) → is_closed_by b t ≡ true → relabeled (open_kinds b) f t ≡ t
closed-stays b f t h = unmarked-stays b f t (unmarked b t h)

pub closed-only : (b : Bool) (t : Trees) → is_closed_by b t ≡ true → OpenAreLeaves (open_kinds b) t
closed-only b t h = unmarked-only b t (unmarked b t h)

-- no variable of inference stands in it
pub closed-resolved : (b : Bool) (bs : List Binding) (t : Trees) → is_closed_by b t ≡ true → resolved bs t ≡ t
closed-resolved true bs t h = unknown-free-resolved bs t (and-part (flags t) 546 1365 1911 refl (unmarked true t h))
closed-resolved false bs t h = unknown-free-resolved bs t (and-part (flags t) 546 9557 10103 refl (unmarked false t h))
