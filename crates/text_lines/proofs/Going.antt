-- A loop over parts with a mark between each two: what the rest gives, all gives.
use Rattle.std.proofs.Common.{◌≡◌, ℕ, zero, suc, ◌<◌, List, [], ◌∷◌, ◌++◌, length, Option, Some, None, refl, sym, ap, ◌∙◌, append_assoc, arith}
use Rattle.std.proofs.lemmas.List.{length-append}
use Rattle.text_language.specs.Tokens.{Token}
use Rattle.text_lines.specs.Cells.{Cell}
use Rattle.text_lines.specs.Parts.{Progress, Part, Mark, ◌>>=◌, next_with, next_parts, parts_below, parts_between}
use Rattle.text_lines.proofs.IsPart.{IsPart, IsMark}

-- parts that have been read, before what the rest gives
abbrev pub after : {Y : Type 0} → List Y → Option (List Y × Progress) → Option (List Y × Progress)
after xs None = None
after xs (Some y) = Some (xs ++ y.0, y.1)

-- what the parts from here on give, all give; n is more than there are tokens
abbrev pub Going : {Y : Type 0} → Part Y → Mark → Progress → Progress → List Y → Type 0
Going f m start now xs = (n : ℕ) × (length now.1 < n) × (after xs (parts_below n f m now) ≡ parts_between f m start)

after-none : {Y : Type 0} (x : Option (List Y × Progress)) → after [] x ≡ x
after-none None = refl
after-none (Some y) = refl

after-one : {Y : Type 0} (xs : List Y) (y : Y) (x : Option (List Y × Progress)) → after xs (x >>= λ ys. Some (y ∷ ys.0, ys.1)) ≡ after (xs ++ y ∷ []) x
after-one xs y None = refl
after-one xs y (Some ys) = ap (λ z. Some (z, ys.1)) (sym (append_assoc xs (y ∷ []) ys.0))

pub begin : {Y : Type 0} (f : Part Y) (m : Mark) (p : Progress) → Going f m p p []
unfolding parts_between
begin f m p = (suc (length p.1), omega arith, after-none (parts_below (suc (length p.1)) f m p))

-- a part was read, and a mark
pub go_on : {Y : Type 0} (f : Part Y) (m : Mark) (start now q : Progress) (xs : List Y) (y : Y) (ts : List Token) → f now ≡ Some (y, q) → m q.1 ≡ Some ts → length ts < length now.1 → Going f m start now xs → Going f m start (q.0, ts) (xs ++ y ∷ [])
go_on f m start now q xs y ts e h less (zero, few, so_far) = let wrong : ⊥ = omega (arith, few) in absurd wrong
go_on f m start now q xs y ts e h less (suc n, few, so_far) = (
  n,
  omega (arith, few, less),
  sym (after-one xs y (parts_below n f m (q.0, ts)))
      ∙ ap (λ z. after xs (next_with z (parts_below n f m) (y, q))) (sym h)
      ∙ ap (λ z. after xs (z >>= next_parts m (parts_below n f m))) (sym e)
      ∙ so_far,
)

-- a part was read, and no mark
pub stop : {Y : Type 0} (f : Part Y) (m : Mark) (start now q : Progress) (xs : List Y) (y : Y) → f now ≡ Some (y, q) → m q.1 ≡ None → Going f m start now xs → parts_between f m start ≡ Some (xs ++ y ∷ [], q)
stop f m start now q xs y e h (zero, few, so_far) = let wrong : ⊥ = omega (arith, few) in absurd wrong
stop f m start now q xs y e h (suc n, few, so_far) =
    sym so_far
    ∙ ap (λ z. after xs (z >>= next_parts m (parts_below n f m))) e
    ∙ ap (λ z. after xs (next_with z (parts_below n f m) (y, q))) h

-- what is left is shorter
pub shorter : {T Y : Type 0} {f : Part Y} {s : T → List Token} {o : T → List Cell → List Cell} {l : T → List Cell → Y} {B : List Token → Type 0} {m : Mark} {k : Token} → IsPart f s o l B → IsMark m k
    → (p q : Progress) (y : Y) (ts : List Token) → f p ≡ Some (y, q) → m q.1 ≡ Some ts → length ts < length p.1
shorter {T} {Y} {f} {s} {o} {l} {B} {m} {k} w mark p q y ts e h =
    let n = w.takes p q y e in
    let a : length p.1 ≡ length (s n.tree ++ q.1) = ap length n.tokens in
    let b = length-append (s n.tree) q.1 in
    let d : length q.1 ≡ suc (length ts) = ap length (mark.takes q.1 ts h) in
    omega (arith, a, b, d)
