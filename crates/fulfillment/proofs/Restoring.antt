-- Obligations that a rollback restores.
use Rattle.std.proofs.Common.{◌≡◌, ◌<◌, ◌≤◌, ◌+◌, ◌∙◌, ℕ, zero, suc, add-one, arith, refl, sym, ap, subst, List, [], ◌∷◌, length, map, take, set, get_or, Some, slice_get}
use Rattle.std.specs.List.{AllZip}
use Rattle.std.proofs.lemmas.Option.{same_Some, slice_get-get_or}
use Rattle.infer_table.specs.declared.goal.Goal.{Goal}
use Rattle.fulfillment.specs.Obligations.{HaveGrown, standing_as, stood_of}
use Rattle.fulfillment.specs.declared.obligation.Obligation.{Obligation}
use Rattle.fulfillment.specs.declared.obligation.Stood.{Stood}

-- the first n obligations stand as they stood
abbrev pub restored_to : ℕ → List Stood → List Obligation → List Obligation
restored_to zero ss os = os
restored_to (suc n) [] os = os
restored_to (suc n) (s ∷ ss) [] = []
restored_to (suc n) (s ∷ ss) (o ∷ os) = standing_as o s ∷ restored_to n ss os

pub restored-length : (n : ℕ) (ss : List Stood) (os : List Obligation) → length (restored_to n ss os) ≡ length os
restored-length zero ss os = refl
restored-length (suc n) [] os = refl
restored-length (suc n) (s ∷ ss) [] = refl
restored-length (suc n) (s ∷ ss) (o ∷ os) = ap suc (restored-length n ss os)

-- one more
pub restored-more : (i : ℕ) (ss : List Stood) (os : List Obligation) (s : Stood) (o : Obligation) → slice_get ss i ≡ Some s → slice_get (restored_to i ss os) i ≡ Some o
    → set (restored_to i ss os) i (standing_as o s) ≡ restored_to (suc i) ss os
restored-more zero [] os s o e f = absurd cc
restored-more zero (x ∷ ss) [] s o e f = absurd cc
restored-more zero (x ∷ ss) (p ∷ os) s o e f = ap (λ (q : Obligation). q ∷ os) (same (same_Some x s e) (same_Some p o f))
  where
    same : x ≡ s → p ≡ o → standing_as o s ≡ standing_as p x
    same a b = cc
restored-more (suc i) [] os s o e f = absurd cc
restored-more (suc i) (x ∷ ss) [] s o e f = absurd cc
restored-more (suc i) (x ∷ ss) (p ∷ os) s o e f = ap (λ (qs : List Obligation). standing_as p x ∷ qs) (restored-more i ss os s o e f)

-- the goals are the same
standing-is : (b o : Obligation) → o.goal ≡ b.goal → standing_as o (stood_of b) ≡ b
standing-is b o e = ap (λ (g : Goal). (let x : Obligation = record { goal = g; standing = b.standing; left = b.left } in x)) e

restored-all : (bs os : List Obligation) → AllZip (λ (o p : Obligation). p.goal ≡ o.goal) bs os → restored_to (length os) (map stood_of bs) os ≡ bs
restored-all [] [] z = refl
restored-all [] (o ∷ os) z = absurd z
restored-all (b ∷ bs) [] z = absurd z
restored-all (b ∷ bs) (o ∷ os) z = ap (λ (q : Obligation). q ∷ restored_to (length os) (map stood_of bs) os) (standing-is b o z.0) ∙ ap (λ (qs : List Obligation). b ∷ qs) (restored-all bs os z.1)

map-length : (bs : List Obligation) → length (map stood_of bs) ≡ length bs
map-length [] = refl
map-length (b ∷ bs) = ap suc (map-length bs)

pub restored-is : (ss : List Stood) (old bs : List Obligation) → ss ≡ map stood_of bs → HaveGrown bs old
    → restored_to (length (take (length ss) old)) ss (take (length ss) old) ≡ bs
restored-is ss old bs e z =
    let at : length bs ≡ length ss = sym (ap length e ∙ map-length bs) in
    let zip : AllZip (λ (o p : Obligation). p.goal ≡ o.goal) bs (take (length ss) old) = subst (λ n. AllZip (λ (o p : Obligation). p.goal ≡ o.goal) bs (take n old)) at z in
    ap (λ ts. restored_to (length (take (length ss) old)) ts (take (length ss) old)) e ∙ restored-all bs (take (length ss) old) zip

pub restored-end : (index n : ℕ) (ss : List Stood) (old items bs : List Obligation) → index ≡ length items → items ≡ take n old → n ≡ length ss → ss ≡ map stood_of bs → HaveGrown bs old → restored_to index ss items ≡ bs
restored-end index n ss old items bs at is long e z =
    ap (λ k. restored_to k ss items) at ∙ ap (λ (xs : List Obligation). restored_to (length xs) ss xs) (is ∙ ap (λ k. take k old) long) ∙ restored-is ss old bs e z

-- ---- a step
pub take-short : {A : Type 0} (n : ℕ) (xs : List A) → length (take n xs) ≤ n
take-short zero xs = omega arith
take-short (suc n) [] = omega arith
take-short (suc n) (x ∷ xs) = let h = take-short n xs in omega (arith, h)

pub restored-step : (i : ℕ) (ss : List Stood) (os now : List Obligation) (s : Stood) (o p : Obligation) → now ≡ restored_to i ss os → s ≡ get_or ss i s → o ≡ get_or now i o → p ≡ standing_as o s → i < length ss → i < length os
    → set now i p ≡ restored_to (i + 1) ss os
restored-step i ss os now s o p is here there stands low below =
    let within : i < length now = let same = ap length is ∙ restored-length i ss os in omega (arith, same, below) in
    let first : slice_get ss i ≡ Some s = slice_get-get_or ss i s low ∙ ap Some (sym here) in
    let second : slice_get (restored_to i ss os) i ≡ Some o = ap (λ (xs : List Obligation). slice_get xs i) (sym is) ∙ slice_get-get_or now i o within ∙ ap Some (sym there) in
    ap (set now i) stands ∙ ap (λ (xs : List Obligation). set xs i (standing_as o s)) is ∙ restored-more i ss os s o first second ∙ ap (λ k. restored_to k ss os) (sym (add-one i))
