-- Sets of paths that are extended.
use Rattle.std.proofs.Common.{◌≡◌, ℕ, ◌-◌, ◌^◌, ◌<◌, ◌≤◌, ◌⊎◌, inl, inr, min, max, Option, Some, refl, sym, ap, subst, ◌∙◌, arith}
use Rattle.std.specs.Int.{bit_at, w64}
use Rattle.std.specs.Int.RustNames.{bit_and, bit_or}
use Rattle.std.proofs.lemmas.Nat.{and_le_r, pow_pos, pow_below}
use Rattle.std.proofs.lemmas.Nat.Bits.{bit_at-lt, bit_at-zero, bit_at_and, bit_at_or, bit_at_ones, bit_at_ones_above, bit_at-pow_same, bit_at-pow_other, bit_at_mask_inside, bit_at_mask_below, bit_at-trailing_zeros}
use Rattle.std.proofs.lemmas.Bool.{cases_order, cases_eq, cases_lt}
use Rattle.search_paths.specs.declared.path_kind.PathKind.{PathKind}
use Rattle.search_paths.specs.declared.path_kind.PathKind.TheVariants.{Inductive, Unknown, Coinductive, ForcedAmbiguity}
use Rattle.search_paths.specs.Path.{greater, after, flag_of, HasPath, only, AreExtendedBy, AreExtendedWhere, AreExtendedByEach}
use Rattle.search_paths.proofs.KindOrder.{same_flag, path_at, flag_of-path_at, flag_of-below, flag_of-after, after-twice}

-- where no path is lesser, each stays
stays : (k : PathKind) (n : ℕ) → ((i : ℕ) → i < flag_of (Some k) → bit_at n i ≡ 0) → AreExtendedBy k n n
stays k n none path = (to, from)
  where
    high : (p : Option PathKind) → HasPath n p → flag_of (Some k) ≤ flag_of p
    high p h = elim (cases_lt (flag_of p) (flag_of (Some k))) [
      | inl lt ↦ let low = none (flag_of p) lt in absurd (omega arith)
      | inr le ↦ le
    ]

    same : (p : Option PathKind) → HasPath n p → p ≡ Some (after p k)
    same p h = let le = high p h in same_flag p (Some (after p k)) (omega (arith, flag_of-after p k))

    to : HasPath n path → ((shorter : Option PathKind) × HasPath n shorter × (path ≡ Some (after shorter k)))
    to h = (path, h, same path h)

    from : ((shorter : Option PathKind) × HasPath n shorter × (path ≡ Some (after shorter k))) → HasPath n path
    from s = subst (λ p. HasPath n p) (same s.0 s.1 ∙ sym s.2) s.1

-- where one is lesser, the lesser ones become the kind's
moves : (k : PathKind) (n r i : ℕ) → i < flag_of (Some k) → bit_at n i ≡ 1 → ((j : ℕ) → j < flag_of (Some k) → bit_at r j ≡ 0) → bit_at r (flag_of (Some k)) ≡ 1
    → ((j : ℕ) → flag_of (Some k) < j → j < 5 → bit_at r j ≡ bit_at n j) → AreExtendedBy k n r
moves k n r i lt there low here high path = (to, from)
  where
    to : HasPath r path → ((shorter : Option PathKind) × HasPath n shorter × (path ≡ Some (after shorter k)))
    to h = elim (cases_order (flag_of path) (flag_of (Some k))) [
      | inl e ↦
          let at : flag_of (path_at i) ≡ i = flag_of-path_at i (omega (arith, flag_of-below (Some k))) in
          (path_at i, ap (bit_at n) at ∙ there, same_flag path (Some (after (path_at i) k)) (omega (arith, flag_of-after (path_at i) k)))
      | inr (inl below) ↦ let none = low (flag_of path) below in absurd (omega arith)
      | inr (inr above) ↦
          let is = high (flag_of path) above (flag_of-below path) in
          (path, sym is ∙ h, same_flag path (Some (after path k)) (omega (arith, flag_of-after path k)))
    ]

    from : ((shorter : Option PathKind) × HasPath n shorter × (path ≡ Some (after shorter k))) → HasPath r path
    from s =
        let is : flag_of path ≡ max (flag_of s.0) (flag_of (Some k)) = ap flag_of s.2 ∙ flag_of-after s.0 k in
        elim (cases_lt (flag_of (Some k)) (flag_of s.0)) [
          | inl lt ↦ let e : flag_of path ≡ flag_of s.0 = omega arith in ap (bit_at r) e ∙ high (flag_of s.0) lt (flag_of-below s.0) ∙ s.1
          | inr le ↦ let e : flag_of path ≡ flag_of (Some k) = omega arith in ap (bit_at r) e ∙ here
        ]

-- no bit below the flag
pub AreExtendedBy-stays : (k : PathKind) (n : ℕ) → bit_and n (2 ^ flag_of (Some k) - 1) ≡ 0 → AreExtendedBy k n n
AreExtendedBy-stays k n none = stays k n (λ i lt. low i lt)
  where
    low : (i : ℕ) → i < flag_of (Some k) → bit_at n i ≡ 0
    low i lt =
        let both = bit_at_and n (2 ^ flag_of (Some k) - 1) i in
        let nothing : bit_at (bit_and n (2 ^ flag_of (Some k) - 1)) i ≡ 0 = ap (λ m. bit_at m i) none ∙ bit_at-zero i in
        omega (arith, bit_at-lt n i, bit_at_ones (flag_of (Some k)) i lt)

-- a number that is not 0 has a bit
some_bit : (n m : ℕ) → m < 2 ^ 8 → 0 < bit_and n m → (i : ℕ) × (bit_at (bit_and n m) i ≡ 1)
some_bit n m fits some =
    let h = bit_at-trailing_zeros w64 (bit_and n m) some (omega (arith, and_le_r n m)) in
    (_, h.1)

module _ (k : PathKind) (n : ℕ) where
  mask : 2 ^ 8 - 1 - (2 ^ flag_of (Some k) - 1) ≡ 2 ^ 8 - 2 ^ flag_of (Some k)
  mask = omega (arith, pow_pos (flag_of (Some k)))

  -- the bits of the longer paths
  bit-moved : (i : ℕ) → bit_at (bit_or (bit_and n (2 ^ 8 - 1 - (2 ^ flag_of (Some k) - 1))) (2 ^ flag_of (Some k))) i
      ≡ max (min (bit_at n i) (bit_at (2 ^ 8 - 2 ^ flag_of (Some k)) i)) (bit_at (2 ^ flag_of (Some k)) i)
  bit-moved i =
      bit_at_or _ (2 ^ flag_of (Some k)) i
      ∙ ap (λ x. max x (bit_at (2 ^ flag_of (Some k)) i)) (bit_at_and n _ i)
      ∙ ap (λ x. max (min (bit_at n i) (bit_at x i)) (bit_at (2 ^ flag_of (Some k)) i)) mask

  -- some bit below the flag
  pub AreExtendedBy-moves : 0 < bit_and n (2 ^ flag_of (Some k) - 1)
      → AreExtendedBy k n (bit_or (bit_and n (2 ^ 8 - 1 - (2 ^ flag_of (Some k) - 1))) (2 ^ flag_of (Some k)))
  AreExtendedBy-moves some =
      let found = some_bit n (2 ^ flag_of (Some k) - 1) (omega (arith, pow_below (flag_of (Some k)) 8 (omega (arith, flag_of-below (Some k))))) some in
      let i : ℕ = found.0 in
      let both : min (bit_at n i) (bit_at (2 ^ flag_of (Some k) - 1) i) ≡ 1 = sym (bit_at_and n (2 ^ flag_of (Some k) - 1) i) ∙ found.1 in
      let lt : i < flag_of (Some k) = elim (cases_lt i (flag_of (Some k))) [
        | inl lt ↦ lt
        | inr le ↦ let none = bit_at_ones_above (flag_of (Some k)) i le in absurd (omega arith)
      ] in
      moves k n _ i lt (omega (arith, bit_at-lt n i))
      (λ j below. let none = bit_at_mask_below (flag_of (Some k)) 8 j below in let other = bit_at-pow_other (flag_of (Some k)) j (λ e. absurd (omega arith)) in
      omega (arith, bit-moved j))
      (let same = bit_at-pow_same (flag_of (Some k)) in omega (arith, bit-moved (flag_of (Some k)), bit_at-lt n (flag_of (Some k))))
      (λ j above below. let inside = bit_at_mask_inside (flag_of (Some k)) 8 j (omega arith) (omega arith) in let other = bit_at-pow_other (flag_of (Some k)) j (λ e. absurd (omega arith)) in
      omega (arith, bit-moved j, bit_at-lt n j))

-- the bits of a union
pub bit-union : (a b i : ℕ) → (bit_at a i ≡ 1) ⊎ (bit_at b i ≡ 1) → bit_at (bit_or a b) i ≡ 1
bit-union a b i (inl h) = omega (arith, bit_at_or a b i, bit_at-lt b i)
bit-union a b i (inr h) = omega (arith, bit_at_or a b i, bit_at-lt a i)

pub bit-either : (a b i : ℕ) → bit_at (bit_or a b) i ≡ 1 → (bit_at a i ≡ 1) ⊎ (bit_at b i ≡ 1)
bit-either a b i h = elim (cases_eq (bit_at a i) 1) [ inl e ↦ inl e | inr ne ↦ inr (omega (arith, bit_at_or a b i, bit_at-lt a i, bit_at-lt b i)) ]

-- to extend each of two sets is to extend their union
pub AreExtendedBy-union : (k : PathKind) (a b c d : ℕ) → AreExtendedBy k a c → AreExtendedBy k b d → AreExtendedBy k (bit_or a b) (bit_or c d)
AreExtendedBy-union k a b c d f g path = (to, from)
  where
    to : HasPath (bit_or c d) path → ((shorter : Option PathKind) × HasPath (bit_or a b) shorter × (path ≡ Some (after shorter k)))
    to h = elim (bit-either c d (flag_of path) h) [
      | inl e ↦ let s = (f path).0 e in (s.0, bit-union a b (flag_of s.0) (inl s.1), s.2)
      | inr e ↦ let s = (g path).0 e in (s.0, bit-union a b (flag_of s.0) (inr s.1), s.2)
    ]

    from : ((shorter : Option PathKind) × HasPath (bit_or a b) shorter × (path ≡ Some (after shorter k))) → HasPath (bit_or c d) path
    from s = elim (bit-either a b (flag_of s.0) s.1) [
      | inl e ↦ bit-union c d (flag_of path) (inl ((f path).1 (s.0, e, s.2)))
      | inr e ↦ bit-union c d (flag_of path) (inr ((g path).1 (s.0, e, s.2)))
    ]

-- to extend by two steps in turn is to extend by one of the greater kind
pub AreExtendedBy-twice : (j k : PathKind) (a b c : ℕ) → AreExtendedBy j a b → AreExtendedBy k b c → AreExtendedBy (greater j k) a c
AreExtendedBy-twice j k a b c f g path = (to, from)
  where
    to : HasPath c path → ((shorter : Option PathKind) × HasPath a shorter × (path ≡ Some (after shorter (greater j k))))
    to h =
        let s = (g path).0 h in
        let t = (f s.0).0 s.1 in
        (t.0, t.1, s.2 ∙ ap (λ p. Some (after p k)) t.2 ∙ ap Some (after-twice t.0 j k))

    from : ((shorter : Option PathKind) × HasPath a shorter × (path ≡ Some (after shorter (greater j k)))) → HasPath c path
    from t = (g path).1 (Some (after t.0 j), (f (Some (after t.0 j))).1 (t.0, t.1, refl), t.2 ∙ ap Some (sym (after-twice t.0 j k)))

-- a set that shares a bit with the set of one path has that path
pub shares-one : (kinds : ℕ) (path : Option PathKind) → bit_and kinds (only path) ≡ 0 → HasPath kinds path → ⊥
shares-one kinds path none has =
    let at = bit_at_and kinds (only path) (flag_of path) in
    let own = bit_at-pow_same (flag_of path) in
    let nothing : bit_at (bit_and kinds (only path)) (flag_of path) ≡ 0 = ap (λ m. bit_at m (flag_of path)) none ∙ bit_at-zero (flag_of path) in
    omega (arith, at, own, nothing, has)

pub has-one : (kinds : ℕ) (path : Option PathKind) → 0 < bit_and kinds (only path) → HasPath kinds path
has-one kinds path some =
    let found = some_bit kinds (only path) (pow_below (flag_of path) 8 (omega (arith, flag_of-below path))) some in
    let i : ℕ = found.0 in
    let both : min (bit_at kinds i) (bit_at (only path) i) ≡ 1 = sym (bit_at_and kinds (only path) i) ∙ found.1 in
    elim (cases_eq i (flag_of path)) [
      | inl e ↦ subst (λ n. bit_at kinds n ≡ 1) e (omega (arith, both, bit_at-lt kinds i, bit_at-lt (only path) i))
      | inr ne ↦ let other = bit_at-pow_other (flag_of path) i ne in absurd (omega (arith, both, other))
    ]

-- no path is in the empty set
pub none-in : (path : Option PathKind) → HasPath 0 path → ⊥
none-in path h = let nothing = bit_at-zero (flag_of path) in omega (arith, nothing, h)

pub extended-there : (kinds : ℕ) (k : PathKind) (paths longer : ℕ) → HasPath kinds (Some k) → AreExtendedBy k paths longer → AreExtendedWhere kinds k paths longer
extended-there kinds k paths longer has is path = (λ h. let x = (is path).0 h in (has, x.0, x.1, x.2), λ h. (is path).1 (h.1, h.2, h.3))

pub extended-nowhere : (kinds : ℕ) (k : PathKind) (paths longer : ℕ) → (HasPath kinds (Some k) → ⊥) → longer ≡ 0 → AreExtendedWhere kinds k paths longer
extended-nowhere kinds k paths longer without none path = (λ h. absurd (none-in path (subst (λ n. HasPath n path) none h)), λ h. absurd (without h.0))

-- the paths of all kinds
pub extended-each : (kinds paths a b c d : ℕ) → AreExtendedWhere kinds Inductive paths a → AreExtendedWhere kinds Unknown paths b → AreExtendedWhere kinds Coinductive paths c → AreExtendedWhere kinds ForcedAmbiguity paths d
    → AreExtendedByEach kinds paths (bit_or (bit_or (bit_or a b) c) d)
extended-each kinds paths a b c d one two three four path = (to, from)
  where
    to : HasPath (bit_or (bit_or (bit_or a b) c) d) path → ((k : PathKind) × HasPath kinds (Some k) × (shorter : Option PathKind) × HasPath paths shorter × (path ≡ Some (after shorter k)))
    to h = elim (bit-either (bit_or (bit_or a b) c) d (flag_of path) h) [
      | inr w ↦ let r = (four path).0 w in (ForcedAmbiguity, r.0, r.1, r.2, r.3)
      | inl x ↦ elim (bit-either (bit_or a b) c (flag_of path) x) [
        | inr w ↦ let r = (three path).0 w in (Coinductive, r.0, r.1, r.2, r.3)
        | inl y ↦ elim (bit-either a b (flag_of path) y) [ inr w ↦ let r = (two path).0 w in (Unknown, r.0, r.1, r.2, r.3) | inl w ↦ let r = (one path).0 w in (Inductive, r.0, r.1, r.2, r.3) ]
      ]
    ]

    first : HasPath a path → HasPath (bit_or (bit_or (bit_or a b) c) d) path
    first w = bit-union (bit_or (bit_or a b) c) d (flag_of path) (inl (bit-union (bit_or a b) c (flag_of path) (inl (bit-union a b (flag_of path) (inl w)))))

    second : HasPath b path → HasPath (bit_or (bit_or (bit_or a b) c) d) path
    second w = bit-union (bit_or (bit_or a b) c) d (flag_of path) (inl (bit-union (bit_or a b) c (flag_of path) (inl (bit-union a b (flag_of path) (inr w)))))

    third : HasPath c path → HasPath (bit_or (bit_or (bit_or a b) c) d) path
    third w = bit-union (bit_or (bit_or a b) c) d (flag_of path) (inl (bit-union (bit_or a b) c (flag_of path) (inr w)))

    of_kind : (k : PathKind) → HasPath kinds (Some k) × (shorter : Option PathKind) × HasPath paths shorter × (path ≡ Some (after shorter k)) → HasPath (bit_or (bit_or (bit_or a b) c) d) path
    of_kind Inductive h = first ((one path).1 h)
    of_kind Unknown h = second ((two path).1 h)
    of_kind Coinductive h = third ((three path).1 h)
    of_kind ForcedAmbiguity h = bit-union (bit_or (bit_or a b) c) d (flag_of path) (inr ((four path).1 h))

    from : ((k : PathKind) × HasPath kinds (Some k) × (shorter : Option PathKind) × HasPath paths shorter × (path ≡ Some (after shorter k))) → HasPath (bit_or (bit_or (bit_or a b) c) d) path
    from h = of_kind h.0 (h.1, h.2, h.3, h.4)
