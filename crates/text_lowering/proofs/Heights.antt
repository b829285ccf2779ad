-- Bounds of traits lead down, where each names a trait of a lower number.
use Rattle.std.proofs.Common.{◌≡◌, ℕ, zero, suc, ◌<◌, ◌≤◌, max, Bool, true, false, cond, List, [], ◌∷◌, map, length, Some, refl, sym, ap, ◌∙◌, arith}
use Rattle.std.proofs.lemmas.Bool.{eqb-true, eq-eqb}
use Rattle.std.proofs.lemmas.Bool.Decides.{Decides-ltb}
use Rattle.std.proofs.lemmas.Option.{same_Some, slice_get-map}
use Rattle.std.proofs.Math.Nat.{le-max_left, le-max_right}
use Rattle.std.specs.Prelude.{◌==◌, nat_lt, filter, fold, slice_get}
use Rattle.std.specs.List.{list_all}
use Rattle.std.specs.Option.{option_map}
use Rattle.type_terms.proofs.Members.{in-filter, filter-in}
use Rattle.type_terms.specs.Promised.Proofs.{In}
use Rattle.type_terms.specs.Promised.Worlds.{World, Reference, TraitDecl, traits_named}
use Rattle.candidate_model.specs.DeclaredWell.{height_within, height_in, bounds_lead_down}
use Rattle.candidate_model.specs.Promised.Widths.{greatest}
use Rattle.text_lowering.proofs.Trees.{and}

-- bounds of these traits have lower numbers
abbrev pub LowerBounds : List TraitDecl → Type 0
LowerBounds xs = (x : TraitDecl) (b : Reference) → In x xs → In b x.bounds → b.trait < x.name

-- ---- how many traits have numbers up to t
abbrev up-to : ℕ → TraitDecl → Bool
up-to t x = nat_lt x.name (suc t)

abbrev count : ℕ → List TraitDecl → ℕ
count t xs = length (filter (up-to t) xs)

lt-true : (a b : ℕ) → a < b → nat_lt a b ≡ true
lt-true a b h = (Decides-ltb a b).1 h

true-lt : (a b : ℕ) → nat_lt a b ≡ true → a < b
true-lt a b h = (Decides-ltb a b).0 h

count-more : (t u : ℕ) → t ≤ u → (xs : List TraitDecl) → count t xs ≤ count u xs
count-more t u h [] = omega arith
count-more t u h (x ∷ xs) = by (up-to t x) (up-to u x) (λ e. lt-true x.name (suc u) (omega (arith, h, true-lt x.name (suc t) e))) (count-more t u h xs)
  where
    by : (a b : Bool) → (a ≡ true → b ≡ true) → count t xs ≤ count u xs → length (cond a (x ∷ filter (up-to t) xs) (filter (up-to t) xs)) ≤ length (cond b (x ∷ filter (up-to u) xs) (filter (up-to u) xs))
    by true true f g = omega (arith, g)
    by true false f g = absurd (never (f refl))
      where
        never : false ≡ true → ⊥
        never q = absurd cc
    by false true f g = omega (arith, g)
    by false false f g = g

count-less : (b : ℕ) (xs : List TraitDecl) (x : TraitDecl) (k : ℕ) → slice_get xs k ≡ Some x → b < x.name → count b xs < count x.name xs
count-less b [] x k e h = absurd cc
count-less b (y ∷ ys) x zero e h =
    by (up-to b y) (up-to x.name y) (λ q. omega (arith, h, true-lt y.name (suc b) q, ap (λ (z : TraitDecl). z.name) (same_Some y x e))) (lt-true y.name (suc x.name) (omega (arith, ap (λ (z : TraitDecl). z.name) (same_Some y x e)))) (count-more b x.name (omega (arith, h)) ys)
  where
    by : (a c : Bool) → (a ≡ true → ⊥) → c ≡ true → count b ys ≤ count x.name ys → length (cond a (y ∷ filter (up-to b) ys) (filter (up-to b) ys)) < length (cond c (y ∷ filter (up-to x.name) ys) (filter (up-to x.name) ys))
    by true c f g q = absurd (f refl)
    by false true f g q = omega (arith, q)
    by false false f g q = absurd cc
count-less b (y ∷ ys) x (suc k) e h = by (up-to b y) (up-to x.name y) (λ q. lt-true y.name (suc x.name) (omega (arith, h, true-lt y.name (suc b) q))) (count-less b ys x k e h)
  where
    by : (a c : Bool) → (a ≡ true → c ≡ true) → count b ys < count x.name ys → length (cond a (y ∷ filter (up-to b) ys) (filter (up-to b) ys)) < length (cond c (y ∷ filter (up-to x.name) ys) (filter (up-to x.name) ys))
    by true true f g = omega (arith, g)
    by true false f g = absurd (never (f refl))
      where
        never : false ≡ true → ⊥
        never q = absurd cc
    by false true f g = omega (arith, g)
    by false false f g = g

count-all : (t : ℕ) (xs : List TraitDecl) → count t xs ≤ length xs
count-all t [] = omega arith
count-all t (x ∷ xs) = by (up-to t x) (count-all t xs)
  where
    by : (a : Bool) → count t xs ≤ length xs → length (cond a (x ∷ filter (up-to t) xs) (filter (up-to t) xs)) ≤ suc (length xs)
    by true g = omega (arith, g)
    by false g = omega (arith, g)

-- ---- the greatest of some numbers
below-fold : (a : ℕ) (ys : List ℕ) → a ≤ fold max a ys
below-fold a [] = omega arith
below-fold a (y ∷ ys) = omega (arith, le-max_left a y, below-fold (max a y) ys)

in-fold : (a : ℕ) (ys : List ℕ) (y k : ℕ) → slice_get ys k ≡ Some y → y ≤ fold max a ys
in-fold a [] y k e = absurd cc
in-fold a (z ∷ zs) y zero e = omega (arith, same_Some z y e, le-max_right a z, below-fold (max a z) zs)
in-fold a (z ∷ zs) y (suc k) e = in-fold (max a z) zs y k e

at-most : {A : Type 0} (f : A → ℕ) (xs : List A) (x : A) → In x xs → f x ≤ greatest f xs
at-most f xs x m = in-fold zero (map f xs) (f x) m.0 (slice_get-map f xs m.0 ∙ ap (option_map f) m.1)

map-same : {A : Type 0} (f g : A → ℕ) (xs : List A) → ((x : A) → In x xs → f x ≡ g x) → map f xs ≡ map g xs
map-same f g [] h = refl
map-same f g (x ∷ xs) h = two (h x (zero, refl)) (map-same f g xs (λ y m. h y (suc m.0, m.1)))
  where
    two : {a b : ℕ} {c d : List ℕ} → a ≡ b → c ≡ d → a ∷ c ≡ b ∷ d
    two p q = cc

greatest-same : {A : Type 0} (f g : A → ℕ) (xs : List A) → ((x : A) → In x xs → f x ≡ g x) → greatest f xs ≡ greatest g xs
greatest-same f g xs h = ap (fold max zero) (map-same f g xs h)

-- ---- heights
module _ (V : World) (lower : LowerBounds V.traits) where
  none-named : (t : ℕ) (xs : List TraitDecl) → count t xs ≤ 0 → filter (λ (x : TraitDecl). x.name == t) xs ≡ []
  none-named t [] h = refl
  none-named t (x ∷ xs) h = by (up-to t x) (x.name == t) (λ e. lt-true x.name (suc t) (omega (arith, eqb-true x.name t e))) h (none-named t xs)
    where
      by : (a b : Bool) → (b ≡ true → a ≡ true) → length (cond a (x ∷ filter (up-to t) xs) (filter (up-to t) xs)) ≤ 0 → (count t xs ≤ 0 → filter (λ (y : TraitDecl). y.name == t) xs ≡ [])
          → cond b (x ∷ filter (λ (y : TraitDecl). y.name == t) xs) (filter (λ (y : TraitDecl). y.name == t) xs) ≡ []
      by true b f g r = absurd (omega (arith, g))
      by false true f g r = absurd (never (f refl))
        where
          never : false ≡ true → ⊥
          never q = absurd cc
      by false false f g r = r g

  stable : (n t : ℕ) → count t V.traits ≤ n → height_within n V t ≡ height_within (suc n) V t
  stable zero t h = sym (ap (greatest (λ (x : TraitDecl). greatest (λ (b : Reference). suc (height_within zero V b.trait)) x.bounds)) (none-named t V.traits h))
  stable (suc m) t h =
      greatest-same (λ (x : TraitDecl). greatest (λ (b : Reference). suc (height_within m V b.trait)) x.bounds) (λ (x : TraitDecl). greatest (λ (b : Reference). suc (height_within (suc m) V b.trait)) x.bounds) (traits_named V t)
      (λ x i. greatest-same (λ (b : Reference). suc (height_within m V b.trait)) (λ (b : Reference). suc (height_within (suc m) V b.trait)) x.bounds
      (λ b j. ap suc (stable m b.trait (let k = in-filter (λ (y : TraitDecl). y.name == t) V.traits x i in
      omega (arith, h, count-less b.trait V.traits x k.0.0 k.0.1 (lower x b k.0 j), ap (λ n. count n V.traits) (eqb-true x.name t k.1))))))

  higher : (x : TraitDecl) (b : Reference) → In x V.traits → In b x.bounds → height_in V b.trait < height_in V x.name
  higher x b i j = by (length V.traits) refl
    where
      by : (n : ℕ) → length V.traits ≡ n → height_within n V b.trait < height_within n V x.name
      by zero e = absurd (omega (arith, e, count-all x.name V.traits, count-less b.trait V.traits x i.0 i.1 (lower x b i j)))
      by (suc m) e =
          let same = stable m b.trait (omega (arith, e, count-all x.name V.traits, count-less b.trait V.traits x i.0 i.1 (lower x b i j))) in
          let one = at-most (λ (c : Reference). suc (height_within m V c.trait)) x.bounds b j in
          let two = at-most (λ (y : TraitDecl). greatest (λ (c : Reference). suc (height_within m V c.trait)) y.bounds) (traits_named V x.name) x (filter-in (λ (y : TraitDecl). y.name == x.name) V.traits x i (eq-eqb x.name x.name refl)) in
          omega (arith, same, one, two)

  pub lead-down : bounds_lead_down V ≡ true
  lead-down = all-traits V.traits (λ x i. i)
    where
      all-bounds : (x : TraitDecl) → In x V.traits → (bs : List Reference) → ((b : Reference) → In b bs → In b x.bounds) → list_all (λ (b : Reference). nat_lt (height_in V b.trait) (height_in V x.name)) bs ≡ true
      all-bounds x i [] f = refl
      all-bounds x i (b ∷ bs) f = and _ _ (lt-true (height_in V b.trait) (height_in V x.name) (higher x b i (f b (zero, refl)))) (all-bounds x i bs (λ c m. f c (suc m.0, m.1)))

      all-traits : (xs : List TraitDecl) → ((x : TraitDecl) → In x xs → In x V.traits) → list_all (λ (x : TraitDecl). list_all (λ (b : Reference). nat_lt (height_in V b.trait) (height_in V x.name)) x.bounds) xs ≡ true
      all-traits [] f = refl
      all-traits (x ∷ xs) f = and _ _ (all-bounds x (f x (zero, refl)) x.bounds (λ b m. m)) (all-traits xs (λ y m. f y (suc m.0, m.1)))
