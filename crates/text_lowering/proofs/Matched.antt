-- What stands in declarations is what a text declares, item for item.
use Rattle.std.proofs.Common.{◌≡◌, ℕ, zero, suc, Bool, true, false, cond, List, [], ◌∷◌, map, Some, refl}
use Rattle.std.specs.Prelude.{filter, slice_get}
use Rattle.std.specs.List.{list_all}
use Rattle.declarations.specs.Promised.Elaboration.{Each}
use Rattle.text_lowering.proofs.Trees.{and-left, and-right}

-- ---- lists
head-same : {A : Type 0} (a b : A) (xs ys : List A) → a ∷ xs ≡ b ∷ ys → a ≡ b
head-same a b xs ys e = cc

tail-same : {A : Type 0} (a b : A) (xs ys : List A) → a ∷ xs ≡ b ∷ ys → xs ≡ ys
tail-same a b xs ys e = cc

pub each-true : {A : Type 0} (q : A → Bool) (xs : List A) → list_all q xs ≡ true → Each (λ x. q x ≡ true) xs
each-true q [] h = tt
each-true q (x ∷ xs) h = (and-left (q x) _ h, each-true q xs (and-right (q x) _ h))

pub each-placed : {A : Type 0} (P : A → Type 0) (xs : List A) → ((k : ℕ) (x : A) → slice_get xs k ≡ Some x → P x) → Each P xs
each-placed P [] f = tt
each-placed P (x ∷ xs) f = (f zero x refl, each-placed P xs (λ k y e. f (suc k) y e))

-- ---- parts of items
pub parts-matched : {A Y D : Type 0} (Q : A → Type 0) (g : A → D) (read : Y → D) (xs : List A) (ys : List Y) → Each Q xs → map read ys ≡ map g xs → Each (λ y. (a : A) × Q a × (read y ≡ g a)) ys
parts-matched Q g read [] [] h e = tt
parts-matched Q g read [] (y ∷ ys) h e = absurd cc
parts-matched Q g read (x ∷ xs) [] h e = tt
parts-matched Q g read (x ∷ xs) (y ∷ ys) h e = (
  (x, h.0, head-same (read y) (g x) (map read ys) (map g xs) e),
  parts-matched Q g read xs ys h.1 (tail-same (read y) (g x) (map read ys) (map g xs) e),
)

-- ---- items that are seen, with the sorts of their parameters
module _ {N D X S : Type 0} (item : N → D) (plain : D → D) (sees : D → Bool) (kinds : N → S) (read : X → D) (sorts : X → S) (P : N → Type 0) where
  -- it is an item of the text
  abbrev pub IsItem : X → Type 0
  IsItem x = (n : N) × P n × (read x ≡ plain (item n)) × (sorts x ≡ kinds n)

  abbrev seen : List N → List D
  seen ns = map plain (filter sees (map item ns))

  abbrev seen-kinds : List N → List S
  seen-kinds ns = map kinds (filter (λ n. sees (item n)) ns)

  pub items-matched : (ns : List N) (xs : List X) → Each P ns → map read xs ≡ seen ns → map sorts xs ≡ seen-kinds ns → Each IsItem xs
  items-matched [] [] h e f = tt
  items-matched [] (x ∷ xs) h e f = absurd cc
  items-matched (n ∷ ns) xs h e f = by (sees (item n)) xs e f (λ zs u v. items-matched ns zs h.1 u v)
    where
      by : (b : Bool) (zs : List X) → map read zs ≡ map plain (cond b (item n ∷ filter sees (map item ns)) (filter sees (map item ns)))
          → map sorts zs ≡ map kinds (cond b (n ∷ filter (λ m. sees (item m)) ns) (filter (λ m. sees (item m)) ns))
          → ((ws : List X) → map read ws ≡ seen ns → map sorts ws ≡ seen-kinds ns → Each IsItem ws) → Each IsItem zs
      by false zs u v r = r zs u v
      by true [] u v r = tt
      by true (z ∷ zs) u v r = (
        (n, h.0, head-same (read z) (plain (item n)) (map read zs) (seen ns) u, head-same (sorts z) (kinds n) (map sorts zs) (seen-kinds ns) v),
        r zs (tail-same (read z) (plain (item n)) (map read zs) (seen ns) u) (tail-same (sorts z) (kinds n) (map sorts zs) (seen-kinds ns) v),
      )
