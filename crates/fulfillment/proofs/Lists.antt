-- Lists whose elements stand in a relation, one by one.
use Rattle.std.proofs.Common.{◌≡◌, ◌≤◌, ◌<◌, ℕ, zero, suc, arith, List, [], ◌∷◌, Some, map, refl, ap, sym, ◌∙◌, subst, sum_by, set, slice_get, option_map, All, Contains}
use Rattle.std.specs.List.{AllZip}
use Rattle.std.proofs.lemmas.List.Elements.{All-nil, All-cons, All-head, All-tail}
use Rattle.std.proofs.lemmas.List.Sums.{sum_by-cons}
use Rattle.std.proofs.lemmas.Option.{same_Some, slice_get-map, slice_get_within, get_or_from_slice_get}

-- what a function gives for an element is among what it gives for all
pub contains-map : {A B : Type 0} (f : A → B) (xs : List A) (i : ℕ) (x : A) → slice_get xs i ≡ Some x → Contains (map f xs) (f x)
contains-map {A} {B} f xs i x h =
    let e : slice_get (map f xs) i ≡ Some (f x) = slice_get-map f xs i ∙ ap (option_map f) h in
    (i, slice_get_within (map f xs) i (f x) e, get_or_from_slice_get (map f xs) i (f x) (f x) e)

module _ {A : Type 0} (R : A → A → Type 0) where
  pub zip-itself : ((x : A) → R x x) → (xs : List A) → AllZip R xs xs
  zip-itself r [] = tt
  zip-itself r (x ∷ xs) = (r x, zip-itself r xs)

  -- one element is replaced
  pub zip-set : ((x : A) → R x x) → (xs : List A) (i : ℕ) (x y : A) → slice_get xs i ≡ Some x → R x y → AllZip R xs (set xs i y)
  zip-set r [] i x y e h = absurd cc
  zip-set r (z ∷ xs) zero x y e h = (subst (λ w. R w y) (sym (same_Some z x e)) h, zip-itself r xs)
  zip-set r (z ∷ xs) (suc i) x y e h = (r z, zip-set r xs i x y e h)

  pub zip-further : ((x y z : A) → R x y → R y z → R x z) → (xs ys zs : List A) → AllZip R xs ys → AllZip R ys zs → AllZip R xs zs
  zip-further t [] [] [] p q = tt
  zip-further t [] [] (z ∷ zs) p q = absurd q
  zip-further t [] (y ∷ ys) zs p q = absurd p
  zip-further t (x ∷ xs) [] zs p q = absurd p
  zip-further t (x ∷ xs) (y ∷ ys) [] p q = absurd q
  zip-further t (x ∷ xs) (y ∷ ys) (z ∷ zs) p q = (t x y z p.0 q.0, zip-further t xs ys zs p.1 q.1)

  -- what holds of each element of the first holds of each of the second
  pub all-along : (P Q : A → Type 0) → ((x y : A) → R x y → P x → Q y) → (xs ys : List A) → AllZip R xs ys → All P xs → All Q ys
  all-along P Q f [] [] z h = All-nil Q
  all-along P Q f [] (y ∷ ys) z h = absurd z
  all-along P Q f (x ∷ xs) [] z h = absurd z
  all-along P Q f (x ∷ xs) (y ∷ ys) z h = All-cons Q y ys (f x y z.0 (All-head P x xs h)) (all-along P Q f xs ys z.1 (All-tail P x xs h))

  -- as is what a function gives for each
  pub map-along : {B : Type 0} (P : A → Type 0) (f g : A → B) → ((x y : A) → R x y → P x → g y ≡ f x) → (xs ys : List A) → AllZip R xs ys → All P xs → map g ys ≡ map f xs
  map-along P f g e [] [] z h = refl
  map-along P f g e [] (y ∷ ys) z h = absurd z
  map-along P f g e (x ∷ xs) [] z h = absurd z
  map-along P f g e (x ∷ xs) (y ∷ ys) z h =
      ap (λ w. w ∷ map g ys) (e x y z.0 (All-head P x xs h)) ∙ ap (λ w. f x ∷ w) (map-along P f g e xs ys z.1 (All-tail P x xs h))

  -- no number rises
  pub sum-along : (f : A → ℕ) → ((x y : A) → R x y → f y ≤ f x) → (xs ys : List A) → AllZip R xs ys → sum_by f ys ≤ sum_by f xs
  sum-along f l [] [] z = omega arith
  sum-along f l [] (y ∷ ys) z = absurd z
  sum-along f l (x ∷ xs) [] z = absurd z
  sum-along f l (x ∷ xs) (y ∷ ys) z =
      let a = l x y z.0 in
      let b = sum-along f l xs ys z.1 in
      let c = sum_by-cons f x xs in
      let d = sum_by-cons f y ys in
      omega (arith, a, b, c, d)

  -- an element of the second stands beside one of the first
  pub zip-at : (xs ys : List A) (i : ℕ) (y : A) → AllZip R xs ys → slice_get ys i ≡ Some y → (x : A) × (slice_get xs i ≡ Some x) × R x y
  zip-at xs [] i y z e = absurd cc
  zip-at [] (w ∷ ys) i y z e = absurd z
  zip-at (x ∷ xs) (w ∷ ys) zero y z e = (x, refl, subst (R x) (same_Some w y e) z.0)
  zip-at (x ∷ xs) (w ∷ ys) (suc i) y z e = zip-at xs ys i y z.1 e

  -- one that falls makes the sum fall
  pub sum-falls : (f : A → ℕ) → ((x y : A) → R x y → f y ≤ f x) → (xs ys : List A) (i : ℕ) (x y : A) → AllZip R xs ys → slice_get xs i ≡ Some x → slice_get ys i ≡ Some y → f y < f x → sum_by f ys < sum_by f xs
  sum-falls f l [] ys i x y z e g h = absurd cc
  sum-falls f l (v ∷ xs) [] i x y z e g h = absurd z
  sum-falls f l (v ∷ xs) (w ∷ ys) zero x y z e g h =
      let a : f v ≡ f x = ap f (same_Some v x e) in
      let b : f w ≡ f y = ap f (same_Some w y g) in
      let rest = sum-along f l xs ys z.1 in
      let c = sum_by-cons f v xs in
      let d = sum_by-cons f w ys in
      omega (arith, a, b, rest, c, d, h)
  sum-falls f l (v ∷ xs) (w ∷ ys) (suc i) x y z e g h =
      let a = l v w z.0 in
      let rest = sum-falls f l xs ys i x y z.1 e g h in
      let c = sum_by-cons f v xs in
      let d = sum_by-cons f w ys in
      omega (arith, a, rest, c, d)
