-- Lists that grow at the end.
use Rattle.std.proofs.Common.{◌≡◌, List, [], ◌∷◌, ◌++◌, refl, ap, map}

pub map-push : {A B : Type 0} (f : A → B) (xs : List A) (x : A) (ys : List B) → map f (xs ++ x ∷ []) ++ ys ≡ map f xs ++ f x ∷ ys
map-push f [] x ys = refl
map-push f (z ∷ xs) x ys = ap (λ l. f z ∷ l) (map-push f xs x ys)
