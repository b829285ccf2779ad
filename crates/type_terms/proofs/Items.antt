-- Lists of types and of arguments, item by item.
use Rattle.std.proofs.Common.{◌≡◌, ℕ, zero, suc, ◌+◌, ◌<◌, ◌≤◌, List, [], ◌∷◌, ◌++◌, length, take, get_or, refl, ap, sym, ◌∙◌, arith, false}
use Rattle.std.proofs.lemmas.Grind.{common_steps}
use Rattle.type_terms.specs.Promised.Label.{of_type}
use Rattle.type_terms.specs.Promised.Trees.{Trees, none, tree, ◌+++◌, IsA}
use Rattle.type_terms.specs.Trees.{Single, is_no_tree}
use Rattle.type_terms.proofs.TreeLaws.{append-none, append-assoc}
use Rattle.type_terms.specs.Promised.Handles.{Entry, Has, types, trees_at}
use Rattle.type_terms.specs.Terms.{Lawful}
use Rattle.type_terms.specs.Kinds.{TysHeld, TysOlder, tys_trees, ArgOlder, ArgsOlder, args_trees}
use Rattle.type_terms.specs.Promised.Handles.{ArgHeld, ArgsHeld, arg_trees}
use Rattle.type_terms.specs.declared.kinds.Ty as of_ty
use Rattle.type_terms.specs.declared.kinds.GenericArgKind.{GenericArgKind}
use Rattle.type_terms.specs.Kept.{is-at}

-- ---- a type is one tree, and so is a constant
pub type-is-one : (es : List Entry) → Lawful es → (i : ℕ) → Has es types i → Single (trees_at es i)
type-is-one es law i h = go (trees_at es i) (law.sorted i _ (is-at es types i h)).as_type
  where
    go : (t : Trees) → (types ≡ types → IsA of_type t) → Single t
    go none s = absurd (s refl)
    go (tree l c o) s = (s refl).1

pub take-push : {X : Type 0} (xs : List X) (i : ℕ) (d : X) → i < length xs → take (i + 1) xs ≡ take i xs ++ get_or xs i d ∷ []
take-push xs i d h = grind (arith, common_steps)

-- ---- types
pub ty-held-at : (es : List Entry) (xs : List of_ty.Ty) (i : ℕ) (d : of_ty.Ty) → TysHeld es xs → i < length xs → Has es types (get_or xs i d).0
ty-held-at es [] i d h l = absurd (omega arith)
ty-held-at es (x ∷ xs) zero d h l = h.0
ty-held-at es (x ∷ xs) (suc i) d h l = ty-held-at es xs i d h.1 (omega arith)

pub ty-older-at : (n : ℕ) (xs : List of_ty.Ty) (i : ℕ) (d : of_ty.Ty) → TysOlder n xs → i < length xs → (get_or xs i d).0 < n
ty-older-at n [] i d h l = absurd (omega arith)
ty-older-at n (x ∷ xs) zero d h l = h.0
ty-older-at n (x ∷ xs) (suc i) d h l = ty-older-at n xs i d h.1 (omega arith)

pub tys-push : (es : List Entry) (xs : List of_ty.Ty) (y : of_ty.Ty) → tys_trees es (xs ++ y ∷ []) ≡ tys_trees es xs +++ trees_at es y.0
tys-push es [] y = append-none (trees_at es y.0)
tys-push es (x ∷ xs) y = ap (λ z. trees_at es x.0 +++ z) (tys-push es xs y) ∙ sym (append-assoc (trees_at es x.0) (tys_trees es xs) (trees_at es y.0))

pub tys-held-push : (es : List Entry) (xs : List of_ty.Ty) (y : of_ty.Ty) → TysHeld es xs → Has es types y.0 → TysHeld es (xs ++ y ∷ [])
tys-held-push es [] y h g = (g, tt)
tys-held-push es (x ∷ xs) y h g = (h.0, tys-held-push es xs y h.1 g)

pub fuel-of-ty : (fuel : Trees → ℕ) → ((x y : Trees) → fuel x ≤ fuel (x +++ y)) → ((x y : Trees) → fuel y ≤ fuel (x +++ y))
    → (es : List Entry) (xs : List of_ty.Ty) (i : ℕ) (d : of_ty.Ty) → i < length xs → fuel (trees_at es (get_or xs i d).0) ≤ fuel (tys_trees es xs)
fuel-of-ty fuel left right es [] i d lt = absurd (omega arith)
fuel-of-ty fuel left right es (x ∷ xs) zero d lt = left (trees_at es x.0) (tys_trees es xs)
fuel-of-ty fuel left right es (x ∷ xs) (suc i) d lt =
    let a = fuel-of-ty fuel left right es xs i d (omega arith) in
    let b = right (trees_at es x.0) (tys_trees es xs) in
    omega (arith, a, b)

-- a list of types has no tree exactly where it has no type
pub no-tys : (es : List Entry) → Lawful es → (xs ys : List of_ty.Ty) → TysHeld es xs → (es' : List Entry) → Lawful es' → TysHeld es' ys → length xs ≡ length ys
    → is_no_tree (tys_trees es xs) ≡ is_no_tree (tys_trees es' ys)
no-tys es law [] [] h es' law' h' e = refl
no-tys es law [] (y ∷ ys) h es' law' h' e = absurd (omega arith)
no-tys es law (x ∷ xs) [] h es' law' h' e = absurd (omega arith)
no-tys es law (x ∷ xs) (y ∷ ys) h es' law' h' e = some (trees_at es x.0) (tys_trees es xs) (type-is-one es law x.0 h.0) ∙ sym (some (trees_at es' y.0) (tys_trees es' ys) (type-is-one es' law' y.0 h'.0))
  where
    some : (a b : Trees) → Single a → is_no_tree (a +++ b) ≡ false
    some none b s = absurd s
    some (tree l c o) b s = refl

-- ---- arguments
pub arg-held-at : (es : List Entry) (xs : List GenericArgKind) (i : ℕ) (d : GenericArgKind) → ArgsHeld es xs → i < length xs → ArgHeld es (get_or xs i d)
arg-held-at es [] i d h l = absurd (omega arith)
arg-held-at es (x ∷ xs) zero d h l = h.0
arg-held-at es (x ∷ xs) (suc i) d h l = arg-held-at es xs i d h.1 (omega arith)

pub arg-older-at : (n : ℕ) (xs : List GenericArgKind) (i : ℕ) (d : GenericArgKind) → ArgsOlder n xs → i < length xs → ArgOlder n (get_or xs i d)
arg-older-at n [] i d h l = absurd (omega arith)
arg-older-at n (x ∷ xs) zero d h l = h.0
arg-older-at n (x ∷ xs) (suc i) d h l = arg-older-at n xs i d h.1 (omega arith)

pub args-push : (es : List Entry) (xs : List GenericArgKind) (y : GenericArgKind) → args_trees es (xs ++ y ∷ []) ≡ args_trees es xs +++ arg_trees es y
args-push es [] y = append-none (arg_trees es y)
args-push es (x ∷ xs) y = ap (λ z. arg_trees es x +++ z) (args-push es xs y) ∙ sym (append-assoc (arg_trees es x) (args_trees es xs) (arg_trees es y))

pub args-held-push : (es : List Entry) (xs : List GenericArgKind) (y : GenericArgKind) → ArgsHeld es xs → ArgHeld es y → ArgsHeld es (xs ++ y ∷ [])
args-held-push es [] y h g = (g, tt)
args-held-push es (x ∷ xs) y h g = (h.0, args-held-push es xs y h.1 g)

pub fuel-of-arg : (fuel : Trees → ℕ) → ((x y : Trees) → fuel x ≤ fuel (x +++ y)) → ((x y : Trees) → fuel y ≤ fuel (x +++ y))
    → (es : List Entry) (xs : List GenericArgKind) (i : ℕ) (d : GenericArgKind) → i < length xs → fuel (arg_trees es (get_or xs i d)) ≤ fuel (args_trees es xs)
fuel-of-arg fuel left right es [] i d lt = absurd (omega arith)
fuel-of-arg fuel left right es (x ∷ xs) zero d lt = left (arg_trees es x) (args_trees es xs)
fuel-of-arg fuel left right es (x ∷ xs) (suc i) d lt =
    let a = fuel-of-arg fuel left right es xs i d (omega arith) in
    let b = right (arg_trees es x) (args_trees es xs) in
    omega (arith, a, b)
