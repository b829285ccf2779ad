-- Unknowns resolved one by one.
use Rattle.std.proofs.Common.{◌≡◌, ℕ, zero, suc, ◌+◌, ◌<◌, List, [], ◌∷◌, ◌++◌, length, get_or, take, map, refl, sym, ap, ◌∙◌, arith}
use Rattle.type_terms.specs.Promised.Trees.{Trees}
use Rattle.type_terms.specs.Promised.Handles.{Entry, Keeps}
use Rattle.type_terms.specs.Promised.Handles.{ArgHeld, ArgsHeld, arg_trees}
use Rattle.type_terms.specs.declared.kinds.GenericArgKind.{GenericArgKind}
use Rattle.type_terms.specs.Kept.{arg-trees-later}
use Rattle.type_terms.proofs.Items.{take-push}
use Rattle.infer_table.specs.Solutions.{Binding, resolved}

pub all-later : (old new : List Entry) → Keeps old new → (xs : List GenericArgKind) → ArgsHeld old xs → map (arg_trees new) xs ≡ map (arg_trees old) xs
all-later old new k [] h = refl
all-later old new k (x ∷ xs) h = cons (arg-trees-later old new k x h.0) (all-later old new k xs h.1)
  where
    cons : {x y : Trees} {xs ys : List Trees} → x ≡ y → xs ≡ ys → x ∷ xs ≡ y ∷ ys
    cons e f = cc

map-push : {A : Type 0} (f : A → Trees) (xs : List A) (x : A) → map f (xs ++ x ∷ []) ≡ map f xs ++ f x ∷ []
map-push f [] x = refl
map-push f (y ∷ xs) x = ap (λ l. f y ∷ l) (map-push f xs x)

both : {xs ys : List Trees} {x y : Trees} → xs ≡ ys → x ≡ y → xs ++ x ∷ [] ≡ ys ++ y ∷ []
both e f = cc

-- one more value
pub one-more-value : (bs : List Binding) (old now next : List Entry) → Keeps now next → (xs ys : List GenericArgKind) (i : ℕ) (x y : GenericArgKind) → i < length xs → x ≡ get_or xs i x
    → ArgsHeld now ys → map (arg_trees now) ys ≡ map (λ u. resolved bs (arg_trees old u)) (take i xs) → arg_trees next y ≡ resolved bs (arg_trees old x)
    → map (arg_trees next) (ys ++ y ∷ []) ≡ map (λ u. resolved bs (arg_trees old u)) (take (i + 1) xs)
one-more-value bs old now next k xs ys i x y lt is held are one =
    map-push (arg_trees next) ys y
    ∙ both (all-later now next k ys held ∙ are) one
    ∙ sym (map-push (λ u. resolved bs (arg_trees old u)) (take i xs) x)
    ∙ ap (map (λ u. resolved bs (arg_trees old u))) (sym (take-push xs i x lt ∙ ap (λ z. take i xs ++ z ∷ []) (sym is)))

pub held-at : (es : List Entry) (xs : List GenericArgKind) (i : ℕ) (d : GenericArgKind) → ArgsHeld es xs → i < length xs → ArgHeld es (get_or xs i d)
held-at es [] i d h lt = absurd (omega (arith, lt))
held-at es (x ∷ xs) zero d h lt = h.0
held-at es (x ∷ xs) (suc i) d h lt = held-at es xs i d h.1 (omega (arith, lt))
