-- Folds of lists of types and of arguments, item by item.
use Rattle.std.proofs.Common.{◌≡◌, ℕ, ◌+◌, ◌<◌, ◌≤◌, arith, List, [], ◌∷◌, ◌++◌, length, take, get_or, ap, sym, ◌∙◌, subst}
use Rattle.type_terms.specs.Promised.Trees.{Trees, ◌+++◌}
use Rattle.type_terms.specs.Promised.Handles.{Entry, Keeps, trees_at}
use Rattle.type_terms.specs.Kinds.{TysHeld, tys_trees, args_trees}
use Rattle.type_terms.specs.Promised.Handles.{ArgsHeld, arg_trees}
use Rattle.type_terms.specs.declared.kinds.Ty as of_ty
use Rattle.type_terms.specs.declared.kinds.GenericArgKind.{GenericArgKind}
use Rattle.type_terms.specs.Kept.{tys-trees-later, args-trees-later}
use Rattle.type_terms.proofs.Items.{take-push, tys-push, args-push}
use Rattle.term_folds.specs.Folds.{Does, Folds, nothing}
use Rattle.term_folds.proofs.FoldFacts.{folds-append}

-- one more type is folded
pub one-more-ty : (f : List ℕ → Trees → Does) (bs : List ℕ) (first now next : List Entry) → Keeps now next
    → (xs new : List of_ty.Ty) (i : ℕ) (z y : of_ty.Ty) → i < length xs → TysHeld now new
    → Folds f bs (tys_trees first (take i xs)) (tys_trees now new)
    → Folds f bs (trees_at first (get_or xs i z).0) (trees_at next y.0)
    → Folds f bs (tys_trees first (take (i + 1) xs)) (tys_trees next (new ++ y ∷ []))
one-more-ty f bs first now next k xs new i z y lt hnew e h =
    let more = folds-append (subst (λ t. Folds f bs (tys_trees first (take i xs)) t) (sym (tys-trees-later now next k new hnew)) e) h in
    let from : tys_trees first (take (i + 1) xs) ≡ tys_trees first (take i xs) +++ trees_at first (get_or xs i z).0 = ap (tys_trees first) (take-push xs i z lt) ∙ tys-push first (take i xs) (get_or xs i z) in
    subst (λ t. Folds f bs t (tys_trees next (new ++ y ∷ []))) (sym from)
    (subst (λ t. Folds f bs (tys_trees first (take i xs) +++ trees_at first (get_or xs i z).0) t) (sym (tys-push next new y)) more)

-- one more argument is folded
pub one-more-arg : (f : List ℕ → Trees → Does) (bs : List ℕ) (first now next : List Entry) → Keeps now next
    → (xs new : List GenericArgKind) (i : ℕ) (z y : GenericArgKind) → i < length xs → ArgsHeld now new
    → Folds f bs (args_trees first (take i xs)) (args_trees now new)
    → Folds f bs (arg_trees first (get_or xs i z)) (arg_trees next y)
    → Folds f bs (args_trees first (take (i + 1) xs)) (args_trees next (new ++ y ∷ []))
one-more-arg f bs first now next k xs new i z y lt hnew e h =
    let more = folds-append (subst (λ t. Folds f bs (args_trees first (take i xs)) t) (sym (args-trees-later now next k new hnew)) e) h in
    let from : args_trees first (take (i + 1) xs) ≡ args_trees first (take i xs) +++ arg_trees first (get_or xs i z) = ap (args_trees first) (take-push xs i z lt) ∙ args-push first (take i xs) (get_or xs i z) in
    subst (λ t. Folds f bs t (args_trees next (new ++ y ∷ []))) (sym from)
    (subst (λ t. Folds f bs (args_trees first (take i xs) +++ arg_trees first (get_or xs i z)) t) (sym (args-push next new y)) more)

-- ---- lists of one argument
pub one-arg-list : (xs : List GenericArgKind) (x z : GenericArgKind) → 1 ≤ length xs → length xs < 2 → x ≡ get_or xs 0 z → xs ≡ x ∷ []
one-arg-list [] x z le lt e = absurd (omega (arith, le))
one-arg-list (y ∷ []) x z le lt e = ap (λ a. a ∷ []) (sym e)
one-arg-list (y ∷ w ∷ ws) x z le lt e = absurd (omega (arith, lt))

-- its argument is folded
pub one-arg-folds : (f : List ℕ → Trees → Does) (bs : List ℕ) (first next : List Entry) (xs : List GenericArgKind) (x y : GenericArgKind) → xs ≡ x ∷ []
    → Folds f bs (arg_trees first x) (arg_trees next y) → Folds f bs (args_trees first xs) (args_trees next (y ∷ []))
one-arg-folds f bs first next xs x y e h = subst (λ zs. Folds f bs (args_trees first zs) (args_trees next (y ∷ []))) (sym e) (folds-append h nothing)

-- the same where it does not change
pub one-arg-stays : (f : List ℕ → Trees → Does) (bs : List ℕ) (first next : List Entry) → Keeps first next → (xs : List GenericArgKind) (x y : GenericArgKind) → xs ≡ x ∷ [] → ArgsHeld first xs → y ≡ x
    → Folds f bs (arg_trees first x) (arg_trees next y) → Folds f bs (args_trees first xs) (args_trees first xs)
one-arg-stays f bs first next k xs x y e held same h =
    let back : args_trees next (y ∷ []) ≡ args_trees first xs = ap (λ z. args_trees next (z ∷ [])) same ∙ ap (args_trees next) (sym e) ∙ args-trees-later first next k xs held in
    subst (λ t. Folds f bs (args_trees first xs) t) back (one-arg-folds f bs first next xs x y e h)
