-- Unknowns for parameters, one by one.
use Rattle.std.proofs.Common.{◌≡◌, zero, max, List, [], ◌∷◌, ◌++◌, refl, sym, ap, ◌∙◌}
use Rattle.type_terms.specs.Promised.Label.{Sort, of_type, of_const, of_lifetime, infer}
use Rattle.type_terms.specs.Promised.Trees.{Trees, leaf, ◌+++◌}
use Rattle.type_terms.specs.Trees.{outer_binder}
use Rattle.type_terms.proofs.TreeLaws.{append-assoc, append-none}
use Rattle.type_terms.specs.Promised.Handles.{Entry, Keeps}
use Rattle.type_terms.specs.Promised.Handles.{ArgsHeld, arg_trees}
use Rattle.type_terms.specs.Kinds.{args_trees}
use Rattle.type_terms.specs.declared.kinds.GenericArgKind.{GenericArgKind}
use Rattle.type_terms.specs.Kept.{args-trees-later}
use Rattle.infer_table.specs.Content.{Table, variables_of}
use Rattle.overlap_check.specs.Fresh.{with_unknown, with_unknowns, fresh_unknowns}

pub last-arg : (es : List Entry) (xs : List GenericArgKind) (a : GenericArgKind) (y : Trees) → args_trees es (xs ++ a ∷ []) +++ y ≡ args_trees es xs +++ (arg_trees es a +++ y)
last-arg es [] a y = ap (λ t. t +++ y) (append-none (arg_trees es a))
last-arg es (x ∷ xs) a y =
    append-assoc (arg_trees es x) (args_trees es (xs ++ a ∷ [])) y ∙ ap (λ t. arg_trees es x +++ t) (last-arg es xs a y)
    ∙ sym (append-assoc (arg_trees es x) (args_trees es xs) (arg_trees es a +++ y))

-- one more parameter has its unknown
pub one-more-arg : (now new : List Entry) → Keeps now new → (xs : List GenericArgKind) (a : GenericArgKind) (t : Table) (k : Sort) (ks : List Sort) (all : Trees) → ArgsHeld now xs
    → arg_trees new a ≡ leaf (infer k (variables_of t k)) → args_trees now xs +++ fresh_unknowns t (k ∷ ks) ≡ all → args_trees new (xs ++ a ∷ []) +++ fresh_unknowns (with_unknown t k) ks ≡ all
one-more-arg now new kept xs a t k ks all h e f =
    last-arg new xs a (fresh_unknowns (with_unknown t k) ks)
    ∙ ap (λ z. z +++ (arg_trees new a +++ fresh_unknowns (with_unknown t k) ks)) (args-trees-later now new kept xs h)
    ∙ ap (λ z. args_trees now xs +++ (z +++ fresh_unknowns (with_unknown t k) ks)) e ∙ f

-- no binder leads out of unknowns
pub fresh-closed : (t : Table) (ks : List Sort) → outer_binder (fresh_unknowns t ks) ≡ 0
fresh-closed t [] = refl
fresh-closed t (k ∷ ks) = ap (λ n. max (max zero zero) n) (fresh-closed (with_unknown t k) ks)

-- a table with more unknowns has the values that it had
pub fresh-values : (t : Table) (ks : List Sort) → (with_unknowns t ks).values ≡ t.values
fresh-values t [] = refl
fresh-values t (of_type ∷ ks) = fresh-values (with_unknown t of_type) ks
fresh-values t (of_const ∷ ks) = fresh-values (with_unknown t of_const) ks
fresh-values t (of_lifetime ∷ ks) = fresh-values (with_unknown t of_lifetime) ks

-- and the constraints
pub fresh-constraints : (t : Table) (ks : List Sort) → (with_unknowns t ks).constraints ≡ t.constraints
fresh-constraints t [] = refl
fresh-constraints t (of_type ∷ ks) = fresh-constraints (with_unknown t of_type) ks
fresh-constraints t (of_const ∷ ks) = fresh-constraints (with_unknown t of_const) ks
fresh-constraints t (of_lifetime ∷ ks) = fresh-constraints (with_unknown t of_lifetime) ks
