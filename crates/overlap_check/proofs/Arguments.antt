-- Arguments with arguments in place of their parameters, one by one.
use Rattle.std.proofs.Common.{◌≡◌, ℕ, zero, List, [], ◌∷◌, ◌++◌, refl, sym, ap, ◌∙◌, Option, Some, None}
use Rattle.std.specs.Option.{option_or}
use Rattle.type_terms.specs.Promised.Label.{Sort, param}
use Rattle.type_terms.specs.Promised.Trees.{Trees, none, tree, leaf, ◌+++◌, nth, shift, instantiate}
use Rattle.type_terms.specs.Promised.Handles.{Entry, Keeps, ArgsHeld, arg_trees}
use Rattle.type_terms.specs.Kinds.{args_trees}
use Rattle.type_terms.specs.declared.kinds.GenericArgKind.{GenericArgKind}
use Rattle.type_terms.specs.Kept.{args-trees-later}
use Rattle.type_terms.proofs.TreeLaws.{append-none, shift-zero, instantiate-append}
use Rattle.term_folds.specs.Arguments.{misfit, sort_at, first_misfit}
use Rattle.term_folds.specs.declared.instantiate.InstantiateError.{InstantiateError}
use Rattle.term_folds.proofs.ParamFacts.{both-none}
use Rattle.overlap_check.proofs.Unknowns.{last-arg}

-- a parameter gives way to the argument with its index
pub param-instance : (A : Trees) (s : Sort) (i : ℕ) → instantiate zero A (leaf (param s i)) ≡ nth A i
param-instance A s i = append-none (shift zero zero (nth A i)) ∙ shift-zero zero (nth A i)

neither : (a b : Option InstantiateError) → option_or a b ≡ None → (a ≡ None) × (b ≡ None)
neither None b h = (refl, h)
neither (Some e) b h = absurd cc

-- if there are arguments for the parameters of two lists, there are for those of each
pub fits-each : (A x y : Trees) → first_misfit A (x +++ y) ≡ None → (first_misfit A x ≡ None) × (first_misfit A y ≡ None)
fits-each A none y h = (refl, h)
fits-each A (tree (param s i) c o) y h =
    let here = neither (misfit s (sort_at A i)) (first_misfit A (o +++ y)) h in
    let after = fits-each A o y here.1 in
    (both-none _ _ here.0 after.0, after.1)
fits-each A (tree l c o) y h =
    let here = neither (first_misfit A c) (first_misfit A (o +++ y)) h in
    let after = fits-each A o y here.1 in
    (both-none _ _ here.0 after.0, after.1)

-- one more argument is instantiated
pub one-more-instance : (es now new : List Entry) → Keeps now new → (A : Trees) (xs : List GenericArgKind) (a x : GenericArgKind) (rest : List GenericArgKind) (all : Trees) → ArgsHeld now xs
    → arg_trees new a ≡ instantiate zero A (arg_trees es x) → args_trees now xs +++ instantiate zero A (args_trees es (x ∷ rest)) ≡ all → args_trees new (xs ++ a ∷ []) +++ instantiate zero A (args_trees es rest) ≡ all
one-more-instance es now new kept A xs a x rest all h e f =
    last-arg new xs a (instantiate zero A (args_trees es rest))
    ∙ ap (λ z. z +++ (arg_trees new a +++ instantiate zero A (args_trees es rest))) (args-trees-later now new kept xs h)
    ∙ ap (λ z. args_trees now xs +++ (z +++ instantiate zero A (args_trees es rest))) e
    ∙ ap (λ z. args_trees now xs +++ z) (sym (instantiate-append zero A (arg_trees es x) (args_trees es rest))) ∙ f
