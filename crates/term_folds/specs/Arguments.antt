-- Parameters and their arguments.
use Rattle.std.specs.Prelude.{◌≡◌, refl, ℕ, zero, suc, List, [], ◌∷◌, length, min, cond, Bool, true, false, Option, Some, None, ◌||◌, ◌↔◌, Result, Err}
use Rattle.std.proofs.Common.{ap}
use Rattle.std.specs.Option.{option_or}
use Rattle.type_terms.specs.Promised.Label.{Label, Sort, of_type, of_const, of_lifetime, param, principal, auto_trait, inside}
use Rattle.type_terms.specs.Promised.Trees.{Trees, none, tree, nth, sort_of, is_sort, some_node, instantiate}
use Rattle.type_terms.specs.Promised.Handles.{Entry, trees_at}
use Rattle.type_terms.specs.declared.TheConstants.{MAX_INDEX}
use Rattle.type_terms.specs.declared.kinds.GenericArgKind.{GenericArgKind}
use Rattle.type_terms.specs.declared.kinds.GenericArgKind.TheVariants.{Lifetime, Ty, Const}
use Rattle.term_folds.specs.declared.instantiate.InstantiateError.{InstantiateError}
use Rattle.term_folds.specs.declared.instantiate.InstantiateError.TheVariants.{ParamOutOfRange, ParamKind}
use Rattle.term_folds.specs.declared.instantiate.ParamVisitor.{ParamVisitor}
use Rattle.type_terms.specs.declared.visit.Seen.{Seen}
use Rattle.type_terms.specs.declared.visit.Seen.TheVariants.{Break, Enter, Pass}
use Rattle.term_folds.specs.Folds.{Does, enters, puts, again}
use Rattle.type_terms.specs.Visits.{IsBound}
use Rattle.type_terms.specs.Pieces.{Piece, each_piece}
use Rattle.term_folds.specs.Shifts.{ShiftInRange, moved}

-- the label is a parameter
abbrev pub is_any_param : Label → Bool
is_any_param (param s i) = true
is_any_param _ = false

-- some node of these pieces is a parameter
abbrev pub has_param : List Piece → Bool
has_param [] = false
has_param (p ∷ ps) = some_node is_any_param p.trees || has_param ps

-- the pieces with each parameter replaced by its argument in the list with handle i
abbrev pub instantiated_in : List Entry → ℕ → List Piece → List Piece
instantiated_in es i ps = each_piece (λ d t. instantiate d (trees_at es i) t) ps

-- the kind of the argument with this index, if there is one
abbrev pub sort_at : Trees → ℕ → Option Sort
sort_at none i = None
sort_at (tree l c o) zero = Some (sort_of l)
sort_at (tree l c o) (suc i) = sort_at o i

-- the error for a parameter of the first kind and an argument of the second, if any: `3` is no T of `V<T>`
abbrev pub misfit : Sort → Option Sort → Option InstantiateError
misfit s None = Some ParamOutOfRange
misfit s (Some r) = cond (is_sort s r) None (Some ParamKind)

-- the error for the first parameter of a forest without an argument of its kind in A, if there is one. The order is preorder:
-- a node, its children, the nodes after it
abbrev pub first_misfit : Trees → Trees → Option InstantiateError
first_misfit A none = None
first_misfit A (tree (param s i) c o) = option_or (misfit s (sort_at A i)) (first_misfit A o)
first_misfit A (tree l c o) = option_or (first_misfit A c) (first_misfit A o)

-- the same for the pieces of a value
abbrev pub first_misfit_in : Trees → List Piece → Option InstantiateError
first_misfit_in A [] = None
first_misfit_in A (p ∷ ps) = option_or (first_misfit A p.trees) (first_misfit_in A ps)

-- the result is the error e exactly if e is the first misfit
abbrev pub IsTheMisfit : {T : Type 0} → InstantiateError → Result T InstantiateError → Trees → List Piece → Type 0
IsTheMisfit e r A ps = (r ≡ Err e) ↔ (first_misfit_in A ps ≡ Some e)

-- below d binders, each parameter's argument can be shifted by the number of binders above the parameter
abbrev pub ArgsInRange : ℕ → Trees → Trees → Type 0
ArgsInRange d A none = Unit {0}
ArgsInRange d A (tree (param s i) c o) = ShiftInRange zero d (nth A i) × ArgsInRange d A o
ArgsInRange d A (tree l c o) = ArgsInRange (inside l d) A c × ArgsInRange d A o

abbrev pub EachArgInRange : Trees → List Piece → Type 0
EachArgInRange A [] = Unit {0}
EachArgInRange A (p ∷ ps) = ArgsInRange (length p.counts) A p.trees × EachArgInRange A ps

-- the kind of an argument
abbrev pub arg_sort : GenericArgKind → Sort
arg_sort (Lifetime r) = of_lifetime
arg_sort (Ty t) = of_type
arg_sort (Const c) = of_const

-- the response of the visitor that finds a misfit
abbrev pub misfit_answer : Option InstantiateError → Seen InstantiateError
misfit_answer None = Pass
misfit_answer (Some e) = Break e

abbrev pub looked_at : Trees → Trees → Seen InstantiateError
looked_at A none = Pass
looked_at A (tree (principal n i) c o) = Enter
looked_at A (tree (auto_trait i) c o) = Enter
looked_at A (tree (param s i) c o) = misfit_answer (misfit s (sort_at A i))
looked_at A (tree l c o) = cond (some_node is_any_param (tree l c none)) Enter Pass

-- the first node is a parameter
abbrev pub is_param_node : Trees → Bool
is_param_node none = false
is_param_node (tree l c o) = is_any_param l

-- what the folder does at a parameter with this misfit, if t is its shifted argument
abbrev pub fitted : Option InstantiateError → Trees → Does
fitted None t = puts t
fitted (Some e) t = enters

-- what the folder of arguments does at a node. It replaces a term without parameters by itself
abbrev pub putting : Trees → List ℕ → Trees → Does
putting A bs none = enters
putting A bs (tree (principal n i) c o) = enters
putting A bs (tree (auto_trait i) c o) = enters
putting A bs (tree (param s i) c o) = fitted (misfit s (sort_at A i)) (moved zero (min (length bs) MAX_INDEX) (nth A i))
putting A bs (tree l c o) = cond (some_node is_any_param (tree l c none)) enters (puts (tree l c none))

pub putting-bounds : (A : Trees) (bs : List ℕ) (t : Trees) → IsBound t → putting A bs t ≡ enters
putting-bounds A bs (tree (principal n i) c o) h = refl
putting-bounds A bs (tree (auto_trait i) c o) h = refl
putting-bounds A bs none h = refl
putting-bounds A bs (tree l c o) h = absurd h

-- it depends on the number of binders, not on how many lifetimes each binds
pub putting-by-depth : (A : Trees) (bs cs : List ℕ) (t : Trees) → length bs ≡ length cs → putting A bs t ≡ putting A cs t
putting-by-depth A bs cs none e = refl
putting-by-depth A bs cs (tree (principal n i) c o) e = refl
putting-by-depth A bs cs (tree (auto_trait i) c o) e = refl
putting-by-depth A bs cs (tree (param s i) c o) e = ap (λ n. fitted (misfit s (sort_at A i)) (moved zero (min n MAX_INDEX) (nth A i))) e
putting-by-depth A bs cs (tree l c o) e = refl

pub putting-once : (A : Trees) (bs : List ℕ) (t s : Trees) → putting A bs t ≡ again s → ⊥
putting-once A bs none s e = cc
putting-once A bs (tree (principal n i) c o) s e = cc
putting-once A bs (tree (auto_trait i) c o) s e = cc
putting-once A bs (tree (param r i) c o) s e = by (misfit r (sort_at A i)) (moved zero (min (length bs) MAX_INDEX) (nth A i)) e
  where
    by : (m : Option InstantiateError) (t : Trees) → fitted m t ≡ again s → ⊥
    by None t e = cc
    by (Some x) t e = cc
putting-once A bs (tree l c o) s e = by (some_node is_any_param (tree l c none)) (tree l c none) e
  where
    by : (b : Bool) (t : Trees) → cond b enters (puts t) ≡ again s → ⊥
    by true t e = cc
    by false t e = cc

-- the visitor's arguments do not change, and it records whether the node is a parameter
abbrev pub Notes : Trees → ParamVisitor → ParamVisitor → Type 0
Notes t v w = (w.args ≡ v.args) × (w.met ≡ is_param_node t || v.met)

pub looking-bounds : (A : Trees) (t : Trees) (v : ParamVisitor) → IsBound t → (Enter ≡ looked_at A t) × Notes t v v
looking-bounds A (tree (principal n i) c o) v h = (refl, (refl, refl))
looking-bounds A (tree (auto_trait i) c o) v h = (refl, (refl, refl))
looking-bounds A none v h = absurd h
looking-bounds A (tree l c o) v h = absurd h

abbrev pub Looks : List Entry → List ℕ → Trees → ParamVisitor → ParamVisitor → Seen InstantiateError → Type 0
Looks es bs t v w a = (a ≡ looked_at (trees_at es v.args.0) t) × Notes t v w
