-- The terms that resolved cells stand for, read from left to right with a stack of terms.
use Rattle.std.specs.Prelude.{◌≡◌, ℕ, zero, suc, ◌+◌, List, [], ◌∷◌, length}
use Rattle.type_terms.specs.Promised.Label.{Label, Sort, of_type, of_const, of_lifetime, static, ref, bound}
use Rattle.type_terms.specs.Promised.Trees.{Trees, none, tree, leaf, ◌+++◌}
use Rattle.text_language.specs.Promised.Syntax.{TypeTree}
use Rattle.text_language.specs.Lowering.{Meanings, variable_label, type_tree}
use Rattle.text_names.specs.Resolved.{Region, static_region, param_region, bound_region, ResolvedCell, node_cell, param_cell, variable_cell, lifetime_cell, reference_cell, type_before}

-- the number of the first parameter of this kind
abbrev pub first_of_sort : Meanings → Sort → ℕ
first_of_sort e of_lifetime = e.first
first_of_sort e of_type = e.first + length e.params.lifetimes
first_of_sort e of_const = e.first + length e.params.lifetimes + length e.params.types

abbrev pub written_region_label : Meanings → Region → Label
written_region_label e static_region = static
written_region_label e (param_region i) = e.parameter of_lifetime (first_of_sort e of_lifetime + i)
written_region_label e (bound_region k i) = bound of_lifetime k i

-- The k topmost terms, the last of them on top, before others.
abbrev pub gathered : ℕ → List Trees → Trees → Trees
gathered zero S o = o
gathered (suc k) [] o = o
gathered (suc k) (t ∷ S) o = gathered k S (t +++ o)

abbrev pub below : ℕ → List Trees → List Trees
below zero S = S
below (suc k) [] = []
below (suc k) (t ∷ S) = below k S

-- A term with this label over the k topmost.
abbrev pub over : Label → ℕ → List Trees → List Trees
over l k S = tree l (gathered k S none) none ∷ below k S

abbrev pub referring : Label → Label → List Trees → List Trees
referring l r [] = []
referring l r (t ∷ S) = tree l (leaf r +++ t) none ∷ S

-- The stack after one cell.
abbrev pub trees_behind : Meanings → ResolvedCell → List Trees → List Trees
trees_behind e (node_cell l k) S = over l k S
trees_behind e (param_cell p i k) S = over (e.parameter p (first_of_sort e p + i)) k S
trees_behind e (variable_cell p n) S = leaf (variable_label e p n) ∷ S
trees_behind e (lifetime_cell r) S = leaf (written_region_label e r) ∷ S
trees_behind e (reference_cell r m) S = referring (ref m) (written_region_label e r) S

-- the stack after all cells
abbrev pub standing : Meanings → List ResolvedCell → List Trees → List Trees
standing e [] S = S
standing e (c ∷ cs) S = standing e cs (trees_behind e c S)

-- The cells of a type stand for its term.
abbrev pub CellsStand : Type 0
CellsStand =
    (e : Meanings) (s : List (List (List ℕ))) (p : Sort) (t : TypeTree) (cs : List ResolvedCell) (S : List Trees)
    → standing e (type_before e.items e.params s p t cs) S ≡ standing e cs (type_tree e s p t ∷ S)
