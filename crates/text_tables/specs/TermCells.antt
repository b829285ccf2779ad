-- Types as they are stored: lists of cells by numbers alone, and the terms that these stand for. The parts of a cell come before it, and
-- the cell says how many they are.
use Rattle.std.specs.Prelude.{ℕ, zero, suc, Bool, List, [], ◌∷◌, reverse}
use Rattle.type_terms.specs.Promised.Label.{Label, ref}
use Rattle.type_terms.specs.Promised.Trees.{Trees, none, tree, leaf, ◌+++◌}

pub data TermCell : Type 0 where
  node_cell : Label → (inside : ℕ) → TermCell
  -- `&'a T`, over T
  reference_cell : (lifetime : Label) → (is_mut : Bool) → TermCell

-- ---- read from left to right with a stack of terms
-- The k topmost terms, the last of them on top, before others.
abbrev pub gathered : ℕ → List Trees → Trees → Trees
gathered zero S o = o
gathered (suc k) [] o = o
gathered (suc k) (t ∷ S) o = gathered k S (t +++ o)

abbrev pub below : ℕ → List Trees → List Trees
below zero S = S
below (suc k) [] = []
below (suc k) (t ∷ S) = below k S

-- The stack after one cell.
abbrev pub behind_cell : TermCell → List Trees → List Trees
behind_cell (node_cell l k) S = tree l (gathered k S none) none ∷ below k S
behind_cell (reference_cell r m) [] = []
behind_cell (reference_cell r m) (t ∷ S) = tree (ref m) (leaf r +++ t) none ∷ S

-- the stack after all cells
abbrev pub behind_cells : List TermCell → List Trees → List Trees
behind_cells [] S = S
behind_cells (c ∷ cs) S = behind_cells cs (behind_cell c S)

-- the types, or the arguments, that cells stand for, in order
abbrev pub trees_of : List TermCell → List Trees
trees_of cs = reverse (behind_cells cs [])

-- one after the other
abbrev pub joined : List Trees → Trees
joined [] = none
joined (t ∷ ts) = t +++ joined ts
