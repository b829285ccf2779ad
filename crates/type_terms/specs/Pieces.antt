-- The terms of a value.
use Rattle.std.specs.Prelude.{ℕ, List, [], ◌∷◌, ◌++◌, length, max, bit_or, ◌-◌}
use Rattle.type_terms.specs.Promised.Trees.{Trees}
use Rattle.type_terms.specs.Trees.{flags, outer_binder}

-- A part of a value: its terms, and the binders of the value that are around them, the innermost first.
pub record Piece : Type 0 where
  pub counts : List ℕ
  pub trees : Trees

-- A value with one part, below no binder of its own.
abbrev pub one_piece : Trees → List Piece
one_piece t = record { counts = []; trees = t } ∷ []

-- The parts below one more binder, which is around all others.
abbrev pub under : ℕ → List Piece → List Piece
under n [] = []
under n (p ∷ ps) = record { counts = p.counts ++ n ∷ []; trees = p.trees } ∷ under n ps

-- Each part changed, with the number of binders of the value around it.
abbrev pub each_piece : (ℕ → Trees → Trees) → List Piece → List Piece
each_piece g [] = []
each_piece g (p ∷ ps) = record { counts = p.counts; trees = g (length p.counts) p.trees } ∷ each_piece g ps

-- The union of the flags of the parts.
abbrev pub piece_flags : List Piece → ℕ
piece_flags [] = 0
piece_flags (p ∷ ps) = bit_or (flags p.trees) (piece_flags ps)

-- One more than the greatest binder number that refers to a binder outside of the value, or 0.
abbrev pub piece_binder : List Piece → ℕ
piece_binder [] = 0
piece_binder (p ∷ ps) = max (outer_binder p.trees - length p.counts) (piece_binder ps)
