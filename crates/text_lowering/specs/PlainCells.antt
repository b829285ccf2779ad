-- Cells with the lifetimes that are kept, and no binders.
use Rattle.std.specs.Prelude.{ℕ, Bool, true, false, List}
use Rattle.std.specs.List.{list_any}
use Rattle.type_terms.specs.Promised.Handles.{region_label}
use Rattle.text_tables.specs.TermCells.{TermCell as Cell, node_cell, reference_cell}
use Rattle.text_tables.specs.declared.cell.TermCell.{TermCell}
use Rattle.text_tables.specs.declared.cell.TermCell.TheVariants as cells
use Rattle.text_lowering.specs.Promised.SeenWorlds.{plain_label, is_lifetime}
use Rattle.text_lowering.specs.declared.plain.Kept.{Kept}
use Rattle.text_lowering.specs.declared.plain.Kept.TheVariants as kept

-- The cell is the lifetime parameter with this number, or a reference with that lifetime.
abbrev pub names : ℕ → TermCell → Bool
names i (cells.Lifetime r) = is_lifetime i (region_label r.kind)
names i (cells.Ref r m) = is_lifetime i (region_label r.kind)
names i _ = false

abbrev pub named_in : List TermCell → ℕ → Bool
named_in cs i = list_any (names i) cs

abbrev pub is_kept : Kept → ℕ → Bool
is_kept kept.All i = true
is_kept (kept.NamedIn cs) i = named_in cs.now i
is_kept kept.None i = false

-- The cell is no lifetime, has no lifetime of its own, and binds none.
abbrev pub is_without_lifetimes : TermCell → Bool
is_without_lifetimes (cells.Lifetime r) = false
is_without_lifetimes (cells.Ref r m) = false
is_without_lifetimes (cells.FnPtr b n) = false
is_without_lifetimes (cells.Principal b t n) = false
is_without_lifetimes _ = true

abbrev pub plain_cell : (ℕ → Bool) → Cell → Cell
plain_cell k (node_cell l n) = node_cell (plain_label k l) n
plain_cell k (reference_cell r m) = reference_cell (plain_label k r) m
