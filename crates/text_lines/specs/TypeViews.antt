-- Values of the code as values of the definitions: cells, and what is open.
use Rattle.std.specs.Prelude.{ℕ, List, [], ◌∷◌, map, reverse, take}
use Rattle.std.specs.Option.{option_map}
use Rattle.text_language.specs.Tokens.{number_from}
use Rattle.text_language.specs.Promised.Syntax as syntax
use Rattle.text_lines.specs.TokenViews.{primitive_label, text_of}
use Rattle.text_lines.specs.Cells as cell
use Rattle.text_lines.specs.Machine as machine
use Rattle.text_lines.specs.declared.cell.Length.{Length}
use Rattle.text_lines.specs.declared.cell.Length.TheVariants as lengths
use Rattle.text_lines.specs.declared.cell.Cell.{Cell}
use Rattle.text_lines.specs.declared.cell.Cell.TheVariants as cells
use Rattle.text_lines.specs.declared.cell.Open.{Open}
use Rattle.text_lines.specs.declared.cell.Open.TheVariants as open_parts

-- ---- cells
-- the length of an array
abbrev pub length_of : Length → syntax.Length
length_of (lengths.Number w) = syntax.number_length (number_from 0 w.now)
length_of (lengths.Name w) = syntax.name_length w.now
length_of (lengths.Variable w) = syntax.variable_length w.now

-- a cell, with the bytes of its names
abbrev pub cell_of : Cell → cell.Cell
cell_of (cells.Primitive p) = cell.primitive_cell (primitive_label p)
cell_of cells.Never = cell.never_cell
cell_of (cells.Variable n) = cell.variable_cell n.now
cell_of (cells.Lifetime n) = cell.lifetime_cell n.now
cell_of (cells.Binder n) = cell.binder_cell n.now
cell_of (cells.Number n) = cell.number_cell (number_from 0 n.now)
cell_of (cells.Named n start) = cell.named_cell n.now start
cell_of (cells.Reference l m) = cell.reference_cell (option_map text_of l) m
cell_of (cells.Pointer m) = cell.pointer_cell m
cell_of cells.Slice = cell.slice_cell
cell_of (cells.Array n) = cell.array_cell (length_of n)
cell_of (cells.Tuple start) = cell.tuple_cell start
cell_of (cells.Fn start inner) = cell.fn_cell start inner
cell_of (cells.FnTo start inner) = cell.fn_to_cell start inner
cell_of (cells.Bound n start inner) = cell.bound_cell n.now start inner
cell_of (cells.Dyn start) = cell.dyn_cell start

-- the cells in order
abbrev pub cells_in : List Cell → List cell.Cell
cells_in cs = map cell_of cs

-- those before an index, from the last to the first
abbrev pub cells_before : List Cell → ℕ → List cell.Cell
cells_before cs at = reverse (take at (cells_in cs))

-- ---- what is open
abbrev pub open_of : Open → machine.Open
open_of (open_parts.Args n start) = machine.open_args n.now start
open_of (open_parts.Bound d start inner n) = machine.open_bound d start inner n.now
open_of (open_parts.Reference l m) = machine.open_reference (option_map text_of l) m
open_of (open_parts.Pointer m) = machine.open_pointer m
open_of open_parts.Brackets = machine.open_brackets
open_of (open_parts.Tuple start) = machine.open_tuple start
open_of (open_parts.Items start) = machine.open_items start
open_of (open_parts.Inputs start inner) = machine.open_inputs start inner
open_of (open_parts.Output start inner) = machine.open_output start inner

-- the last part of the vector is the innermost
abbrev pub opens_onto : List Open → List machine.Open → List machine.Open
opens_onto [] s = s
opens_onto (o ∷ os) s = opens_onto os (open_of o ∷ s)

-- the stack, with the innermost part on top
abbrev pub opens_in : List Open → List machine.Open
opens_in os = opens_onto os []
