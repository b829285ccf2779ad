use Rattle.std.proofs.Common.{◌≡◌, ◌≤◌, ◌++◌, map, drop}
use Rattle.type_terms.specs.Promised.Handles.{ArgsHeld}
use Rattle.text_printer.specs.Listed.{listed_of, ListHeld}
use Rattle.text_printer.proofs.Listing.{valued_from}
use Rattle.text_printer.proofs.listed.listed_values.Given as goal

abbrev pub invariant-loop-variable : goal.invariant-loop-variable
invariant-loop-variable l = record {
  types : l.counts.types ≤ l.variable-index;
  consts : l.counts.consts ≤ l.variable-index;
  rest : ArgsHeld l.fn.cx.entries l.rest;
  held : ListHeld l.fn.cx.entries l.listed.items;
  valued : valued_from l.fn.cx.entries (record { types = 0; consts = 0 }) l.variables l.values
      ≡ map (listed_of l.fn.cx.entries) l.listed.items ++ valued_from l.fn.cx.entries l.counts (drop l.variable-index l.variables) l.rest;
}
