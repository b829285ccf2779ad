use Rattle.std.proofs.Common.{◌≡◌, ◌++◌, map, drop}
use Rattle.text_language.specs.Names.{own_from}
use Rattle.type_terms.specs.Promised.Handles.{arg_trees, ArgsHeld}
use Rattle.text_tables.specs.Views.{variable_of}
use Rattle.type_terms.specs.Growth.{Grew}
use Rattle.text_lowering.proofs.question.own_unknowns.Given as goal

abbrev pub invariant-loop-variable : goal.invariant-loop-variable
invariant-loop-variable l = record {
  grew : Grew l.fn.cx l.cx;
  are : map (arg_trees l.cx.entries) l.unknowns.items ++ own_from l.counts.types l.counts.consts (map variable_of (drop l.variable-index l.variables)) ≡ own_from 0 0 (map variable_of l.variables);
  held : ArgsHeld l.cx.entries l.unknowns.items;
}
