use Rattle.std.proofs.Common.{◌≡◌, map, take}
use Rattle.type_terms.specs.Promised.Handles.{Keeps}
use Rattle.term_folds.specs.Arguments.{arg_sort}
use Rattle.infer_table.specs.Content.{Ready}
use Rattle.sessions.specs.Tables.{table_of}
use Rattle.sessions.proofs.table.question_table.Given as goal

abbrev pub invariant-loop-unknown : goal.invariant-loop-unknown
invariant-loop-unknown l = record {
  ready : Ready l.cx.entries l.table;
  keeps : Keeps l.fn.cx.entries l.cx.entries;
  limit : l.cx.limit ≡ l.fn.cx.limit;
  is : l.table ≡ table_of (map arg_sort (take l.unknown-index l.unknowns));
}
