use Rattle.std.proofs.Common.{length, Option}
use Rattle.text_language.specs.Promised.Declarations.{Declarations}
use Rattle.text_names.specs.declared.fault.FaultKind.{FaultKind}
use Rattle.text_tables.specs.Tables.{declared, IsConsistent}
use Rattle.text_parser.specs.Lists.{AreShortLists, HasRoom, TakesLists}
use Rattle.text_parser.proofs.lists.take_lists.Given as goal

abbrev pub invariant-loop-rest : goal.invariant-loop-rest
invariant-loop-rest l = record {
  agrees : IsConsistent l.tables;
  room : HasRoom (declared l.tables) (length l.rest);
  lines : AreShortLists l.rest;
  so_far : (found : Option FaultKind) (e : Declarations) → TakesLists (declared l.tables) l.rest found e → TakesLists (declared l.fn.tables) l.lists found e;
}

abbrev pub decreases-loop-rest : goal.decreases-loop-rest
decreases-loop-rest l = length l.rest
