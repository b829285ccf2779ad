-- The types in the results of an orphan walk are of one interner.
use Rattle.std.specs.Prelude.{List}
use Rattle.type_terms.specs.Promised.Handles.{Entry}
use Rattle.orphan_check.specs.declared.walk.Met.{Met}
use Rattle.orphan_check.specs.declared.walk.Met.TheVariants.{Entered, Local as MetLocal, NonLocal as MetNonLocal, Uncovered as MetUncovered}
use Rattle.orphan_check.specs.declared.walk.End.{End}
use Rattle.orphan_check.specs.declared.walk.End.TheVariants.{Local as EndLocal, Uncovered as EndUncovered, NonLocal as EndNonLocal}
use Rattle.orphan_check.specs.Promised.Errors.{TypeHeld, LeavesHeld}

-- The type of one visit is.
abbrev pub MetHeld : List Entry → Met → Type 0
MetHeld es Entered = Unit {0}
MetHeld es (MetLocal t) = TypeHeld es t
MetHeld es (MetUncovered t) = TypeHeld es t
MetHeld es (MetNonLocal t first) = TypeHeld es t

-- The types at the end of a walk are.
abbrev pub EndHeld : List Entry → End → Type 0
EndHeld es EndLocal = Unit {0}
EndHeld es (EndUncovered t) = TypeHeld es t
EndHeld es (EndNonLocal v) = LeavesHeld es v.items
