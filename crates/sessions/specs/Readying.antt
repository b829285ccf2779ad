-- Declarations that a crate sees of a text are ready for the solver.
use Rattle.std.specs.Prelude.{List}
use Rattle.type_terms.specs.Promised.Handles.{Entry}
use Rattle.declarations.specs.Held.{AreHeld}
use Rattle.declarations.specs.Items.{Items}
use Rattle.candidate_assembly.specs.Ready.{AreReadyDeclarations}

-- If their terms are the interner's, they are ready.
abbrev pub AreReady : List Entry → Items → Type 0
AreReady es decls = AreHeld es decls → AreReadyDeclarations es decls
