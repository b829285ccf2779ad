-- What a crate sees of a text is well-formed.
use Rattle.std.specs.Prelude.{List}
use Rattle.type_terms.specs.Promised.Handles.{Entry}
use Rattle.declarations.specs.Items.{Items, written}
use Rattle.text_lowering.specs.Ready.{OfTexts}
use Rattle.solver_completeness.specs.FormedFacts.{IsFormedView}
use Rattle.sessions.specs.Fitting.{sorts_in}

-- The declarations are well-formed, with the kinds of their parameters: each name is declared, and has the arguments that it takes.
abbrev pub AreFormedDeclarations : List Entry → Items → Type 0
AreFormedDeclarations es d = IsFormedView (written es d) (sorts_in d)

abbrev pub TextsAreFormed : Type 0
TextsAreFormed = OfTexts AreFormedDeclarations
