-- What is found of several types.
use Rattle.std.specs.Prelude.{◌≡◌, List, [], ◌++◌}
use Rattle.text_language.specs.Faults.{variables_in}
use Rattle.text_language.specs.Uses.{Use}
use Rattle.text_names.specs.Machine.{Sight, findings, either}
use Rattle.text_names.specs.Resolving.{nothing_found}

abbrev pub FindingsTogether : Type 0
FindingsTogether = (v : Sight) (us ws : List Use) → findings v (us ++ ws) ≡ either (findings v us) (findings v ws)

abbrev pub VariablesTogether : Type 0
VariablesTogether = (us ws : List Use) → variables_in (us ++ ws) ≡ variables_in us ++ variables_in ws

-- Nothing is wrong if nothing is used.
abbrev pub NothingFound : Type 0
NothingFound = (v : Sight) → findings v [] ≡ nothing_found.faults
