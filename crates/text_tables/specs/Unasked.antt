-- A text without its last query.
use Rattle.std.specs.Prelude.{◌-◌, length, take}
use Rattle.text_language.specs.Promised.Declarations.{Declarations}

-- unchanged if there is no query
abbrev pub without_last_question : Declarations → Declarations
without_last_question d = record d { questions = take (length d.questions - 1) d.questions }
