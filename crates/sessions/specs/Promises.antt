-- What the answers of a session promise.
use Rattle.type_terms.specs.Promised.Erased.{erased_reference}
use Rattle.text_language.specs.Promised.Declarations.{Declarations, Question}
use Rattle.type_terms.specs.Promised.Questions.{IsRefuted}
use Rattle.text_lowering.specs.Promised.Questions.{variable_kinds}
use Rattle.sessions.specs.Promised.Promises.{view_in}

-- The query's trait reference has no solution in a linked set with the query's crate, under any renumbering. Nor has it one by what the
-- crate sees alone, by proofs that hold the supertraits of all that they conclude.
abbrev pub IsRefutedQuestion : Declarations → Question → Type 0
IsRefutedQuestion d q = IsRefuted (view_in d q.asker) q.asker (variable_kinds q) (erased_reference q.asked)
