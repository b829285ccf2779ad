-- Values as texts.
use Rattle.type_terms.specs.Promised.Trees.{Trees}
use Rattle.text_language.specs.Promised.Declarations.{Variable}
use Rattle.text_language.specs.Names.{question_names}
use Rattle.text_language.specs.Output as output
use Rattle.text_tables.specs.Views.{question_of}
use Rattle.text_printer.specs.Called.{unknowns_of}
use Rattle.text_printer.specs.declared.question.QuestionNames.{QuestionNames}

-- The names in the values of a query.
abbrev pub printed_names : QuestionNames → output.Names
printed_names n = question_names n.workspace.now (question_of n.question.now) (unknowns_of n.free.now)

-- a variable with its value, as text
abbrev pub text_by : output.Names → Variable × Trees → output.ValueText
text_by N v = record { variable = v.0.text; term = output.type_text N v.1 }
