-- What listed values stand for among the definitions.
use Rattle.std.specs.Prelude.{ℕ, suc, List, [], ◌∷◌, map, if◌then◌else◌}
use Rattle.type_terms.specs.Promised.Label.{infer}
use Rattle.type_terms.specs.Promised.Trees.{Trees, leaf}
use Rattle.type_terms.specs.Codes.{same}
use Rattle.text_language.specs.Promised.Declarations.{Variable}
use Rattle.text_language.specs.Names.{valued, own_from}
use Rattle.type_terms.specs.Promised.Handles.{arg_trees, ArgHeld}
use Rattle.type_terms.specs.Promised.Handles.{Entry}
use Rattle.type_terms.specs.declared.kinds.GenericArgKind.{GenericArgKind}
use Rattle.text_tables.specs.Views.{sort_of_kind, variable_of}
use Rattle.text_tables.specs.declared.cell.ParamKind.{ParamKind}
use Rattle.text_tables.specs.declared.cell.ParamKind.TheVariants as kinds
use Rattle.text_tables.specs.declared.declared.Param.{Param}
use Rattle.text_printer.specs.declared.listed.Listed.{Listed}
use Rattle.text_printer.specs.declared.listed.Counts.{Counts}

abbrev pub listed_of : List Entry → Listed → Variable × Trees
listed_of es l = (variable_of l.variable.now, arg_trees es l.value)

abbrev pub ListHeld : List Entry → List Listed → Type 0
ListHeld es [] = Unit {0}
ListHeld es (l ∷ ls) = ArgHeld es l.value × ListHeld es ls

-- The number of the inference variable for the next variable, of this kind.
abbrev pub own_number : ParamKind → Counts → ℕ
own_number kinds.Lifetime n = 0
own_number kinds.Type n = n.types
own_number kinds.Const n = n.consts

-- The counts after a variable of this kind.
abbrev pub counted : ParamKind → Counts → Counts
counted kinds.Lifetime n = n
counted kinds.Type n = record { types = suc n.types; consts = n.consts }
counted kinds.Const n = record { types = n.types; consts = suc n.consts }

-- A variable with this value. It is listed unless the value is the inference variable with this number, which stands for it.
abbrev pub valued_one : List Entry → Param → GenericArgKind → ℕ → List (Variable × Trees)
valued_one es p a n = if same (leaf (infer (sort_of_kind p.kind) n)) (arg_trees es a) then [] else (variable_of p, arg_trees es a) ∷ []

-- Those of the variables with these values that have a value of their own.
abbrev pub valued_of : List Entry → List Param → List GenericArgKind → List (Variable × Trees)
valued_of es ps values = valued (map variable_of ps) (own_from 0 0 (map variable_of ps)) (map (arg_trees es) values)
