-- The texts of names in explanations.
use Rattle.std.specs.Prelude.{◌≡◌, ℕ, List, ◌++◌, map, codes, slice_get}
use Rattle.std.specs.Option.{option_map_or}
use Rattle.type_terms.specs.Promised.Label.{Sort}
use Rattle.text_language.specs.Promised.Declarations.{Declarations}
use Rattle.text_language.specs.Names.{variables_of_kind, struct_text, text_at, trait_text}
use Rattle.text_language.specs.Output.{Names}
use Rattle.text_tables.specs.Views.{param_names, variable_of}
use Rattle.text_tables.specs.declared.declared.Param.{Param}

-- An inference variable has the name of the variable that it stands for. It is `_` if it stands for none.
abbrev pub shown_unknown : List Param → Sort → ℕ → List ℕ
shown_unknown vs s i = option_map_or (λ v. codes "?" ++ v.text) (slice_get (variables_of_kind s (map variable_of vs)) i) (codes "_")

abbrev pub shown_names : Declarations → List Param → List Param → Names
shown_names d ps vs = record {
  of_struct = struct_text d;
  of_trait = trait_text d;
  of_param = λ s i. text_at (param_names ps) i;
  of_placeholder = λ s i. text_at (param_names ps) i;
  of_unknown = shown_unknown vs;
}

-- The second text is a prefix of the first.
abbrev pub IsBeginning : List ℕ → List ℕ → Type 0
IsBeginning whole part = (rest : List ℕ) × (part ++ rest ≡ whole)
