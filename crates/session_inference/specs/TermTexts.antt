-- Terms of inference sessions as text.
use Rattle.std.specs.Prelude.{ℕ, List, [], ◌++◌, codes}
use Rattle.std.specs.Fmt.{decimal}
use Rattle.type_terms.specs.Promised.Label.{Sort, of_type, of_const, of_lifetime}
use Rattle.text_language.specs.Names.{struct_text, trait_text}
use Rattle.text_language.specs.Output.{Names}
use Rattle.text_language.specs.Promised.Declarations.{Declarations}

-- The mark, the number, and a letter for its kind.
abbrev pub variable_text : List ℕ → Sort → ℕ → List ℕ
variable_text mark of_type n = mark ++ decimal n ++ codes "t"
variable_text mark of_const n = mark ++ decimal n ++ codes "c"
variable_text mark of_lifetime n = []

-- A type variable is `?0t`, and a constant variable `?0c`, by their numbers. Parameters are `!0t` and `!0c`.
abbrev pub inference_names : Declarations → Names
inference_names d = record {
  of_struct = struct_text d;
  of_trait = trait_text d;
  of_param = λ s n. [];
  of_placeholder = variable_text (codes "!");
  of_unknown = variable_text (codes "?");
}
