-- What a name stands for, by what is declared before a line and by the line's own struct or trait.
use Rattle.std.specs.Prelude.{Option, Some, None}
use Rattle.std.specs.Option.{option_or}
use Rattle.text_language.specs.Promised.Declarations.{Known, a_trait}

-- A struct of the line is found before traits, and after crates and other structs.
abbrev pub known_with_struct : (before own : Option Known) → Option Known
known_with_struct (Some (a_trait k h a kinds)) own = option_or own (Some (a_trait k h a kinds))
known_with_struct None own = own
known_with_struct before own = before

-- A trait of the line is found last.
abbrev pub known_with_trait : (before own : Option Known) → Option Known
known_with_trait before own = option_or before own
