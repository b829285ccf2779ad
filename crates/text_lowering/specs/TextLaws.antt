-- What a crate sees of a text is declared well.
use Rattle.std.specs.Prelude.{◌≡◌, ℕ, true, List, Ok}
use Rattle.text_language.specs.Promised.Declarations.{Declarations}
use Rattle.text_language.specs.Text.{TextGives}
use Rattle.candidate_model.specs.DeclaredWell.{is_declared_well}
use Rattle.text_lowering.specs.Promised.SeenWorlds.{plainly_seen_from}

-- If the text has no fault, each of its crates sees declarations by which goals can be decided: they pass all tests for that.
abbrev pub TextsAreDeclaredWell : Type 0
TextsAreDeclaredWell = (bytes : List ℕ) (d : Declarations) → TextGives bytes (Ok d) → (c : ℕ) → is_declared_well (plainly_seen_from d c) ≡ true
