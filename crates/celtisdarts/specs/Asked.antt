-- The checks of a crate, as its session takes them.
use Rattle.std.specs.Prelude.{ℕ}
use Rattle.explain_texts.specs.TextLanguage.Promised.Declarations.{Declarations}
use Rattle.explain_texts.specs.Sessions.Promised.Releases.{IsSectionOf}
use Rattle.explain_texts.specs.TextTables.declared.declared.Check.{Check}
use Rattle.explain_texts.specs.TextTables.declared.declared.Check.TheVariants.{Later, Supers}

-- A check is of crate c: a section is one of c.
abbrev pub IsCheckOf : Declarations → ℕ → Check → Type 0
IsCheckOf d c (Later k changed) = IsSectionOf d c k
IsCheckOf d c (Supers asked) = Unit {0}
