-- Small facts on the types of the code.
use Rattle.std.proofs.Common.{List, ℕ, Option, ◌≡◌, [], None, refl, Some, Ok, length, ◌≤◌}
use Rattle.text_language.specs.Promised.Declarations.{Declarations}
use Rattle.text_language.specs.Faults.{variables_in}
use Rattle.text_language.specs.Text.{TextGives, fits}
use Rattle.text_language.specs.Promised.Text.{text_limit}
use Rattle.text_language.specs.Uses.{lifetime_uses}

pub optional-variables : (s : List (List (List ℕ))) (l : Option (List ℕ)) → variables_in (lifetime_uses s l) ≡ []
optional-variables s None = refl
optional-variables s (Some n) = refl

pub text-short : (bytes : List ℕ) (d : Declarations) → TextGives bytes (Ok d) → length bytes ≤ text_limit
text-short bytes d (fits _ h g) = h
