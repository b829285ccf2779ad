-- A depth limit as a word.
use Rattle.std.specs.Prelude.{◌≡◌, ℕ, ◌≤◌, List, length}
use Rattle.std.specs.Str.Parse.{AllDigits, digits_value}

-- One to three decimal digits that write n, as `007` writes 7. A depth is at least 1 and at most 255.
pub record IsDepthWord (word : List ℕ) (n : ℕ) : Type 0 where
  pub some_digit : 1 ≤ length word
  pub few_digits : length word ≤ 3
  pub digits : AllDigits 10 word
  pub writes : digits_value 10 word ≡ n
  pub positive : 1 ≤ n
  pub small : n ≤ 255
