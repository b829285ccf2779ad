-- When an answer is the expected one.
use Rattle.std.specs.Prelude.{◌≡◌, ◌||◌, ◌&&◌, ◌==◌, not, ℕ, Bool, List, length, drop, codes, nat_eq}
use Rattle.std.specs.List.{list_any, starts_with}
use Rattle.command_line.specs.declared.expected.Expectations.{Expectations}

-- What may stand behind the expected words: nothing, the value of one more variable, or more words if no value is expected.
abbrev pub may_follow : List ℕ → List ℕ → Bool
may_follow expected rest = length rest == 0 || (starts_with nat_eq rest (codes ", ?") || (starts_with nat_eq rest (codes " ") && not (list_any (λ c. nat_eq c 63) expected)))

-- The answer begins with the expected words, of which there are some.
abbrev pub is_as_expected : List ℕ → List ℕ → Bool
is_as_expected expected found = not (length expected == 0) && (starts_with nat_eq found expected && may_follow expected (drop (length expected) found))

-- The answers of each part are looked for in the whole output.
pub record HaveOutput (e : Expectations) (output : List ℕ) : Type 0 where
  pub crates : e.crates.left.now ≡ output
  pub checks : e.checks.left.now ≡ output
  pub questions : e.questions.left.now ≡ output
