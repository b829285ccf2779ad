-- Small facts that the proofs of several files cite.
use Rattle.std.proofs.Common.{List, ℕ, ◌≡◌, true, ◌++◌, [], ◌∷◌, Bool, ◌||◌, refl, false, arith, suc}
use Rattle.std.proofs.lemmas.Bool.{eqb-true}
use Rattle.std.specs.Prelude.{◌==◌}
use Rattle.std.specs.Str.{bytes_eq}
use Rattle.text_language.specs.Promised.Faults.{is_among}
use Rattle.text_language.specs.Promised.Syntax.{Args, no_args, and_arg}
use Rattle.text_language.specs.Uses.{args_count}

pub among-first : (n : List ℕ) (xs ys : List (List ℕ)) → is_among n xs ≡ true → is_among n (xs ++ ys) ≡ true
among-first n [] ys h = absurd cc
among-first n (x ∷ xs) ys h = by (bytes_eq x n) h (among-first n xs ys)
  where
    by : (b : Bool) → b || is_among n xs ≡ true → (is_among n xs ≡ true → is_among n (xs ++ ys) ≡ true) → b || is_among n (xs ++ ys) ≡ true
    by true g r = refl
    by false g r = r g

pub no-count : (args : Args) → (args_count args == 0) ≡ true → args ≡ no_args
no-count no_args h = refl
no-count (and_arg a args) h = absurd (omega (arith, eqb-true (suc (args_count args)) 0 h))
