-- Small facts that the proofs of several files cite.
use Rattle.std.proofs.Common.{ℕ, ◌≡◌, zero, refl, suc, ap, List, ◌++◌}
use Rattle.overlap_check.specs.Goals.{repeated}
use Rattle.type_terms.specs.Promised.Label.{of_const, Sort, of_type}
use Rattle.text_lowering.specs.QuestionVariables.{number_of}

pub all-consts : (n : ℕ) → number_of of_const (repeated of_const n) ≡ n
all-consts zero = refl
all-consts (suc n) = ap suc (all-consts n)

pub types-skipped : (n : ℕ) (js : List Sort) → number_of of_const (repeated of_type n ++ js) ≡ number_of of_const js
types-skipped zero js = refl
types-skipped (suc n) js = types-skipped n js
