use Rattle.std.proofs.Common.{refl}
use Rattle.text_language.specs.Tokens.{tokens_of}
use Rattle.std.proofs.Common.{Ok, []}
use Rattle.std.proofs.Common.{arith}
use Rattle.text_language.specs.Declarations.{nothing_declared}
use Rattle.text_language.specs.Text.{fits, goes_on, ends, blank}
use Rattle.text_language.proofs.worked_declarations.Goals as goal

pub returns-clause-generic_impl : goal.returns-clause-generic_impl
unfolding tokens_of
returns-clause-generic_impl c = ((refl, (refl, (refl, (refl, (refl, tt))))), refl)

pub returns-clause-two_kinds : goal.returns-clause-two_kinds
unfolding tokens_of
returns-clause-two_kinds c = ((refl, (refl, (refl, (refl, tt)))), refl)

pub returns-clause-two_bounds : goal.returns-clause-two_bounds
unfolding tokens_of
returns-clause-two_bounds c = ((refl, (refl, (refl, (refl, tt)))), refl)

pub returns-clause-bound_lifetimes : goal.returns-clause-bound_lifetimes
unfolding tokens_of
returns-clause-bound_lifetimes c = ((refl, (refl, (refl, (refl, (refl, (refl, tt)))))), refl)

pub returns-clause-orphan : goal.returns-clause-orphan
unfolding tokens_of
returns-clause-orphan c = ((refl, (refl, (refl, (refl, tt)))), refl)

pub returns-clause-empty : goal.returns-clause-empty
returns-clause-empty c = fits (Ok nothing_declared) (omega arith) (goes_on nothing_declared nothing_declared 1 [] [] (Ok nothing_declared) (blank refl refl) (ends nothing_declared 2))
