-- Facts about the types of the code.
use Rattle.std.proofs.Common.{Option, ◌≡◌, None, refl, Some}
use Rattle.std.specs.Option.{option_or}
use Rattle.term_folds.specs.declared.instantiate.InstantiateError.{InstantiateError}

pub left-none : (a b : Option InstantiateError) → option_or a b ≡ None → a ≡ None
left-none None b h = refl
left-none (Some e) b h = cc

pub right-none : (a b : Option InstantiateError) → option_or a b ≡ None → b ≡ None
right-none None b h = h
right-none (Some e) b h = absurd cc
