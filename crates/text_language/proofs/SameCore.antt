-- The long definition of `core` agrees with the short one.
use Rattle.std.proofs.Common.{◌≡◌, refl}
use Rattle.text_language.specs.Declarations.{nothing_declared}
use Rattle.text_language.specs.Promised.CoreText.{core_declared}

pub core-declared-is : core_declared ≡ nothing_declared
core-declared-is = refl
