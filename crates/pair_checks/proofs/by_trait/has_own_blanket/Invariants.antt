use Rattle.declarations.specs.Items.{declared}
use Rattle.type_terms.specs.Promised.Worlds.{ImplDecl}
use Rattle.pair_checks.specs.ByTrait.{IsOwnBlanket}
use Rattle.pair_checks.proofs.ByTrait.{EachBelow}
use Rattle.pair_checks.proofs.by_trait.has_own_blanket.Given as goal

abbrev pub invariant-loop-index : goal.invariant-loop-index
invariant-loop-index l = EachBelow (λ (y : ImplDecl). IsOwnBlanket l.fn.declarations.local y → ⊥) l.index (declared l.cx.entries l.fn.declarations)
