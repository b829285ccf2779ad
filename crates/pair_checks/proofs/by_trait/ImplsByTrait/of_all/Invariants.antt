use Rattle.std.proofs.Common.{List}
use Rattle.type_terms.specs.Promised.Handles.{Entry}
use Rattle.declarations.specs.Items.{declared}
use Rattle.pair_checks.specs.ByTrait.{IsListed}
use Rattle.pair_checks.proofs.ByTrait.{EachBelow}
use Rattle.pair_checks.proofs.by_trait.ImplsByTrait.of_all.Given as goal

abbrev pub invariant-loop-index : goal.invariant-loop-index
invariant-loop-index l = (es : List Entry) → EachBelow (IsListed l.impls) l.index (declared es l.fn.declarations)
