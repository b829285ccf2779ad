use Rattle.declarations.specs.Items.{reference_in}
use Rattle.declarations.specs.Relevant.{matches_in}
use Rattle.pair_checks.proofs.Matching.{AreFound, numbers_left}
use Rattle.pair_checks.proofs.by_trait.matching_impls.Given as goal

abbrev pub invariant-impls : goal.invariant-impls
invariant-impls l = AreFound (matches_in l.cx.entries l.declarations (reference_in l.cx.entries l.reference)) l.last l.found.items

abbrev pub decreases-impls : goal.decreases-impls
decreases-impls l = numbers_left l.last
