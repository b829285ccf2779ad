use Rattle.std.proofs.Common.{sym, ◌∙◌}
use Rattle.overlap_check.proofs.Judged.{found-well}
use Rattle.overlap_check.proofs.PairLists.{no-later, no-earlier, is-pair, no-pair}
use Rattle.overlap_check.proofs.partners.pair_at.Goals as goal

pub returns-in_default-clause-none : goal.returns-in_default-clause-none
returns-in_default-clause-none c = λ es. no-later es c.args.declarations.now c.args.later c.args.earlier (c.in_default.ensures.found es)

pub returns-in_default-impl_def-clause-none : goal.returns-in_default-impl_def-clause-none
returns-in_default-impl_def-clause-none c = λ es. no-earlier es c.args.declarations.now c.args.later c.args.earlier (c.in_default-impl_def.ensures.found es)

pub returns-then-are_partners-clause-pair : goal.returns-then-are_partners-clause-pair
returns-then-are_partners-clause-pair c = λ es.
    is-pair es c.args.declarations.now c.args.later c.args.earlier c.in-Some.left.now c.in-Some-impl_def.right.now (c.in-Some.ensures.found es) (c.in-Some-impl_def.ensures.found es)
    c.in-Some.ensures.is c.in-Some-impl_def.ensures.is (sym c.are_partners.ensures ∙ c.if-are_partners.true)

pub returns-then-are_partners-clause-held : goal.returns-then-are_partners-clause-held
returns-then-are_partners-clause-held c = λ es h. (c.in-Some.ensures.held es h, c.in-Some-impl_def.ensures.held es h)

pub returns-then-are_partners-clause-written : goal.returns-then-are_partners-clause-written
returns-then-are_partners-clause-written c = λ es h. (
  (found-well es c.args.declarations.now h c.args.later.index c.in-Some.left.now c.in-Some.ensures.is).0,
  (found-well es c.args.declarations.now h c.args.earlier.index c.in-Some-impl_def.right.now c.in-Some-impl_def.ensures.is).0,
)

pub returns-else-are_partners-clause-none : goal.returns-else-are_partners-clause-none
returns-else-are_partners-clause-none c = λ es.
    no-pair es c.args.declarations.now c.args.later c.args.earlier c.in-Some.left.now c.in-Some-impl_def.right.now (c.in-Some.ensures.found es) (c.in-Some-impl_def.ensures.found es)
    (sym c.are_partners.ensures ∙ c.if-are_partners.false)
