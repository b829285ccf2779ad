use Rattle.std.proofs.Common.{rules, ◌≡◌, ◌≤◌, length, arith, subst}
use Rattle.sessions.specs.declared.supertraits.HeaderAnswer.TheVariants.{Held, Missing, Undecided}
use Rattle.sessions.proofs.CheckedSubjects.{stays-on, none-below}
use Rattle.sessions.proofs.HeaderChecks.{CheckedHere, HeldHere, all-held, checked-before, held-more, stops-at}
use Rattle.sessions.proofs.session.Session.check_supertraits.Goals as goal

pub loop-number-init : goal.loop-number-init
loop-number-init c = record {
  stays = search rules;
  held = none-below (HeldHere c.args.self.now);
}

pub returns-in_err-header_answer-clause-stays : goal.returns-in_err-header_answer-clause-stays
returns-in_err-header_answer-clause-stays c = stays-on c.args.self.now c.loop-number.self c.header_answer.new.self c.loop-number.invariant.stays c.header_answer.ensures.stays

pub returns-in-Missing-clause-answer : goal.returns-in-Missing-clause-answer
returns-in-Missing-clause-answer c =
    let s = c.args.self.now in
    let now = c.loop-number.self in
    let k = c.loop-number.number in
    stops-at s k c.in-Missing.place c.loop-number.invariant.held
    (checked-before s now c.loop-number.invariant.stays k (Missing c.in-Missing.place) (subst (CheckedHere now k) c.in-Missing.is c.in_ok-header_answer.ensures.checked))

pub returns-in-Missing-clause-stays : goal.returns-in-Missing-clause-stays
returns-in-Missing-clause-stays c = stays-on c.args.self.now c.loop-number.self c.header_answer.new.self c.loop-number.invariant.stays c.header_answer.ensures.stays

pub returns-in-Undecided-clause-answer : goal.returns-in-Undecided-clause-answer
returns-in-Undecided-clause-answer c =
    let s = c.args.self.now in
    let now = c.loop-number.self in
    let k = c.loop-number.number in
    stops-at s k c.in-Undecided.place c.loop-number.invariant.held
    (checked-before s now c.loop-number.invariant.stays k (Undecided c.in-Undecided.place) (subst (CheckedHere now k) c.in-Undecided.is c.in_ok-header_answer.ensures.checked))

pub returns-in-Undecided-clause-stays : goal.returns-in-Undecided-clause-stays
returns-in-Undecided-clause-stays c = stays-on c.args.self.now c.loop-number.self c.header_answer.new.self c.loop-number.invariant.stays c.header_answer.ensures.stays

pub loop-number-preserved : goal.loop-number-preserved
loop-number-preserved c =
    let s = c.args.self.now in
    let now = c.loop-number.self in
    let k = c.loop-number.number in
    record {
      stays = stays-on s now c.header_answer.new.self c.loop-number.invariant.stays c.header_answer.ensures.stays;
      held = held-more s k c.loop-number.invariant.held (checked-before s now c.loop-number.invariant.stays k Held (subst (CheckedHere now k) c.in-Held.is c.in_ok-header_answer.ensures.checked));
    }

pub returns-clause-answer : goal.returns-clause-answer
returns-clause-answer c =
    let s = c.args.self.now in
    let end = c.impl_end-end.result in
    let is : end ≡ length s.declarations.impls = c.impl_end-end.ensures.is in
    let over : end ≤ c.loop-number.number = omega (arith, c.loop-number-test.false) in
    let all : length s.declarations.impls ≤ c.loop-number.number = omega (arith, is, over) in
    all-held s c.loop-number.number c.impl_end-end.ensures.numbered all c.loop-number.invariant.held
