use Rattle.std.proofs.Common.{rules, ◌≤◌, ◌<◌, ℕ, arith, Some, None, subst}
use Rattle.sessions.specs.Checking.{HasPartner}
use Rattle.sessions.proofs.CheckedSubjects.{Passed, stays-on, partner-before, numbered-still, none-below, one-more, up-to}
use Rattle.sessions.proofs.Partners.{lists-still}
use Rattle.sessions.proofs.session.Session.first_overlap.Goals as goal

pub loop-index-init : goal.loop-index-init
loop-index-init c = record {
  stays = search rules;
  noted = c.new-answers.ensures c.args.self.now.declarations c.args.self.now.of_crate c.args.self.now.terms;
  passed = none-below (λ k. (j : ℕ) → j < c.args.end → Passed c.args.self.now k j);
}

pub first_partner-requires : goal.first_partner-requires
first_partner-requires c = record {
  listed = lists-still c.args.self.now c.loop-index.self c.loop-index.invariant.stays c.in_ok-impls.impls c.in_ok-impls.ensures;
  numbered = numbered-still c.args.self.now c.loop-index.self c.loop-index.invariant.stays c.requires.numbered;
  noted = c.loop-index.invariant.noted;
}

pub returns-in_err-earlier-clause-stays : goal.returns-in_err-earlier-clause-stays
returns-in_err-earlier-clause-stays c = stays-on c.args.self.now c.loop-index.self c.first_partner.new.self c.loop-index.invariant.stays c.first_partner.ensures.stays

pub returns-in-Some-clause-found : goal.returns-in-Some-clause-found
returns-in-Some-clause-found c =
    partner-before c.args.self.now c.loop-index.self c.loop-index.invariant.stays c.args.end c.loop-index.index (Some c.in-Some.earlier)
    (subst (HasPartner c.loop-index.self c.args.end c.loop-index.index) c.in-Some.is (c.in_ok-earlier.ensures.found c.args.end))

pub returns-in-Some-clause-stays : goal.returns-in-Some-clause-stays
returns-in-Some-clause-stays c = stays-on c.args.self.now c.loop-index.self c.first_partner.new.self c.loop-index.invariant.stays c.first_partner.ensures.stays

pub loop-index-preserved : goal.loop-index-preserved
loop-index-preserved c =
    record {
      stays = stays-on c.args.self.now c.loop-index.self c.first_partner.new.self c.loop-index.invariant.stays c.first_partner.ensures.stays;
      noted = c.in_ok-earlier.ensures.noted;
      passed = one-more (λ k. (j : ℕ) → j < c.args.end → Passed c.args.self.now k j) c.loop-index.index c.loop-index.invariant.passed
          (partner-before c.args.self.now c.loop-index.self c.loop-index.invariant.stays c.args.end c.loop-index.index None
          (subst (HasPartner c.loop-index.self c.args.end c.loop-index.index) c.in_default.is (c.in_ok-earlier.ensures.found c.args.end)));
    }

pub returns-clause-found : goal.returns-clause-found
returns-clause-found c =
    let over : c.args.end ≤ c.loop-index.index = omega (arith, c.loop-index-test.false) in
    λ k j lt le. up-to (λ k. (j : ℕ) → j < c.args.end → Passed c.args.self.now k j) c.args.end c.loop-index.index over c.loop-index.invariant.passed k lt j le
