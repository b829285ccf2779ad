use Rattle.std.proofs.Common.{rules, ◌≡◌, ◌≤◌, true, false, length, ◌∙◌, subst, arith}
use Rattle.std.proofs.lemmas.List.{take_all}
use Rattle.type_terms.specs.declared.ImplId.{ImplId}
use Rattle.declarations.specs.Promised.Elaboration.{Each}
use Rattle.sessions.proofs.CheckedSubjects.{Passed, stays-on, overlap-found, pair-passed, numbered-still}
use Rattle.pair_checks.proofs.Lists.{each-more}
use Rattle.sessions.proofs.Partners.{all-partners-passed}
use Rattle.sessions.proofs.session.Session.first_partner.Goals as goal

pub overlaps-requires : goal.overlaps-requires
overlaps-requires c = record { numbered = numbered-still c.args.self.now c.loop-earlier.self c.loop-earlier.invariant.stays c.requires.numbered; noted = c.loop-earlier.invariant.noted }

pub returns-in_err-overlaps-clause-stays : goal.returns-in_err-overlaps-clause-stays
returns-in_err-overlaps-clause-stays c = stays-on c.args.self.now c.loop-earlier.self c.overlaps.new.self c.loop-earlier.invariant.stays c.overlaps.ensures.stays

pub returns-then-branch-clause-found : goal.returns-then-branch-clause-found
returns-then-branch-clause-found c = λ n.
    let b : c.in_ok-overlaps.field-0 ≡ true = search rules in
    overlap-found c.args.self.now c.loop-earlier.self c.loop-earlier.invariant.stays c.args.later.index c.earlier-item.result.index c.in_ok-overlaps.field-0 b c.in_ok-overlaps.ensures.judged

pub returns-then-branch-clause-stays : goal.returns-then-branch-clause-stays
returns-then-branch-clause-stays c = stays-on c.args.self.now c.loop-earlier.self c.overlaps.new.self c.loop-earlier.invariant.stays c.overlaps.ensures.stays

pub loop-earlier-preserved : goal.loop-earlier-preserved
loop-earlier-preserved c =
    let b : c.in_ok-overlaps.field-0 ≡ false = search rules in
    let item = c.earlier-item.result in
    record {
      stays = stays-on c.args.self.now c.loop-earlier.self c.overlaps.new.self c.loop-earlier.invariant.stays c.overlaps.ensures.stays;
      noted = c.in_ok-overlaps.ensures.noted;
      passed = each-more c.deref-earlier-items.result.now c.loop-earlier.earlier-index item c.earlier-item.is c.loop-earlier-test.true (λ (i : ImplId). Passed c.args.self.now c.args.later.index i.index) c.loop-earlier.invariant.passed
          (pair-passed c.args.self.now c.loop-earlier.self c.loop-earlier.invariant.stays c.args.later.index item.index c.in_ok-overlaps.field-0 b c.in_ok-overlaps.ensures.judged);
    }

pub returns-clause-found : goal.returns-clause-found
returns-clause-found c =
    let items = c.deref-earlier-items.result.now in
    let over : length items ≤ c.loop-earlier.earlier-index = omega (arith, c.loop-earlier-test.false) in
    all-partners-passed c.args.self.now c.args.later.index c.in_ok-partners.partners.items c.in_ok-partners.ensures
    (subst (Each (λ (i : ImplId). Passed c.args.self.now c.args.later.index i.index)) (take_all c.loop-earlier.earlier-index items over ∙ c.deref-earlier-items.ensures.value) c.loop-earlier.invariant.passed)
