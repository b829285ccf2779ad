use Rattle.std.proofs.Common.{◌≡◌, ap, sym, ◌∙◌, subst, take, ◌∷◌}
use Rattle.type_terms.specs.Promised.Worlds.{Reference}
use Rattle.type_terms.specs.Promised.Erased.{erased_reference}
use Rattle.type_terms.specs.Promised.Proofs.{In, Every}
use Rattle.type_terms.proofs.Grown.{grew-on, grew-none}
use Rattle.declarations.specs.Applied.{TraitRefsHeld}
use Rattle.declarations.specs.Items.{reference_in}
use Rattle.declarations.proofs.Growth.{reference-same, reference-kept}
use Rattle.proof_checker.specs.declared.steps.Step.{Step}
use Rattle.proof_checker.specs.Steps.{term_of, terms_of, steps_say, at_places, StepHeld}
use Rattle.proof_checker.proofs.Ways.{get-at, get-map}
use Rattle.proof_checker.proofs.Places.{empty-of, each-at, places-more, take-get, shorter}
use Rattle.proof_checker.proofs.Results.{never}
use Rattle.declarations.specs.Held.{ReferenceHeld}
use Rattle.proof_checker.proofs.checker.premises_stand.Goals as goal
use Rattle.type_terms.proofs.ListBasics.{empty as none-left}

pub premises-preserved : goal.premises-preserved
premises-preserved c =
    let es = c.args.cx.now.entries in
    let now = c.premises.cx.entries in
    let k = c.are_one.ensures.terms.grew.keeps in
    let inv = c.premises.invariant in
    let back = c.in-Some.ensures.cases.0 in
    let back2 = c.in-Some-split_first.ensures.cases.0 in
    let held = subst (TraitRefsHeld es) back inv.left_held in
    let steps = c.args.steps.now in
    let st = c.index-steps-place.result in
    let x = c.in-Some.premise.now in
    let i = c.in-Some-split_first.place.now in
    let is = c.in-Some-split_first.other_places.now in
    let xs = c.in-Some.others.now in
    let rs = steps_say es steps in
    let got = get-at steps i st c.if-place-steps.false c.index-steps-place.is in
    let said = get-map (λ (s : Step). term_of es s.reference) steps i st got in
    let sheld = (each-at (StepHeld es) steps i st c.requires.steps got).0 in
    let same = subst (λ (s : Step). erased_reference (reference_in now x) ≡ erased_reference (reference_in now s.reference)) (sym c.index-steps-place.is) (c.in_ok-are_one-in-Some-split_first.ensures.one c.if-not-branch.false) in
    let eq : term_of es st.reference ≡ term_of es x = ap erased_reference (sym (reference-same es now inv.grew.keeps st.reference sheld)) ∙ sym same ∙ ap erased_reference (reference-same es now inv.grew.keeps x held.0) in
    record {
      grew = grew-on inv.grew c.are_one.ensures.terms.grew;
      left_held = held.1;
      are = λ h. inv.are (subst (λ l. at_places rs l ≡ terms_of es c.premises.left.now) (sym back2)
          (subst (λ l. at_places rs (i ∷ is) ≡ terms_of es l) (sym back) (places-more rs i is (term_of es st.reference) (term_of es x) (terms_of es xs) said eq h)));
      stand = λ h. inv.stand (subst (λ l. Every (λ (p : Reference). In p (take c.args.allowed rs)) (terms_of es l)) (sym back)
          (subst (λ r. In r (take c.args.allowed rs)) eq (i, take-get c.args.allowed rs i (term_of es st.reference) said c.if-place-allowed.false), h));
    }

pub premises-init : goal.premises-init
premises-init c = record { grew = grew-none; left_held = c.requires.premises; are = λ h. h; stand = λ h. h }

pub returns-then-place-allowed-clause-terms : goal.returns-then-place-allowed-clause-terms
returns-then-place-allowed-clause-terms c = record {
  grew = c.premises.invariant.grew;
  full = tt;
}

pub returns-then-place-allowed-clause-are : goal.returns-then-place-allowed-clause-are
returns-then-place-allowed-clause-are c = never

pub returns-then-place-allowed-clause-stand : goal.returns-then-place-allowed-clause-stand
returns-then-place-allowed-clause-stand c = never

pub bounds-steps-place : goal.bounds-steps-place
bounds-steps-place c = c.if-place-steps.false

pub bounds-steps-place-else-place-steps : goal.bounds-steps-place-else-place-steps
bounds-steps-place-else-place-steps c = c.if-place-steps.false

pub are_one-requires-clause-one : goal.are_one-requires-clause-one
are_one-requires-clause-one c =
    let es = c.args.cx.now.entries in
    reference-kept es c.premises.cx.entries c.premises.invariant.grew.keeps c.in-Some.premise.now (subst (TraitRefsHeld es) c.in-Some.ensures.cases.0 c.premises.invariant.left_held).0

pub are_one-requires-clause-other : goal.are_one-requires-clause-other
are_one-requires-clause-other c =
    let es = c.args.cx.now.entries in
    let now = c.premises.cx.entries in
    let steps = c.args.steps.now in
    let st = c.index-steps-place.result in
    let i = c.in-Some-split_first.place.now in
    let held = each-at (StepHeld es) steps i st c.requires.steps (get-at steps i st c.if-place-steps.false c.index-steps-place.is) in
    subst (λ (s : Step). ReferenceHeld now s.reference) c.index-steps-place.is (reference-kept es now c.premises.invariant.grew.keeps st.reference held.0)

pub returns-then-not-branch-clause-terms : goal.returns-then-not-branch-clause-terms
returns-then-not-branch-clause-terms c = record {
  grew = grew-on c.premises.invariant.grew c.are_one.ensures.terms.grew;
  full = tt;
}

pub returns-then-not-branch-clause-are : goal.returns-then-not-branch-clause-are
returns-then-not-branch-clause-are c = never

pub returns-then-not-branch-clause-stand : goal.returns-then-not-branch-clause-stand
returns-then-not-branch-clause-stand c = never

pub premises-smaller : goal.premises-smaller
premises-smaller c = shorter c.in-Some.premise.now c.premises.left.now c.in-Some.others.now c.in-Some.ensures.cases.0

pub returns-in-None-clause-terms : goal.returns-in-None-clause-terms
returns-in-None-clause-terms c = record {
  grew = c.premises.invariant.grew;
  full = tt;
}

pub returns-in-None-clause-are : goal.returns-in-None-clause-are
returns-in-None-clause-are c = never

pub returns-in-None-clause-stand : goal.returns-in-None-clause-stand
returns-in-None-clause-stand c = never

pub returns-clause-terms : goal.returns-clause-terms
returns-clause-terms c = record {
  grew = c.premises.invariant.grew;
  full = tt;
}

pub returns-clause-are : goal.returns-clause-are
returns-clause-are c = λ q.
    let es = c.args.cx.now.entries in
    let rs = steps_say es c.args.steps.now in
    let places = empty-of c.premises.left_places.now (sym c.is_empty.ensures ∙ q) in
    let left = none-left c.premises.left.now c.in_default.ensures.cases in
    c.premises.invariant.are (ap (at_places rs) places ∙ ap (terms_of es) (sym left))

pub returns-clause-stand : goal.returns-clause-stand
returns-clause-stand c = λ q.
    let es = c.args.cx.now.entries in
    let rs = steps_say es c.args.steps.now in
    let left = none-left c.premises.left.now c.in_default.ensures.cases in
    c.premises.invariant.stand (subst (λ l. Every (λ (p : Reference). In p (take c.args.allowed rs)) (terms_of es l)) (sym left) tt)
