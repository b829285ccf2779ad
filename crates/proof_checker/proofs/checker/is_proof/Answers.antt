use Rattle.std.proofs.Common.{◌≡◌, ◌<◌, ◌++◌, inl, inr, ap, sym, ◌∙◌, subst, Some, arith}
use Rattle.std.specs.Prelude.{IfSome}
use Rattle.std.specs.List.{slice_get}
use Rattle.type_terms.specs.Promised.Proofs.{In}
use Rattle.type_terms.proofs.Grown.{grew-on}
use Rattle.declarations.specs.Items.{declared}
use Rattle.declarations.specs.Held.{ReferenceHeld}
use Rattle.declarations.proofs.Growth.{reference-kept, each-kept}
use Rattle.proof_checker.specs.declared.steps.Step.{Step}
use Rattle.proof_checker.specs.Checked.{StepHasRule, PremisesStand}
use Rattle.proof_checker.specs.Steps.{terms_of, steps_say, at_places, assumed_in, StepHeld}
use Rattle.proof_checker.proofs.Places.{each-at}
use Rattle.proof_checker.proofs.Later.{steps-kept, say-same, term-same, terms-same, assumed-same}
use Rattle.proof_checker.proofs.Ends.{StepFollows, get-below, are-proof, moved, one-more-place}
use Rattle.proof_checker.proofs.Results.{not-ok, never}
use Rattle.type_terms.proofs.FailFacts.{at-limit}
use Rattle.proof_checker.proofs.checker.is_proof.Goals as goal

pub is_step-requires-clause-declared : goal.is_step-requires-clause-declared
is_step-requires-clause-declared c = c.declarations_are_kept.ensures.held c.args.cx.now.entries c.steps.cx.entries c.args.declarations.now c.steps.invariant.grew.keeps c.requires.declared

pub is_step-requires-clause-covered : goal.is_step-requires-clause-covered
is_step-requires-clause-covered c = λ i h.
    let same = c.declarations_are_kept.ensures.written c.args.cx.now.entries c.steps.cx.entries c.args.declarations.now c.steps.invariant.grew.keeps c.requires.declared in
    c.requires.covered i (subst (λ V. In i V.impls) same h)

pub is_step-requires-clause-clauses : goal.is_step-requires-clause-clauses
is_step-requires-clause-clauses c =
    let es = c.args.cx.now.entries in
    let now = c.steps.cx.entries in
    each-kept (ReferenceHeld es) (ReferenceHeld now) (λ r h. reference-kept es now c.steps.invariant.grew.keeps r h) c.args.clauses.now c.requires.clauses

pub is_step-requires-clause-steps : goal.is_step-requires-clause-steps
is_step-requires-clause-steps c = steps-kept c.args.cx.now.entries c.steps.cx.entries c.steps.invariant.grew.keeps c.args.steps.now c.requires.steps

pub steps-preserved : goal.steps-preserved
steps-preserved c =
    let es = c.args.cx.now.entries in
    let now = c.steps.cx.entries in
    let inv = c.steps.invariant in
    let d = c.args.declarations.now in
    let cl = c.args.clauses.now in
    let ss = c.args.steps.now in
    let n = c.steps.place in
    let W = declared es d in
    let E = terms_of es cl ++ assumed_in es ss in
    let rs = steps_say es ss in
    let now_say = steps_say now ss in
    let now_all = terms_of now cl ++ assumed_in now ss in
    let V = declared now d in
    let q = c.if-not-branch.false in
    let both : now_all ≡ E = ap (λ l. l ++ assumed_in now ss) (terms-same es now inv.grew.keeps cl c.requires.clauses) ∙ ap (λ l. terms_of es cl ++ l) (assumed-same es now inv.grew.keeps ss c.requires.steps) in
    let here : (s : Step) → slice_get ss n ≡ Some s → StepFollows W E es rs n s =
    λ s e.
    let held = each-at (StepHeld es) ss n s c.requires.steps e in
    moved V W now_all E now es now_say rs n s
    (c.declarations_are_kept.ensures.declares es now d inv.grew.keeps c.requires.declared) both (term-same es now inv.grew.keeps s.reference held.0)
    (say-same es now inv.grew.keeps ss c.requires.steps)
    (record {
      rule = subst (λ o. IfSome o (StepHasRule V now_all now now_say)) e (c.in_ok-is_step.ensures.rule q);
      stand = subst (λ o. IfSome o (λ (t : Step). PremisesStand V now_say n t.reference.def_id.index (at_places now_say t.premises.items))) e (c.in_ok-is_step.ensures.stand q);
    }) in
    record {
      grew = grew-on inv.grew c.is_step.ensures.terms.grew;
      follow = λ i s h g. elim (one-more-place i n h) [
        | inl m ↦ inv.follow i s m g
        | inr m ↦ subst (λ k. StepFollows W E es rs k s) (sym m) (here s (subst (λ k. slice_get ss k ≡ Some s) m g))
      ];
    }

pub returns-clause-proof : goal.returns-clause-proof
returns-clause-proof c = λ _.
    are-proof c.args.cx.now.entries (declared c.args.cx.now.entries c.args.declarations.now) (terms_of c.args.cx.now.entries c.args.clauses.now) c.args.steps.now
    (λ i s e. let b = get-below c.args.steps.now i s e in let t = c.steps-test.false in let l : i < c.steps.place = omega (arith, b, t) in c.steps.invariant.follow i s l e)

pub returns-then-not-branch-clause-terms : goal.returns-then-not-branch-clause-terms
returns-then-not-branch-clause-terms c = record {
  grew = grew-on c.steps.invariant.grew c.is_step.ensures.terms.grew;
  full = tt;
}

pub returns-then-not-branch-clause-proof : goal.returns-then-not-branch-clause-proof
returns-then-not-branch-clause-proof c = never

pub returns-in_err-is_step-clause-terms : goal.returns-in_err-is_step-clause-terms
returns-in_err-is_step-clause-terms c = record {
  grew = grew-on c.steps.invariant.grew c.is_step.ensures.terms.grew;
  full = at-limit c.from_residual.result c.from_residual.ensures.1 c.in_err-is_step.ensures.terms.full;
}

pub returns-in_err-is_step-clause-proof : goal.returns-in_err-is_step-clause-proof
returns-in_err-is_step-clause-proof c = not-ok _ _ c.from_residual.result c.from_residual.ensures.1

pub returns-clause-terms : goal.returns-clause-terms
returns-clause-terms c = record {
  grew = c.steps.invariant.grew;
  full = tt;
}
