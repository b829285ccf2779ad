use Rattle.std.proofs.Common.{sym, ◌∙◌, subst}
use Rattle.type_terms.specs.Promised.Proofs.{In}
use Rattle.declarations.specs.Items.{declared}
use Rattle.declarations.specs.Promised.Elaboration.{Each}
use Rattle.declarations.proofs.Growth.{reference-kept}
use Rattle.proof_checker.specs.Steps.{term_of, terms_of, steps_say, StepHeld}
use Rattle.proof_checker.proofs.Results.{mapped, not-ok, never}
use Rattle.proof_checker.proofs.Later.{term-same}
use Rattle.proof_checker.proofs.Moved.{concludes, last-said}
use Rattle.type_terms.proofs.Grown.{grew-on}
use Rattle.type_terms.proofs.FailFacts.{at-limit}
use Rattle.proof_checker.proofs.checker.is_proof_of.Goals as goal
use Rattle.declarations.proofs.Basics.{each-end}

pub are_one-requires-clause-one : goal.are_one-requires-clause-one
are_one-requires-clause-one c =
    let P = StepHeld c.args.cx.now.entries in
    let held = each-end P c.in-Some.field-0-1.now c.in-Some.last.now (subst (Each P) c.in-Some.ensures.cases.0 c.requires.steps) in
    reference-kept c.args.cx.now.entries c.is_proof.new.cx.entries c.is_proof.ensures.terms.grew.keeps c.in-Some.last.now.reference held.0

pub returns-in-Some-clause-proof : goal.returns-in-Some-clause-proof
returns-in-Some-clause-proof c =
    let es = c.args.cx.now.entries in
    let fs = c.is_proof.new.cx.entries in
    let k = c.is_proof.ensures.terms.grew.keeps in
    let ss = c.args.steps.now in
    let W = declared es c.args.declarations.now in
    let E = terms_of es c.args.clauses.now in
    let front = c.in-Some.field-0-1.now in
    let last = c.in-Some.last.now in
    let back = c.in-Some.ensures.cases.0 in
    let held = each-end (StepHeld es) front last (subst (Each (StepHeld es)) back c.requires.steps) in
    let proof = c.in_ok-is_proof.ensures.proof c.if-not-branch.false in
    mapped _ _ c.are_one.result
    (λ b one q.
    concludes es W E (term_of es c.args.asked) ss proof
    (subst (λ t. In t (steps_say es ss)) (sym (term-same es fs k last.reference held.0) ∙ one q ∙ term-same es fs k c.args.asked c.requires.asked) (last-said es ss front last back)))
    c.are_one.ensures.one

pub is_proof-requires-clause-declared : goal.is_proof-requires-clause-declared
is_proof-requires-clause-declared c = c.requires.declared

pub is_proof-requires-clause-covered : goal.is_proof-requires-clause-covered
is_proof-requires-clause-covered c = c.requires.covered

pub is_proof-requires-clause-bounds : goal.is_proof-requires-clause-bounds
is_proof-requires-clause-bounds c = c.requires.bounds

pub is_proof-requires-clause-clauses : goal.is_proof-requires-clause-clauses
is_proof-requires-clause-clauses c = c.requires.clauses

pub is_proof-requires-clause-steps : goal.is_proof-requires-clause-steps
is_proof-requires-clause-steps c = c.requires.steps

pub returns-in_err-is_proof-clause-terms : goal.returns-in_err-is_proof-clause-terms
returns-in_err-is_proof-clause-terms c = record {
  grew = c.is_proof.ensures.terms.grew;
  full = at-limit c.from_residual.result c.from_residual.ensures.1 c.in_err-is_proof.ensures.terms.full;
}

pub returns-in_err-is_proof-clause-proof : goal.returns-in_err-is_proof-clause-proof
returns-in_err-is_proof-clause-proof c = not-ok _ _ c.from_residual.result c.from_residual.ensures.1

pub returns-then-not-branch-clause-terms : goal.returns-then-not-branch-clause-terms
returns-then-not-branch-clause-terms c = record {
  grew = c.is_proof.ensures.terms.grew;
  full = tt;
}

pub returns-then-not-branch-clause-proof : goal.returns-then-not-branch-clause-proof
returns-then-not-branch-clause-proof c = never

pub are_one-requires-clause-other : goal.are_one-requires-clause-other
are_one-requires-clause-other c = reference-kept c.args.cx.now.entries c.is_proof.new.cx.entries c.is_proof.ensures.terms.grew.keeps c.args.asked c.requires.asked

pub returns-in-Some-clause-terms : goal.returns-in-Some-clause-terms
returns-in-Some-clause-terms c = record {
  grew = grew-on c.is_proof.ensures.terms.grew c.are_one.ensures.terms.grew;
  full = c.are_one.ensures.terms.full;
}

pub returns-in-None-clause-terms : goal.returns-in-None-clause-terms
returns-in-None-clause-terms c = record {
  grew = c.is_proof.ensures.terms.grew;
  full = tt;
}

pub returns-in-None-clause-proof : goal.returns-in-None-clause-proof
returns-in-None-clause-proof c = never
