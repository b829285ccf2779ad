use Rattle.std.proofs.Common.{sym, subst}
use Rattle.sessions.specs.TypeTerms.Kept.{args-held-later}
use Rattle.explain_traces.proofs.Walks.{references-later}
use Rattle.sessions.proofs.ProofChecker.Later.{steps-kept}
use Rattle.sessions.specs.Shown.{AreProofOfBound}
use Rattle.sessions.specs.Promised.Subjects.{AsksProof}
use Rattle.explain_sessions.proofs.LaterProofs.{proof-later}
use Rattle.explain_sessions.proofs.explained.explain_proof.Goals as goal

pub is_proof_of-requires-clause-values : goal.is_proof_of-requires-clause-values
is_proof_of-requires-clause-values c = args-held-later c.args.session.now.terms c.find_proof.new.session.terms c.find_proof.ensures.stays.terms c.args.values.now c.requires.values

pub returns-clause-proof : goal.returns-clause-proof
returns-clause-proof c = λ q asks t.
    let old = c.args.session.now in
    let mid = c.find_proof.new.session in
    let same = c.find_proof.ensures.stays in
    let ss = c.in_ok-found.found.steps.items in
    let there = subst (λ d. AsksProof d mid.of_crate c.args.number q) (sym same.declarations) (subst (λ k. AsksProof old.declarations k c.args.number q) (sym same.of_crate) asks) in
    let by = c.in_ok-found-2.ensures.proof q there t in
    let here = subst (λ d. AreProofOfBound d q c.args.bound mid.terms ss) same.declarations (subst (AreProofOfBound mid.declarations q c.args.bound mid.terms) c.deref.ensures.value by) in
    let shown = here.2 in (
      here.0,
      here.1,
      record {
        values = shown.values;
        fit = shown.fit;
        proof = proof-later mid.terms c.is_proof_of.new.self.terms c.is_proof_of.ensures.stays.terms _ _ _ ss c.in_ok-found.ensures.held.steps shown.proof;
      },
    )

pub returns-clause-held : goal.returns-clause-held
returns-clause-held c =
    let mid = c.find_proof.new.session.terms in
    let new = c.is_proof_of.new.self.terms in
    let k = c.is_proof_of.ensures.stays.terms in
    record {
      walked = references-later mid new k c.in_ok-found.found.walk.references.items c.in_ok-found.ensures.held.walked;
      steps = steps-kept mid new k c.in_ok-found.found.steps.items c.in_ok-found.ensures.held.steps;
    }
