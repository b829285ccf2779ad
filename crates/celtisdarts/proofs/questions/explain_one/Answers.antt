use Rattle.celtisdarts.proofs.questions.explain_one.Goals as goal

pub speak_proof-requires-clause-proof : goal.speak_proof-requires-clause-proof
speak_proof-requires-clause-proof c = (c.args.yes.number, 0, c.in_ok-proof.ensures.proof)

pub speak_proof-requires-clause-claims : goal.speak_proof-requires-clause-claims
speak_proof-requires-clause-claims c = c.no_claims-claims.ensures c.find_proof.new.session c.in_ok-proof.proof.walk
