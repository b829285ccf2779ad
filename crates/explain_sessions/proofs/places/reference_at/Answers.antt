use Rattle.sessions.proofs.ProofChecker.Ways.{get-at}
use Rattle.explain_sessions.proofs.places.reference_at.Goals as goal

pub returns-then-place-references : goal.returns-then-place-references
returns-then-place-references c = get-at c.args.references.now c.args.place c.index-references-place.result c.if-place-references.true c.index-references-place.is
