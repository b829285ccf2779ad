use Rattle.sessions.specs.TextTables.declared.declared.Asked.TheVariants.{Prove, Refute}
use Rattle.coherence.proofs.Places.{asked-at}
use Rattle.coherence.proofs.groups.asker_at.Goals as goal

pub returns-in-Prove : goal.returns-in-Prove
returns-in-Prove c =
    let q = asked-at c.args.workspace.now c.questions.result.now c.questions.ensures c.args.place c.requires _ (Prove c.in-Prove.asker) c.in-Prove.is in
    (q.0, q.1, q.3)

pub returns-in-Refute : goal.returns-in-Refute
returns-in-Refute c =
    let q = asked-at c.args.workspace.now c.questions.result.now c.questions.ensures c.args.place c.requires _ (Refute c.in-Refute.asker) c.in-Refute.is in
    (q.0, q.1, q.3)
