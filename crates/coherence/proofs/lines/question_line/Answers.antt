use Rattle.sessions.specs.TextTables.declared.declared.Asked.TheVariants.{Prove, Refute}
use Rattle.coherence.proofs.Places.{asking, proof-asked, refutation-asked}
use Rattle.coherence.proofs.lines.question_line.Goals as goal
use Rattle.coherence.proofs.lines.question_line.Goals.{in-Prove+in_ok-line-in-Prove, in-Refute+in_ok-line-in-Refute}

pub prove_line-requires-clause-asked : goal.prove_line-requires-clause-asked
prove_line-requires-clause-asked g c =
    let d = c.args.workspace.now in
    let a = c.requires.asked in
    (a.0, proof-asked d c.args.session.now.of_crate c.args.place a.0 a.1 a.2 (asking d c.questions.result.now c.questions.ensures c.args.place _ (Prove c.in-Prove.field-0) c.in-Prove.is a.0 a.1))

pub refute_line-requires-clause-asked : goal.refute_line-requires-clause-asked
refute_line-requires-clause-asked g c =
    let d = c.args.workspace.now in
    let a = c.requires.asked in
    (a.0, refutation-asked d c.args.session.now.of_crate c.args.place a.0 a.1 a.2 (asking d c.questions.result.now c.questions.ensures c.args.place _ (Refute c.in-Refute.field-0) c.in-Refute.is a.0 a.1))

pub returns-clause-line : goal.returns-clause-line
returns-clause-line g c =
    let d = c.args.workspace.now in
    let a = c.requires.asked in
    elim c.match-questions-place.branch [
      | in-Prove+in_ok-line-in-Prove w ↦
          let asks = proof-asked d c.args.session.now.of_crate c.args.place a.0 a.1 a.2 (asking d c.questions.result.now c.questions.ensures c.args.place _ (Prove w.in-Prove.field-0) w.in-Prove.is a.0 a.1) in
          let line = w.in_ok-line-in-Prove.ensures.line a.0 asks in
          (a.0, a.1, (line.0, line.1, rw w.line-is line.2))
      | in-Refute+in_ok-line-in-Refute w ↦
          let asks = refutation-asked d c.args.session.now.of_crate c.args.place a.0 a.1 a.2 (asking d c.questions.result.now c.questions.ensures c.args.place _ (Refute w.in-Refute.field-0) w.in-Refute.is a.0 a.1) in
          let line = w.in_ok-line-in-Refute.ensures.line a.0 asks in
          (a.0, a.1, (line.0, line.1, rw w.line-is line.2))
    ]
