use Rattle.std.proofs.Common.{arith, length, refl}
use Rattle.std.proofs.lemmas.Option.{slice_get_read}
use Rattle.coherence.proofs.Grouping.{question-added}
use Rattle.coherence.proofs.groups.add_question.Goals as goal

pub returns : goal.returns
returns c =
    let d = c.args.workspace.now in
    let gs = c.args.groups.now.items in
    let a = c.asker_at-asker.ensures in
    let home = c.requires.numbered.questions c.args.place a.0 a.1 in
    let within = slice_get_read gs _ c.asker_at-asker.result.index c.index_mut.result.now refl (omega (arith, home, a.2, c.requires.groups.for_each)) c.index_mut.ensures.value in
    question-added d (length d.checks) c.args.place c.asker_at-asker.result.index gs c.index_mut.result.now _ c.requires.groups a within c.in_ok-push.ensures.items refl
