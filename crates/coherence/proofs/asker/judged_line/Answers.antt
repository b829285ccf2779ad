use Rattle.sessions.specs.Promised.Given.{verdict_in}
use Rattle.coherence.proofs.Answered.{verdict-of}
use Rattle.coherence.proofs.Named.{names}
use Rattle.coherence.proofs.asker.judged_line.Goals as goal

pub verdict_line-requires-clause-named : goal.verdict_line-requires-clause-named
verdict_line-requires-clause-named c =
    let s = c.args.session.now in
    let d = c.args.workspace.now in
    let v = verdict_in c.check_crate.new.self.terms c.in_ok-verdict.verdict in
    rw c.interner.ensures.terms (names s.depth d c.args.id.index v c.requires.numbered (verdict-of s d c.args.id.index v c.requires.on c.requires.of_crate c.in_ok-verdict.ensures.verdict))
