use Rattle.std.proofs.Common.{ap, ◌∙◌, map}
use Rattle.sessions.specs.Promised.Given.{later_of}
use Rattle.sessions.specs.Later.{header_in, section_headers}
use Rattle.sessions.proofs.LaterChecks.{answer-grown}
use Rattle.sessions.proofs.later.later_answer.Goals as goal

pub returns-clause-answer : goal.returns-clause-answer
returns-clause-answer c =
    let new = c.added_impls.new.cx in
    answer-grown c.args.cx.now new c.requires.ready c.in_ok-impls.ensures.advances (map (header_in new.interner.entries) c.deref.result.now) (section_headers c.args.workspace.now c.args.section)
    (ap (map (header_in new.interner.entries)) c.deref.ensures.value ∙ c.in_ok-impls.ensures.headers) (later_of c.first_breaking.result) c.first_breaking.ensures
