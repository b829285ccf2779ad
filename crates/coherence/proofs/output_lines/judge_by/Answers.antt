use Rattle.std.proofs.Common.{◌∙◌, sym}
use Rattle.std.proofs.lemmas.Result.{err_from_is_err_and}
use Rattle.sessions.specs.Promised.Given.{verdict_in}
use Rattle.sessions.specs.Promised.Promises.{IsVerdictOf}
use Rattle.coherence.proofs.Answered.{verdict-of}
use Rattle.coherence.proofs.FullTables.{handed-on}
use Rattle.coherence.proofs.KeptLines.{stays-on, still}
use Rattle.coherence.proofs.Named.{names}
use Rattle.coherence.proofs.output_lines.judge_by.Goals as goal

pub verdict_line-requires-clause-named : goal.verdict_line-requires-clause-named
verdict_line-requires-clause-named g c =
    let s = c.args.session.now in
    let d = c.args.workspace.now in
    let v = verdict_in c.check_crate.new.self.terms c.in_ok-verdict.verdict in
    rw c.interner.ensures.terms (names s.depth d c.args.id.index v c.requires.numbered (verdict-of s d c.args.id.index v c.requires.on c.requires.of_crate c.in_ok-verdict.ensures.verdict))

pub judged-requires-clause-verdict : goal.judged-requires-clause-verdict
judged-requires-clause-verdict g c =
    let v = verdict_in c.check_crate.new.self.terms c.in_ok-verdict.verdict in
    still (λ d k limit. IsVerdictOf limit d k v) c.args.session.now c.check_crate.new.self c.in_ok-verdict.ensures.stays c.in_ok-verdict.ensures.verdict

pub returns-in_err-keep_answers-clause-full : goal.returns-in_err-keep_answers-clause-full
returns-in_err-keep_answers-clause-full g c =
    let p = err_from_is_err_and c.from_residual-in_err-keep_answers.result c.from_residual-in_err-keep_answers.ensures.1 in
    rw p.1 (λ e. c.in_err-keep_answers.ensures.full (sym p.2 ∙ e))

pub returns-in_err-verdict-clause-full : goal.returns-in_err-verdict-clause-full
returns-in_err-verdict-clause-full g c = handed-on c.check_crate.new.self c.from_residual.result c.in_err-verdict.field-0.0 c.from_residual.ensures.1 c.in_err-verdict.ensures.full

pub returns-clause-stays : goal.returns-clause-stays
returns-clause-stays g c = stays-on _ _ _ (stays-on _ _ _ c.in_ok-verdict.ensures.stays c.judged.ensures) c.in_ok-keep_answers.ensures.stays
