use Rattle.std.proofs.Common.{◌+◌, [], ◌∷◌, ◌++◌, List, ℕ, sym, ap, ◌∙◌, subst, Result, IfOk, OnOk, Vec, Global}
use Rattle.std.specs.Io.KnownBytes.{Appends}
use Rattle.std.specs.List.{flat_map}
use Rattle.std.proofs.KnownBytes.{Appends-nil}
use Rattle.std.proofs.lemmas.Result.{err_from_is_err_and}
use Rattle.sessions.specs.TypeTerms.declared.Fault.{Fault}
use Rattle.sessions.specs.TextLanguage.Promised.Declarations.{Declarations}
use Rattle.sessions.specs.TextLanguage.Output.{output_text}
use Rattle.sessions.specs.TextLanguage.Text.{TextGives}
use Rattle.coherence.specs.LineByLine.{OutputProgress, IsAfterLine, IsLineAt}
use Rattle.coherence.specs.Promised.Told.{status_of}
use Rattle.coherence.specs.Promised.Told.{IsToldText}
use Rattle.coherence.specs.Promised.Streams.{AppendsPrefix}
use Rattle.coherence.specs.declared.status.Status.{Status}
use Rattle.coherence.proofs.FullTables.{nothing-read}
use Rattle.coherence.proofs.Told.{FirstLines, no_lines, and_line, all-lines, some-lines, all-given}
use Rattle.coherence.proofs.LineLaws.{one_more, line_prefix, whole_prefix}
use Rattle.coherence.proofs.text_run.answer_text.Goals as goal

pub loop-line-init : goal.loop-line-init
loop-line-init g c =
    let new = c.in_ok-lines.ensures in
    record {
      text = new.text;
      depth = new.depth;
      has_failed = new.has_failed;
      written = ([], subst (λ n. FirstLines c.args.limits.depth c.in_ok-lines.lines.text n []) (sym new.given) no_lines, Appends-nil _);
    }

pub returns-in_err-lines-clause-written : goal.returns-in_err-lines-clause-written
returns-in_err-lines-clause-written g c = nothing-read c.from_residual.result _ c.from_residual.ensures.1

pub returns-in_err-line-clause-written : goal.returns-in_err-line-clause-written
returns-in_err-line-clause-written g c = nothing-read c.from_residual-in_err-line.result _ c.from_residual-in_err-line.ensures.1

pub returns-in_err-line-clause-prefix : goal.returns-in_err-line-clause-prefix
returns-in_err-line-clause-prefix g c =
    let p = err_from_is_err_and c.from_residual-in_err-line.result c.from_residual-in_err-line.ensures.1 in
    let inv = c.loop-line.invariant in
    let at = c.loop-line.lines in
    let so_far = inv.written in
    rw p.1 (some-lines c.args.limits.depth c.args.text.now at.text inv.text at.given so_far.0 so_far.1 _ _ (whole_prefix _ _ _ so_far.2))

pub returns-in_err-write_text-clause-prefix : goal.returns-in_err-write_text-clause-prefix
returns-in_err-write_text-clause-prefix g c =
    let p = err_from_is_err_and c.from_residual-in_err-write_text.result c.from_residual-in_err-write_text.ensures.1 in
    let inv = c.loop-line.invariant in
    let at = c.loop-line.lines in
    let so_far = inv.written in
    let limit = c.args.limits.depth in
    let text = c.in_ok-line.field-0.items in
    let found : IsLineAt at.depth at.text at.given text = subst (λ (r : Result (Vec ℕ Global) Fault). IfOk r (λ v. IsLineAt at.depth at.text at.given v.items)) c.in_ok-line.was c.in-Some.ensures.line in
    let line : IsLineAt limit at.text at.given text = subst (λ n. IsLineAt n at.text at.given text) inv.depth found in
    let lines = and_line at.given so_far.0 line.0 so_far.1 line.1 in
    let gained = subst (λ (bytes : List ℕ). AppendsPrefix (g.W.Write.contents c.loop-line.writer) (g.W.Write.contents c.write_text.new.writer) bytes) (c.deref.ensures.value ∙ line.2) c.in_err-write_text.ensures.prefix in
    rw p.1 (some-lines limit c.args.text.now at.text inv.text (at.given + 1) (so_far.0 ++ line.0 ∷ []) lines _ _ (line_prefix _ _ _ so_far.0 line.0 so_far.2 gained))

pub loop-line-preserved : goal.loop-line-preserved
loop-line-preserved g c =
    let inv = c.loop-line.invariant in
    let at = c.loop-line.lines in
    let next = c.next_heard.new.self in
    let so_far = inv.written in
    let limit = c.args.limits.depth in
    let text = c.in_ok-line.field-0.items in
    let found : IsLineAt at.depth at.text at.given text = subst (λ (r : Result (Vec ℕ Global) Fault). IfOk r (λ v. IsLineAt at.depth at.text at.given v.items)) c.in_ok-line.was c.in-Some.ensures.line in
    let line : IsLineAt limit at.text at.given text = subst (λ n. IsLineAt n at.text at.given text) inv.depth found in
    let after : IsAfterLine at next = subst (λ (r : Result (Vec ℕ Global) Fault). OnOk r (IsAfterLine at next)) c.in_ok-line.was c.in-Some.ensures.given in
    let ls = so_far.0 ++ line.0 ∷ [] in
    let lines : FirstLines limit at.text (at.given + 1) ls = and_line at.given so_far.0 line.0 so_far.1 line.1 in
    let gained = subst (λ (bytes : List ℕ). Appends (g.W.Write.contents c.loop-line.writer) (g.W.Write.contents c.write_text.new.writer) bytes) (c.deref.ensures.value ∙ line.2) c.in_ok-write_text.ensures.whole in
    record {
      text = subst (λ (t : Result Declarations (ℕ × ℕ)). TextGives c.args.text.now t) (sym after.text) inv.text;
      depth = after.depth ∙ inv.depth;
      has_failed = after.has_failed;
      written = (ls, subst (λ n. FirstLines limit next.text n ls) (sym after.given) (subst (λ (t : Result Declarations (ℕ × ℕ)). FirstLines limit t (at.given + 1) ls) (sym after.text) lines), one_more _ _ _ so_far.0 line.0 so_far.2 gained);
    }

pub returns-clause-whole : goal.returns-clause-whole
returns-clause-whole g c =
    let inv = c.loop-line.invariant in
    let at = c.loop-line.lines in
    let so_far = inv.written in
    let end = c.next_heard.ensures.end c.in_default.is in
    let all = all-lines c.args.limits.depth c.args.text.now at.text inv.text at.given so_far.0 so_far.1 (all-given at inv.has_failed end.1) in
    let status = c.status.ensures ∙ ap (λ (p : OutputProgress). status_of p.text) end.0 in
    let text = flat_map output_text so_far.0 in
    (text, subst (λ (s : Status). IsToldText c.args.limits.depth c.args.text.now s text) (sym status) all, so_far.2)
