use Rattle.std.proofs.Common.{ℕ, List, Ok, ◌≡◌, ◌<◌, length, subst, ◌∙◌, ap, arith, Vec, Global}
use Rattle.std.specs.Prelude.{IfSome}
use Rattle.std.proofs.lemmas.Option.{slice_get_within}
use Rattle.std.proofs.lemmas.Result.{IfOk-weaker}
use Rattle.coherence.specs.KeptLines.{HasKeptLineAt}
use Rattle.coherence.specs.LineByLine.{IsLineAt}
use Rattle.coherence.specs.LineSources.{lines_given}
use Rattle.coherence.specs.declared.kept.KeptLine.{KeptLine}
use Rattle.coherence.proofs.SourceLines.{check-next, question-next, none-left, some-weaker}
use Rattle.coherence.proofs.output_lines.next_kept.Goals as goal

pub returns-in-Some-clause-line : goal.returns-in-Some-clause-line
returns-in-Some-clause-line c = λ limit kept.
    let d = c.args.answers.now.workspace in
    let g = c.args.given.now in
    let lines = c.args.answers.now.kept in
    let text = c.in-Some.line.items in
    let found = subst (λ o. IfSome o (λ (v : Vec ℕ Global). HasKeptLineAt c.deref.result.now g.checks v.items)) c.in-Some.is c.in_ok-line.ensures.line in
    let at : HasKeptLineAt lines.checks.items g.checks text = subst (λ (ls : List KeptLine). HasKeptLineAt ls g.checks text) c.deref.ensures.value found in
    let within : g.checks < length d.checks = omega (arith, slice_get_within lines.checks.items g.checks at.0 at.1, c.requires.room.checks) in
    check-next d g c.requires.order limit lines text c.requires.numbered c.requires.judged kept within at

pub returns-clause-line : goal.returns-clause-line
returns-clause-line c = λ limit kept.
    let d = c.args.answers.now.workspace in
    let g = c.args.given.now in
    let lines = c.args.answers.now.kept in
    let all : g.checks ≡ length d.checks =
    none-left (length c.deref.result.now) g.checks c.next_line.new.place c.in_ok-line.field-0 c.in_default.is c.in_ok-line.ensures.counts ∙ ap (λ (ls : List KeptLine). length ls) c.deref.ensures.value ∙ c.requires.room.checks in
    let told = λ (text : List ℕ). HasKeptLineAt c.deref-2.result.now g.questions text in
    let is = λ (text : List ℕ). IsLineAt limit (Ok d) (lines_given g) text in
    let each : (text : List ℕ) → told text → is text =
    λ text at. question-next d g c.requires.order limit lines text c.requires.numbered c.requires.judged all kept (subst (λ (ls : List KeptLine). HasKeptLineAt ls g.questions text) c.deref-2.ensures.value at) in
    IfOk-weaker c.next_line-2.result (λ next. IfSome next (λ (v : Vec ℕ Global). told v.items)) (λ next. IfSome next (λ (v : Vec ℕ Global). is v.items))
    (λ next found. some-weaker (λ (v : Vec ℕ Global). v.items) told is next each found) c.next_line-2.ensures.line
