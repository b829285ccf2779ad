use Rattle.std.proofs.Common.{◌≡◌, IfOk, ap, sym, subst, ◌∙◌}
use Rattle.std.specs.Option.{option_map}
use Rattle.text_language.specs.Promised.Syntax.{Line}
use Rattle.text_language.specs.Faults.{fault_of}
use Rattle.text_lines.specs.Lines.{ReadsLine}
use Rattle.text_lines.specs.Views.{statement_of}
use Rattle.text_names.specs.FaultNumbers.{fault_number}
use Rattle.text_names.specs.Judged.{fault_in, HandsOn}
use Rattle.text_names.specs.Speaks.{Speaks}
use Rattle.text_tables.specs.Tables.{declared}
use Rattle.text_parser.specs.BareLines.{bare_line}
use Rattle.text_parser.specs.Sights.{sight_of}
use Rattle.text_parser.proofs.Ordering.{Ordered, line-ordered, speaks-bare}
use Rattle.text_parser.proofs.Sighted.{sighted, same-sight}
use Rattle.text_parser.proofs.faults.judge_line.Goals as goal

pub new-requires-2 : goal.new-requires-2
new-requires-2 c = record { ordered = subst Ordered (sym c.requires.line.1.0) (line-ordered c.requires.line.0) }

pub judge_line-requires : goal.judge_line-requires
judge_line-requires c =
    subst (λ s. Speaks (bare_line (statement_of s)) (statement_of c.args.read.now.statement)) (sym c.in_ok-names.ensures.statement)
    (speaks-bare (statement_of c.args.read.now.statement) (subst Ordered (sym c.requires.line.1.0) (line-ordered c.requires.line.0)))

pub returns-clause-fault : goal.returns-clause-fault
returns-clause-fault c =
    subst (λ d. IfOk c.judge_line.result (λ judged. (l : Line) → ReadsLine l c.args.read.now → option_map fault_number (fault_in judged) ≡ fault_of d l))
    (c.in_ok-names.ensures.before ∙ c.new.ensures) c.judge_line.ensures.fault

pub returns-clause-found : goal.returns-clause-found
returns-clause-found c =
    let names = c.in_ok-names.names in
    let same = same-sight (declared c.args.tables.now) c.args.read.now (sight_of names)
    (sighted (declared c.args.tables.now) c.args.read.now (sight_of names) (c.in_ok-names.ensures.before ∙ c.new.ensures) (ap (λ x. bare_line (statement_of x)) c.in_ok-names.ensures.statement)) in
    subst (λ v. IfOk c.judge_line.result (HandsOn v c.args.read.now)) same c.judge_line.ensures.found
