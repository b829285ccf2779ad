use Rattle.std.proofs.Common.{◌<◌, length, subst, sym}
use Rattle.text_lines.specs.Views.{params_in}
use Rattle.text_tables.specs.Tables.{declared}
use Rattle.text_tables.specs.Views.{asker_of}
use Rattle.text_parser.proofs.Queried.{asks-this, no-fault}
use Rattle.text_parser.proofs.query_line.asked_line.Goals as goal

pub returns : goal.returns
returns c =
    let d = declared c.args.tables.now in
    let made = c.in_ok-entry.ensures in (
      no-fault d c.args.read.now c.requires.judged.faultless,
      record { asked = made.asked_made; clauses = made.clauses_made; asker = subst (λ a. asker_of a < length d.crates) (sym made.how) c.requires.asker },
      asks-this d c.args.read.now c.args.asked_how (params_in c.args.params.now) c.in_ok-entry.entry c.requires.line made.how made.entry,
    )
