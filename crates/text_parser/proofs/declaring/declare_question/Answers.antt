use Rattle.std.proofs.lemmas.Result.{on_ok_weaker}
use Rattle.text_lines.specs.Views.{params_in}
use Rattle.text_tables.specs.Tables.{declared}
use Rattle.text_parser.proofs.Adding.{question-adds}
use Rattle.text_parser.proofs.declaring.declare_question.Goals as goal

pub returns-clause-added : goal.returns-clause-added
returns-clause-added c =
    on_ok_weaker c.add_question.result
    (question-adds (declared c.args.tables.now) (declared c.add_question.new.self) c.args.read.now c.args.asked_how (params_in c.args.params.now) c.in_ok-entry.entry c.requires.line
    c.in_ok-entry.ensures.how c.in_ok-entry.ensures.entry)
    c.add_question.ensures.added
