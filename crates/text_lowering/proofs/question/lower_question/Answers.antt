use Rattle.std.proofs.Common.{◌-◌, subst, IfOk}
use Rattle.text_tables.specs.Views.{question_of}
use Rattle.text_lowering.specs.Questions.{IsLowered}
use Rattle.text_lowering.proofs.Unknowns.{row-read}
use Rattle.text_lowering.proofs.question.lower_question.Goals as goal

pub lower_entry-requires-clause-asked : goal.lower_entry-requires-clause-asked
lower_entry-requires-clause-asked c =
    let n = c.args.number - 1 in
    let rows = c.question_entries-entries.result.now in
    let r = c.index-entries-number.result in
    c.question_entries-entries.ensures.asked n r (row-read question_of rows c.args.workspace.now.questions n c.requires.0 r c.question_entries-entries.ensures.items c.requires.1.there c.index-entries-number.is).0

pub lower_entry-requires-clause-clauses : goal.lower_entry-requires-clause-clauses
lower_entry-requires-clause-clauses c =
    let n = c.args.number - 1 in
    let rows = c.question_entries-entries.result.now in
    let r = c.index-entries-number.result in
    c.question_entries-entries.ensures.clauses n r (row-read question_of rows c.args.workspace.now.questions n c.requires.0 r c.question_entries-entries.ensures.items c.requires.1.there c.index-entries-number.is).0

pub returns-clause-lowered : goal.returns-clause-lowered
returns-clause-lowered c = λ q h.
    let n = c.args.number - 1 in
    let rows = c.question_entries-entries.result.now in
    let r = c.index-entries-number.result in
    let same = (row-read question_of rows c.args.workspace.now.questions n q r c.question_entries-entries.ensures.items h.there c.index-entries-number.is).1 in
    subst (λ y. IfOk c.lower_entry.result (λ lowered. IsLowered c.lower_entry.new.cx.entries y lowered)) same c.lower_entry.ensures.lowered
