use Rattle.std.proofs.Common.{◌≡◌, length, map, refl, sym, ap, ◌∙◌, arith}
use Rattle.std.proofs.lemmas.List.{length-map}
use Rattle.std.proofs.lemmas.Option.{same_Some, slice_get_read, slice_get_within}
use Rattle.text_printer.specs.Answers.{value_of}
use Rattle.sessions.specs.TextLanguage.Promised.Declarations.{Question}
use Rattle.sessions.specs.TextLanguage.Names.{answer_values}
use Rattle.sessions.specs.TypeTerms.Promised.Handles.{arg_trees}
use Rattle.sessions.specs.TextTables.Views.{question_of}
use Rattle.coherence.proofs.ErasedValues.{values-same}
use Rattle.coherence.proofs.Places.{entry-of}
use Rattle.coherence.proofs.TermVariables.{term-variables}
use Rattle.sessions.proofs.GivenTexts.{text-given}
use Rattle.coherence.proofs.named_answer.named_values.Goals as goal

pub returns : goal.returns
returns c q is =
    let d = c.args.workspace.now in
    let n = c.args.number in
    let es = c.question_entries.result.now in
    let entry = c.index-question_entries-number.result in
    let terms = c.args.cx.now.entries in
    let vs = c.args.values.now in
    let many : length es ≡ length d.questions = sym (length-map es question_of) ∙ ap length c.question_entries.ensures.items in
    let within = slice_get_within d.questions _ q is.there in
    let at = slice_get_read es (length es) _ entry refl (omega arith) c.index-question_entries-number.is in
    let same : question_of entry ≡ q = same_Some _ _ (sym (entry-of question_of es d.questions c.question_entries.ensures.items _ entry at) ∙ is.there) in
    let values : map value_of c.in_ok-texts.texts.items ≡ answer_values d q (map (arg_trees terms) vs) = c.in_ok-texts.ensures ∙ ap (λ (x : Question). answer_values d x (map (arg_trees terms) vs)) same in
    let kinds = term-variables c.requires.parsed.0 d (text-given d c.requires.parsed) _ q is.there in
    values ∙ sym (values-same d q terms vs c.lawful.ensures c.requires.held kinds)
