use Rattle.std.proofs.Common.{◌≡◌, ◌∙◌, [], map, ap, sym, subst, IfOk}
use Rattle.text_language.specs.Names as names
use Rattle.text_language.specs.Names.{valued, own_from}
use Rattle.text_printer.specs.Answers.{value_of}
use Rattle.type_terms.specs.Promised.Handles.{arg_trees}
use Rattle.text_tables.specs.Views.{question_of, variable_of}
use Rattle.text_printer.specs.Called.{unknowns_of}
use Rattle.text_printer.specs.Listed.{listed_of}
use Rattle.text_printer.proofs.NamedTexts.{all-texts}
use Rattle.text_printer.proofs.named_values.answer_values.Goals as goal

pub returns : goal.returns
returns c =
    let es = c.args.cx.now.entries in
    let q = question_of c.args.question.now in
    let ts = map (arg_trees es) c.args.values.now in
    let same = ap (map (listed_of es)) c.deref-4.ensures.value in
    let listed = same ∙ c.in_ok-listed.ensures.listed ∙ ap (λ vs. valued (map variable_of vs) (own_from 0 0 (map variable_of vs)) ts) c.deref.ensures.value in
    let free = ap unknowns_of c.deref-3.ensures.value ∙ c.in_ok-free.ensures ∙ ap (λ ls. names.free_unknowns q ls []) (ap (map (listed_of es)) c.deref-2.ensures.value ∙ sym same) in
    subst (λ t. IfOk c.value_texts.result (λ texts. map value_of texts.items ≡ t))
    (all-texts c.args.workspace.now q (map (listed_of es) c.deref-4.result.now) (unknowns_of c.deref-3.result.now) ts listed free) c.value_texts.ensures
