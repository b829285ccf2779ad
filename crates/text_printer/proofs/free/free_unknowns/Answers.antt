use Rattle.std.proofs.Common.{◌+◌, map, drop, sym, ap, ◌∙◌}
use Rattle.std.proofs.lemmas.List.{drop_all}
use Rattle.text_language.specs.Names.{free_unknowns, with_free}
use Rattle.type_terms.specs.Promised.Handles.{arg_trees}
use Rattle.text_tables.specs.Views.{question_of}
use Rattle.text_printer.specs.Called.{unknowns_of}
use Rattle.text_printer.specs.Listed.{listed_of}
use Rattle.text_printer.proofs.Listing.{list-held-at, next-left}
use Rattle.text_printer.proofs.free.free_unknowns.Goals as goal

pub list_value-requires : goal.list_value-requires
list_value-requires c = list-held-at c.args.cx.now.entries c.args.values.now c.loop-listed.listed-index c.listed-item.result c.requires c.loop-listed-test.true c.listed-item.is

pub loop-listed-preserved : goal.loop-listed-preserved
loop-listed-preserved c =
    let es = c.args.cx.now.entries in
    let vs = c.args.values.now in
    let i = c.loop-listed.listed-index in
    let x = c.listed-item.result in
    let q = question_of c.args.question.now in
    let us = unknowns_of c.loop-listed.lists.free.items in
    let inv = c.loop-listed.invariant in
    record {
      question = c.in_ok-list_value.ensures.question ∙ inv.question;
      free = inv.free ∙ ap (λ ls. free_unknowns q (map (listed_of es) ls) us) (next-left vs i x c.loop-listed-test.true c.listed-item.is)
          ∙ ap (free_unknowns q (map (listed_of es) (drop (i + 1) vs))) (ap (λ z. with_free (question_of z) (arg_trees es x.value) us) (sym inv.question) ∙ sym c.in_ok-list_value.ensures.listed);
    }

pub returns : goal.returns
returns c =
    let es = c.args.cx.now.entries in
    let us = unknowns_of c.loop-listed.lists.free.items in
    sym (c.loop-listed.invariant.free ∙ ap (λ ls. free_unknowns (question_of c.args.question.now) (map (listed_of es) ls) us) (drop_all c.loop-listed.listed-index c.args.values.now c.loop-listed-test.false))
