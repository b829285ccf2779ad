use Rattle.std.proofs.Common.{◌∙◌, ap, sym}
use Rattle.std.specs.ControlFlow.{break_value}
use Rattle.text_language.specs.Names.{with_free}
use Rattle.text_printer.specs.Called.{unknowns_of}
use Rattle.type_terms.specs.Promised.Handles.{arg_trees}
use Rattle.text_tables.specs.Views.{question_of}
use Rattle.text_printer.proofs.Visiting.{visited}
use Rattle.text_printer.proofs.free.list_value.Goals as goal

pub returns-in-Break-clause-question : goal.returns-in-Break-clause-question
returns-in-Break-clause-question c = (visited c.visit_ty.ensures.visited).0

pub returns-in-Continue-clause-question : goal.returns-in-Continue-clause-question
returns-in-Continue-clause-question c = (visited c.visit_ty.ensures.visited).0

pub returns-in-Continue-clause-listed : goal.returns-in-Continue-clause-listed
returns-in-Continue-clause-listed c =
    (visited c.visit_ty.ensures.visited).1 (ap break_value c.in-Continue.is)
    ∙ ap (λ a. with_free (question_of c.args.lists.now.question.now) (arg_trees c.args.cx.now.entries a) (unknowns_of c.args.lists.now.free.items)) (sym c.in-Ty.is)
