use Rattle.std.proofs.Common.{subst, sym, ap, ◌∙◌, Err, arith}
use Rattle.type_terms.specs.Promised.Handles.{Is}
use Rattle.type_terms.specs.Terms.{args_lists}
use Rattle.type_terms.proofs.Grown.{grew-on}
use Rattle.type_terms.proofs.FailFacts.{at-limit}
use Rattle.text_tables.specs.Made.{is_arg}
use Rattle.text_tables.specs.Stack.{StackHeld, AllParts}
use Rattle.text_tables.proofs.Lowering.{args-held}
use Rattle.text_tables.proofs.CellCounts.{joined-cells-are-few}
use Rattle.text_tables.proofs.CellLists.{all-parts, args-are, stack-held}
use Rattle.text_tables.proofs.Counting.{at-most-one, none-added}
use Rattle.text_tables.proofs.Refusals.{refused-term}
use Rattle.text_tables.proofs.lists.lower_args.Goals as goal

pub args_in-requires : goal.args_in-requires
args_in-requires c = subst (AllParts is_arg) (sym c.deref.ensures.value) (all-parts is_arg c.args.cells.now c.in_ok-stack.stack.items c.requires c.in_ok-stack.ensures.parts)

pub mk_args-requires : goal.mk_args-requires
mk_args-requires c =
    let es = c.lower_cells.new.cx.entries in
    args-held es c.in_ok-list.list.items (subst (StackHeld es) (sym (c.in_ok-list.ensures ∙ c.deref.ensures.value)) (stack-held es c.in_ok-stack.stack.items c.in_ok-stack.ensures.held))

pub returns-clause-is : goal.returns-clause-is
returns-clause-is c =
    let es = c.lower_cells.new.cx.entries in
    subst (λ t. Is c.mk_args.new.self.entries args_lists c.in_ok-args.args.0 t)
    (args-are es c.args.cells.now c.in_ok-stack.stack.items c.in_ok-list.list.items c.in_ok-stack.ensures.trees (c.in_ok-list.ensures ∙ c.deref.ensures.value)) c.in_ok-args.ensures.is

pub returns-in_err-stack-clause-terms : goal.returns-in_err-stack-clause-terms
returns-in_err-stack-clause-terms c = record { grew = c.lower_cells.ensures.terms.grew; full = at-limit c.from_residual.result c.from_residual.ensures.1 c.in_err-stack.ensures.terms.full }

pub returns-in_err-args-clause-terms : goal.returns-in_err-args-clause-terms
returns-in_err-args-clause-terms c =
    let refused = c.in_err-args.ensures in
    record { grew = grew-on c.lower_cells.ensures.terms.grew c.mk_args.ensures.grew; full = refused-term args_lists c.from_residual-in_err-args.result (omega arith) c.from_residual-in_err-args.ensures.1 (λ q. refused.full (ap Err q)) refused.grew.limit refused.refused }

pub returns-in_err-stack-clause-few : goal.returns-in_err-stack-clause-few
returns-in_err-stack-clause-few c = let cells = joined-cells-are-few is_arg c.args.cells.now c.requires in omega (arith, cells, c.lower_cells.ensures.few)

pub returns-in_err-list-clause-few : goal.returns-in_err-list-clause-few
returns-in_err-list-clause-few c = let cells = joined-cells-are-few is_arg c.args.cells.now c.requires in omega (arith, cells, c.lower_cells.ensures.few)

pub returns-in_err-args-clause-few : goal.returns-in_err-args-clause-few
returns-in_err-args-clause-few c =
    let same = none-added c.in_err-args.ensures.refused in
    let cells = joined-cells-are-few is_arg c.args.cells.now c.requires in
    omega (arith, same, cells, c.lower_cells.ensures.few)

pub returns-clause-few : goal.returns-clause-few
returns-clause-few c =
    let one = at-most-one c.in_ok-args.ensures.adds in
    let cells = joined-cells-are-few is_arg c.args.cells.now c.requires in
    omega (arith, one, cells, c.lower_cells.ensures.few)
