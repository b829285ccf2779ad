use Rattle.std.proofs.Common.{arith, subst, sym, ◌∙◌}
use Rattle.type_terms.proofs.FailFacts.{at-limit}
use Rattle.text_tables.specs.Made.{is_type}
use Rattle.text_tables.specs.Stack.{StackHeld, AllParts}
use Rattle.text_tables.proofs.Lowering.{tys-held}
use Rattle.text_tables.proofs.CellCounts.{cells-are-few}
use Rattle.text_tables.proofs.CellLists.{all-parts, types-are, stack-held}
use Rattle.text_tables.proofs.lists.lower_types.Goals as goal

pub types_in-requires : goal.types_in-requires
types_in-requires c = subst (AllParts is_type) (sym c.deref.ensures.value) (all-parts is_type c.args.cells.now c.in_ok-stack.stack.items c.requires c.in_ok-stack.ensures.parts)

pub returns-clause-is : goal.returns-clause-is
returns-clause-is c =
    types-are _ c.args.cells.now c.in_ok-stack.stack.items c.in_ok-tys.tys.items c.in_ok-stack.ensures.trees (c.in_ok-tys.ensures ∙ c.deref.ensures.value)

pub returns-clause-held : goal.returns-clause-held
returns-clause-held c =
    let es = c.lower_cells.new.cx.entries in
    tys-held es c.in_ok-tys.tys.items (subst (StackHeld es) (sym (c.in_ok-tys.ensures ∙ c.deref.ensures.value)) (stack-held es c.in_ok-stack.stack.items c.in_ok-stack.ensures.held))

pub returns-in_err-stack-clause-terms : goal.returns-in_err-stack-clause-terms
returns-in_err-stack-clause-terms c = record { grew = c.lower_cells.ensures.terms.grew; full = at-limit c.from_residual.result c.from_residual.ensures.1 c.in_err-stack.ensures.terms.full }

pub returns-in_err-stack-clause-few : goal.returns-in_err-stack-clause-few
returns-in_err-stack-clause-few c = let cells = cells-are-few is_type c.args.cells.now c.requires in omega (arith, cells, c.lower_cells.ensures.few)

pub returns-in_err-tys-clause-few : goal.returns-in_err-tys-clause-few
returns-in_err-tys-clause-few c = let cells = cells-are-few is_type c.args.cells.now c.requires in omega (arith, cells, c.lower_cells.ensures.few)

pub returns-clause-few : goal.returns-clause-few
returns-clause-few c = let cells = cells-are-few is_type c.args.cells.now c.requires in omega (arith, cells, c.lower_cells.ensures.few)
