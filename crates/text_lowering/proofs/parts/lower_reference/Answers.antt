use Rattle.std.proofs.Common.{◌≡◌, arith, ap, sym, subst, ◌∙◌}
use Rattle.std.specs.Prelude.{IfOk}
use Rattle.std.specs.List.{list_all}
use Rattle.type_terms.specs.Promised.Worlds.{Reference}
use Rattle.declarations.specs.Items.{reference_in}
use Rattle.text_tables.specs.TermCounts.{reference_terms}
use Rattle.text_tables.specs.Views.{reference_of}
use Rattle.text_lowering.specs.PlainCells.{is_kept, is_without_lifetimes}
use Rattle.text_lowering.proofs.Counts.{plain-terms}
use Rattle.text_lowering.proofs.PlainLists.{reference-stays}
use Rattle.text_lowering.proofs.parts.lower_reference.Goals as goal

pub returns-then-are_without_lifetimes-clause-is : goal.returns-then-are_without_lifetimes-clause-is
returns-then-are_without_lifetimes-clause-is c =
    let bare = ap (list_all is_without_lifetimes) (sym c.deref.ensures.value) ∙ sym c.are_without_lifetimes.ensures ∙ c.if-are_without_lifetimes.true in
    subst (λ (x : Reference). IfOk c.lower_as_written.result (λ trait_ref. reference_in c.lower_as_written.new.cx.entries trait_ref ≡ x))
    (reference-stays (is_kept c.args.kept) c.args.cells.now bare) c.lower_as_written.ensures.is

pub returns-clause-few : goal.returns-clause-few
returns-clause-few c =
    let same = ap reference_terms c.in_ok-plain.ensures.is ∙ plain-terms (is_kept c.args.kept) (reference_of c.args.cells.now) in
    omega (arith, same, c.lower_as_written-2.ensures.few)
