use Rattle.std.proofs.Common.{arith, ap}
use Rattle.type_terms.proofs.FailFacts.{at-limit}
use Rattle.text_tables.specs.TermCells.{trees_of, joined}
use Rattle.text_tables.specs.TermCounts.{parts}
use Rattle.text_tables.specs.Views.{cells_of}
use Rattle.text_lowering.proofs.parts.lower_as_written.Goals as goal

pub returns-in_err-args-clause-terms : goal.returns-in_err-args-clause-terms
returns-in_err-args-clause-terms c = record {
  grew = c.lower_args.ensures.terms.grew;
  full = at-limit c.from_residual.result c.from_residual.ensures.1 c.in_err-args.ensures.terms.full;
}

pub returns-in_err-args-clause-few : goal.returns-in_err-args-clause-few
returns-in_err-args-clause-few c =
    let same = ap (λ xs. parts (joined (trees_of (cells_of xs)))) c.deref.ensures.value in
    omega (arith, same, c.lower_args.ensures.few)

pub returns-clause-few : goal.returns-clause-few
returns-clause-few c =
    let same = ap (λ xs. parts (joined (trees_of (cells_of xs)))) c.deref.ensures.value in
    omega (arith, same, c.lower_args.ensures.few)
