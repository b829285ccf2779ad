use Rattle.std.proofs.Common.{ap, ◌∙◌, Err}
use Rattle.term_folds.specs.declared.instantiate.InstantiateError.TheVariants as error
use Rattle.overlap_check.proofs.header.folded_instance.Goals as goal

pub returns-in-Err-Fault-clause-terms : goal.returns-in-Err-Fault-clause-terms
returns-in-Err-Fault-clause-terms c = record {
  grew = c.instantiate.ensures.grew;
  full = λ q. c.in-Err-Fault.ensures.full (ap Err (c.in-Err-Fault.field-0-is ∙ ap error.Fault q));
}
