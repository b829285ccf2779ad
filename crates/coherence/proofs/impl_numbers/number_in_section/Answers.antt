use Rattle.std.proofs.Common.{◌∙◌}
use Rattle.coherence.proofs.ImplNumbers.{in-section}
use Rattle.coherence.proofs.impl_numbers.number_in_section.Goals as goal

pub returns : goal.returns
returns c = c.count_added.ensures ∙ in-section c.args.workspace.now c.later_impls_of-added.result.now c.args.section c.args.place c.later_impls_of-added.ensures.items
