use Rattle.std.proofs.Common.{◌∙◌}
use Rattle.coherence.proofs.ImplNumbers.{in-crate}
use Rattle.coherence.proofs.impl_numbers.number_in_crate.Goals as goal

pub returns : goal.returns
returns c = c.count_in_crate.ensures ∙ in-crate c.args.workspace.now c.impls.result.now c.args.id.index _ c.impls.ensures.items c.impl_place.ensures.home
