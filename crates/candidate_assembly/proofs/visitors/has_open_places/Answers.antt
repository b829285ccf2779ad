use Rattle.std.proofs.Common.{ap, ◌∙◌, bit_and, not, ◌==◌}
use Rattle.type_terms.specs.Promised.Handles.{trees_at}
use Rattle.candidate_assembly.proofs.OpenPlaces.{flags-tell}
use Rattle.candidate_assembly.proofs.visitors.has_open_places.Goals as goal

pub returns : goal.returns
returns g c = ap (λ n. not (bit_and n 4095 == 0)) c.flags.ensures ∙ flags-tell (trees_at c.args.cx.now.entries (g.H.Handle.handle_number c.args.handle))
