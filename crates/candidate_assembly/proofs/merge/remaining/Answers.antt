use Rattle.candidate_assembly.proofs.Ends.{remaining-are}
use Rattle.candidate_assembly.proofs.merge.remaining.Goals as goal

pub returns : goal.returns
returns c = remaining-are c.args.cx.now.entries c.args.done.now c.first_bound_gives_none-impls.result c.holds_from.result c.first_bound_gives_none-impls.ensures c.holds_from.ensures
