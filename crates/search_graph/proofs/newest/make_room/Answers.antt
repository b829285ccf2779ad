use Rattle.std.proofs.Common.{◌∙◌}
use Rattle.search_graph.proofs.Chains.{get_or_none_push}
use Rattle.search_graph.proofs.newest.make_room.Goals as goal

pub loop-newest-preserved : goal.loop-newest-preserved
loop-newest-preserved c = λ other. rw c.in_ok-push.ensures.items (get_or_none_push _ other ∙ c.loop-newest.invariant other)
