-- What proof graphs of a search prove.
use Rattle.search_graph.specs.Proof.{HasGraphProof}
use Rattle.goal_evaluator.specs.Lists.{IsAmong}
use Rattle.goal_evaluator.specs.Table.{Tables}
use Rattle.goal_evaluator.specs.Proof as Lists
use Rattle.goal_frames.specs.Programs.{Programs}
use Rattle.goal_frames.specs.Searches.{GoalInMode, FollowsInMode}

-- if a goal has a proof graph, each of its instances has a proof
abbrev pub GraphsGiveProofLists : {Question Response : Type 0} (t : Tables Question Response) → Programs t → Type 0
GraphsGiveProofLists t p =
    (w : p.World) (g : GoalInMode t p) → HasGraphProof (GoalInMode t p) (FollowsInMode t p w) g → (v : t.Values) → IsAmong v (p.made_of g.1 v)
    → Lists.FactHasProof t.Fact (p.Rule w) (p.coinductive w) ((p.handled w g.0 g.1).goal v)
