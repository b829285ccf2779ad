use Rattle.std.proofs.Common.{ap, sym, ◌∙◌, option_map}
use Rattle.infer_table.specs.Responses.{answer_trees}
use Rattle.goal_frames.specs.Stores.{asked_goal}
use Rattle.goal_frames.proofs.laws.growth_laws.Goals as goal

pub returns-clause-goals : goal.returns-clause-goals
returns-clause-goals c = λ es old new i g h. ap (option_map (asked_goal es)) (g.inputs i h.0 h.1 ∙ sym h.1)

pub returns-clause-answers : goal.returns-clause-answers
returns-clause-answers c = λ es old new i g h. ap (option_map (answer_trees es)) (g.responses i h.0 h.1 ∙ sym h.1)

pub returns-clause-same : goal.returns-clause-same
returns-clause-same c = λ s. record { inputs = λ i a h. h; responses = λ i r h. h }

pub returns-clause-further : goal.returns-clause-further
returns-clause-further c = λ a b d g h. record { inputs = λ i x e. h.inputs i x (g.inputs i x e); responses = λ i x e. h.responses i x (g.responses i x e) }
