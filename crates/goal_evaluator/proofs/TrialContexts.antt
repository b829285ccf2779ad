-- Contexts that are ready.
use Rattle.std.proofs.Common.{◌≡◌, List, [], sym, subst}
use Rattle.type_terms.specs.Promised.Handles.{Entry}
use Rattle.type_terms.specs.Promised.Handles.{ArgsHeld}
use Rattle.infer_table.specs.Content.{Ready}
use Rattle.goal_evaluator.specs.Lists.{Every}
use Rattle.goal_evaluator.specs.Readings.{ResultHeld}
use Rattle.goal_evaluator.specs.Context.{Context, NestedHeld, IsReadyContext}

-- one with neither goals nor replies
pub ready-begun : (es : List Entry) (c : Context) → c.nested ≡ [] → c.replies ≡ [] → Ready es c.table → ArgsHeld es c.values → IsReadyContext es c
ready-begun es c e f r h = record { table = r; values = h; nested = subst (NestedHeld es) (sym e) tt; replies = subst (Every (ResultHeld es)) (sym f) tt }

-- one that has heard these replies
pub ready-heard : (es : List Entry) (c d : Context) → d ≡ record c { replies = d.replies; capacity = d.capacity } → IsReadyContext es c → Every (ResultHeld es) d.replies → IsReadyContext es d
ready-heard es c d e r h =
    let there : IsReadyContext es (record c { replies = d.replies; capacity = d.capacity }) = record { table = r.table; values = r.values; nested = r.nested; replies = h } in
    subst (IsReadyContext es) (sym e) there
