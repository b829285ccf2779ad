use Rattle.std.proofs.Common.{◌≡◌, ◌∙◌, ◌+◌, [], length, ap, Result, Err}
use Rattle.std.proofs.lemmas.Option.{none-some}
use Rattle.std.proofs.lemmas.Result.{IfOk-weaker}
use Rattle.search_graph.specs.Question.{IsFaithfulOver}
use Rattle.search_graph.specs.declared.fault.Stop.{Stop}
use Rattle.search_graph.specs.declared.fault.GraphFault.{GraphFault}
use Rattle.search_graph.specs.declared.fault.Stop.TheVariants.{Fault, Exhausted}
use Rattle.search_graph.proofs.Entries.{none_listed}
use Rattle.search_graph.proofs.Errors.{OnOk-always}
use Rattle.search_graph.proofs.Refusals.{IfOk-or}
use Rattle.search_graph.proofs.evaluation.evaluate_root.Goals as goal

given_up : {T : Type 0} (x : Stop) → x ≡ Exhausted → ◌≡◌ {A = Result T Stop} (Err x) (Err Exhausted)
given_up x is = ap (λ z. Err z) is

refused : {T U : Type 0} (x : Stop) (f k : GraphFault) → x ≡ Fault f → ◌≡◌ {A = Result U GraphFault} (Err f) (Err k) → ◌≡◌ {A = Result T Stop} (Err x) (Err (Fault k))
refused x f k is h = let e : f ≡ k = cc in ap (λ z. Err z) (is ∙ ap (λ z. Fault z) e)

pub returns-in-Ok-clause-no_limit : goal.returns-in-Ok-clause-no_limit
returns-in-Ok-clause-no_limit g c = rw c.requires.empty at c.evaluate.ensures.step.no_limit

pub returns-in-Err-Fault-clause-no_limit : goal.returns-in-Err-Fault-clause-no_limit
returns-in-Err-Fault-clause-no_limit g c = rw c.requires.empty at c.evaluate.ensures.step.no_limit

pub returns-in-Err-Fault-clause-no_conflict : goal.returns-in-Err-Fault-clause-no_conflict
returns-in-Err-Fault-clause-no_conflict g c =
    let claim = rw c.requires.empty at c.in-Err-Fault.ensures.step.no_conflict in
    λ h. claim (refused c.in-Err-Fault.field-0 c.in-Err-Fault.fault _ c.in-Err-Fault.field-0-is h)

pub returns-in-Err-Exhausted-clause-no_conflict : goal.returns-in-Err-Exhausted-clause-no_conflict
returns-in-Err-Exhausted-clause-no_conflict g c =
    let claim = rw c.requires.empty at c.in-Err-Exhausted.ensures.step.exhausted in
    λ h. claim (given_up c.in-Err-Exhausted.field-0 c.in-Err-Exhausted.field-0-is)

pub returns-in-Err-Exhausted-clause-no_limit : goal.returns-in-Err-Exhausted-clause-no_limit
returns-in-Err-Exhausted-clause-no_limit g c =
    let claim = rw c.requires.empty at c.in-Err-Exhausted.ensures.step.exhausted in
    λ off on. claim (given_up c.in-Err-Exhausted.field-0 c.in-Err-Exhausted.field-0-is)

pub give_up-requires-clause-not_plain : goal.give_up-requires-clause-not_plain
give_up-requires-clause-not_plain g c =
    let keeps = c.evaluate.ensures.step.keeps in
    let claim = rw c.requires.empty at c.in-Err-Exhausted.ensures.step.exhausted in
    rw (keeps.world, c.in_ok-again.ensures.copy, (keeps.inputs c.args.input c.requires.input).1)
    (λ limit l. claim (given_up c.in-Err-Exhausted.field-0 c.in-Err-Exhausted.field-0-is) limit l (λ place s at. absurd (none-some s at)))

pub returns-in-Ok-clause-faithful : goal.returns-in-Ok-clause-faithful
returns-in-Ok-clause-faithful g c = rw c.requires.empty at c.in-Ok.ensures.evaluation.faithful

pub returns-in-Ok-clause-within : goal.returns-in-Ok-clause-within
returns-in-Ok-clause-within g c = λ before no last cached.
    let all = rw c.requires.empty at c.in-Ok.ensures.evaluation.within in
    let told = all before no last (cached, λ head place e at. absurd (none_listed c.args.search.now.entries.lists.items (c.args.search.now.listed ∙ ap length c.requires.empty) head place e at)) in
    (told.0.0, told.1)

pub evaluate-requires-clause-entries : goal.evaluate-requires-clause-entries
evaluate-requires-clause-entries g c head place e at = absurd (none_listed c.args.search.now.entries.lists.items (c.args.search.now.listed ∙ ap length c.requires.empty) head place e at)

pub returns-in-Ok-clause-cached : goal.returns-in-Ok-clause-cached
returns-in-Ok-clause-cached g c = rw c.requires.empty at c.evaluate.ensures.cached

pub returns-in-Ok-clause-known : goal.returns-in-Ok-clause-known
returns-in-Ok-clause-known g c = rw c.requires.empty at (c.in-Ok.ensures.known c.requires.empty)

pub returns-in-Err-Exhausted-clause-kept : goal.returns-in-Err-Exhausted-clause-kept
returns-in-Err-Exhausted-clause-kept g c = rw c.in_ok-again.ensures.copy at c.give_up.ensures.kept

pub returns-in-Err-Exhausted-clause-faithful : goal.returns-in-Err-Exhausted-clause-faithful
returns-in-Err-Exhausted-clause-faithful g c =
    let m = g.D.Delegate.meaning in
    let keeps = c.evaluate.ensures.step.keeps in
    IfOk-weaker c.give_up.result (IsFaithfulOver m c.evaluate.new.cx [] c.args.input (c.args.depth + 1) c.give_up.new.cx) (IsFaithfulOver m c.args.cx.now [] c.args.input (c.args.depth + 1) c.give_up.new.cx)
    (λ o faithful. rw (keeps.world, (keeps.inputs c.args.input c.requires.input).1) at faithful) (rw c.in_ok-again.ensures.copy at c.give_up.ensures.faithful)

pub returns-in-Err-Exhausted-clause-cached : goal.returns-in-Err-Exhausted-clause-cached
returns-in-Err-Exhausted-clause-cached g c = λ place e at same within clear.
    let served = rw c.requires.empty at c.in-Err-Exhausted.ensures.served in
    absurd (served place e at same within clear (given_up c.in-Err-Exhausted.field-0 c.in-Err-Exhausted.field-0-is))

pub returns-in-Ok-clause-counted : goal.returns-in-Ok-clause-counted
returns-in-Ok-clause-counted g c = c.in-Ok.ensures.counted c.requires.empty

pub returns-in-Err-Exhausted-clause-counted : goal.returns-in-Err-Exhausted-clause-counted
returns-in-Err-Exhausted-clause-counted g c =
    IfOk-or _ _ c.give_up.result (OnOk-always c.give_up.result (rw c.give_up.ensures.frames (c.in-Err-Exhausted.ensures.step.spent (given_up c.in-Err-Exhausted.field-0 c.in-Err-Exhausted.field-0-is))))

pub returns-in-Err-Exhausted-clause-rises : goal.returns-in-Err-Exhausted-clause-rises
returns-in-Err-Exhausted-clause-rises g c = rw c.give_up.ensures.frames c.evaluate.ensures.step.rises
