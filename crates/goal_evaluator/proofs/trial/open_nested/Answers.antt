use Rattle.std.proofs.Common.{◌≡◌, ◌*◌, List, map, length, sym, ◌∙◌, ap, subst, IfOk}
use Rattle.infer_table.specs.declared.goal.Goal.{Goal}
use Rattle.type_terms.specs.Promised.Handles.{Keeps}
use Rattle.type_terms.specs.Kept.{args-held-later}
use Rattle.infer_table.specs.Kept.{ready-later}
use Rattle.infer_table.proofs.PairFacts.{table-kept}
use Rattle.infer_table.specs.Values.{values_of, values-later}
use Rattle.goal_evaluator.specs.Frames.{nested_filled}
use Rattle.goal_evaluator.specs.Trial.{premises_trees}
use Rattle.goal_evaluator.specs.TrialEnds.{trial_trees}
use Rattle.goal_evaluator.specs.OpenCandidates.{StandsAt, AsksAtMost}
use Rattle.goal_evaluator.specs.declared.goal.GoalSource.{GoalSource}
use Rattle.goal_evaluator.specs.declared.resuming.Evaluation.{Evaluation}
use Rattle.goal_evaluator.proofs.OpenQuestions.{premises-length}
use Rattle.goal_evaluator.proofs.OpenBeginnings.{nested-begin}
use Rattle.type_terms.proofs.Grown.{grew-on}
use Rattle.goal_evaluator.proofs.Shortages.{eval-at-limit}
use Rattle.goal_evaluator.proofs.trial.open_nested.Goals as goal
use Rattle.type_terms.proofs.ListBasics.{map-length as length-map}

pub fill_goals-requires-clause-values : goal.fill_goals-requires-clause-values
fill_goals-requires-clause-values c = rw c.deref-2.ensures.value c.requires.values

pub fill_goals-requires-clause-goals : goal.fill_goals-requires-clause-goals
fill_goals-requires-clause-goals c = rw c.deref-3.ensures.value c.requires.goals

pub begin_rounds-requires-clause-evaluation : goal.begin_rounds-requires-clause-evaluation
begin_rounds-requires-clause-evaluation c = record {
  table = ready-later c.args.cx.now.entries c.fill_goals.new.cx.entries c.args.trial.table c.fill_goals.ensures.terms.grew.keeps c.requires.ready;
  own = args-held-later c.args.cx.now.entries c.fill_goals.new.cx.entries c.fill_goals.ensures.terms.grew.keeps c.args.trial.own.items c.requires.own;
}

pub returns-clause-terms : goal.returns-clause-terms
returns-clause-terms c = record {
  grew = grew-on c.fill_goals.ensures.terms.grew c.begin_rounds.ensures.terms.grew;
  full = c.begin_rounds.ensures.terms.full;
}

pub returns-clause-stands : goal.returns-clause-stands
returns-clause-stands c =
    let es = c.args.cx.now.entries in
    let es1 = c.fill_goals.new.cx.entries in
    let k : Keeps es es1 = c.fill_goals.ensures.terms.grew.keeps in
    let trial = c.args.trial in
    let variables = c.args.input.now.variables.items in
    let spec = c.args.spec.now in
    let ns = spec.nested_goals.items in
    let t = trial_trees es variables trial in
    let e : Evaluation = record { mode = c.args.input.now.mode; table = trial.table; variables = c.in_ok-variables.variables; own = trial.own; certainty = spec.certainty } in
    let filled = c.in_ok-goals.ensures.filled
    ∙ ap (λ z. map (nested_filled (values_of es z)) (premises_trees es c.deref-3.result.now)) c.deref-2.ensures.value
    ∙ ap (λ z. map (nested_filled (values_of es trial.values.items)) (premises_trees es z)) c.deref-3.ensures.value in
    subst (λ s. StandsAt c.begin_rounds.new.cx.entries s c.begin_rounds.result)
    (nested-begin es1 t (premises_trees es ns) e c.in_ok-goals.goals.items
    (c.in_ok-variables.ensures.items ∙ c.deref.ensures.value) (values-later es es1 k trial.own.items c.requires.own) (table-kept es es1 k trial.table c.requires.ready) filled)
    c.begin_rounds.ensures.stands

-- as many goals as the candidate has
pub returns-clause-most : goal.returns-clause-most
returns-clause-most c =
    let es = c.args.cx.now.entries in
    let es1 = c.fill_goals.new.cx.entries in
    let ns = c.args.spec.now.nested_goals.items in
    let many : length c.in_ok-goals.goals.items ≡ length ns =
    sym (premises-length es1 c.in_ok-goals.goals.items) ∙ ap length c.in_ok-goals.ensures.filled
    ∙ length-map (nested_filled (values_of es c.deref-2.result.now)) (premises_trees es c.deref-3.result.now) ∙ premises-length es c.deref-3.result.now
    ∙ ap (λ (z : List (GoalSource × Goal)). length z) c.deref-3.ensures.value in
    subst (λ n. IfOk c.begin_rounds.result (AsksAtMost (8 * n))) many c.begin_rounds.ensures.most

pub returns-in_err-goals-clause-terms : goal.returns-in_err-goals-clause-terms
returns-in_err-goals-clause-terms c = record {
  grew = c.fill_goals.ensures.terms.grew;
  full = eval-at-limit c.from_residual-in_err-goals.result c.from_residual-in_err-goals.ensures.1 c.in_err-goals.ensures.terms.full;
}
