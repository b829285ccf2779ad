use Rattle.std.proofs.Common.{◌≡◌, map, ap, sym, ◌∙◌, Err}
use Rattle.std.specs.Prelude.{option_map}
use Rattle.type_terms.specs.Promised.Handles.{Keeps}
use Rattle.type_terms.specs.Kept.{args-held-later}
use Rattle.infer_table.specs.Kept.{constraints-kept}
use Rattle.infer_table.specs.Constraints.{constraints_trees}
use Rattle.infer_table.specs.Unification.{table_trees}
use Rattle.infer_table.specs.Values.{values_of, values-later, filled_values}
use Rattle.infer_table.specs.Applied.{with_constraints}
use Rattle.infer_table.proofs.ConstraintLists.{constraints-later}
use Rattle.type_terms.proofs.Grown.{grew-on}
use Rattle.goal_evaluator.specs.Frames.{FrameTrees, begun, fresh, equate, recorded, pair_filled, solved}
use Rattle.goal_evaluator.specs.Trial.{spec_trees, equations_trees}
use Rattle.goal_evaluator.specs.TrialEnds.{trial_trees}
use Rattle.goal_evaluator.specs.declared.trial.Trial.{Trial}
use Rattle.goal_evaluator.proofs.Beginning.{same-frame}
use Rattle.goal_evaluator.proofs.Later.{equations-held-later, equations-later}
use Rattle.goal_evaluator.proofs.Shortages.{again-at-limit, handed-as, eval-at-limit}
use Rattle.goal_evaluator.proofs.trial.try_candidate.Goals as goal

pub equate_all-requires-clause-values : goal.equate_all-requires-clause-values
equate_all-requires-clause-values c = rw c.deref-2.ensures.value c.in_ok-trial.ensures.values

pub equate_all-requires-clause-equations : goal.equate_all-requires-clause-equations
equate_all-requires-clause-equations c =
    rw c.deref-3.ensures.value (equations-held-later c.args.cx.now.entries c.begin.new.cx.entries c.begin.ensures.terms.grew.keeps c.args.spec.now.equations.items c.requires.spec.equations)

pub record_constraints-requires-clause-values : goal.record_constraints-requires-clause-values
record_constraints-requires-clause-values c =
    rw c.deref-4.ensures.value (args-held-later c.begin.new.cx.entries c.equate_all.new.cx.entries c.equate_all.ensures.terms.grew.keeps c.in_ok-trial.trial.values.items c.in_ok-trial.ensures.values)

pub record_constraints-requires-clause-constraints : goal.record_constraints-requires-clause-constraints
record_constraints-requires-clause-constraints c =
    rw c.deref-5.ensures.value (constraints-kept c.args.cx.now.entries c.equate_all.new.cx.entries c.args.spec.now.region_constraints.items (λ i x h. c.equate_all.ensures.terms.grew.keeps i x (c.begin.ensures.terms.grew.keeps i x h)) c.requires.spec.constraints)

pub returns-clause-own : goal.returns-clause-own
returns-clause-own c =
    args-held-later c.begin.new.cx.entries c.record_constraints.new.cx.entries (λ i x h. c.record_constraints.ensures.terms.grew.keeps i x (c.equate_all.ensures.terms.grew.keeps i x h)) c.in_ok-trial.trial.own.items c.in_ok-trial.ensures.own

pub returns-clause-values : goal.returns-clause-values
returns-clause-values c =
    args-held-later c.begin.new.cx.entries c.record_constraints.new.cx.entries (λ i x h. c.record_constraints.ensures.terms.grew.keeps i x (c.equate_all.ensures.terms.grew.keeps i x h)) c.in_ok-trial.trial.values.items c.in_ok-trial.ensures.values

pub returns-clause-tried : goal.returns-clause-tried
returns-clause-tried c =
    let es = c.args.cx.now.entries in
    let es1 = c.begin.new.cx.entries in
    let es2 = c.equate_all.new.cx.entries in
    let es3 = c.record_constraints.new.cx.entries in
    let input = c.args.input.now in
    let spec = c.args.spec.now in
    let trial = c.in_ok-trial.trial in
    let last : Trial = record trial { table = c.record_constraints.new.table } in
    let start = begun input.variables.items in
    let t = trial_trees es1 input.variables.items trial in
    let s = spec_trees es spec in
    let k2 : Keeps es es2 = λ i y h. c.equate_all.ensures.terms.grew.keeps i y (c.begin.ensures.terms.grew.keeps i y h) in
    let own-later : Keeps es1 es3 = λ i y h. c.record_constraints.ensures.terms.grew.keeps i y (c.equate_all.ensures.terms.grew.keeps i y h) in
    let begun-so : t ≡ fresh start s.kinds = c.in_ok-trial.ensures.is ∙ ap (fresh start) c.deref.ensures.value in
    let same : solved t.table (map (pair_filled (values_of es1 c.deref-2.result.now)) (equations_trees es1 c.deref-3.result.now)) ≡ solved t.table (map (pair_filled t.values) s.equations) =
    ap (λ z. solved t.table (map (pair_filled (values_of es1 z)) (equations_trees es1 c.deref-3.result.now))) c.deref-2.ensures.value
    ∙ ap (λ z. solved t.table (map (pair_filled t.values) (equations_trees es1 z))) c.deref-3.ensures.value
    ∙ ap (λ z. solved t.table (map (pair_filled t.values) z)) (equations-later es es1 c.begin.ensures.terms.grew.keeps spec.equations.items c.requires.spec.equations) in
    let u = table_trees es2 c.equate_all.new.table in
    let end = trial_trees es3 input.variables.items last in
    let values : values_of es2 c.deref-4.result.now ≡ t.values = ap (values_of es2) c.deref-4.ensures.value ∙ values-later es1 es2 c.equate_all.ensures.terms.grew.keeps trial.values.items c.in_ok-trial.ensures.values in
    let constraints : constraints_trees es2 c.deref-5.result.now ≡ s.constraints = ap (constraints_trees es2) c.deref-5.ensures.value ∙ constraints-later es es2 k2 spec.region_constraints.items c.requires.spec.constraints in
    let ended : end ≡ recorded (record t { table = u }) s.constraints =
    same-frame input.variables.items _ _ _ _ _ _ (values-later es1 es3 own-later trial.own.items c.in_ok-trial.ensures.own) (values-later es1 es3 own-later trial.values.items c.in_ok-trial.ensures.values)
    (c.in_ok-record_constraints.ensures.recorded ∙ ap (λ z. with_constraints (filled_values z (constraints_trees es2 c.deref-5.result.now)) u) values ∙ ap (λ z. with_constraints (filled_values t.values z) u) constraints) in
    record {
      solved = record t { table = u };
      holds = ap (λ (z : FrameTrees). equate z s.equations) (sym begun-so) ∙ ap (option_map (λ w. record t { table = w })) (sym same ∙ c.in_ok-equate_all.ensures.solved);
      is = ended;
    }

-- ---- refusals
pub returns-in_err-trial-clause-refused : goal.returns-in_err-trial-clause-refused
returns-in_err-trial-clause-refused c = λ q. handed-as c.from_residual.result c.from_residual.ensures.1 (λ p. cc) q

pub returns-in_err-equate_all-clause-refused : goal.returns-in_err-equate_all-clause-refused
returns-in_err-equate_all-clause-refused c = λ q.
    let es = c.args.cx.now.entries in
    let es1 = c.begin.new.cx.entries in
    let es2 = c.equate_all.new.cx.entries in
    let input = c.args.input.now in
    let spec = c.args.spec.now in
    let trial = c.in_ok-trial.trial in
    let start = begun input.variables.items in
    let t = trial_trees es1 input.variables.items trial in
    let s = spec_trees es spec in
    let begun-so : t ≡ fresh start s.kinds = c.in_ok-trial.ensures.is ∙ ap (fresh start) c.deref.ensures.value in
    let same : map (pair_filled (values_of es1 c.deref-2.result.now)) (equations_trees es1 c.deref-3.result.now) ≡ map (pair_filled t.values) s.equations =
    ap (λ z. map (pair_filled (values_of es1 z)) (equations_trees es1 c.deref-3.result.now)) c.deref-2.ensures.value
    ∙ ap (λ z. map (pair_filled t.values) (equations_trees es1 z)) c.deref-3.ensures.value
    ∙ ap (map (pair_filled t.values)) (equations-later es es1 c.begin.ensures.terms.grew.keeps spec.equations.items c.requires.spec.equations) in
    let handed = c.from_residual-in_err-equate_all in
    handed-as handed.result handed.ensures.1
    (λ p. ap (λ (z : FrameTrees). equate z s.equations) (sym begun-so)
    ∙ ap (option_map (λ w. record t { table = w })) (ap (solved t.table) (sym same) ∙ c.in_err-equate_all.ensures.refused (ap Err p))) q

pub returns-in_err-record_constraints-clause-refused : goal.returns-in_err-record_constraints-clause-refused
returns-in_err-record_constraints-clause-refused c = λ q.
    let handed = c.from_residual-in_err-record_constraints in
    handed-as handed.result handed.ensures.1 (λ p. cc) q

pub returns-in_err-trial-clause-terms : goal.returns-in_err-trial-clause-terms
returns-in_err-trial-clause-terms c = record {
  grew = c.begin.ensures.terms.grew;
  full = eval-at-limit c.from_residual.result c.from_residual.ensures.1 c.in_err-trial.ensures.terms.full;
}

pub returns-in_err-record_constraints-clause-terms : goal.returns-in_err-record_constraints-clause-terms
returns-in_err-record_constraints-clause-terms c = record {
  grew = grew-on (grew-on c.begin.ensures.terms.grew c.equate_all.ensures.terms.grew) c.record_constraints.ensures.terms.grew;
  full = eval-at-limit c.from_residual-in_err-record_constraints.result c.from_residual-in_err-record_constraints.ensures.1 c.in_err-record_constraints.ensures.terms.full;
}

pub returns-in_err-equate_all-clause-terms : goal.returns-in_err-equate_all-clause-terms
returns-in_err-equate_all-clause-terms c = record {
  grew = grew-on c.begin.ensures.terms.grew c.equate_all.ensures.terms.grew;
  full =
      again-at-limit c.from_residual-in_err-equate_all.result c.from_residual-in_err-equate_all.ensures.1 c.in_err-equate_all.ensures.terms.full;
}
