use Rattle.std.proofs.Common.{◌≡◌, ℕ, ◌≤◌, ◌++◌, length, drop, ap, sym, ◌∙◌, subst}
use Rattle.type_terms.specs.Promised.Label.{Sort}
use Rattle.type_terms.specs.Promised.Handles.{Keeps}
use Rattle.type_terms.specs.Kinds.{args_trees}
use Rattle.type_terms.specs.Kept.{args-held-later, args-trees-later}
use Rattle.infer_table.specs.Content.{content, variables_of, AllConstraintsHeld}
use Rattle.infer_table.specs.Growth.{grows-trans, counts-kept}
use Rattle.infer_table.specs.Unification.{TableTrees, all_recorded, table_trees}
use Rattle.infer_table.specs.Kept.{content-kept, ready-later, constraints-kept}
use Rattle.infer_table.specs.Constraints.{constraints_trees}
use Rattle.infer_table.specs.Values.{values_of, filled_values}
use Rattle.infer_table.specs.Responses.{answer_trees}
use Rattle.infer_table.specs.Applying.{unknowns_of, applied_values, applied_table}
use Rattle.infer_table.specs.Applied.{trees_of}
use Rattle.infer_table.proofs.Covers.{same-unknowns}
use Rattle.infer_table.proofs.InTurn.{row-of, same-trees, applied-leaves, applied-refused}
use Rattle.infer_table.proofs.Recording.{all-inserted, constraints-recorded}
use Rattle.infer_table.proofs.ConstraintLists.{constraints-later}
use Rattle.infer_table.proofs.Values.{equates-at, never-at}
use Rattle.goal_evaluator.proofs.Shortages.{never-full}
use Rattle.goal_evaluator.proofs.Refused.{not-ok, no-refusal}
use Rattle.type_terms.proofs.Grown.{grew-on}
use Rattle.infer_table.proofs.FullFacts.{out-at-limit}
use Rattle.goal_evaluator.proofs.apply.apply.Goals as goal
use Rattle.type_terms.proofs.ListBasics.{take-drop}

pub fill_response-requires-clause-response : goal.fill_response-requires-clause-response
fill_response-requires-clause-response c =
    let first = c.args.cx.now.entries in
    let taken = c.values_to_apply.new.cx.entries in
    let r = c.args.response.now in
    let keeps = c.values_to_apply.ensures.terms.grew.keeps in record {
      values = args-held-later first taken keeps r.var_values.items c.requires.response.values;
      constraints = constraints-kept first taken r.region_constraints.items keeps c.requires.response.constraints;
    }

pub returns-in_err-filled-clause-ready : goal.returns-in_err-filled-clause-ready
returns-in_err-filled-clause-ready c =
    ready-later c.values_to_apply.new.cx.entries c.fill_response.new.cx.entries c.values_to_apply.new.table c.fill_response.ensures.terms.grew.keeps c.values_to_apply.ensures.ready

pub equate_values-requires-clause-ready : goal.equate_values-requires-clause-ready
equate_values-requires-clause-ready c =
    ready-later c.values_to_apply.new.cx.entries c.fill_response.new.cx.entries c.values_to_apply.new.table c.fill_response.ensures.terms.grew.keeps c.values_to_apply.ensures.ready

pub equate_values-requires-clause-left : goal.equate_values-requires-clause-left
equate_values-requires-clause-left c =
    args-held-later c.args.cx.now.entries c.fill_response.new.cx.entries (λ i x h. c.fill_response.ensures.terms.grew.keeps i x (c.values_to_apply.ensures.terms.grew.keeps i x h)) c.args.original_values.now c.requires.values

pub returns-in_err-record_constraints-in-Ok-clause-ready : goal.returns-in_err-record_constraints-in-Ok-clause-ready
returns-in_err-record_constraints-in-Ok-clause-ready c =
    let end = c.fill_response.new.cx.entries in
    let now = c.equate_values.new.cx.entries in
    let cs = c.in_ok-filled.filled.region_constraints.items in
    let held : AllConstraintsHeld now c.deref-in-Ok.result.now = rw c.deref-in-Ok.ensures.value (constraints-kept end now cs c.equate_values.ensures.terms.grew.keeps c.in_ok-filled.ensures.constraints_held) in
    c.record_constraints.ensures.ready now c.equate_values.ensures.ready held

pub returns-in-Ok-clause-ready : goal.returns-in-Ok-clause-ready
returns-in-Ok-clause-ready c =
    let end = c.fill_response.new.cx.entries in
    let now = c.equate_values.new.cx.entries in
    let cs = c.in_ok-filled.filled.region_constraints.items in
    let held : AllConstraintsHeld now c.deref-in-Ok.result.now = rw c.deref-in-Ok.ensures.value (constraints-kept end now cs c.equate_values.ensures.terms.grew.keeps c.in_ok-filled.ensures.constraints_held) in
    c.record_constraints.ensures.ready now c.equate_values.ensures.ready held

pub returns-in-Ok-clause-equates : goal.returns-in-Ok-clause-equates
returns-in-Ok-clause-equates c =
    let first = c.args.cx.now.entries in
    let taken = c.values_to_apply.new.cx.entries in
    let end = c.fill_response.new.cx.entries in
    let t = c.args.table.now in
    let u = c.values_to_apply.new.table in
    let os = c.args.original_values.now in
    let r = c.args.response.now in
    let vs = applied_values (table_trees first t) (values_of first os) (answer_trees first r) in
    let to-end : Keeps first end = (λ i x h. c.fill_response.ensures.terms.grew.keeps i x (c.values_to_apply.ensures.terms.grew.keeps i x h)) in
    let chosen : values_of taken c.deref.result.now ≡ vs = ap (values_of taken) c.deref.ensures.value ∙ c.in_ok-values.ensures.values in
    let values : args_trees end c.deref-2.result.now ≡ filled_values vs (args_trees first r.var_values.items) =
    ap (args_trees end) c.deref-2.ensures.value ∙ c.in_ok-filled.ensures.values
    ∙ ap (λ z. filled_values z (args_trees taken r.var_values.items)) chosen
    ∙ ap (filled_values vs) (args-trees-later first taken c.values_to_apply.ensures.terms.grew.keeps r.var_values.items c.requires.response.values) in
    let before : content end u.values ≡ content first t.values = ap (content end) c.values_to_apply.ensures.bindings ∙ content-kept first end t.values to-end c.requires.ready.held in
    let originals : args_trees end os ≡ args_trees first os = args-trees-later first end to-end os c.requires.values in
    equates-at _ _ _ _ _ _ _ _ before (ap (content c.equate_values.new.cx.entries) (sym (ap (λ t. t.values) c.record_constraints.ensures.kept))) originals values c.in-Ok.ensures.equates

pub returns-clause-never : goal.returns-clause-never
returns-clause-never c = λ e.
    let first = c.args.cx.now.entries in
    let taken = c.values_to_apply.new.cx.entries in
    let end = c.fill_response.new.cx.entries in
    let t = c.args.table.now in
    let u = c.values_to_apply.new.table in
    let os = c.args.original_values.now in
    let r = c.args.response.now in
    let vs = applied_values (table_trees first t) (values_of first os) (answer_trees first r) in
    let to-end : Keeps first end = (λ i x h. c.fill_response.ensures.terms.grew.keeps i x (c.values_to_apply.ensures.terms.grew.keeps i x h)) in
    let chosen : values_of taken c.deref.result.now ≡ vs = ap (values_of taken) c.deref.ensures.value ∙ c.in_ok-values.ensures.values in
    let values : args_trees end c.deref-2.result.now ≡ filled_values vs (args_trees first r.var_values.items) =
    ap (args_trees end) c.deref-2.ensures.value ∙ c.in_ok-filled.ensures.values
    ∙ ap (λ z. filled_values z (args_trees taken r.var_values.items)) chosen
    ∙ ap (filled_values vs) (args-trees-later first taken c.values_to_apply.ensures.terms.grew.keeps r.var_values.items c.requires.response.values) in
    let before : content end u.values ≡ content first t.values = ap (content end) c.values_to_apply.ensures.bindings ∙ content-kept first end t.values to-end c.requires.ready.held in
    let originals : args_trees end os ≡ args_trees first os = args-trees-later first end to-end os c.requires.values in
    never-at _ _ _ _ _ _ before originals values (c.in-Err.ensures.never e)

pub returns-in-Ok-clause-exact : goal.returns-in-Ok-clause-exact
returns-in-Ok-clause-exact c =
    let first = c.args.cx.now.entries in
    let taken = c.values_to_apply.new.cx.entries in
    let end = c.fill_response.new.cx.entries in
    let t = c.args.table.now in
    let u = c.values_to_apply.new.table in
    let os = c.args.original_values.now in
    let r = c.args.response.now in
    let vs = applied_values (table_trees first t) (values_of first os) (answer_trees first r) in
    let to-end : Keeps first end = (λ i x h. c.fill_response.ensures.terms.grew.keeps i x (c.values_to_apply.ensures.terms.grew.keeps i x h)) in
    let chosen : values_of taken c.deref.result.now ≡ vs = ap (values_of taken) c.deref.ensures.value ∙ c.in_ok-values.ensures.values in
    let values : args_trees end c.deref-2.result.now ≡ filled_values vs (args_trees first r.var_values.items) =
    ap (args_trees end) c.deref-2.ensures.value ∙ c.in_ok-filled.ensures.values
    ∙ ap (λ z. filled_values z (args_trees taken r.var_values.items)) chosen
    ∙ ap (filled_values vs) (args-trees-later first taken c.values_to_apply.ensures.terms.grew.keeps r.var_values.items c.requires.response.values) in
    let originals : args_trees end os ≡ trees_of (values_of first os) = args-trees-later first end to-end os c.requires.values ∙ sym (row-of first os) in
    let start : table_trees end u ≡ applied_table (table_trees first t) (values_of first os) (answer_trees first r) =
    same-trees first end to-end t u c.requires.ready c.values_to_apply.ensures.bindings c.values_to_apply.ensures.constraints ∙ c.in_ok-values.ensures.made in
    let put-in : args_trees end c.deref-2.result.now ≡ filled_values vs (trees_of (values_of first r.var_values.items)) = values ∙ ap (filled_values vs) (sym (row-of first r.var_values.items)) in
    let now = c.equate_values.new.cx.entries in
    let cs = c.in_ok-filled.filled.region_constraints.items in
    let held : AllConstraintsHeld now c.deref-in-Ok.result.now = rw c.deref-in-Ok.ensures.value (constraints-kept end now cs c.equate_values.ensures.terms.grew.keeps c.in_ok-filled.ensures.constraints_held) in
    let recorded : constraints_trees now c.deref-in-Ok.result.now ≡ filled_values vs (constraints_trees first r.region_constraints.items) =
    ap (constraints_trees now) c.deref-in-Ok.ensures.value ∙ constraints-later end now c.equate_values.ensures.terms.grew.keeps cs c.in_ok-filled.ensures.constraints_held
    ∙ c.in_ok-filled.ensures.constraints
    ∙ ap (λ z. filled_values z (constraints_trees taken r.region_constraints.items)) chosen
    ∙ ap (filled_values vs) (constraints-later first taken c.values_to_apply.ensures.terms.grew.keeps r.region_constraints.items c.requires.response.constraints) in
    applied-leaves (table_trees first t) (values_of first os) (answer_trees first r) (table_trees end u) (args_trees end os) (args_trees end c.deref-2.result.now) start originals put-in
    (table_trees now c.equate_values.new.table) (table_trees now c.record_constraints.new.table) c.in-Ok.ensures.exact
    (constraints-recorded now c.lawful.ensures c.equate_values.new.table c.record_constraints.new.table c.deref-in-Ok.result.now _ c.equate_values.ensures.ready held c.in_ok-record_constraints-in-Ok.ensures.recorded recorded)

pub returns-clause-refusal : goal.returns-clause-refusal
returns-clause-refusal c = λ e.
    let first = c.args.cx.now.entries in
    let taken = c.values_to_apply.new.cx.entries in
    let end = c.fill_response.new.cx.entries in
    let t = c.args.table.now in
    let u = c.values_to_apply.new.table in
    let os = c.args.original_values.now in
    let r = c.args.response.now in
    let vs = applied_values (table_trees first t) (values_of first os) (answer_trees first r) in
    let to-end : Keeps first end = (λ i x h. c.fill_response.ensures.terms.grew.keeps i x (c.values_to_apply.ensures.terms.grew.keeps i x h)) in
    let chosen : values_of taken c.deref.result.now ≡ vs = ap (values_of taken) c.deref.ensures.value ∙ c.in_ok-values.ensures.values in
    let values : args_trees end c.deref-2.result.now ≡ filled_values vs (args_trees first r.var_values.items) =
    ap (args_trees end) c.deref-2.ensures.value ∙ c.in_ok-filled.ensures.values
    ∙ ap (λ z. filled_values z (args_trees taken r.var_values.items)) chosen
    ∙ ap (filled_values vs) (args-trees-later first taken c.values_to_apply.ensures.terms.grew.keeps r.var_values.items c.requires.response.values) in
    let originals : args_trees end os ≡ trees_of (values_of first os) = args-trees-later first end to-end os c.requires.values ∙ sym (row-of first os) in
    let start : table_trees end u ≡ applied_table (table_trees first t) (values_of first os) (answer_trees first r) =
    same-trees first end to-end t u c.requires.ready c.values_to_apply.ensures.bindings c.values_to_apply.ensures.constraints ∙ c.in_ok-values.ensures.made in
    let put-in : args_trees end c.deref-2.result.now ≡ filled_values vs (trees_of (values_of first r.var_values.items)) = values ∙ ap (filled_values vs) (sym (row-of first r.var_values.items)) in
    applied-refused (table_trees first t) (values_of first os) (answer_trees first r) (table_trees end u) (args_trees end os) (args_trees end c.deref-2.result.now) start originals put-in
    (c.in-Err.ensures.refusal e)

pub returns-in-Ok-clause-constraints : goal.returns-in-Ok-clause-constraints
returns-in-Ok-clause-constraints c =
    let first = c.args.cx.now.entries in
    let taken = c.values_to_apply.new.cx.entries in
    let end = c.fill_response.new.cx.entries in
    let t = c.args.table.now in
    let u = c.values_to_apply.new.table in
    let os = c.args.original_values.now in
    let r = c.args.response.now in
    let vs = applied_values (table_trees first t) (values_of first os) (answer_trees first r) in
    let to-end : Keeps first end = (λ i x h. c.fill_response.ensures.terms.grew.keeps i x (c.values_to_apply.ensures.terms.grew.keeps i x h)) in
    let chosen : values_of taken c.deref.result.now ≡ vs = ap (values_of taken) c.deref.ensures.value ∙ c.in_ok-values.ensures.values in
    let now = c.equate_values.new.cx.entries in
    let cs = c.in_ok-filled.filled.region_constraints.items in
    let held : AllConstraintsHeld now c.deref-in-Ok.result.now = rw c.deref-in-Ok.ensures.value (constraints-kept end now cs c.equate_values.ensures.terms.grew.keeps c.in_ok-filled.ensures.constraints_held) in
    let recorded : constraints_trees now c.deref-in-Ok.result.now ≡ filled_values vs (constraints_trees first r.region_constraints.items) =
    ap (constraints_trees now) c.deref-in-Ok.ensures.value ∙ constraints-later end now c.equate_values.ensures.terms.grew.keeps cs c.in_ok-filled.ensures.constraints_held
    ∙ c.in_ok-filled.ensures.constraints
    ∙ ap (λ z. filled_values z (constraints_trees taken r.region_constraints.items)) chosen
    ∙ ap (filled_values vs) (constraints-later first taken c.values_to_apply.ensures.terms.grew.keeps r.region_constraints.items c.requires.response.constraints) in
    let w = c.equate_values.new.table in
    let grown : w.constraints ≡ t.constraints ++ drop (length u.constraints) w.constraints =
    sym (take-drop (length u.constraints) w.constraints) ∙ ap (λ z. z ++ drop (length u.constraints) w.constraints) (c.equate_values.ensures.grows.constraints_kept ∙ c.values_to_apply.ensures.constraints) in
    record {
      between = drop (length u.constraints) w.constraints;
      recorded = ap (λ t. constraints_trees now t.constraints) c.in_ok-record_constraints-in-Ok.ensures.recorded
          ∙ all-inserted now c.lawful.ensures w.constraints c.deref-in-Ok.result.now c.equate_values.ensures.ready.constraints_held held
          ∙ ap (λ z. all_recorded z (constraints_trees now w.constraints)) recorded
          ∙ ap (λ z. all_recorded (filled_values vs (constraints_trees first r.region_constraints.items)) (constraints_trees now z)) grown;
    }

pub returns-in-Ok-clause-grows : goal.returns-in-Ok-clause-grows
returns-in-Ok-clause-grows c = grows-trans _ _ _ c.values_to_apply.ensures.grows (grows-trans _ _ _ c.equate_values.ensures.grows c.record_constraints.ensures.grows)

pub returns-in-Ok-clause-unknowns : goal.returns-in-Ok-clause-unknowns
returns-in-Ok-clause-unknowns c = λ k.
    let first = c.args.cx.now.entries in
    let u = c.values_to_apply.new.table in
    let w = c.record_constraints.new.table in
    let same : variables_of u k ≡ unknowns_of (applied_table (table_trees first c.args.table.now) (values_of first c.args.original_values.now) (answer_trees first c.args.response.now)) k =
    sym (ap (λ (f : Sort → ℕ). f k) (same-unknowns first u)) ∙ ap (λ (t : TableTrees). unknowns_of t k) c.in_ok-values.ensures.made in
    subst (λ (n : ℕ). n ≤ variables_of w k) same (counts-kept u w (grows-trans _ _ _ c.equate_values.ensures.grows c.record_constraints.ensures.grows) k)

pub returns-clause-grows : goal.returns-clause-grows
returns-clause-grows c = grows-trans _ _ _ c.values_to_apply.ensures.grows c.equate_values.ensures.grows

pub returns-in_err-record_constraints-in-Ok-clause-grows : goal.returns-in_err-record_constraints-in-Ok-clause-grows
returns-in_err-record_constraints-in-Ok-clause-grows c = grows-trans _ _ _ c.values_to_apply.ensures.grows (grows-trans _ _ _ c.equate_values.ensures.grows c.record_constraints.ensures.grows)

pub returns-in_err-values-clause-ready : goal.returns-in_err-values-clause-ready
returns-in_err-values-clause-ready c = c.values_to_apply.ensures.ready

pub returns-in_err-values-clause-grows : goal.returns-in_err-values-clause-grows
returns-in_err-values-clause-grows c = c.values_to_apply.ensures.grows

pub returns-in_err-values-clause-terms : goal.returns-in_err-values-clause-terms
returns-in_err-values-clause-terms c = record {
  grew = c.values_to_apply.ensures.terms.grew;
  full = out-at-limit c.from_residual.result c.from_residual.ensures.1 c.in_err-values.ensures.terms.full;
}

pub returns-in_err-filled-clause-grows : goal.returns-in_err-filled-clause-grows
returns-in_err-filled-clause-grows c = c.values_to_apply.ensures.grows

pub returns-in_err-filled-clause-terms : goal.returns-in_err-filled-clause-terms
returns-in_err-filled-clause-terms c = record {
  grew = grew-on c.values_to_apply.ensures.terms.grew c.fill_response.ensures.terms.grew;
  full =
      out-at-limit c.from_residual-in_err-filled.result c.from_residual-in_err-filled.ensures.1 c.in_err-filled.ensures.terms.full;
}

pub returns-in_err-record_constraints-in-Ok-clause-terms : goal.returns-in_err-record_constraints-in-Ok-clause-terms
returns-in_err-record_constraints-in-Ok-clause-terms c = record {
  grew = grew-on (grew-on c.values_to_apply.ensures.terms.grew c.fill_response.ensures.terms.grew) c.equate_values.ensures.terms.grew;
  full = out-at-limit c.from_residual-in_err-record_constraints-in-Ok.result c.from_residual-in_err-record_constraints-in-Ok.ensures.1 (never-full c.in_err-record_constraints-in-Ok.ensures.fault);
}

pub returns-in-Ok-clause-terms : goal.returns-in-Ok-clause-terms
returns-in-Ok-clause-terms c = record {
  grew = grew-on (grew-on c.values_to_apply.ensures.terms.grew c.fill_response.ensures.terms.grew) c.equate_values.ensures.terms.grew;
  full = tt;
}

pub returns-clause-ready : goal.returns-clause-ready
returns-clause-ready c = c.equate_values.ensures.ready

pub returns-clause-terms : goal.returns-clause-terms
returns-clause-terms c = record {
  grew = grew-on (grew-on c.values_to_apply.ensures.terms.grew c.fill_response.ensures.terms.grew) c.equate_values.ensures.terms.grew;
  full = c.in-Err.ensures.terms.full;
}

pub returns-in_err-values-clause-unknowns : goal.returns-in_err-values-clause-unknowns
returns-in_err-values-clause-unknowns c = not-ok _ c.from_residual.result _ c.from_residual.ensures.1

pub returns-in_err-values-clause-equates : goal.returns-in_err-values-clause-equates
returns-in_err-values-clause-equates c = not-ok _ c.from_residual.result _ c.from_residual.ensures.1

pub returns-in_err-values-clause-exact : goal.returns-in_err-values-clause-exact
returns-in_err-values-clause-exact c = not-ok _ c.from_residual.result _ c.from_residual.ensures.1

pub returns-in_err-values-clause-constraints : goal.returns-in_err-values-clause-constraints
returns-in_err-values-clause-constraints c = not-ok _ c.from_residual.result _ c.from_residual.ensures.1

pub returns-in_err-values-clause-never : goal.returns-in_err-values-clause-never
returns-in_err-values-clause-never c = λ q. no-refusal c.from_residual.result _ c.from_residual.ensures.1 q

pub returns-in_err-values-clause-refusal : goal.returns-in_err-values-clause-refusal
returns-in_err-values-clause-refusal c = λ q. no-refusal c.from_residual.result _ c.from_residual.ensures.1 q

pub returns-in_err-filled-clause-unknowns : goal.returns-in_err-filled-clause-unknowns
returns-in_err-filled-clause-unknowns c = not-ok _ c.from_residual-in_err-filled.result _ c.from_residual-in_err-filled.ensures.1

pub returns-in_err-filled-clause-equates : goal.returns-in_err-filled-clause-equates
returns-in_err-filled-clause-equates c = not-ok _ c.from_residual-in_err-filled.result _ c.from_residual-in_err-filled.ensures.1

pub returns-in_err-filled-clause-exact : goal.returns-in_err-filled-clause-exact
returns-in_err-filled-clause-exact c = not-ok _ c.from_residual-in_err-filled.result _ c.from_residual-in_err-filled.ensures.1

pub returns-in_err-filled-clause-constraints : goal.returns-in_err-filled-clause-constraints
returns-in_err-filled-clause-constraints c = not-ok _ c.from_residual-in_err-filled.result _ c.from_residual-in_err-filled.ensures.1

pub returns-in_err-filled-clause-never : goal.returns-in_err-filled-clause-never
returns-in_err-filled-clause-never c = λ q. no-refusal c.from_residual-in_err-filled.result _ c.from_residual-in_err-filled.ensures.1 q

pub returns-in_err-filled-clause-refusal : goal.returns-in_err-filled-clause-refusal
returns-in_err-filled-clause-refusal c = λ q. no-refusal c.from_residual-in_err-filled.result _ c.from_residual-in_err-filled.ensures.1 q

pub returns-in_err-record_constraints-in-Ok-clause-unknowns : goal.returns-in_err-record_constraints-in-Ok-clause-unknowns
returns-in_err-record_constraints-in-Ok-clause-unknowns c = not-ok _ c.from_residual-in_err-record_constraints-in-Ok.result _ c.from_residual-in_err-record_constraints-in-Ok.ensures.1

pub returns-in_err-record_constraints-in-Ok-clause-equates : goal.returns-in_err-record_constraints-in-Ok-clause-equates
returns-in_err-record_constraints-in-Ok-clause-equates c = not-ok _ c.from_residual-in_err-record_constraints-in-Ok.result _ c.from_residual-in_err-record_constraints-in-Ok.ensures.1

pub returns-in_err-record_constraints-in-Ok-clause-exact : goal.returns-in_err-record_constraints-in-Ok-clause-exact
returns-in_err-record_constraints-in-Ok-clause-exact c = not-ok _ c.from_residual-in_err-record_constraints-in-Ok.result _ c.from_residual-in_err-record_constraints-in-Ok.ensures.1

pub returns-in_err-record_constraints-in-Ok-clause-constraints : goal.returns-in_err-record_constraints-in-Ok-clause-constraints
returns-in_err-record_constraints-in-Ok-clause-constraints c = not-ok _ c.from_residual-in_err-record_constraints-in-Ok.result _ c.from_residual-in_err-record_constraints-in-Ok.ensures.1

pub returns-in_err-record_constraints-in-Ok-clause-never : goal.returns-in_err-record_constraints-in-Ok-clause-never
returns-in_err-record_constraints-in-Ok-clause-never c = λ q. no-refusal c.from_residual-in_err-record_constraints-in-Ok.result _ c.from_residual-in_err-record_constraints-in-Ok.ensures.1 q

pub returns-in_err-record_constraints-in-Ok-clause-refusal : goal.returns-in_err-record_constraints-in-Ok-clause-refusal
returns-in_err-record_constraints-in-Ok-clause-refusal c = λ q. no-refusal c.from_residual-in_err-record_constraints-in-Ok.result _ c.from_residual-in_err-record_constraints-in-Ok.ensures.1 q

pub returns-clause-unknowns : goal.returns-clause-unknowns
returns-clause-unknowns c = tt

pub returns-clause-equates : goal.returns-clause-equates
returns-clause-equates c = tt

pub returns-clause-exact : goal.returns-clause-exact
returns-clause-exact c = tt

pub returns-clause-constraints : goal.returns-clause-constraints
returns-clause-constraints c = tt
