use Rattle.std.proofs.Common.{◌≡◌, ◌<◌, length, get_or, ap, sym, ◌∙◌, subst, arith, Option}
use Rattle.std.specs.Prelude.{IfSome, option_map, unwrap_or}
use Rattle.type_terms.specs.Promised.Handles.{ArgHeld}
use Rattle.type_terms.specs.declared.kinds.GenericArgKind.{GenericArgKind}
use Rattle.type_terms.specs.Kept.{args-held-later}
use Rattle.infer_table.specs.declared.canonical.CanonicalVarKind.TheVariants.{Ty}
use Rattle.infer_table.specs.Values.{values_of, value_of, values-later}
use Rattle.infer_table.specs.Unification.{table_trees}
use Rattle.infer_table.specs.Responses.{answer_trees}
use Rattle.infer_table.specs.Applying.{known_value, next_unknown, table_after}
use Rattle.infer_table.specs.Growth.{grows-trans}
use Rattle.infer_table.proofs.KnownUnknowns.{one-more-table}
use Rattle.infer_table.proofs.Values.{own_of, values-push, one-more-value, found-later, same-slot, original-held-later}
use Rattle.goal_evaluator.proofs.apply.values_to_apply.Goals as goal
use Rattle.type_terms.proofs.Items.{args-held-push}

pub value_or_unknown-requires-clause-known : goal.value_or_unknown-requires-clause-known
value_or_unknown-requires-clause-known c =
    let es = c.args.cx.now.entries in
    let now = c.loop-number.cx.entries in
    let i = c.loop-number.number in
    let vs = c.args.response.now.var_values.items in
    let os = c.args.original_values.now in
    let lt : i < c.len-count.result = omega (arith, c.len-count.ensures, c.deref-kind-items.ensures.len, c.loop-number-test.true) in
    let found : c.index.result.now ≡ own_of es i vs os = same-slot c.in_ok-known.known.items i c.index.result.now (omega (arith, lt, c.in_ok-known.ensures.count)) c.index.ensures ∙ c.in_ok-known.ensures.known i lt ∙ ap (λ z. own_of es i z os) c.deref.ensures.value in
    subst (λ (z : Option GenericArgKind). IfSome z (λ a. ArgHeld now a)) (sym found) (original-held-later es now c.loop-number.invariant.keeps i vs os c.requires.values)

pub loop-number-preserved : goal.loop-number-preserved
loop-number-preserved c =
    let es = c.args.cx.now.entries in
    let now = c.loop-number.cx.entries in
    let next = c.value_or_unknown.new.cx.entries in
    let inv = c.loop-number.invariant in
    let vs = c.loop-number.values.items in
    let k = c.value_or_unknown.ensures.terms.grew.keeps in
    let i = c.loop-number.number in
    let r = c.args.response.now in
    let os = c.args.original_values.now in
    let known = known_value (answer_trees es r) (values_of es os) in
    let t = table_trees es c.loop-number.table in
    let lt-count : i < c.len-count.result = omega (arith, c.len-count.ensures, c.deref-kind-items.ensures.len, c.loop-number-test.true) in
    let is : c.index.result.now ≡ own_of es i r.var_values.items os = same-slot c.in_ok-known.known.items i c.index.result.now (omega (arith, lt-count, c.in_ok-known.ensures.count)) c.index.ensures ∙ c.in_ok-known.ensures.known i lt-count ∙ ap (λ z. own_of es i z os) c.deref.ensures.value in
    let found : option_map (value_of now) c.index.result.now ≡ known i = found-later es now inv.keeps i r.var_values.items os c.index.result.now c.requires.values is in
    let lt : i < length r.variables.items = subst (λ z. i < length z) c.deref-kind-items.ensures.value c.loop-number-test.true in
    let kind = get_or c.deref-kind-items.result.now i Ty in
    record {
      keeps = λ j e h. k j e (inv.keeps j e h);
      limit = c.value_or_unknown.ensures.terms.grew.limit ∙ inv.limit;
      ready = c.value_or_unknown.ensures.ready;
      bindings = c.value_or_unknown.ensures.bindings ∙ inv.bindings;
      constraints = c.value_or_unknown.ensures.constraints ∙ inv.constraints;
      grows = grows-trans _ _ _ inv.grows c.value_or_unknown.ensures.grows;
      made = one-more-table known t (table_trees es c.value_or_unknown.new.table) _ r.variables.items i kind Ty lt (ap (λ z. get_or z i Ty) c.deref-kind-items.ensures.value)
          (c.in_ok-value.ensures.made es ∙ ap (λ z. table_after z t kind) found) inv.made;
      held = rw c.in_ok-push.ensures.items (args-held-push next vs c.in_ok-value.value (args-held-later now next k vs inv.held) c.in_ok-value.ensures.held);
      values = rw c.in_ok-push.ensures.items (rw (values-push next vs c.in_ok-value.value) (rw (values-later now next k vs inv.held)
          (one-more-value known t (table_trees es c.value_or_unknown.new.table) (values_of now vs) _ _ r.variables.items i kind Ty lt (ap (λ z. get_or z i Ty) c.deref-kind-items.ensures.value)
          (c.in_ok-value.ensures.is es ∙ ap (λ z. unwrap_or z (next_unknown t kind)) found)
          (c.in_ok-value.ensures.made es ∙ ap (λ z. table_after z t kind) found) inv.values)));
    }
