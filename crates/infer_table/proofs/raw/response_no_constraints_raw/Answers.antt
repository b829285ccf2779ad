use Rattle.std.proofs.Common.{◌<◌, ◌≤◌, length, get_or, ap, ◌∙◌, subst}
use Rattle.type_terms.specs.Kept.{args-held-later}
use Rattle.infer_table.specs.declared.canonical.CanonicalVarKind.TheVariants.{Ty}
use Rattle.infer_table.specs.Values.{values_of, values-later}
use Rattle.infer_table.proofs.Values.{values-push, one-more-variable, all-variables}
use Rattle.infer_table.proofs.Identities.{identity-numbered, identity-agrees}
use Rattle.infer_table.proofs.raw.response_no_constraints_raw.Goals as goal
use Rattle.type_terms.proofs.Items.{args-held-push}

pub loop-place-preserved : goal.loop-place-preserved
loop-place-preserved c =
    let now = c.loop-place.cx.entries in
    let next = c.canonical_variable.new.cx.entries in
    let inv = c.loop-place.invariant in
    let vs = c.loop-place.var_values.items in
    let k = c.canonical_variable.ensures.grew.keeps in
    let lt : c.loop-place.place < length c.args.variables.items = subst (λ z. c.loop-place.place < length z) c.deref-kind-items.ensures.value c.loop-place-test.true in
    record {
      keeps = λ j e h. k j e (inv.keeps j e h);
      limit = c.canonical_variable.ensures.grew.limit ∙ inv.limit;
      held = rw c.in_ok-push.ensures.items (args-held-push next vs c.in_ok-value.value (args-held-later now next k vs inv.held) c.in_ok-value.ensures.held);
      values = rw c.in_ok-push.ensures.items (rw (values-push next vs c.in_ok-value.value) (rw (values-later now next k vs inv.held)
          (one-more-variable (values_of now vs) _ _ c.args.variables.items c.loop-place.place _ _ lt (ap (λ z. get_or z c.loop-place.place Ty) c.deref-kind-items.ensures.value) c.in_ok-value.ensures.is inv.values)));
    }

pub returns-clause-numbered : goal.returns-clause-numbered
returns-clause-numbered c =
    let ks = c.args.variables.items in
    let vs = c.loop-place.var_values.items in
    let end : length ks ≤ c.loop-place.place = subst (λ z. length z ≤ c.loop-place.place) c.deref-kind-items.ensures.value c.loop-place-test.false in
    identity-numbered c.loop-place.cx.entries ks vs (all-variables (values_of c.loop-place.cx.entries vs) _ ks c.loop-place.place end c.loop-place.invariant.values)

pub returns-clause-agrees : goal.returns-clause-agrees
returns-clause-agrees c = λ es s xs law h sorted sorts.
    let ks = c.args.variables.items in
    let vs = c.loop-place.var_values.items in
    let end : length ks ≤ c.loop-place.place = subst (λ z. length z ≤ c.loop-place.place) c.deref-kind-items.ensures.value c.loop-place-test.false in
    identity-agrees es law s sorted c.loop-place.cx.entries ks vs xs h (all-variables (values_of c.loop-place.cx.entries vs) _ ks c.loop-place.place end c.loop-place.invariant.values) sorts
