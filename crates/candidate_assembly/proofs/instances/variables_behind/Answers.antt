use Rattle.std.proofs.Common.{refl, ap, Err}
use Rattle.type_terms.specs.Kept.{args-held-later}
use Rattle.infer_table.specs.declared.canonical.CanonicalVarKind.TheVariants.{Ty}
use Rattle.infer_table.specs.Values.{values_of, values-later}
use Rattle.infer_table.proofs.Values.{values-push}
use Rattle.type_terms.proofs.FailFacts.{at-limit}
use Rattle.goal_evaluator.proofs.Shortages.{some-kind}
use Rattle.type_terms.proofs.Grown.{grew-on}
use Rattle.candidate_assembly.proofs.Variables.{one-more-behind}
use Rattle.candidate_assembly.proofs.instances.variables_behind.Goals as goal
use Rattle.type_terms.proofs.Items.{args-held-push}

pub loop-place-preserved : goal.loop-place-preserved
loop-place-preserved c =
    let now = c.loop-place.cx.entries in
    let next = c.canonical_variable.new.cx.entries in
    let inv = c.loop-place.invariant in
    let vs = c.loop-place.values.items in
    let k = c.canonical_variable.ensures.grew.keeps in
    record {
      grew = grew-on inv.grew c.canonical_variable.ensures.grew;
      held = rw c.in_ok-push.ensures.items (args-held-push next vs c.in_ok-value.value (args-held-later now next k vs inv.held) c.in_ok-value.ensures.held);
      values = rw c.in_ok-push.ensures.items (rw (values-push next vs c.in_ok-value.value) (rw (values-later now next k vs inv.held)
          (one-more-behind c.args.others (values_of now vs) _ _ c.args.kinds.now c.loop-place.place _ Ty c.loop-place-test.true refl c.in_ok-value.ensures.is inv.values)));
    }

pub returns-in_err-value-clause-terms : goal.returns-in_err-value-clause-terms
returns-in_err-value-clause-terms c = record {
  grew = grew-on c.loop-place.invariant.grew c.canonical_variable.ensures.grew;
  full = at-limit c.from_residual.result c.from_residual.ensures.1 (λ p. some-kind (c.in_err-value.ensures.full (ap Err p)));
}
