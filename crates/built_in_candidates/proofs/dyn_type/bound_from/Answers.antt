use Rattle.std.proofs.Common.{◌≡◌, ℕ, ◌+◌, ◌-◌, zero, suc, drop, refl, sym, ap, ◌∙◌, arith}
use Rattle.std.specs.List.{slice_get}
use Rattle.declarations.specs.Items.{reference_in}
use Rattle.built_in_candidates.specs.Objects.{numbered_to, can_be_in}
use Rattle.built_in_candidates.proofs.NextBounds.{passed-over, counted-on}
use Rattle.built_in_candidates.proofs.dyn_type.bound_from.Goals.{then-can_be+else-before-eq0, else-can_be}
use Rattle.built_in_candidates.proofs.dyn_type.bound_from.Goals as goal

one-less : (n m : ℕ) → m ≡ n - 1 → (n ≡ 0 → ⊥) → n ≡ suc m
one-less zero m e h = absurd (h refl)
one-less (suc n) m e h = omega (arith, e)

pub rest-preserved : goal.rest-preserved
rest-preserved c =
    let es = c.args.cx.now.entries in
    let p = can_be_in es (reference_in es c.args.asked) in
    let rest = c.split_at.result.1.now in
    let k = c.rest.skipped in
    let next : k + 1 ≡ suc k = omega arith in
    elim c.if-can_be.branch [
      | then-can_be+else-before-eq0 w ↦
          sym (counted-on p c.args.first rest k c.index-rest-skipped.result c.rest-test.true c.index-rest-skipped.is (k + 1) c.if-can_be.before next (sym c.can_be.ensures ∙ w.if-can_be.true))
          ∙ ap (λ n. slice_get (numbered_to p (c.args.first + k) (drop k rest)) n) (sym (one-less c.rest.before c.if-can_be.before w.before-is w.if-before-eq0.false))
          ∙ c.rest.invariant
      | else-can_be w ↦
          ap (λ n. slice_get (numbered_to p (c.args.first + (k + 1)) (drop (k + 1) rest)) n) w.before-is
          ∙ sym (passed-over p c.args.first rest k c.index-rest-skipped.result c.rest-test.true c.index-rest-skipped.is (k + 1) c.rest.before next (sym c.can_be.ensures ∙ w.if-can_be.false))
          ∙ c.rest.invariant
    ]
