use Rattle.std.proofs.Common.{◌≡◌, ◌<◌, length, Some, inl, inr, sym, ◌∙◌, subst, arith, get_or}
use Rattle.std.specs.List.{slice_get}
use Rattle.std.proofs.lemmas.Bool.{cases_lt}
use Rattle.std.proofs.lemmas.List.{length-set}
use Rattle.std.proofs.lemmas.Option.{same_Some, slice_get-get_or, slice_get_within}
use Rattle.coherence.specs.Groups.{IsCheckedIn}
use Rattle.coherence.specs.KeptLines.{IsCheckLineOf, IsSupersLine}
use Rattle.coherence.specs.declared.kept.KeptLine.{KeptLine}
use Rattle.coherence.proofs.KeptLines.{stays-on, still-kept, one-crate-more, check-there}
use Rattle.coherence.proofs.kept.keep_checks.Goals as goal

pub loop-place-preserved : goal.loop-place-preserved
loop-place-preserved g c =
    let inv = c.loop-place.invariant in
    let d = c.args.workspace.now in
    let ls = c.loop-place.lines.items in
    let places = c.args.places.now in
    let i = c.loop-place.place-index in
    let p = get_or places i 0 in
    let at : slice_get places i ≡ Some p = slice_get-get_or places i 0 (omega (arith, c.loop-place-test.true)) in
    let asked = c.requires.places.only i p at in
    let within : p < length ls = omega (arith, slice_get_within d.checks p asked.0 asked.1, inv.for_each) in
    let line : KeptLine = record { text = c.in_ok-text.text } in
    let is = subst (λ n. IsCheckLineOf n d p c.in_ok-text.text.items) inv.stays.depth c.in_ok-text.ensures.line in
    let step = still-kept (IsCheckLineOf c.args.session.now.depth d) ls p line within is in
    record {
      stays = stays-on _ _ _ (stays-on _ _ _ inv.stays c.in_ok-text.ensures.stays) c.checked.ensures;
      for_each = length-set ls p line ∙ inv.for_each;
      before = λ b n h a. step n (inl (inv.before b n h a));
      supers = subst (λ m. IsSupersLine c.args.session.now.depth d m c.check_line_once.new.supers) inv.stays.of_crate
          (subst (λ n. IsSupersLine n d c.loop-place.session.of_crate c.check_line_once.new.supers) inv.stays.depth c.in_ok-text.ensures.supers);
      done = λ j k h e. elim (cases_lt j i) [
        | inl lt ↦ step k (inl (inv.done j k lt e))
        | inr le ↦ let same : j ≡ i = omega arith in step k (inr (sym (same_Some p k (sym at ∙ subst (λ m. slice_get places m ≡ Some k) same e))))
      ];
    }

pub check_line_once-requires-clause-supers : goal.check_line_once-requires-clause-supers
check_line_once-requires-clause-supers g c =
    let inv = c.loop-place.invariant in
    let d = c.args.workspace.now in
    subst (λ n. IsSupersLine n d c.loop-place.session.of_crate c.loop-place.supers) (sym inv.stays.depth)
    (subst (λ m. IsSupersLine c.args.session.now.depth d m c.loop-place.supers) (sym inv.stays.of_crate) inv.supers)

pub index_mut-requires : goal.index_mut-requires
index_mut-requires g c =
    let places = c.args.places.now in
    let i = c.loop-place.place-index in
    let p = get_or places i 0 in
    let at : slice_get places i ≡ Some p = slice_get-get_or places i 0 (omega (arith, c.loop-place-test.true)) in
    let asked = c.requires.places.only i p at in
    omega (arith, slice_get_within c.args.workspace.now.checks p asked.0 asked.1, c.loop-place.invariant.for_each)

pub returns-clause-kept : goal.returns-clause-kept
returns-clause-kept g c =
    let inv = c.loop-place.invariant in
    let d = c.args.workspace.now in
    one-crate-more (length d.checks) (IsCheckedIn d) (IsCheckLineOf c.args.session.now.depth d) c.args.session.now.of_crate c.args.places.now c.loop-place.lines.items c.requires.places (check-there d) inv.for_each inv.before
    (λ i k h e. inv.done i k (omega (arith, c.loop-place-test.false, h)) e)
