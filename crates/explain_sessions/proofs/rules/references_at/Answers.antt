use Rattle.std.proofs.Common.{◌≡◌, ℕ, ◌+◌, refl, sym, subst, Some, take, get_or}
use Rattle.std.specs.List.{AllZip, slice_get}
use Rattle.std.proofs.lemmas.Option.{slice_get-get_or}
use Rattle.sessions.specs.TermFolds.declared.predicate.TraitRef.{TraitRef}
use Rattle.explain_sessions.proofs.RuleCandidates.{zip-push}
use Rattle.explain_sessions.proofs.rules.references_at.Goals as goal

pub loop-place-preserved : goal.loop-place-preserved
loop-place-preserved c =
    let rs = c.args.references.now in
    let i = c.loop-place.place-index in
    record {
      are = subst (AllZip (λ (j : ℕ) (r : TraitRef). slice_get rs j ≡ Some r) (take (i + 1) c.args.places.now)) (sym c.in_ok-push-in-Some.ensures.items)
          (zip-push (λ (j : ℕ) (r : TraitRef). slice_get rs j ≡ Some r) c.args.places.now i (i + 1) (get_or c.args.places.now i 0) c.loop-place.found.items c.in-Some.reference refl c.loop-place.invariant.are
          (slice_get-get_or c.args.places.now i 0 c.loop-place-test.true) c.in-Some.ensures);
    }
