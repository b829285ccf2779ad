use Rattle.std.proofs.Common.{◌≡◌, ◌<◌, ◌≤◌, ◌+◌, ℕ, suc, zero, slice_get, length, arith, sym, ◌∙◌, ap, refl, subst, ◌⊎◌, inl, inr}
use Rattle.std.proofs.lemmas.Option.{slice_get_read, slice_get_within, same_Some}
use Rattle.search_graph.specs.Provisional.{IsServing}
use Rattle.search_graph.proofs.provisional.find_among.Goals as goal

less_or_last : (i n : ℕ) → i < n + 1 → (i < n) ⊎ (i ≡ n)
less_or_last zero zero h = inr refl
less_or_last zero (suc n) h = inl (omega arith)
less_or_last (suc i) zero h = absurd (omega (arith, h))
less_or_last (suc i) (suc n) h = elim (less_or_last i n (omega (arith, h))) [ inl x ↦ inl (omega (arith, x)) | inr e ↦ inr (ap (λ k. suc k) e) ]

pub returns-clause-none : goal.returns-clause-none
returns-clause-none g c place e at serving =
    let inside : place < length c.args.entries.now = slice_get_within c.args.entries.now place e at in
    let past : length c.args.entries.now ≤ c.loop-place.place = c.loop-place-test.false in
    c.loop-place.invariant.before place e at (omega (arith, inside, past)) serving

pub returns-then-serves-clause-found : goal.returns-then-serves-clause-found
returns-then-serves-clause-found g c =
    (c.index-entries-place.result, slice_get_read c.args.entries.now (length c.args.entries.now) c.loop-place.place c.index-entries-place.result refl c.loop-place-test.true c.index-entries-place.is, c.serves.ensures.yes c.if-serves.true)

pub loop-place-preserved : goal.loop-place-preserved
loop-place-preserved g c =
    let inside : c.loop-place.place < length c.args.entries.now = c.loop-place-test.true in
    let at = slice_get_read c.args.entries.now (length c.args.entries.now) c.loop-place.place c.index-entries-place.result refl inside c.index-entries-place.is in
    record {
      within = omega (arith, inside);
      before = λ i e there less serving. elim (less_or_last i c.loop-place.place less) [
        | inl x ↦ c.loop-place.invariant.before i e there x serving
        | inr same ↦ c.serves.ensures.no c.if-serves.false (subst (λ z. IsServing c.args.number c.args.input.now c.args.kind c.args.depth z) (same_Some e c.index-entries-place.result (sym there ∙ ap (λ n. slice_get c.args.entries.now n) same ∙ at)) serving)
      ];
    }
