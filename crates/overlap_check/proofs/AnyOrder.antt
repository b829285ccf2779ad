-- The headline over texts that each list auto traits in an order of its own.
use Rattle.std.proofs.Common.{[]}
use Rattle.type_terms.specs.Promised.Worlds.{ImplDecl}
use Rattle.type_terms.specs.Promised.Proofs.{In}
use Rattle.type_terms.specs.Promised.LinkedSet.{Cleared, IsPair}
use Rattle.type_terms.specs.Promised.Renumbering.{renumbered_reference, renumbered_impl}
use Rattle.type_terms.specs.Promised.Arranging.{arranged_world}
use Rattle.type_terms.specs.ArrangingLaws.{Listed, HoldsInOrder, placed_impl}
use Rattle.type_terms.proofs.Members.{in-left, in-right}
use Rattle.type_terms.proofs.NoTwo.{no-common-instance}
use Rattle.type_terms.proofs.ArrangedSets.{arranged-linked}
use Rattle.type_terms.proofs.ArrangedViews.{proof-of, cleared-back, stands-there, in-any-order}
use Rattle.type_terms.proofs.ArrangedNoTwo.{no-two-in-any-order}
use Rattle.type_terms.proofs.JoinedParts.{dyns-hold-bounds}
use Rattle.type_terms.specs.Promised.Questions.{filled_reference}
use Rattle.overlap_check.specs.SessionLaws.{HeadlineInAnyOrder}

pub headline-in-any-order : HeadlineInAnyOrder
headline-in-any-order limit W os qs rank l stand answered ok = record {
  one_impl = no-two-in-any-order W rank l os (λ o h. accepted-stands o h) answered (λ o h i j p. clear o h i j (record { stands = p.stands; partner = p.partner; own = p.own; before = p.before }));
  unrelated = no-common-instance W [] rank l.joined;
  cleared = clear;
  no_holds = λ o h ks r a m.
      a.0.1 (arranged_world o.order W) [] rank (arranged-linked o.order W [] rank l) o.view.numbers (asked-stands o h)
      (record { values = m.values; fitting = m.fitting; closed = m.closed; proved = proof-of o.order W (dyns-hold-bounds W l.joined.rules) (filled_reference ks m.values (renumbered_reference o.view.numbers r)) m.proved });
  yes_holds = λ o h ks ts r a. (in-any-order W [] rank l o.order o.view (asked-stands o h)).proofs (filled_reference ks ts r) a.1;
}
  where
    accepted-stands : (o : Listed) → In o os → HoldsInOrder W o.order o.view
    accepted-stands o h = stand o (in-left o os qs h)

    asked-stands : (o : Listed) → In o qs → HoldsInOrder W o.order o.view
    asked-stands o h = stand o (in-right o os qs h)

    clear : (o : Listed) → In o os → (i j : ImplDecl) → IsPair o.view.world o.view.asker i j → Cleared W (placed_impl o.order o.view i) (placed_impl o.order o.view j)
    clear o h i j p =
        cleared-back o.order W (dyns-hold-bounds W l.joined.rules) (renumbered_impl o.view.numbers i) (renumbered_impl o.view.numbers j)
        (stands-there (arranged_world o.order W) o.view (accepted-stands o h) i p.stands) (stands-there (arranged_world o.order W) o.view (accepted-stands o h) j p.partner)
        (((ok o h).cleared i j p).1 (arranged_world o.order W) [] rank (arranged-linked o.order W [] rank l) o.view.numbers (accepted-stands o h))
