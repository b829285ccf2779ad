-- Goals of a pair of impls that are left open are possible.
use Rattle.std.proofs.Common.{◌≡◌, ◌==◌, ◌⊎◌, ℕ, Bool, true, false, List, [], ◌∷◌, length, Some, refl, sym, ap, ◌∙◌, subst, if◌then◌else◌, inl, inr}
use Rattle.std.proofs.lemmas.Bool.{eqb-true}
use Rattle.std.proofs.lemmas.Option.{same_Some}
use Rattle.type_terms.specs.Promised.Worlds.{World, ImplDecl}
use Rattle.type_terms.specs.Promised.Proofs.{In}
use Rattle.type_terms.proofs.Members.{here, there, in-map}
use Rattle.type_terms.specs.Promised.Handles.{Entry}
use Rattle.type_terms.specs.declared.ImplId.{ImplId}
use Rattle.term_folds.specs.declared.predicate.TraitRef.{TraitRef}
use Rattle.declarations.specs.Applied.{references_in}
use Rattle.declarations.specs.Held.{ImplHeld}
use Rattle.declarations.specs.Items.{Items, HeldImpl, impl_at, impl_in, reference_in, written}
use Rattle.declarations.specs.Promised.Elaboration.{Each}
use Rattle.declarations.specs.declared.items.ImplDef.{ImplDef}
use Rattle.overlap_check.specs.Orphans.{AreWrittenWell, HeaderHoldsParams}
use Rattle.overlap_check.specs.Written.{IsWrittenWell}
use Rattle.text_lowering.specs.Promised.SeenWorlds.{plainly_seen_from}
use Rattle.candidate_assembly.specs.Fitting.{solving_of}
use Rattle.candidate_assembly.specs.Ready.{AreReadyDeclarations}
use Rattle.sessions.specs.Fitting.{sorts_in}
use Rattle.sessions.specs.Goals.{HasFormedTerms}
use Rattle.sessions.specs.OpenPairs.{OpenPairGoalsArePossible}
use Rattle.sessions.specs.PairGoals.{IsImplOf, as_resolved}
use Rattle.sessions.specs.Refusals.{RefusalsAreExact}
use Rattle.sessions.proofs.FormedViews.{each-in}
use Rattle.sessions.proofs.PairGoals.{pair-goals-are-formed}

-- ---- the impl of a number
record IsThere (n : ℕ) (is : List HeldImpl) (w : ImplDef) : Type 0 where
  pub impl : HeldImpl
  pub stands : In impl is
  pub number : impl.id.index ≡ n
  pub def : impl.def ≡ w

found-there : (n : ℕ) (is : List HeldImpl) (w : ImplDef) → Some w ≡ impl_at n is → IsThere n is w
found-there n [] w e = absurd cc
found-there n (i ∷ is) w e = by (n == i.id.index) refl e (found-there n is w)
  where
    by : (b : Bool) → (n == i.id.index) ≡ b → Some w ≡ (if b then Some i.def else impl_at n is) → (Some w ≡ impl_at n is → IsThere n is w) → IsThere n (i ∷ is) w
    by true f g r = record { impl = i; stands = here i is; number = sym (eqb-true n i.id.index f); def = same_Some i.def w (sym g) }
    by false f g r = let x = r g in record { impl = x.impl; stands = there x.impl i is x.stands; number = x.number; def = x.def }

module _ (es : List Entry) (d : Items) (ready : AreReadyDeclarations es d) (well : AreWrittenWell es d) (U : World) (seen : written es d ≡ U) where
  abbrev named : ℕ → ImplDef → ImplDecl
  named n def = record { name = n; home = def.home.index; params = length def.params.items; header = reference_in es def.header; clauses = references_in es def.clauses.items }

  impl-of : (k : ImplId) (w : ImplDef) → Some w ≡ impl_at k.index d.impls → IsImplOf U es k w
  impl-of k w e =
      let h = found-there k.index d.impls w e in
      let i = in-map (λ (y : HeldImpl). impl_in es y.id y.def) d.impls h.impl h.stands in
      let is : impl_in es h.impl.id h.impl.def ≡ impl_in es k w = ap (λ n. named n h.impl.def) h.number ∙ ap (named k.index) h.def in
      record {
        seen = subst (λ (W : World). In (impl_in es k w) W.impls) seen (subst (λ (z : ImplDecl). In z (written es d).impls) is i);
        held = subst (ImplHeld es) h.def (each-in (λ (y : HeldImpl). ImplHeld es y.def) d.impls ready.held.impls h.impl h.stands);
        written = subst (IsWrittenWell es) h.def (each-in (λ (y : HeldImpl). IsWrittenWell es y.def × HeaderHoldsParams es y.def) d.impls well h.impl h.stands).0;
      }

-- ---- goals
one-of : (P : TraitRef → Type 0) (ls rs : List TraitRef) → Each P ls → Each P rs → (r : TraitRef) → In r ls ⊎ In r rs → P r
one-of P ls rs p q r (inl i) = each-in P ls p r i
one-of P ls rs p q r (inr i) = each-in P rs q r i

pub open-pair-goals-are-possible : RefusalsAreExact → OpenPairGoalsArePossible
open-pair-goals-are-possible exact d c depth text old lawful decls ready well seen of k j w x pair es found is solved r among left bounded =
    let U = plainly_seen_from d c in
    let formed = pair-goals-are-formed d text c old lawful k j w x (impl-of old decls ready well U seen k w pair.later) (impl-of old decls ready well U seen j x pair.earlier) es found is solved of.entries of.declarations of.seen in
    let one = one-of (λ (t : TraitRef). HasFormedTerms (written of.entries of.declarations) (sorts_in of.declarations) (as_resolved es found.table t)) found.left.items found.right.items formed.0 formed.1 r among in
    (exact d text c (solving_of old decls) of (as_resolved es found.table r) one depth bounded).left_open left
