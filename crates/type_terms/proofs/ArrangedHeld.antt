-- Checks of supertraits, each by a text with its own order of auto traits.
use Rattle.std.proofs.Common.{◌≡◌, ℕ, true, List, [], ◌∷◌, refl, ap, sym, ◌∙◌, subst, ◌⊎◌, inl, inr, map, length}
use Rattle.type_terms.specs.Promised.Label.{dynamic, auto_trait, param}
use Rattle.type_terms.specs.Promised.Trees.{Trees, none, tree}
use Rattle.type_terms.specs.Promised.Worlds.{World, Reference, ImplDecl, sees}
use Rattle.type_terms.specs.Promised.Rules.{strict_supertraits}
use Rattle.type_terms.specs.Promised.Proofs.{In, Every, HasProof}
use Rattle.type_terms.specs.Promised.Core.{core_world}
use Rattle.type_terms.specs.Promised.Supers.{opaque, opaque_reference, SupersHold, IsHeld}
use Rattle.type_terms.specs.Promised.LinkedSet.{JoinedSet}
use Rattle.type_terms.specs.Promised.Renumbering.{View, HoldsView, asker_in_set, renumbered_impl}
use Rattle.type_terms.specs.Promised.Arranging.{Arrangement, autos_in, with_autos, arranged, arranged_reference, arranged_impl, arranged_world}
use Rattle.type_terms.specs.ArrangingLaws.{Listed, HoldsInOrder, IsAnsweredInOrder, HeldSetsInAnyOrder}
use Rattle.type_terms.proofs.Members.{filter-in, in-map}
use Rattle.type_terms.proofs.ProofEntries.{map-in}
use Rattle.type_terms.proofs.RenumberedTrees.{injective}
use Rattle.type_terms.proofs.ViewLaws.{sees-itself}
use Rattle.type_terms.proofs.HeldSets.{held-in-set, linked-where-judged}
use Rattle.type_terms.proofs.ArrangedTrees.{reference-at}
use Rattle.type_terms.proofs.ArrangedRules.{over-supers}
use Rattle.type_terms.proofs.ArrangedProofs.{bound-world, proof-unarranged}
use Rattle.type_terms.proofs.ArrangedSets.{sees-same, arranged-joined}
use Rattle.type_terms.proofs.TermBasics.{node}
use Rattle.type_terms.proofs.JoinedParts.{dyns-hold-bounds}

autos-opaque : (t : Trees) → autos_in (opaque t) ≡ autos_in t
autos-opaque none = refl
autos-opaque (tree (param s i) c o) = autos-opaque o
autos-opaque (tree (auto_trait n) c o) = ap (λ ns. n ∷ ns) (autos-opaque o)
autos-opaque (tree l c o) = autos-opaque o

fill-opaque : (ns : List ℕ) (t : Trees) → with_autos ns (opaque t) ≡ opaque (with_autos ns t)
fill-opaque ns none = refl
fill-opaque ns (tree (param s i) c o) = node refl refl (fill-opaque ns o)
fill-opaque [] (tree (auto_trait n) c o) = node refl refl (fill-opaque [] o)
fill-opaque (m ∷ ns) (tree (auto_trait n) c o) = node refl refl (fill-opaque ns o)
fill-opaque ns (tree l c o) = node refl refl (fill-opaque ns o)

opaque-there : (α : Arrangement) (t : Trees) → arranged α (opaque t) ≡ opaque (arranged α t)
opaque-there α none = refl
opaque-there α (tree (param s i) c o) = node refl (opaque-there α c) (opaque-there α o)
opaque-there α (tree dynamic c o) =
    node refl
    (ap (λ ns. with_autos (α.to ns) (arranged α (opaque c))) (autos-opaque c) ∙ ap (with_autos (α.to (autos_in c))) (opaque-there α c) ∙ fill-opaque (α.to (autos_in c)) (arranged α c))
    (opaque-there α o)
opaque-there α (tree l c o) = node refl (opaque-there α c) (opaque-there α o)

opaque-so : (α : Arrangement) (r : Reference) → arranged_reference α (opaque_reference r) ≡ opaque_reference (arranged_reference α r)
opaque-so α r = reference-at r.trait (opaque-there α r.args)

module _ (W : World) (rank : ℕ → ℕ) (l : JoinedSet W [] rank) where
  -- what holds by the set in another order holds by it
  supers-here : (α : Arrangement) (i : ImplDecl) → SupersHold (arranged_world α W) (arranged_impl α i) → SupersHold W i
  supers-here α i h =
      each (strict_supertraits W (opaque_reference i.header))
      (subst (Every (HasProof (arranged_world α W) (map (arranged_reference α) (map opaque_reference i.clauses)))) (ap (strict_supertraits (arranged_world α W)) (sym (opaque-so α i.header)) ∙ sym (over-supers α W (bound-world W (dyns-hold-bounds W l.rules)) (opaque_reference i.header)))
      (subst (λ E. Every (HasProof (arranged_world α W) E) (strict_supertraits (arranged_world α W) (opaque_reference (arranged_reference α i.header)))) (clauses-are i.clauses) h))
    where
      clauses-are : (ks : List Reference) → map opaque_reference (map (arranged_reference α) ks) ≡ map (arranged_reference α) (map opaque_reference ks)
      clauses-are [] = refl
      clauses-are (k ∷ ks) = two (sym (opaque-so α k)) (clauses-are ks)
        where
          two : {r r' : Reference} {rs rs' : List Reference} → r ≡ r' → rs ≡ rs' → r ∷ rs ≡ r' ∷ rs'
          two e g = cc

      each : (rs : List Reference) → Every (HasProof (arranged_world α W) (map (arranged_reference α) (map opaque_reference i.clauses))) (map (arranged_reference α) rs) → Every (HasProof W (map opaque_reference i.clauses)) rs
      each [] p = tt
      each (r ∷ rs) p = (proof-unarranged α W (dyns-hold-bounds W l.rules) (map opaque_reference i.clauses) r p.0, each rs p.1)

  module _ (os : List Listed) (stand : (o : Listed) → In o os → HoldsInOrder W o.order o.view) (answered : (i : ImplDecl) → In i W.impls → IsAnsweredInOrder os i)
      (held : (o : Listed) → In o os → IsHeld o.view.world o.view.asker) where
    judged : (i : ImplDecl) → In i W.impls → In i core_world.impls ⊎ SupersHold W i
    judged i h = by (answered i h)
      where
        by : IsAnsweredInOrder os i → In i core_world.impls ⊎ SupersHold W i
        by (inl m) = inl m
        by (inr a) =
            inr (supers-here α i (subst (SupersHold (arranged_world α W)) x.2
            (held-in-set (arranged_world α W) [] rank (arranged-joined α W [] rank l) v s x.0 x.1 x-own (subst (λ z. In z (arranged_world α W).impls) (sym x.2) (in-map (arranged_impl α) W.impls i h)) (held a.0 a.1 x.0 x.1 x-own))))
          where
            α : Arrangement
            α = a.0.order

            v : View
            v = a.0.view

            s : HoldsView (arranged_world α W) v
            s = stand a.0 a.1

            x : (z : ImplDecl) × In z v.world.impls × (renumbered_impl v.numbers z ≡ arranged_impl α i)
            x = map-in (renumbered_impl v.numbers) v.world.impls (arranged_impl α i)
                (s.later.own (arranged_impl α i)
                (filter-in (λ (z : ImplDecl). sees (arranged_world α W) (asker_in_set v) z.home) (arranged_world α W).impls (arranged_impl α i) (in-map (arranged_impl α) W.impls i h)
                (sees-same α W (asker_in_set v) i.home ∙ subst (λ d. sees W (asker_in_set v) d ≡ true) a.2 (sees-itself (length W.crates) W (asker_in_set v)))) (sym a.2))

            x-own : x.0.home ≡ v.asker
            x-own = injective v.numbers.crates x.0.home v.asker (ap (λ (z : ImplDecl). z.home) x.2 ∙ sym a.2)

pub held-in-any-order : HeldSetsInAnyOrder
held-in-any-order W rank l os stand answered held = linked-where-judged W [] rank l (judged W rank l os stand answered held)
