-- Pairs of a linked set that are cleared by a world above.
use Rattle.std.proofs.Common.{◌≡◌, ℕ, true, false, List, [], ◌∷◌, refl, ap, sym, ◌∙◌, subst, ◌⊎◌, inl, inr, map}
use Rattle.type_terms.specs.Promised.Trees.{Trees}
use Rattle.type_terms.specs.Promised.Worlds.{World, Reference, ImplDecl, with_args}
use Rattle.type_terms.specs.Promised.Proofs.{In, Every, HasProof}
use Rattle.type_terms.specs.Promised.Proofs.{HasElaboratedProof}
use Rattle.type_terms.specs.Promised.Answers.{is_closed, is_bounded, is_possible, CommonInstance, IsFixedClause}
use Rattle.type_terms.specs.Promised.Renumbering.{Renumbering, View, HoldsView, renumbered, renumbered_reference, renumbered_impl}
use Rattle.type_terms.specs.Promised.LinkedSet.{LinkedSet, Cleared}
use Rattle.type_terms.specs.Wider.{IsWider, HasRulesOf, IsPlainImpl, Covers, AsksFor, KeepsTest, SupersKeepTest, anything}
use Rattle.type_terms.proofs.NoHolds.{every-member}
use Rattle.type_terms.proofs.RenumberedTrees.{inverse, back, impl-back, over-common, over-with-args}
use Rattle.type_terms.proofs.WiderProofs.{every-in, proof-above, elaborated-above}
use Rattle.type_terms.proofs.WiderAnswers.{no-above, premises-shut, supers-closed}
use Rattle.type_terms.proofs.WiderImpls.{cleared-below, fixed-above}

-- a common instance of two impls by other numbers, by their own
abbrev pub own-common : (ρ : Renumbering) (i j : ImplDecl) → CommonInstance (renumbered_impl ρ i) (renumbered_impl ρ j) → CommonInstance (renumbered_impl (inverse ρ) (renumbered_impl ρ i)) (renumbered_impl (inverse ρ) (renumbered_impl ρ j))
own-common ρ i j m = over-common (inverse ρ) (renumbered_impl ρ i) (renumbered_impl ρ j) m

-- what is said of its instances of where-clauses
lowered : (H : Reference → Type 0) (ρ : Renumbering) (A : Trees) (ks : List Reference) → Every H (map (with_args A) (map (renumbered_reference ρ) ks))
    → Every (λ r. H (renumbered_reference ρ r)) (map (with_args (renumbered (inverse ρ) A)) ks)
lowered H ρ A [] e = tt
lowered H ρ A (k ∷ ks) e =
    (subst H (ap (λ B. with_args B (renumbered_reference ρ k)) (sym (back (inverse ρ) A)) ∙ sym (over-with-args ρ (renumbered (inverse ρ) A) k)) e.0, lowered H ρ A ks e.1)

-- where no closed common instance by the text's numbers has its where-clauses in the set, the pair is cleared
pub set-cleared : (W : World) (ρ : Renumbering) (i j : ImplDecl)
    → ((m : CommonInstance i j) → Every (λ r. HasProof W [] (renumbered_reference ρ r)) (map (with_args m.left) i.clauses) → Every (λ r. HasProof W [] (renumbered_reference ρ r)) (map (with_args m.right) j.clauses) → ⊥)
    → Cleared W (renumbered_impl ρ i) (renumbered_impl ρ j)
set-cleared W ρ i j f m a b = by (renumbered_impl (inverse ρ) (renumbered_impl ρ i)) (renumbered_impl (inverse ρ) (renumbered_impl ρ j)) (impl-back ρ i) (impl-back ρ j) (own-common ρ i j m) refl refl
  where
    by : (x y : ImplDecl) → x ≡ i → y ≡ j → (n : CommonInstance x y) → n.left ≡ renumbered (inverse ρ) m.left → n.right ≡ renumbered (inverse ρ) m.right → ⊥
    by x y p q =
        subst (λ z. (n : CommonInstance z y) → n.left ≡ renumbered (inverse ρ) m.left → n.right ≡ renumbered (inverse ρ) m.right → ⊥) (sym p)
        (subst (λ z. (n : CommonInstance i z) → n.left ≡ renumbered (inverse ρ) m.left → n.right ≡ renumbered (inverse ρ) m.right → ⊥) (sym q)
        (λ n l r. f n
        (subst (λ A. Every (λ r. HasProof W [] (renumbered_reference ρ r)) (map (with_args A) i.clauses)) (sym l) (lowered (HasProof W []) ρ m.left i.clauses a))
        (subst (λ A. Every (λ r. HasProof W [] (renumbered_reference ρ r)) (map (with_args A) j.clauses)) (sym r) (lowered (HasProof W []) ρ m.right j.clauses b))))

-- a fixed where-clause of two wider impls that is impossible by a world that covers the view clears the pair
pub impossible-above-clears : (W : World) (vs : List View) (rank : ℕ → ℕ) → LinkedSet W vs rank → (v : View) → HoldsView W v → (U : World) → Covers v.world U
    → (limit : ℕ) (i j i' j' : ImplDecl) → IsWider is_closed i i' → IsWider is_closed j j' → IsPlainImpl i → IsPlainImpl j
    → (r : Reference) → IsFixedClause i' j' r → is_bounded limit U v.asker r ≡ true → is_possible limit U v.asker r ≡ false
    → Cleared W (renumbered_impl v.numbers i) (renumbered_impl v.numbers j)
impossible-above-clears W vs rank l v holds U g limit i j i' j' wi wj pi pj r fixed bounded impossible = set-cleared W v.numbers i j (λ m a b. by m a b (fixed-above i j i' j' wi wj pi pj r fixed m))
  where
    by : (m : CommonInstance i j) → Every (λ s. HasProof W [] (renumbered_reference v.numbers s)) (map (with_args m.left) i.clauses)
        → Every (λ s. HasProof W [] (renumbered_reference v.numbers s)) (map (with_args m.right) j.clauses)
        → In r (map (with_args m.left) i.clauses) ⊎ In r (map (with_args m.right) j.clauses) → ⊥
    by m a b (inl k) = no-above W vs rank l v holds U g limit r bounded impossible (every-member (λ s. HasProof W [] (renumbered_reference v.numbers s)) (map (with_args m.left) i.clauses) r a k)
    by m a b (inr k) = no-above W vs rank l v holds U g limit r bounded impossible (every-member (λ s. HasProof W [] (renumbered_reference v.numbers s)) (map (with_args m.right) j.clauses) r b k)

-- between worlds: proofs
pub proofs-above : (V U : World) (E : List Reference) → HasRulesOf anything V U E → (r : Reference) → HasProof V E r → HasProof U E r
proofs-above V U E b r h = proof-above anything V U E b (λ q a u i p j. refl) r refl h

pub elaborated-proofs-above : (V U : World) (E : List Reference) → HasRulesOf anything V U E → (r : Reference) → HasElaboratedProof V E r → HasElaboratedProof U E r
elaborated-proofs-above V U E b r h = elaborated-above anything V U E b (λ q a u i p j. refl) (λ q a s i. refl) r refl h

-- each world covers itself
covers-itself : (V : World) → Covers V V
covers-itself V = record {
  rules_there = λ r a u h. (u, h, every-in (AsksFor V u) u.premises (λ p k. inl k));
  known = λ c r k. k;
  supers = λ r s k. k;
}

-- by the view of a crate that a linked set holds, closed references keep to themselves
module _ (W : World) (vs : List View) (rank : ℕ → ℕ) (l : LinkedSet W vs rank) (v : View) (holds : HoldsView W v) where
  keeps : KeepsTest is_closed v.world []
  keeps r a u i p j = premises-shut W vs rank l v holds v.world (covers-itself v.world) r u a i p j

  supers-keep : SupersKeepTest is_closed v.world
  supers-keep r a s i = supers-closed W vs rank l v holds v.world (covers-itself v.world) r a s i

  pub view-proofs-above : (U : World) → HasRulesOf is_closed v.world U [] → (r : Reference) → is_closed r.args ≡ true
      → (HasProof v.world [] r → HasProof U [] r) × (HasElaboratedProof v.world [] r → HasElaboratedProof U [] r)
  view-proofs-above U b r a = (proof-above is_closed v.world U [] b keeps r a, elaborated-above is_closed v.world U [] b keeps supers-keep r a)

  pub view-cleared-below : (U : World) → HasRulesOf is_closed v.world U []
      → (i j i' j' : ImplDecl) → IsWider is_closed i i' → IsWider is_closed j j' → IsPlainImpl i → IsPlainImpl j
      → ((m : CommonInstance i' j') → Every (HasElaboratedProof U []) (map (with_args m.left) i'.clauses) → Every (HasElaboratedProof U []) (map (with_args m.right) j'.clauses) → ⊥)
      → (m : CommonInstance i j) → Every (HasElaboratedProof v.world []) (map (with_args m.left) i.clauses) → Every (HasElaboratedProof v.world []) (map (with_args m.right) j.clauses) → ⊥
  view-cleared-below U b i j i' j' f g p q =
      cleared-below (HasElaboratedProof v.world []) (HasElaboratedProof U []) (λ r a h. elaborated-above is_closed v.world U [] b keeps supers-keep r a h) i j i' j' f g p q
