-- What a set obeys with the auto traits of each `dyn` in another order, it obeys.
use Rattle.std.proofs.Common.{◌≡◌, ℕ, true, ◌==◌, List, [], ◌∷◌, map, refl, sym, ap, ◌∙◌, subst}
use Rattle.type_terms.specs.Promised.Label.{adt}
use Rattle.type_terms.specs.Promised.Trees.{Trees, tree}
use Rattle.type_terms.specs.Promised.Worlds.{World, TraitDecl, ImplDecl, Reference}
use Rattle.type_terms.specs.Promised.Rules.{is_auto}
use Rattle.type_terms.specs.Promised.Proofs.{In}
use Rattle.type_terms.specs.Promised.Walks.{struct_is, keeps_orphan_rule}
use Rattle.type_terms.specs.Promised.Versions.{in_scope}
use Rattle.type_terms.specs.Promised.LinkedSet.{is_stray, IsPlainTerm}
use Rattle.type_terms.specs.Promised.Arranging.{Arrangement, arranged, arranged_reference, arranged_trait, arranged_impl, arranged_world}
use Rattle.type_terms.specs.Arranging.{turned_back}
use Rattle.type_terms.proofs.Members.{in-map}
use Rattle.type_terms.proofs.ArrangedTrees.{back-to, reference-back, dyns-stay}
use Rattle.type_terms.proofs.ArrangedRules.{BoundWorld, auto-same}
use Rattle.type_terms.proofs.ArrangedProofs.{world-back}
use Rattle.type_terms.proofs.ArrangedAnswers.{some-same}
use Rattle.type_terms.proofs.ArrangedSets.{term-there, scope-there, keeps-there, struct-so, mentions-stay}
use Rattle.type_terms.proofs.JoinedParts.{TraitObeys, ImplObeys}

-- ---- trees
plain-there : (α : Arrangement) (t : Trees) → IsPlainTerm t → IsPlainTerm (arranged α t)
plain-there α t p = record { term = term-there α t p.term; open_places = some-same α is_stray t ∙ p.open_places; dyns = dyns-stay α t ∙ p.dyns }

pub plain-here : (α : Arrangement) (t : Trees) → IsPlainTerm (arranged α t) → IsPlainTerm t
plain-here α t p = subst IsPlainTerm (back-to α t) (plain-there (turned_back α) (arranged α t) p)

pub plain-trees-here : (α : Arrangement) (ts : List Trees) → ((t : Trees) → In t (map (arranged α) ts) → IsPlainTerm t) → (t : Trees) → In t ts → IsPlainTerm t
plain-trees-here α ts h t m = plain-here α t (h (arranged α t) (in-map (arranged α) ts t m))

pub plain-references-here : (α : Arrangement) (rs : List Reference) → ((r : Reference) → In r (map (arranged_reference α) rs) → IsPlainTerm r.args) → (r : Reference) → In r rs → IsPlainTerm r.args
plain-references-here α rs h r m = plain-here α r.args (h (arranged_reference α r) (in-map (arranged_reference α) rs r m))

-- ---- items
module _ (α : Arrangement) (W : World) where
  abbrev X : World
  X = arranged_world α W

  pub bare-here : (bs : List Reference) → map (arranged_reference α) bs ≡ [] → bs ≡ []
  bare-here [] e = refl
  bare-here (b ∷ bs) e = cc

  module _ (w : BoundWorld X) where
    scope-here : (c : ℕ) (r : Reference) → in_scope X c (arranged_reference α r) ≡ true → in_scope W c r ≡ true
    scope-here c r h =
        subst (λ (V : World). in_scope V c r ≡ true) (world-back α W)
        (subst (λ q. in_scope (arranged_world (turned_back α) X) c q ≡ true) (reference-back α r) (scope-there (turned_back α) X w c (arranged_reference α r) h))

    pub trait-here : (x : TraitDecl) → TraitObeys X (arranged_trait α x) → TraitObeys W x
    trait-here x p = record {
      plain = plain-references-here α x.bounds p.plain;
      names = λ b m. scope-here x.home b (p.names (arranged_reference α b) (in-map (arranged_reference α) x.bounds b m));
      autos_bare = λ e. bare-here x.bounds (p.autos_bare e);
    }

    pub impl-here : (i : ImplDecl) → ImplObeys X (arranged_impl α i) → ImplObeys W i
    impl-here i p = record {
      plain_header = plain-here α i.header.args p.plain_header;
      plain_clauses = plain-references-here α i.clauses p.plain_clauses;
      names = scope-here i.home i.header p.names;
      covered = λ k m s n e.
          sym (mentions-stay α s n i.header.args) ∙ p.covered (arranged_reference α k) (in-map (arranged_reference α) i.clauses k m) s n (mentions-stay α s n k.args ∙ e);
      not_sized = p.not_sized;
    }

    pub keeps-here : (c : ℕ) (r : Reference) → keeps_orphan_rule X c (arranged_reference α r) ≡ true → keeps_orphan_rule W c r ≡ true
    keeps-here c r h =
        subst (λ (V : World). keeps_orphan_rule V c r ≡ true) (world-back α W)
        (subst (λ q. keeps_orphan_rule (arranged_world (turned_back α) X) c q ≡ true) (reference-back α r) (keeps-there (turned_back α) X w c (arranged_reference α r) ∙ h))

  module _ (w : BoundWorld W) where
    pub auto-there : (t : ℕ) → is_auto W t ≡ true → is_auto X t ≡ true
    auto-there t e = auto-same α W w t ∙ e

    pub at-home-here : (i : ImplDecl) → (k : ℕ) × (ks : Trees) × (os : Trees) × ((arranged_impl α i).header.args ≡ tree (adt k) ks os) × (struct_is (λ x. x.home == i.home) X k ≡ true)
        → (k : ℕ) × (ks : Trees) × (os : Trees) × (i.header.args ≡ tree (adt k) ks os) × (struct_is (λ x. x.home == i.home) W k ≡ true)
    at-home-here i h = (
      h.0,
      arranged (turned_back α) h.1,
      arranged (turned_back α) h.2,
      sym (back-to α i.header.args) ∙ ap (arranged (turned_back α)) h.3,
      sym (struct-so α W w (λ x. x.home == i.home) (λ x. x.home == i.home) (λ x. refl) h.0) ∙ h.4,
    )
