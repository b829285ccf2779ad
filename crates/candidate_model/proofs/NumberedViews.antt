-- A linked set that holds a view by other numbers proves by it.
use Rattle.std.proofs.Common.{◌≡◌, ℕ, ◌==◌, true, if◌then◌else◌, List, [], ◌∷◌, map, ◌⊎◌, inl, inr, refl, sym, ◌∙◌, subst}
use Rattle.std.specs.List.{flat_map}
use Rattle.type_terms.specs.Promised.Label.{Label, adt, principal, auto_trait, predicate}
use Rattle.type_terms.specs.Promised.Trees.{Trees, none, tree}
use Rattle.type_terms.specs.Promised.Worlds.{World, Reference, TraitDecl, ImplDecl, view_of, sees, traits_named}
use Rattle.type_terms.specs.Promised.Rules.{Rule, rules, strict_supertraits, is_auto}
use Rattle.type_terms.specs.Promised.Proofs.{In, HasProof}
use Rattle.type_terms.specs.Promised.Proofs as Model
use Rattle.type_terms.specs.Promised.Answers.{is_closed}
use Rattle.type_terms.specs.Promised.Walks.{is_known, is_known_in}
use Rattle.type_terms.specs.Promised.LinkedSet.{is_stray}
use Rattle.type_terms.specs.LinkedSet.{Unknown}
use Rattle.type_terms.specs.Promised.Renumbering.{View, Renumbering, HoldsView, view_before, renumbered, renumbered_label, renumbered_reference, renumbered_trait, renumbered_impl, asker_in_set}
use Rattle.type_terms.specs.Renumbering.{renumbered_rule}
use Rattle.type_terms.proofs.Members.{in-filter, filter-in, in-map, in-left, flat-in, some-member, member-some, self-number, not-both}
use Rattle.type_terms.proofs.NoHolds.{shut, every-member}
use Rattle.type_terms.proofs.WorkedProofs.{needs-rule}
use Rattle.type_terms.proofs.SupersProved.{supers-proved-for-all}
use Rattle.type_terms.proofs.ViewLaws.{view-gives-or-unknown, known-in-set, rule-in-view, super-in-set}
use Rattle.type_terms.proofs.RenumberedTrees.{over-some, over-closed}
use Rattle.type_terms.proofs.RenumberedRules.{auto-same}
use Rattle.candidate_model.specs.Meaning.{ViewMeaning, LinkedWith, proved_in}
use Rattle.candidate_model.proofs.HavingViews.{ProvesBy}

stray-same : (ρ : Renumbering) (l : Label) → is_stray (renumbered_label ρ l) ≡ is_stray l
stray-same ρ (adt s) = refl
stray-same ρ (principal n t) = refl
stray-same ρ (auto_trait t) = refl
stray-same ρ (predicate k) = refl
stray-same ρ l = refl

-- a label that is a struct's by other numbers is a struct's
struct-label : (ρ : Renumbering) (l : Label) (s : ℕ) → renumbered_label ρ l ≡ adt s → (k : ℕ) × (l ≡ adt k)
struct-label ρ (adt k) s e = (k, refl)
struct-label ρ (principal n t) s e = absurd (cc)
struct-label ρ (auto_trait t) s e = absurd (cc)
struct-label ρ (predicate k) s e = absurd (cc)
struct-label ρ l s e = (s, e)

begins-struct : (ρ : Renumbering) (t : Trees) (s : ℕ) (ks os : Trees) → renumbered ρ t ≡ tree (adt s) ks os → (k : ℕ) × (c : Trees) × (o : Trees) × (t ≡ tree (adt k) c o)
begins-struct ρ none s ks os e = absurd (cc)
begins-struct ρ (tree l c o) s ks os e = let x = struct-label ρ l s (label e) in (x.0, c, o, same x.1)
  where
    label : tree (renumbered_label ρ l) (renumbered ρ c) (renumbered ρ o) ≡ tree (adt s) ks os → renumbered_label ρ l ≡ adt s
    label f = cc

    same : {k : ℕ} → l ≡ adt k → tree l c o ≡ tree (adt k) c o
    same f = cc

module _ (m : ViewMeaning) (w : LinkedWith m) (V : World) (holds : HoldsView w.set (record { numbers = w.numbers; asker = m.crate; world = V })) where
  abbrev W : World
  W = w.set

  abbrev ρ : Renumbering
  ρ = w.numbers

  abbrev seen : World
  seen = view_of W (ρ.crates.to m.crate)

  abbrev v : View
  v = record { numbers = ρ; asker = m.crate; world = V }

  abbrev Q : Reference → Reference
  Q r = renumbered_reference ρ r

  back : (ps : List Reference) → Model.Every (HasProof W []) (map (renumbered_reference ρ) ps) → Model.Every (proved_in w) ps
  back [] e = tt
  back (p ∷ ps) e = (e.0, back ps e.1)

  by-rule : (r : Reference) → is_closed r.args ≡ true → is_known_in V m.crate r ≡ true → proved_in w r → (u : Rule) × In u (rules V [] r) × Model.Every (proved_in w) u.premises
  by-rule r closed known h = by (view-gives-or-unknown W w.views w.rank w.linked v holds r closed u.0 u.1 u.2)
    where
      u : (u : Rule) × In u (rules W [] (renumbered_reference ρ r)) × Model.Every (HasProof W []) u.premises
      u = needs-rule W [] (renumbered_reference ρ r) h

      by : ((x : Rule) × In x (rules V [] r) × (renumbered_rule ρ x ≡ u.0)) ⊎ Unknown W (asker_in_set v) (renumbered_reference ρ r) → (u : Rule) × In u (rules V [] r) × Model.Every (proved_in w) u.premises
      by (inl g) = (g.0, g.1, back g.0.premises (subst (λ (z : Rule). Model.Every (HasProof W []) z.premises) (sym g.2) u.2))
      by (inr g) = absurd (not-both (is_known W (asker_in_set v) (renumbered_reference ρ r)) (known-in-set W w.views w.rank w.linked v holds r known) g.unknown)

  by-shut : (r : Reference) (u : Rule) → is_closed r.args ≡ true → In u (rules V [] r) → (p : Reference) → In p u.premises → is_closed p.args ≡ true
  by-shut r u closed i p j =
      sym (over-closed ρ p.args)
      ∙ shut W w.views w.rank w.linked.joined (ρ.crates.to m.crate) (Q r) (Q p) (over-closed ρ r.args ∙ closed)
      (in-left (Q p) (flat_map (λ (x : Rule). x.premises) (rules seen [] (Q r))) (if is_known_in seen (ρ.crates.to m.crate) (Q r) then [] else strict_supertraits seen (Q r))
      (flat-in (λ (x : Rule). x.premises) (rules seen [] (Q r)) (renumbered_rule ρ u) (Q p) (rule-in-view W w.views w.rank w.linked v holds r u i) (in-map (renumbered_reference ρ) u.premises p j)))

  by-supers : (r : Reference) → is_closed r.args ≡ true → proved_in w r → (s : Reference) → In s (strict_supertraits V r) → proved_in w s
  by-supers r closed h s i =
      every-member (HasProof W []) (strict_supertraits W (Q r)) (Q s) (supers-proved-for-all W w.views w.rank w.linked (Q r) (over-closed ρ r.args ∙ closed) h)
      (super-in-set W w.views w.rank w.linked v holds r s i)

  -- a trait of the view is one of the set, by other numbers
  trait-there : (x : TraitDecl) → In x V.traits → In (renumbered_trait ρ x) W.traits
  trait-there x i =
      let named = in-map (renumbered_trait ρ) (traits_named V x.name) x (filter-in (λ (y : TraitDecl). y.name == x.name) V.traits x i (self-number x.name)) in
      let there = subst (In (renumbered_trait ρ x)) (sym (holds.renumbers.same_traits x.name)) named in
      (in-filter (λ (y : TraitDecl). sees W (ρ.crates.to m.crate) y.home) W.traits (renumbered_trait ρ x) (in-filter (λ (y : TraitDecl). y.name == ρ.traits.to x.name) seen.traits (renumbered_trait ρ x) there).0).0

  pub proves-by : ProvesBy V m.crate (proved_in w)
  proves-by = record {
    rule = by-rule;
    supers = by-supers;
    leads =
        record {
          shut = by-shut;
          trait_rank = λ t. w.linked.joined.rules.trait_rank (ρ.traits.to t);
          down = λ x b i j. w.linked.joined.rules.supers_before (renumbered_trait ρ x) (Q b) (trait-there x i) (in-map (renumbered_reference ρ) x.bounds b j);
          plain = λ x b i j. sym (over-some ρ is_stray is_stray (stray-same ρ) b.args) ∙ (w.linked.joined.rules.plain.bounds (renumbered_trait ρ x) (Q b) (trait-there x i) (in-map (renumbered_reference ρ) x.bounds b j)).open_places;
        };
  }

  -- an auto trait of the view is one in the set
  auto-there : (t : ℕ) → is_auto V t ≡ true → is_auto W (ρ.traits.to t) ≡ true
  auto-there t auto =
      let found = some-member (λ (x : TraitDecl). x.is_auto) (traits_named seen (ρ.traits.to t)) (auto-same ρ V (view_before W v) holds.renumbers t ∙ auto) in
      let named = in-filter (λ (x : TraitDecl). x.name == ρ.traits.to t) seen.traits found.0 found.1 in
      let there = in-filter (λ (x : TraitDecl). sees W (ρ.crates.to m.crate) x.home) W.traits found.0 named.0 in
      member-some (λ (x : TraitDecl). x.is_auto) (traits_named W (ρ.traits.to t)) found.0 (filter-in (λ (x : TraitDecl). x.name == ρ.traits.to t) W.traits found.0 there.0 named.1) found.2

  -- an impl of an auto trait is for a struct
  pub auto-of-struct : (i : ImplDecl) → In i V.impls → is_auto V i.header.trait ≡ true → (s : ℕ) × (ks : Trees) × (os : Trees) × (i.header.args ≡ tree (adt s) ks os)
  auto-of-struct i j auto =
      let there = (in-filter (λ (x : ImplDecl). sees W (ρ.crates.to m.crate) x.home) W.impls (renumbered_impl ρ i) (holds.later.later.stand (renumbered_impl ρ i) (in-map (renumbered_impl ρ) V.impls i j))).0 in
      let home = w.linked.joined.rules.autos_at_home (renumbered_impl ρ i) there (auto-there i.header.trait auto) in
      begins-struct ρ i.header.args home.0 home.1 home.2 home.3
