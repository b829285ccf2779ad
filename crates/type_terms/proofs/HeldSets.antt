-- A joined set of crates whose headers have checked supertraits is a linked set.
use Rattle.std.proofs.Common.{◌≡◌, ℕ, zero, suc, true, false, List, [], ◌∷◌, refl, ap, sym, ◌∙◌, ◌==◌, subst, ◌⊎◌, inl, inr, map, length, Some}
use Rattle.type_terms.specs.Promised.Label.{param, placeholder, adt}
use Rattle.type_terms.specs.Promised.Trees.{Trees, none, tree, some_node, Fits}
use Rattle.type_terms.specs.Promised.Worlds.{World, Reference, StructDecl, ImplDecl, core, sees, view_of, structs_named, with_args, all_with_args}
use Rattle.type_terms.specs.Promised.Rules.{Rule, impl_rules, strict_supertraits, is_coinductive, is_auto, sized}
use Rattle.type_terms.specs.Promised.Proofs.{In, Every, HasProof}
use Rattle.type_terms.specs.Promised.Answers.{is_open, is_closed}
use Rattle.type_terms.specs.Promised.Core.{core_world, box}
use Rattle.type_terms.specs.Promised.Renumbering.{Renumbering, View, HoldsView, view_before, asker_in_set, renumbered_label, renumbered, renumbered_reference, renumbered_impl}
use Rattle.type_terms.specs.Promised.LinkedSet.{JoinedSet, LinkedSet, IsOfAnAnsweredCrate, is_stray}
use Rattle.type_terms.specs.Promised.Versions.{sees_trait}
use Rattle.type_terms.specs.Promised.Supers.{opaque, opaque_reference, SupersHold, IsHeld}
use Rattle.type_terms.proofs.Members.{in-filter, filter-in, same-number, true-or-false}
use Rattle.type_terms.proofs.Walking.{left, or-cases}
use Rattle.type_terms.proofs.ProofEntries.{map-in}
use Rattle.type_terms.proofs.Fitting.{ByImpl, impl-rule, closed-arguments, not-true}
use Rattle.type_terms.proofs.NoHolds.{every-member, all-plain-shut, closed-by}
use Rattle.type_terms.proofs.Supertraits.{filters, same-supers}
use Rattle.type_terms.proofs.OtherImpls.{supers-same}
use Rattle.type_terms.proofs.LaterVersions.{proof-before}
use Rattle.type_terms.proofs.ViewLaws.{sees-itself}
use Rattle.type_terms.proofs.Applies.{applies}
use Rattle.type_terms.proofs.SupersProved.{Supers, CoreLike, core-like, closed-items, supers-of-all}
use Rattle.type_terms.proofs.CoreLinked.{core-impl, core-covered}
use Rattle.type_terms.proofs.RenumberedTrees.{injective}
use Rattle.type_terms.proofs.RenumberedRules.{over-supers}
use Rattle.type_terms.proofs.RenumberedAnswers.{proof-there}
use Rattle.type_terms.proofs.SupersFromChecks.{Judged, checked-instance, checked-rule}
use Rattle.type_terms.proofs.ArrangedTrees.{reference-at as reference-with}
use Rattle.type_terms.proofs.JoinedParts.{map-written}

-- Other numbers leave parameters and placeholders as they are
over-opaque-numbers : (ρ : Renumbering) (t : Trees) → renumbered ρ (opaque t) ≡ opaque (renumbered ρ t)
over-opaque-numbers ρ none = refl
over-opaque-numbers ρ (tree (param s i) c o) = node (over-opaque-numbers ρ c) (over-opaque-numbers ρ o)
  where
    node : {c c' o o' : Trees} → c ≡ c' → o ≡ o' → tree (placeholder s i) c o ≡ tree (placeholder s i) c' o'
    node p q = cc
over-opaque-numbers ρ (tree (adt s) c o) = node (over-opaque-numbers ρ c) (over-opaque-numbers ρ o)
  where
    node : {c c' o o' : Trees} → c ≡ c' → o ≡ o' → tree (adt (ρ.structs.to s)) c o ≡ tree (adt (ρ.structs.to s)) c' o'
    node p q = cc
over-opaque-numbers ρ (tree l c o) = node (over-opaque-numbers ρ c) (over-opaque-numbers ρ o)
  where
    node : {c c' o o' : Trees} → c ≡ c' → o ≡ o' → tree (renumbered_label ρ l) c o ≡ tree (renumbered_label ρ l) c' o'
    node p q = cc

opaque-with-numbers : (ρ : Renumbering) (r : Reference) → renumbered_reference ρ (opaque_reference r) ≡ opaque_reference (renumbered_reference ρ r)
opaque-with-numbers ρ r = reference-with (ρ.traits.to r.trait) (over-opaque-numbers ρ r.args)

map-two : (f g h k : Reference → Reference) → ((r : Reference) → f (g r) ≡ h (k r)) → (rs : List Reference) → map f (map g rs) ≡ map h (map k rs)
map-two f g h k e [] = refl
map-two f g h k e (r ∷ rs) = two (e r) (map-two f g h k e rs)
  where
    two : {a b : Reference} {c d : List Reference} → a ≡ b → c ≡ d → a ∷ c ≡ b ∷ d
    two p q = cc

module _ (W : World) (vs : List View) (rank : ℕ → ℕ) (l : JoinedSet W vs rank) where
  judged : Judged W
  judged = record {
    plain = map-written W (λ t p. (p.open_places, p.dyns)) l.rules.plain;
    header_terms = λ i h. (l.rules.plain.headers i h).term;
    clause_terms = λ i k h g. (l.rules.plain.clauses i k h g).term;
    covered = l.rules.clauses_covered;
    sized_alone = l.rules.sized_alone;
  }

  -- what a check says of the view of an answer, it says of the set
  pub held-in-set : (v : View) → HoldsView W v → (x : ImplDecl) → In x v.world.impls → x.home ≡ v.asker → In (renumbered_impl v.numbers x) W.impls → SupersHold v.world x → SupersHold W (renumbered_impl v.numbers x)
  held-in-set v s x m own stands held =
      subst (Every (HasProof W (map opaque_reference (map (renumbered_reference ρ) x.clauses)))) supers-are
      (each (strict_supertraits v.world (opaque_reference x.header)) held)
    where
      ρ : Renumbering
      ρ = v.numbers

      c : ℕ
      c = asker_in_set v

      E : List Reference
      E = map opaque_reference x.clauses

      seen : sees_trait W c (ρ.traits.to x.header.trait) ≡ true
      seen =
          subst (λ d. sees_trait W d (ρ.traits.to x.header.trait) ≡ true) (ap ρ.crates.to own)
          (left (sees_trait W (ρ.crates.to x.home) (ρ.traits.to x.header.trait)) _ (l.rules.headers_in_scope (renumbered_impl ρ x) stands))

      supers-are : map (renumbered_reference ρ) (strict_supertraits v.world (opaque_reference x.header)) ≡ strict_supertraits W (opaque_reference (renumbered_reference ρ x.header))
      supers-are =
          over-supers ρ v.world (view_before W v) s.renumbers (opaque_reference x.header)
          ∙ supers-same (view_of W c) (view_of W c).crates (view_before W v).impls (renumbered_reference ρ (opaque_reference x.header))
          ∙ same-supers W vs rank l c (renumbered_reference ρ (opaque_reference x.header)) seen
          ∙ ap (strict_supertraits W) (opaque-with-numbers ρ x.header)

      one : (r : Reference) → HasProof v.world E r → HasProof W (map opaque_reference (map (renumbered_reference ρ) x.clauses)) (renumbered_reference ρ r)
      one r p =
          subst (λ F. HasProof W F (renumbered_reference ρ r)) (map-two (renumbered_reference ρ) opaque_reference opaque_reference (renumbered_reference ρ) (opaque-with-numbers ρ) x.clauses)
          (proof-before W vs rank l c (view_before W v).impls s.later (map (renumbered_reference ρ) E) (renumbered_reference ρ r) (proof-there ρ v.world (view_before W v) s.renumbers E r p))

      each : (rs : List Reference) → Every (HasProof v.world E) rs → Every (HasProof W (map opaque_reference (map (renumbered_reference ρ) x.clauses))) (map (renumbered_reference ρ) rs)
      each [] h = tt
      each (r ∷ rs) h = (one r h.0, each rs h.1)

  -- Core
  of-core : (i : ImplDecl) → In i core_world.impls → In i W.impls
  of-core i h = (in-filter (λ (x : ImplDecl). sees W core x.home) W.impls i (l.fits.core_later.stand i h)).0

  boxes : structs_named W box ≡ structs_named core_world box
  boxes = sym (filters (λ (x : StructDecl). x.name == box) (λ (x : StructDecl). sees W core x.home) W.structs seen) ∙ ap (λ (V : World). structs_named V box) l.fits.core_there
    where
      box-there : (x : StructDecl) × In x core_world.structs × (x.name ≡ box)
      box-there = (_, (0, refl), refl)

      stands : In box-there.0 W.structs × (sees W core box-there.0.home ≡ true)
      stands = in-filter (λ (x : StructDecl). sees W core x.home) W.structs box-there.0 (subst (λ (V : World). In box-there.0 V.structs) (sym l.fits.core_there) box-there.1)

      seen : (x : StructDecl) → In x W.structs → (x.name == box) ≡ true → sees W core x.home ≡ true
      seen x h e = subst (λ (y : StructDecl). sees W core y.home ≡ true) (l.fits.one_struct box-there.0 x stands.0 h (box-there.2 ∙ sym (same-number x.name box e))) stands.1

  k : CoreLike W
  k = core-like W vs rank l

  coinductive-bare : (t : ℕ) (a : Trees) → is_coinductive W t ≡ true → Supers W (record { trait = t; args = a })
  coinductive-bare t a h = by (or-cases (is_auto W t) (t == sized) h)
    where
      by : (is_auto W t ≡ true) ⊎ ((t == sized) ≡ true) → Supers W (record { trait = t; args = a })
      by (inl e) = subst (Every (HasProof W [])) (sym (k.autos_bare t a e)) tt
      by (inr e) = subst (λ n. Supers W (record { trait = n; args = a })) (sym (same-number t sized e)) (subst (Every (HasProof W [])) (sym (k.of_sized a)) tt)

  -- where each impl is one of core, or was checked
  module _ (judged-impl : (i : ImplDecl) → In i W.impls → In i core_world.impls ⊎ SupersHold W i) where
    closed-clause : (i : ImplDecl) (A : Trees) → In i W.impls → is_closed A ≡ true → (p : Reference) → In p (all_with_args A i.clauses) → is_closed p.args ≡ true
    closed-clause i A h c p g = closed-by p.args (all-plain-shut A i.clauses (not-true (some_node is_open A) c) (λ q m. (l.rules.plain.clauses i q h m).open_places) p g)

    step : (r : Reference) (i : ImplDecl) (u : Rule) → In i W.impls → In u (impl_rules r i) → is_closed r.args ≡ true → Every (HasProof W []) u.premises
        → (is_coinductive W r.trait ≡ false → (p : Reference) → In p u.premises → is_closed p.args ≡ true → Supers W p) → Supers W r
    step r i u h g c proved before = by (judged-impl i h) (true-or-false (is_coinductive W r.trait))
      where
        b : ByImpl r i u
        b = impl-rule r i u g

        shut : (p : Reference) → In p u.premises → is_closed p.args ≡ true
        shut p m =
            closed-clause i _ h (closed-arguments i.params i.header.args r.args c) p (subst (λ (v : Rule). In p v.premises) (sym b.is-rule) m)

        by : In i core_world.impls ⊎ SupersHold W i → (is_coinductive W r.trait ≡ true) ⊎ (is_coinductive W r.trait ≡ false) → Supers W r
        by (inl m) e = core-impl W k boxes of-core r i u m g (λ q p n. before q p n (shut p n))
        by (inr s) (inl e) = coinductive-bare r.trait r.args e
        by (inr s) (inr e) = checked-rule W judged r i u h g s c proved (λ p n. before e p n (shut p n))

    all-supers : (r : Reference) → is_closed r.args ≡ true → HasProof W [] r → Supers W r
    all-supers r c p = supers-of-all W k (λ (q : Reference). is_closed q.args ≡ true) (λ t x o h. closed-items t x o h) step r c p

    pub linked-where-judged : LinkedSet W vs rank
    linked-where-judged = record { joined = l; supers_proved = λ i h A c f p. at i h A c f p (judged-impl i h) }
      where
        at : (i : ImplDecl) → In i W.impls → (A : Trees) → is_closed A ≡ true → Fits A i.header.args → Every (HasProof W []) (all_with_args A i.clauses)
            → In i core_world.impls ⊎ SupersHold W i → Supers W (with_args A i.header)
        at i h A c f p (inl m) =
            all-supers (with_args A i.header)
            (closed-by (with_args A i.header).args (all-plain-shut A (i.header ∷ []) (not-true (some_node is_open A) c) (λ q g. one q g) (with_args A i.header) (0, refl)))
            (applies W i h (core-covered i m) A c f p)
          where
            one : (q : Reference) → In q (i.header ∷ []) → some_node is_stray q.args ≡ false
            one q (zero, e) = subst (λ (x : Reference). some_node is_stray x.args ≡ false) (head-of e) (l.rules.plain.headers i h).open_places
              where
                head-of : Some i.header ≡ Some q → i.header ≡ q
                head-of e = cc
            one q (suc n, e) = cc
        at i h A c f p (inr s) = checked-instance W judged i A h s c f p (λ q g. all-supers q (closed-clause i A h c q g) (every-member (HasProof W []) (all_with_args A i.clauses) q p g))

  module _ (answered : (i : ImplDecl) → In i W.impls → IsOfAnAnsweredCrate vs i) (held : (v : View) → In v vs → IsHeld v.world v.asker) where
    -- an impl of core, or one that was checked
    judged-impl : (i : ImplDecl) → In i W.impls → In i core_world.impls ⊎ SupersHold W i
    judged-impl i h = by (answered i h)
      where
        by : IsOfAnAnsweredCrate vs i → In i core_world.impls ⊎ SupersHold W i
        by (inl m) = inl m
        by (inr a) = inr (subst (SupersHold W) x.2 (held-in-set a.0 s x.0 x.1 x-own (subst (λ z. In z W.impls) (sym x.2) h) (held a.0 a.1 x.0 x.1 x-own)))
          where
            v : View
            v = a.0

            s : HoldsView W v
            s = every-member (HoldsView W) vs v l.as_answered a.1

            x : (z : ImplDecl) × In z v.world.impls × (renumbered_impl v.numbers z ≡ i)
            x = map-in (renumbered_impl v.numbers) v.world.impls i
                (s.later.own i (filter-in (λ (z : ImplDecl). sees W (asker_in_set v) z.home) W.impls i h (subst (λ d. sees W (asker_in_set v) d ≡ true) a.2 (sees-itself (length W.crates) W (asker_in_set v)))) (sym a.2))

            x-own : x.0.home ≡ v.asker
            x-own = injective v.numbers.crates x.0.home v.asker (ap (λ (z : ImplDecl). z.home) x.2 ∙ sym a.2)

    pub held-linked : LinkedSet W vs rank
    held-linked = linked-where-judged judged-impl
