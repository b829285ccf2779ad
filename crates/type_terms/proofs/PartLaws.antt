-- What the answers by a part of a view mean for the linked sets with the view.
use Rattle.std.proofs.Common.{◌≡◌, ℕ, ◌<◌, Bool, true, false, not, List, [], ◌∷◌, ◌++◌, map, if◌then◌else◌, refl, ap, sym, ◌∙◌, ◌&&◌, ◌||◌, ◌==◌, filter, cond, subst, ◌⊎◌, inl, inr, ltb, arith}
use Rattle.std.proofs.lemmas.Bool.Decides.{nat_tests}
use Rattle.std.specs.List.{flat_map, list_all}
use Rattle.type_terms.specs.Promised.Label.{adt}
use Rattle.type_terms.specs.Promised.Trees.{leaf, some_node}
use Rattle.type_terms.specs.Promised.Worlds.{World, Reference, StructDecl, TraitDecl, ImplDecl, traits_named}
use Rattle.type_terms.specs.Promised.Rules.{Rule, by_impl, rules, is_coinductive, strict_supertraits, same_head, same_reference, impl_rules, built_in_rules, is_auto, asked}
use Rattle.type_terms.specs.Promised.Proofs.{ProofEntry, In, Every, Stands, Follows, HasProof}
use Rattle.type_terms.specs.Promised.Answers.{is_possible, is_bounded, IsFixedClause}
use Rattle.type_terms.specs.Promised.Supers.{opaque_reference}
use Rattle.type_terms.specs.Promised.Renumbering.{View, HoldsView, renumbered_reference, renumbered_impl}
use Rattle.type_terms.specs.Laws.{CarriesOver}
use Rattle.type_terms.specs.Promised.LinkedSet.{LinkedSet, Cleared}
use Rattle.type_terms.specs.Parts.{ATextOfAPartAnswersAlike, IsClosedSet, IsPartFor, AnswersAlike, cut_down, APartAgrees, APartAnswersAlike, APartKeepsHeaders, ClosedByThePartIsClosed, WhatIsCutDownHasTheSameRules, WhatIsCutDownIsAPart, WhatPassesIsEnough, SupersHeldByAPart, listed, is_left_out, matters, shares_head}
use Rattle.type_terms.specs.Worked.{base, u8, applied, trait_of}
use Rattle.type_terms.specs.WorkedParts.{whole, few, asked_of_show, show_and_sup, looping, FourImplsAreEnough, SameRulesAreNotEnough}
use Rattle.type_terms.proofs.Members.{in-filter, filter-in, some-member, member-some, same-number, not-both, here, there, in-cases, in-nothing}
use Rattle.type_terms.proofs.Walking.{left, right, both, or-left, or-right, or-cases}
use Rattle.type_terms.proofs.NoHolds.{member-each, every-member}
use Rattle.type_terms.proofs.ProofLists.{stands-split}
use Rattle.type_terms.proofs.WiderProofs.{every-in}
use Rattle.type_terms.proofs.Fitting.{not-true, same-reference-sound}
use Rattle.type_terms.proofs.Supertraits.{filters}
use Rattle.type_terms.proofs.ViewLaws.{carries-over, no-in-set, proved-in-set, cleared-in-set}
use Rattle.type_terms.proofs.PartProofs.{answers-alike, closed-by, closed-list}
use Rattle.type_terms.proofs.PartRules.{part-agrees, built-in-same, supers-same, orphan-same}

pub a-part-agrees : APartAgrees
a-part-agrees R V P p c = part-agrees R V P p c

pub a-part-answers-alike : APartAnswersAlike
a-part-answers-alike R V P closed p c r a = answers-alike R V P c closed (part-agrees R V P p c) r a

pub text-of-part-answers-alike : ATextOfAPartAnswersAlike
text-of-part-answers-alike R V P U ρ closed p numbers c r a = (
  λ h. over.proof_there [] r (alike.proof_there h),
  λ h. alike.proof_back (over.proof_back [] r h),
  λ n. over.possible n c r ∙ alike.possible n,
  λ n. over.bounded n c r ∙ alike.bounded n,
)
  where
    over : CarriesOver ρ P U
    over = carries-over ρ P U numbers

    alike : AnswersAlike V P c r
    alike = a-part-answers-alike R V P closed p c r a

pub closed-by-the-part : ClosedByThePartIsClosed
closed-by-the-part R V P p closed = closed-by R V P 0 (part-agrees R V P p 0) closed

pub a-part-keeps-headers : APartKeepsHeaders
a-part-keeps-headers R V P p r a = (supers-same R V P p r a, λ w d. orphan-same R V P p d r a w)

pub cut-down-is-part : WhatIsCutDownIsAPart
cut-down-is-part R V K q cs n = record {
  kept = K;
  named = n.named;
  structs = λ s a. filters (λ (x : StructDecl). x.name == s) (λ (x : StructDecl). K.structs x.name) V.structs (λ x g e. ap K.structs (same-number x.name s e) ∙ a);
  traits = λ t a. filters (λ (x : TraitDecl). x.name == t) (λ (x : TraitDecl). K.traits x.name) V.traits (λ x g e. ap K.traits (same-number x.name t e) ∙ a);
  bounds = n.bounds;
  rank = n.rank;
  bounds_before = n.bounds_before;
  impls_back = λ i g. (in-filter q V.impls i g).0;
  impls_there = λ r a i u g h. filter-in q V.impls i g (n.impls r a i u g h);
  autos = λ r a e l c o z h.
      let i = some-member (λ (i : ImplDecl). (i.header.trait == r.trait) && same_head l i.header.args) V.impls h in
      member-some (λ (i : ImplDecl). (i.header.trait == r.trait) && same_head l i.header.args) (filter q V.impls) i.0 (filter-in q V.impls i.0 i.1 (n.autos r a e l c o z i.0 i.1 i.2)) i.2;
}

flat-filter : {A B : Type 0} (f : A → List B) (q : A → Bool) (xs : List A) → ((x : A) → In x xs → q x ≡ false → f x ≡ []) → flat_map f (filter q xs) ≡ flat_map f xs
flat-filter f q [] h = refl
flat-filter f q (x ∷ xs) h = by (q x) refl (flat-filter f q xs (λ y g. h y (there y x xs g)))
  where
    by : (b : Bool) → q x ≡ b → flat_map f (filter q xs) ≡ flat_map f xs → flat_map f (cond b (x ∷ filter q xs) (filter q xs)) ≡ f x ++ flat_map f xs
    by true e g = ap (λ z. f x ++ z) g
    by false e g = g ∙ ap (λ z. z ++ flat_map f xs) (sym (h x (here x xs) e))

no-member : (us : List Rule) → ((u : Rule) → In u us → ⊥) → us ≡ []
no-member [] h = refl
no-member (u ∷ us) h = absurd (h u (here u us))

pub cut-down-rules : WhatIsCutDownHasTheSameRules
cut-down-rules R V K q cs n r a =
    ap (λ z. z ++ (built_in_rules (cut_down K q cs V) r ++ []))
    (flat-filter (impl_rules r) q V.impls (λ i g e. no-member (impl_rules r i) (λ u k. not-both (q i) (n.impls r a i u g k) e)))
    ∙ ap (λ z. flat_map (impl_rules r) V.impls ++ (z ++ [])) (built-in-same R V (cut_down K q cs V) (cut-down-is-part R V K q cs n) r a)

pub part-in-set : (W : World) (vs : List View) (rank : ℕ → ℕ) → LinkedSet W vs rank → (v : View) → HoldsView W v
    → (R : Reference → Bool) (P : World) → IsClosedSet R v.world → IsPartFor R v.world P → (r : Reference) → R r ≡ true
    → (HasProof P [] r → HasProof W [] (renumbered_reference v.numbers r))
    × ((limit : ℕ) → is_bounded limit P v.asker r ≡ true → is_possible limit P v.asker r ≡ false → HasProof W [] (renumbered_reference v.numbers r) → ⊥)
part-in-set W vs rank l v holds R P closed p r a = (
  λ h. proved-in-set W vs rank l v holds r (alike.proof_back h),
  λ limit b n h. no-in-set W vs rank l v holds limit r (sym (alike.bounded limit) ∙ b) (sym (alike.possible limit) ∙ n) h,
)
  where
    alike : AnswersAlike v.world P v.asker r
    alike = a-part-answers-alike R v.world P closed p v.asker r a

less : (m n : ℕ) → ltb m n ≡ true → m < n
less m n h = grind (arith, nat_tests)

no-not : (b : Bool) → b ≡ true → not b ≡ true → ⊥
no-not b h g = not-both b h (not-true b g)

pub what-passes-is-enough : WhatPassesIsEnough
what-passes-is-enough K q rank V rs h = record {
  named = λ r a. subst Named (sym (at r a).2) (split (at r a).0 (member-each named-test rs (at r a).0 (left (list_all named-test rs) _ h) (at r a).1));
  bounds = λ t k x b g j. left (K.traits b.trait) _ (of-bound t k x b g j);
  rank = rank;
  bounds_before = λ t k x b g j.
      subst (λ n. rank b.trait < rank n) (same-number x.name t (in-filter (λ (y : TraitDecl). y.name == t) V.traits x g).1)
      (less (rank b.trait) (rank x.name) (right (K.traits b.trait) _ (of-bound t k x b g j)));
  impls = λ r a i u g j. of-impl r a i g (or-left _ _ (member-some (λ (u : Rule). true) (impl_rules r i) u j refl));
  autos = λ r a e l c o z i g j.
      of-impl r a i g
      (or-right _ _ (both (is_auto V r.trait) _ e (subst (λ y. (i.header.trait == r.trait) && shares_head y i.header.args ≡ true) (sym z) j)));
}
  where
    Named : Reference → Type 0
    Named r = (K.traits r.trait ≡ true) × (some_node (is_left_out K) r.args ≡ false)

    named-test : Reference → Bool
    named-test r = K.traits r.trait && not (some_node (is_left_out K) r.args)

    trait-test : TraitDecl → Bool
    trait-test x = not (K.traits x.name) || list_all (λ (b : Reference). K.traits b.trait && ltb (rank b.trait) (rank x.name)) x.bounds

    impl-test : Reference → Bool
    impl-test r = list_all (λ (i : ImplDecl). q i || not (matters V r i)) V.impls

    split : (r : Reference) → K.traits r.trait && not (some_node (is_left_out K) r.args) ≡ true → (K.traits r.trait ≡ true) × (some_node (is_left_out K) r.args ≡ false)
    split r g = (left (K.traits r.trait) _ g, not-true (some_node (is_left_out K) r.args) (right (K.traits r.trait) _ g))

    at : (r : Reference) → listed rs r ≡ true → (s : Reference) × In s rs × (r ≡ s)
    at r a = let s = some-member (same_reference r) rs a in (s.0, s.1, same-reference-sound r s.0 s.2)

    rest : list_all trait-test V.traits && list_all impl-test rs ≡ true
    rest = right (list_all named-test rs) _ h

    of-bound : (t : ℕ) → K.traits t ≡ true → (x : TraitDecl) (b : Reference) → In x (traits_named V t) → In b x.bounds → K.traits b.trait && ltb (rank b.trait) (rank x.name) ≡ true
    of-bound t k x b g j = by (or-cases (not (K.traits x.name)) _ (member-each trait-test V.traits x (left (list_all trait-test V.traits) _ rest) m.0))
      where
        m : In x V.traits × ((x.name == t) ≡ true)
        m = in-filter (λ (y : TraitDecl). y.name == t) V.traits x g

        by : (not (K.traits x.name) ≡ true) ⊎ (list_all (λ (b : Reference). K.traits b.trait && ltb (rank b.trait) (rank x.name)) x.bounds ≡ true) → K.traits b.trait && ltb (rank b.trait) (rank x.name) ≡ true
        by (inl e) = absurd (no-not (K.traits x.name) (ap K.traits (same-number x.name t m.1) ∙ k) e)
        by (inr e) = member-each (λ (b : Reference). K.traits b.trait && ltb (rank b.trait) (rank x.name)) x.bounds b e j

    of-impl : (r : Reference) → listed rs r ≡ true → (i : ImplDecl) → In i V.impls → matters V r i ≡ true → q i ≡ true
    of-impl r a i g m =
        by
        (or-cases (q i) _
        (member-each (λ (i : ImplDecl). q i || not (matters V r i)) V.impls i
        (subst (λ z. impl-test z ≡ true) (sym (at r a).2) (member-each impl-test rs (at r a).0 (right (list_all trait-test V.traits) _ rest) (at r a).1)) g))
      where
        by : (q i ≡ true) ⊎ (not (matters V r i) ≡ true) → q i ≡ true
        by (inl e) = e
        by (inr e) = absurd (no-not (matters V r i) m e)

pub four-impls-are-enough : FourImplsAreEnough
four-impls-are-enough = (
  refl,
  refl,
  refl,
  a-part-answers-alike (listed asked_of_show) whole (cut_down few show_and_sup [] whole) (closed-by-the-part (listed asked_of_show) whole (cut_down few show_and_sup [] whole) part (closed-list (cut_down few show_and_sup [] whole) asked_of_show refl)) part base
      (asked 21 (applied 10 u8)) refl,
)
  where
    part : IsPartFor (listed asked_of_show) whole (cut_down few show_and_sup [] whole)
    part = cut-down-is-part (listed asked_of_show) whole few show_and_sup [] (what-passes-is-enough few show_and_sup (λ n. n) whole asked_of_show refl)

pub clause-by-part-clears : (W : World) (vs : List View) (rank : ℕ → ℕ) → LinkedSet W vs rank → (v : View) → HoldsView W v
    → (R : Reference → Bool) (P : World) → IsClosedSet R v.world → IsPartFor R v.world P
    → (limit : ℕ) (i j : ImplDecl) (r : Reference) → IsFixedClause i j r → R r ≡ true
    → is_bounded limit P v.asker r ≡ true → is_possible limit P v.asker r ≡ false
    → Cleared W (renumbered_impl v.numbers i) (renumbered_impl v.numbers j)
clause-by-part-clears W vs rank l v holds R P closed p limit i j r fixed a b n =
    cleared-in-set W vs rank l v holds limit i j r fixed (sym (alike.bounded limit) ∙ b) (sym (alike.possible limit) ∙ n)
  where
    alike : AnswersAlike v.world P v.asker r
    alike = a-part-answers-alike R v.world P closed p v.asker r a

pub supers-held : SupersHeldByAPart
supers-held R V P closed p i a ks ss = (
  λ h. every-in (HasProof V E) (strict_supertraits V header)
      (λ s k. (alike s k).under_back E under
      (every-member (HasProof P E) (strict_supertraits P header) s h (subst (In s) (sym same) k))),
  λ h. every-in (HasProof P E) (strict_supertraits P header)
      (λ s k. let m = subst (In s) same k in
      (alike s m).under_there E under (every-member (HasProof V E) (strict_supertraits V header) s h m)),
)
  where
    header : Reference
    header = opaque_reference i.header

    E : List Reference
    E = map opaque_reference i.clauses

    same : strict_supertraits P header ≡ strict_supertraits V header
    same = supers-same R V P p header a

    each : (ks : List Reference) → Every (λ k. p.kept.traits k.trait ≡ true) ks → Every (λ e. strict_supertraits P e ≡ strict_supertraits V e) (map opaque_reference ks)
    each [] h = tt
    each (k ∷ ks) h = (supers-same R V P p (opaque_reference k) h.0, each ks h.1)

    under : Every (λ e. strict_supertraits P e ≡ strict_supertraits V e) E
    under = each i.clauses ks

    alike : (s : Reference) → In s (strict_supertraits V header) → AnswersAlike V P 0 s
    alike s k = a-part-answers-alike R V P closed p 0 s (every-member (λ s. R s ≡ true) (strict_supertraits V header) s ss k)

-- a proof of what leads to itself alone, of a trait that is not coinductive, there is none
plain : World
plain = looping (trait_of 20 base [])

L : Reference
L = asked 20 (leaf (adt 10))

no-loop : (all earlier left : List ProofEntry) → Follows plain [] all earlier left → (Stands L earlier → ⊥) → Stands L left → ⊥
unfolding plain L
no-loop all earlier [] f n h = in-nothing L h
no-loop all earlier (e ∷ left) f n h = by (in-cases L e.of _ h) (no-loop all (earlier ++ e ∷ []) left f.2)
  where
    here-not : e.of ≡ L → ⊥
    here-not q = n (one (in-cases e.rule v [] (subst (λ z. In e.rule (rules plain [] z)) q f.0)))
      where
        v : Rule
        v = record { way = by_impl 100; premises = L ∷ [] }

        one : (v ≡ e.rule) ⊎ In e.rule [] → Stands L earlier
        one (inl k) =
            (subst (λ (z : Reference). Every (λ p. Stands p (if is_coinductive plain z.trait then all else earlier)) v.premises) q
            (subst (λ (z : Rule). Every (λ p. Stands p (if is_coinductive plain e.of.trait then all else earlier)) z.premises) (sym k) f.1)).0
        one (inr k) = absurd (in-nothing e.rule k)

    still : Stands L earlier ⊎ Stands L (e ∷ []) → ⊥
    still (inl k) = n k
    still (inr k) = last (in-cases L e.of [] k)
      where
        last : (e.of ≡ L) ⊎ In L [] → ⊥
        last (inl q) = here-not q
        last (inr q) = in-nothing L q

    by : (e.of ≡ L) ⊎ Stands L left → ((Stands L (earlier ++ e ∷ []) → ⊥) → Stands L left → ⊥) → ⊥
    by (inl q) g = here-not q
    by (inr k) g = g (λ m. still (stands-split L earlier (e ∷ []) m)) k

pub same-rules-are-not-enough : SameRulesAreNotEnough
unfolding plain L
same-rules-are-not-enough = (
  refl,
  refl,
  refl,
  refl,
  (record { of = asked 20 (leaf (adt 10)); rule = record { way = by_impl 100; premises = asked 20 (leaf (adt 10)) ∷ [] } } ∷ [], ((0, refl), ((0, refl), tt), tt), (0, refl)),
  λ h. no-loop h.0 [] h.0 h.1 (λ k. in-nothing L k) h.2,
)
