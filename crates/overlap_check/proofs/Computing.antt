-- Verdicts on crates that are written out: tests over their impls.
use Rattle.std.proofs.Common.{◌≡◌, ℕ, ◌<◌, ◌≤◌, Bool, true, false, [], ◌∷◌, refl, ap, sym, subst, ◌⊎◌, inl, inr, not, ◌||◌, ◌&&◌, ◌==◌, filter, arith, ltb, Some}
use Rattle.std.specs.List.{list_all}
use Rattle.std.proofs.lemmas.Bool.Decides.{nat_tests}
use Rattle.type_terms.specs.Promised.Worlds.{World, ImplDecl, Reference}
use Rattle.type_terms.specs.Promised.Proofs.{In}
use Rattle.type_terms.specs.Promised.Walks.{keeps_orphan_rule}
use Rattle.type_terms.specs.Promised.Answers.{CommonInstance}
use Rattle.type_terms.proofs.Members.{filter-in, in-cases, in-nothing, same-number, self-number, not-both}
use Rattle.type_terms.proofs.NoHolds.{member-each}
use Rattle.type_terms.specs.Promised.LinkedSet.{IsPair}
use Rattle.type_terms.specs.Promised.OrphanErrors.{OrphanError, orphan_error}
use Rattle.type_terms.specs.Promised.OpenedHeaders.{opened}
use Rattle.type_terms.specs.Promised.Verdicts.{KeepsOrphanRule, IsFirstOrphan}

-- what holds of c's impls, by a test of all
of-own : (V : World) (c : ℕ) (p : ImplDecl → Bool) → list_all (λ (x : ImplDecl). not (x.home == c) || p x) V.impls ≡ true → (i : ImplDecl) → In i V.impls → i.home ≡ c → p i ≡ true
of-own V c p h i m e = by (p i) (i.home == c) (subst (λ n. (n == c) ≡ true) (sym e) (self-number c)) (member-each (λ (x : ImplDecl). not (x.home == c) || p x) V.impls i h m)
  where
    by : (b a : Bool) → a ≡ true → not a || b ≡ true → b ≡ true
    by b true f g = g
    by b false f g = cc

pub keeps-by : (V : World) (c : ℕ) → list_all (λ (x : ImplDecl). not (x.home == c) || keeps_orphan_rule V c x.header) V.impls ≡ true → KeepsOrphanRule V c
keeps-by V c h i m e = of-own V c (λ x. keeps_orphan_rule V c x.header) h i m e

-- the impl with a number
pub the-impl : (V : World) (k : ℕ) (I : ImplDecl) → filter (λ (x : ImplDecl). x.name == k) V.impls ≡ I ∷ [] → (i : ImplDecl) → In i V.impls → i.name ≡ k → I ≡ i
the-impl V k I h i m e = by (in-cases i I [] (subst (In i) h (filter-in (λ (x : ImplDecl). x.name == k) V.impls i m (subst (λ n. (n == k) ≡ true) (sym e) (self-number k)))))
  where
    by : (I ≡ i) ⊎ In i [] → I ≡ i
    by (inl q) = q
    by (inr q) = absurd (in-nothing i q)

pub first-by : (V : World) (c k : ℕ) (e : OrphanError) (I : ImplDecl) → In I V.impls → I.name ≡ k → I.home ≡ c → keeps_orphan_rule V c I.header ≡ false
    → list_all (λ (x : ImplDecl). not (x.home == c) || (keeps_orphan_rule V c x.header || not (ltb x.name k))) V.impls ≡ true → orphan_error V c (opened I.header).args ≡ Some e → IsFirstOrphan V c k e
first-by V c k e I m n own b h q = record {
  found = I;
  number = n;
  broken = record { stands = m; own = own; breaks = b };
  first = λ i o. by (keeps_orphan_rule V c i.header) i.name o.breaks (of-own V c (λ x. keeps_orphan_rule V c x.header || not (ltb x.name k)) h i o.stands o.own);
  error = q;
}
  where
    least : (x : ℕ) → not (ltb x k) ≡ true → k ≤ x
    least x g = grind (arith, nat_tests)

    by : (a : Bool) (x : ℕ) → a ≡ false → a || not (ltb x k) ≡ true → k ≤ x
    by true x f g = cc
    by false x f g = least x g

-- the pair has no part in the check, or another trait, or is the one pair of numbers a and b
abbrev pub settles : ℕ → ℕ → ℕ → ImplDecl → ImplDecl → Bool
settles c a b i j = not (i.header.trait == j.header.trait) || (((j.home == c) && not (ltb j.name i.name)) || ((i.name == a) && (j.name == b)))

module _ (V : World) (c a b : ℕ) (I J : ImplDecl) where
  pub one-pair : list_all (λ (i : ImplDecl). not (i.home == c) || list_all (settles c a b i) V.impls) V.impls ≡ true
      → filter (λ (x : ImplDecl). x.name == a) V.impls ≡ I ∷ [] → filter (λ (x : ImplDecl). x.name == b) V.impls ≡ J ∷ []
      → (P : ImplDecl → ImplDecl → Type 0) → P I J → ((i j : ImplDecl) → (CommonInstance i j → ⊥) → P i j) → (i j : ImplDecl) → IsPair V c i j → P i j
  one-pair h hi hj P given apart i j p =
      by (i.header.trait == j.header.trait) refl (j.home == c) refl (ltb j.name i.name) refl (i.name == a) refl (j.name == b) refl
      (member-each (settles c a b i) V.impls j (of-own V c (λ x. list_all (settles c a b x) V.impls) h i p.stands p.own) p.partner)
    where
      less : (x y : ℕ) → x < y → ltb x y ≡ true
      less x y g = grind (arith, nat_tests)

      by : (t : Bool) → (i.header.trait == j.header.trait) ≡ t → (o : Bool) → (j.home == c) ≡ o → (l : Bool) → ltb j.name i.name ≡ l → (x : Bool) → (i.name == a) ≡ x → (y : Bool) → (j.name == b) ≡ y
          → not t || ((o && not l) || (x && y)) ≡ true → P i j
      by false et o eo l el x ex y ey g = apart i j (λ m. not-both (i.header.trait == j.header.trait) (subst (λ n. (i.header.trait == n) ≡ true) (ap (λ (r : Reference). r.trait) m.equal) (self-number i.header.trait)) et)
      by true et true eo false el x ex y ey g = absurd (not-both (ltb j.name i.name) (less j.name i.name (p.before (same-number j.home c eo))) el)
      by true et o eo l el true ex true ey g =
          subst (λ z. P z j) (the-impl V a I hi i p.stands (same-number i.name a ex)) (subst (λ z. P I z) (the-impl V b J hj j p.partner (same-number j.name b ey)) given)
      by true et true eo true el true ex false ey g = cc
      by true et true eo true el false ex y ey g = cc
      by true et false eo l el true ex false ey g = cc
      by true et false eo l el false ex y ey g = cc

-- no pair at all
module _ (V : World) (c : ℕ) where
  pub no-pair : list_all (λ (i : ImplDecl). not (i.home == c) || list_all (λ (j : ImplDecl). not (i.header.trait == j.header.trait) || ((j.home == c) && not (ltb j.name i.name))) V.impls) V.impls ≡ true
      → (i j : ImplDecl) → IsPair V c i j → CommonInstance i j → ⊥
  no-pair h i j p m =
      by (i.header.trait == j.header.trait) (subst (λ n. (i.header.trait == n) ≡ true) (ap (λ (r : Reference). r.trait) m.equal) (self-number i.header.trait)) (j.home == c) refl (ltb j.name i.name) refl
      (member-each (λ (y : ImplDecl). not (i.header.trait == y.header.trait) || ((y.home == c) && not (ltb y.name i.name))) V.impls j
      (of-own V c (λ x. list_all (λ (y : ImplDecl). not (x.header.trait == y.header.trait) || ((y.home == c) && not (ltb y.name x.name))) V.impls) h i p.stands p.own) p.partner)
    where
      less : (x y : ℕ) → x < y → ltb x y ≡ true
      less x y g = grind (arith, nat_tests)

      by : (t : Bool) → t ≡ true → (o : Bool) → (j.home == c) ≡ o → (l : Bool) → ltb j.name i.name ≡ l → not t || (o && not l) ≡ true → ⊥
      by false et o eo l el g = cc
      by true et true eo false el g = not-both (ltb j.name i.name) (less j.name i.name (p.before (same-number j.home c eo))) el
      by true et true eo true el g = cc
      by true et false eo l el g = cc
