-- The impls of a text: an impl of a companion stands behind the impl that gives the type.
use Rattle.std.proofs.Common.{◌≡◌, ◌⊎◌, inl, inr, ℕ, true, false, List, [], ◌∷◌, ◌++◌, length, Some, refl, sym, ap, ◌∙◌, subst, arith}
use Rattle.std.proofs.lemmas.Option.{slice_get_within}
use Rattle.std.specs.Prelude.{slice_get}
use Rattle.sessions.specs.TypeTerms.Promised.Label.{adt}
use Rattle.sessions.specs.TypeTerms.Promised.Trees.{Trees, none, tree, ◌+++◌}
use Rattle.sessions.specs.TypeTerms.Promised.Core.{wrapper}
use Rattle.sessions.specs.TypeTerms.Promised.Proofs.{In}
use Rattle.sessions.proofs.TypeTerms.Members.{here, in-append, in-cases, in-nothing, in-left, in-right}
use Rattle.sessions.specs.TextLanguage.Promised.Declarations.{NamedTrait, NamedImpl}
use Rattle.sessions.specs.TextLanguage.Promised.Desugared.{companion_name}
use Rattle.sessions.specs.TextLanguage.Promised.Faults.{is_among}
use Rattle.sessions.proofs.TextLowering.Applied.{still-there}
use Rattle.coherence.proofs.SpelledNames.{has_colon}
use Rattle.coherence.proofs.Found.{found-more, ArePlaced, placed-more}
use Rattle.coherence.proofs.CompanionTraits.{trait_found}

-- An impl of a companion, the impl behind which it stands, the type that it gives, and the trait of that impl with its name.
pub record Pair : Type 0 where
  pub base : NamedImpl
  pub own : NamedImpl
  pub value : Trees
  pub front : List ℕ
  pub type : List ℕ
  pub of : NamedTrait

pub record PairStands (ts : List NamedTrait) (is : List NamedImpl) (c : Pair) : Type 0 where
  pub base_there : In c.base is
  pub found : trait_found ts c.front ≡ Some c.of
  pub plain : has_colon c.front ≡ false
  pub base_trait : c.base.item.header.trait ≡ c.of.item.name
  pub own_trait : (y : NamedTrait) × (slice_get ts c.own.item.header.trait ≡ Some y) × (y.text ≡ companion_name c.front c.type)
  pub params : c.own.params ≡ c.base.params
  pub clauses : c.own.item.clauses ≡ c.base.item.clauses
  pub args : c.own.item.header.args ≡ c.base.item.header.args +++ tree (adt wrapper) c.value none

abbrev pub HasPlainTrait : List NamedTrait → ℕ → Type 0
HasPlainTrait ts t = (y : NamedTrait) × (slice_get ts t ≡ Some y) × (has_colon y.text ≡ false)

pub record ImplsStand (ts : List NamedTrait) (is : List NamedImpl) : Type 0 where
  pub numbers : ArePlaced (λ (x : NamedImpl). x.item.name) is
  pub pairs : List Pair
  pub pairs_stand : (c : Pair) → In c pairs → PairStands ts is c
  pub stand : (x : NamedImpl) → In x is → HasPlainTrait ts x.item.header.trait ⊎ ((c : Pair) × In c pairs × (c.own ≡ x))
  -- no two impls behind one impl are about one type
  pub one : (b c : Pair) → In b pairs → In c pairs → b.base.item.name ≡ c.base.item.name → b.type ≡ c.type → b ≡ c

-- ---- more traits, more impls
plain-more : (ts us : List NamedTrait) (t : ℕ) → HasPlainTrait ts t → HasPlainTrait (ts ++ us) t
plain-more ts us t h = (h.0, still-there ts us t h.0 h.1, h.2)

same-traits : (ts : List NamedTrait) (is js : List NamedImpl) (c : Pair) → PairStands ts is c → PairStands ts (is ++ js) c
same-traits ts is js c h = record {
  base_there = in-left c.base is js h.base_there;
  found = h.found;
  plain = h.plain;
  base_trait = h.base_trait;
  own_trait = h.own_trait;
  params = h.params;
  clauses = h.clauses;
  args = h.args;
}

same-impls : (ts us : List NamedTrait) (is : List NamedImpl) (c : Pair) → PairStands ts is c → PairStands (ts ++ us) is c
same-impls ts us is c h = record {
  base_there = h.base_there;
  found = found-more (λ (t : NamedTrait). _) ts us c.of h.found;
  plain = h.plain;
  base_trait = h.base_trait;
  own_trait = (h.own_trait.0, still-there ts us c.own.item.header.trait h.own_trait.0 h.own_trait.1, h.own_trait.2);
  params = h.params;
  clauses = h.clauses;
  args = h.args;
}

pub impls-still : (ts us : List NamedTrait) (is : List NamedImpl) → ImplsStand ts is → ImplsStand (ts ++ us) is
impls-still ts us is h = record {
  numbers = h.numbers;
  pairs = h.pairs;
  pairs_stand = λ c i. same-impls ts us is c (h.pairs_stand c i);
  stand = λ x i. by x (h.stand x i);
  one = h.one;
}
  where
    by : (x : NamedImpl) → HasPlainTrait ts x.item.header.trait ⊎ ((c : Pair) × In c h.pairs × (c.own ≡ x)) → HasPlainTrait (ts ++ us) x.item.header.trait ⊎ ((c : Pair) × In c h.pairs × (c.own ≡ x))
    by x (inl p) = inl (plain-more ts us x.item.header.trait p)
    by x (inr p) = inr p

-- an impl of a trait that is no companion
pub plain-impl : (ts : List NamedTrait) (is : List NamedImpl) (x : NamedImpl) (h : ImplsStand ts is) → x.item.name ≡ length is → HasPlainTrait ts x.item.header.trait
    → (g : ImplsStand ts (is ++ x ∷ [])) × (g.pairs ≡ h.pairs)
plain-impl ts is x h n p = (
  record {
    numbers = placed-more (λ (y : NamedImpl). y.item.name) is x h.numbers n;
    pairs = h.pairs;
    pairs_stand = λ c i. same-traits ts is (x ∷ []) c (h.pairs_stand c i);
    stand = λ y i. by y (in-append y is (x ∷ []) i);
    one = h.one;
  },
  refl,
)
  where
    by : (y : NamedImpl) → In y is ⊎ In y (x ∷ []) → HasPlainTrait ts y.item.header.trait ⊎ ((c : Pair) × In c h.pairs × (c.own ≡ y))
    by y (inl i) = h.stand y i
    by y (inr i) = last (in-cases y x [] i)
      where
        last : (x ≡ y) ⊎ In y [] → HasPlainTrait ts y.item.header.trait ⊎ ((c : Pair) × In c h.pairs × (c.own ≡ y))
        last (inl e) = inl (subst (λ (z : NamedImpl). HasPlainTrait ts z.item.header.trait) e p)
        last (inr q) = absurd (in-nothing y q)

-- No pair of this impl is about one of these types.
abbrev pub AreFree : List Pair → NamedImpl → List (List ℕ) → Type 0
AreFree cs j ns = (b : Pair) → In b cs → b.base.item.name ≡ j.item.name → is_among b.type ns ≡ true → ⊥

-- an impl of a companion
pub pair-added : (ts : List NamedTrait) (is : List NamedImpl) (c : Pair) (h : ImplsStand ts is) → c.own.item.name ≡ length is → PairStands ts is c
    → ((b : Pair) → In b h.pairs → b.base.item.name ≡ c.base.item.name → b.type ≡ c.type → ⊥) → (g : ImplsStand ts (is ++ c.own ∷ [])) × (g.pairs ≡ h.pairs ++ c ∷ [])
pair-added ts is c h n p free = (
  record {
    numbers = placed-more (λ (y : NamedImpl). y.item.name) is c.own h.numbers n;
    pairs = h.pairs ++ c ∷ [];
    pairs_stand = λ b i. same-traits ts is (c.own ∷ []) b (old-or-new (PairStands ts is) h.pairs_stand p b i);
    stand = λ y i. by y (in-append y is (c.own ∷ []) i);
    one = λ a b i j. two a b (in-append a h.pairs (c ∷ []) i) (in-append b h.pairs (c ∷ []) j);
  },
  refl,
)
  where
    the-one : (b : Pair) → In b (c ∷ []) → c ≡ b
    the-one b i = last (in-cases b c [] i)
      where
        last : (c ≡ b) ⊎ In b [] → c ≡ b
        last (inl e) = e
        last (inr q) = absurd (in-nothing b q)

    old-or-new : (P : Pair → Type 0) → ((b : Pair) → In b h.pairs → P b) → P c → (b : Pair) → In b (h.pairs ++ c ∷ []) → P b
    old-or-new P f q b i = elim (in-append b h.pairs (c ∷ []) i) [ inl k ↦ f b k | inr k ↦ subst P (the-one b k) q ]

    by : (y : NamedImpl) → In y is ⊎ In y (c.own ∷ []) → HasPlainTrait ts y.item.header.trait ⊎ ((b : Pair) × In b (h.pairs ++ c ∷ []) × (b.own ≡ y))
    by y (inl i) = old (h.stand y i)
      where
        old : HasPlainTrait ts y.item.header.trait ⊎ ((b : Pair) × In b h.pairs × (b.own ≡ y)) → HasPlainTrait ts y.item.header.trait ⊎ ((b : Pair) × In b (h.pairs ++ c ∷ []) × (b.own ≡ y))
        old (inl q) = inl q
        old (inr q) = inr (q.0, in-left q.0 h.pairs (c ∷ []) q.1, q.2)
    by y (inr i) = last (in-cases y c.own [] i)
      where
        last : (c.own ≡ y) ⊎ In y [] → HasPlainTrait ts y.item.header.trait ⊎ ((b : Pair) × In b (h.pairs ++ c ∷ []) × (b.own ≡ y))
        last (inl e) = inr (c, in-right c h.pairs (c ∷ []) (here c []), e)
        last (inr q) = absurd (in-nothing y q)

    two : (a b : Pair) → In a h.pairs ⊎ In a (c ∷ []) → In b h.pairs ⊎ In b (c ∷ []) → a.base.item.name ≡ b.base.item.name → a.type ≡ b.type → a ≡ b
    two a b (inl i) (inl j) e f = h.one a b i j e f
    two a b (inl i) (inr j) e f = let q = the-one b j in absurd (free a i (e ∙ ap (λ (z : Pair). z.base.item.name) (sym q)) (f ∙ ap (λ (z : Pair). z.type) (sym q)))
    two a b (inr i) (inl j) e f = let q = the-one a i in absurd (free b j (sym e ∙ ap (λ (z : Pair). z.base.item.name) (sym q)) (sym f ∙ ap (λ (z : Pair). z.type) (sym q)))
    two a b (inr i) (inr j) e f = sym (the-one a i) ∙ the-one b j

-- an impl that is not there yet has no pairs
pub none-yet : (ts : List NamedTrait) (is : List NamedImpl) (h : ImplsStand ts is) (j : NamedImpl) → j.item.name ≡ length is → (ns : List (List ℕ)) → AreFree h.pairs j ns
none-yet ts is h j n ns b i e a =
    let s = (h.pairs_stand b i).base_there in
    absurd (omega (arith, slice_get_within is s.0 b.base s.1, sym (h.numbers s.0 b.base s.1) ∙ e ∙ n))
