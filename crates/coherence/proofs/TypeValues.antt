-- A type of a trait has one value, where a concrete reference has proofs by one impl.
use Rattle.std.proofs.Common.{◌≡◌, ◌⊎◌, inl, inr, ℕ, true, false, [], map, Option, refl, sym, ap, ◌∙◌, subst}
use Rattle.std.specs.Prelude.{slice_get, IsTrue, not, ◌==◌}
use Rattle.std.specs.Option.{option_map_or}
use Rattle.sessions.specs.TypeTerms.Promised.Label.{adt, param}
use Rattle.sessions.specs.TypeTerms.Promised.Trees.{Trees, none, tree, ◌+++◌, erase, some_node}
use Rattle.sessions.specs.TypeTerms.Promised.Worlds.{World, Reference, ImplDecl}
use Rattle.sessions.specs.TypeTerms.Promised.Erased.{erased_reference, erased_impl, erased_world}
use Rattle.sessions.specs.TypeTerms.Erased.{mentions, IsCovered}
use Rattle.sessions.specs.TypeTerms.Promised.Core.{wrapper}
use Rattle.sessions.specs.TypeTerms.Promised.Proofs.{In, HasProofByImpl}
use Rattle.sessions.specs.TypeTerms.Promised.Answers.{is_closed, is_open}
use Rattle.sessions.proofs.TypeTerms.Members.{in-map, not-both}
use Rattle.sessions.proofs.TypeTerms.Walking.{or-left, or-right}
use Rattle.sessions.proofs.TypeTerms.ProofEntries.{map-in}
use Rattle.sessions.proofs.TypeTerms.TermBasics.{erase-append}
use Rattle.sessions.proofs.TypeTerms.Fitting.{not-true, append-shut, or-no}
use Rattle.sessions.specs.TextLanguage.Promised.Declarations.{Declarations, NamedTrait, NamedImpl, world_of}
use Rattle.sessions.specs.TextLanguage.Promised.Desugared.{is_companion}
use Rattle.coherence.proofs.SpelledNames.{has_colon, names-split}
use Rattle.coherence.proofs.Found.{found-one}
use Rattle.coherence.proofs.CompanionTraits.{trait_found}
use Rattle.coherence.proofs.CompanionPairs.{Pair, PairStands, HasPlainTrait, ImplsStand}
use Rattle.coherence.proofs.OneValue.{IsBehind, Behind, one-value}

mentions-behind : (n : ℕ) (x y : Trees) → mentions n y ≡ true → mentions n (x +++ y) ≡ true
mentions-behind n none y h = h
mentions-behind n (tree (param s i) c o) y h = or-right (n == i) (mentions n (o +++ y)) (mentions-behind n o y h)
mentions-behind n (tree l c o) y h = or-right (mentions n c) (mentions n (o +++ y)) (mentions-behind n o y h)

closed-behind : (X A : Trees) → is_closed X ≡ true → is_closed A ≡ true → is_closed (X +++ tree (adt wrapper) A none) ≡ true
closed-behind X A h g =
    ap not (append-shut is_open X (tree (adt wrapper) A none) (not-true (some_node is_open X) h) (or-no (some_node is_open A) false (not-true (some_node is_open A) g) refl))

-- Impls of which no two give one type for one impl; what is in the header of an impl of a companion is in that of the impl behind which it stands.
module _ (d : Declarations) (t : ℕ) (companion : is_companion d t ≡ true) (h : ImplsStand d.traits d.impls) (covered : (x : NamedImpl) → In x d.impls → IsCovered (erased_impl x.item))
    (kept : (x y : NamedImpl) → In x d.impls → In y d.impls → y.params ≡ x.params → (n : ℕ) → mentions n (erase y.item.header.args) ≡ true → mentions n (erase x.item.header.args) ≡ true) where
  abbrev W : World
  W = erased_world (world_of d)

  -- the pair of an impl of the companion
  abbrev PairOf : ImplDecl → Type 0
  PairOf i = (c : Pair) × In c h.pairs × In c.own d.impls × (erased_impl c.own.item ≡ i)

  pair-of : (i : ImplDecl) → In i W.impls → i.header.trait ≡ t → PairOf i
  pair-of i m e = by (h.stand b.0 b.1)
    where
      a : (y : ImplDecl) × In y (map (λ (x : NamedImpl). x.item) d.impls) × (erased_impl y ≡ i)
      a = map-in erased_impl (map (λ (x : NamedImpl). x.item) d.impls) i m

      b : (x : NamedImpl) × In x d.impls × (x.item ≡ a.0)
      b = map-in (λ (x : NamedImpl). x.item) d.impls a.0 a.1

      is : erased_impl b.0.item ≡ i
      is = ap erased_impl b.2 ∙ a.2

      by : HasPlainTrait d.traits b.0.item.header.trait ⊎ ((c : Pair) × In c h.pairs × (c.own ≡ b.0)) → PairOf i
      by (inl p) =
          absurd (not-both (has_colon p.0.text)
          (sym (ap (λ (o : Option NamedTrait). option_map_or (λ (y : NamedTrait). has_colon y.text) o false)
          (sym (ap (slice_get d.traits) (ap (λ (k : ImplDecl). k.header.trait) is ∙ e)) ∙ p.1)) ∙ companion) p.2)
      by (inr q) = (q.0, q.1, subst (λ x. In x d.impls) (sym q.2) b.1, ap (λ (x : NamedImpl). erased_impl x.item) q.2 ∙ is)

  -- how it stands behind the other impl
  stands-behind : (c : Pair) → In c h.pairs → In c.own d.impls → IsBehind (erased_impl c.base.item) (erased_impl c.own.item) (erase c.value)
  stands-behind c i own = record {
    clauses = ap (map erased_reference) p.clauses;
    args = args;
    mentioned = λ n m. kept c.base c.own p.base_there own p.params n
        (ap (mentions n) args ∙ mentions-behind n (erase c.base.item.header.args) (tree (adt wrapper) (erase c.value) none) (or-left (mentions n (erase c.value)) false m));
  }
    where
      p : PairStands d.traits d.impls c
      p = h.pairs_stand c i

      args : erase c.own.item.header.args ≡ erase c.base.item.header.args +++ tree (adt wrapper) (erase c.value) none
      args = ap erase p.args ∙ erase-append c.base.item.header.args (tree (adt wrapper) c.value none)

  abbrev behind : (i : ImplDecl) → PairOf i → Behind W i
  behind i q = record {
    base = erased_impl q.0.base.item;
    value = erase q.0.value;
    stands = in-map erased_impl (map (λ (x : NamedImpl). x.item) d.impls) q.0.base.item (in-map (λ (x : NamedImpl). x.item) d.impls q.0.base (h.pairs_stand q.0 q.1).base_there);
    covered = covered q.0.base (h.pairs_stand q.0 q.1).base_there;
    behind = subst (λ k. IsBehind (erased_impl q.0.base.item) k (erase q.0.value)) q.3 (stands-behind q.0 q.1 q.2);
  }

  -- two pairs of one companion
  module _ (i k : ImplDecl) (e : i.header.trait ≡ t) (g : k.header.trait ≡ t) (p : PairOf i) (q : PairOf k) where
    same-names : (p.0.front ≡ q.0.front) × (p.0.type ≡ q.0.type)
    same-names =
        let x = h.pairs_stand p.0 p.1 in
        let y = h.pairs_stand q.0 q.1 in
        let at : p.0.own.item.header.trait ≡ q.0.own.item.header.trait = ap (λ (z : ImplDecl). z.header.trait) p.3 ∙ e ∙ sym g ∙ ap (λ (z : ImplDecl). z.header.trait) (sym q.3) in
        let same = found-one (slice_get d.traits q.0.own.item.header.trait) x.own_trait.0 y.own_trait.0 (ap (slice_get d.traits) (sym at) ∙ x.own_trait.1) y.own_trait.1 in
        names-split p.0.front q.0.front p.0.type q.0.type x.plain y.plain (sym x.own_trait.2 ∙ ap (λ (z : NamedTrait). z.text) same ∙ y.own_trait.2)

    same-trait : p.0.base.item.header.trait ≡ q.0.base.item.header.trait
    same-trait =
        let x = h.pairs_stand p.0 p.1 in
        let y = h.pairs_stand q.0 q.1 in
        x.base_trait ∙ ap (λ (z : NamedTrait). z.item.name) (found-one (trait_found d.traits q.0.front) p.0.of q.0.of (ap (trait_found d.traits) (sym same-names.0) ∙ x.found) y.found) ∙ sym y.base_trait

    same-pair : p.0.base.item.name ≡ q.0.base.item.name → p.0 ≡ q.0
    same-pair n = h.one p.0 q.0 p.1 q.1 n same-names.1

  pub values-agree : ((r : Reference) → IsTrue (is_closed r.args) → (n k : ℕ) → HasProofByImpl W [] r n → HasProofByImpl W [] r k → n ≡ k)
      → (X A B : Trees) → is_closed X ≡ true → is_closed A ≡ true → is_closed B ≡ true
      → (n k : ℕ) → HasProofByImpl W [] (record { trait = t; args = X +++ tree (adt wrapper) A none }) n → HasProofByImpl W [] (record { trait = t; args = X +++ tree (adt wrapper) B none }) k → A ≡ B
  values-agree one X A B x a b n k p q =
      one-value W t (λ i m e. behind i (pair-of i m e)) (λ i j m o e g. same-trait i j e g (pair-of i m e) (pair-of j o g))
      (λ i j m o e g s. let c = same-pair i j e g (pair-of i m e) (pair-of j o g) s in (ap (λ (z : Pair). erased_impl z.base.item) c, ap (λ (z : Pair). erase z.value) c))
      one X A B x (closed-behind X A x a) (closed-behind X B x b) n k p q
