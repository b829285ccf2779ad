-- The impls that a crate sees, by their traits: what the lists say after one of them has grown, and the pairs of an impl.
use Rattle.std.proofs.Common.{◌≡◌, ◌==◌, ◌<◌, ◌≤◌, ◌+◌, ℕ, Bool, true, false, List, [], ◌∷◌, ◌++◌, map, Some, None, sym, ap, ◌∙◌, subst, arith, ◌⊎◌, inl, inr, if◌then◌else◌}
use Rattle.type_terms.specs.Promised.Proofs.{In}
use Rattle.type_terms.specs.Promised.Erased.{erased_impl}
use Rattle.type_terms.specs.Promised.Trees.{erase}
use Rattle.type_terms.specs.Promised.Worlds.{World, Reference, ImplDecl}
use Rattle.type_terms.proofs.ProofEntries.{map-in}
use Rattle.type_terms.proofs.Members.{here, in-left, in-right, in-map, self-number}
use Rattle.type_terms.specs.Promised.Handles.{Entry, trees_at}
use Rattle.type_terms.specs.declared.ImplId.{ImplId}
use Rattle.type_terms.specs.declared.TraitId.{TraitId}
use Rattle.declarations.specs.Heads.{head_of, label_of}
use Rattle.declarations.specs.Items.{Items, IsAbove, declared, impl_in}
use Rattle.declarations.specs.Relevant.{impls_named}
use Rattle.declarations.specs.declared.items.ImplDef.{ImplDef}
use Rattle.declarations.specs.declared.simplify.SimplifiedType.{SimplifiedType}
use Rattle.overlap_check.proofs.Judged.{none-named, one-named, named-below}
use Rattle.pair_checks.specs.ByTrait.{is_trait, listed, HasNumber, IsListed, DeclaresOwnBlanket, ListsImpls, HavePartners}
use Rattle.pair_checks.specs.declared.by_trait.ImplsByTrait.{ImplsByTrait}
use Rattle.pair_checks.proofs.ErasedHeads.{erased-head}
use Rattle.pair_checks.proofs.TraitLists.{same-trait}

-- ---- the impls with numbers below
less-or : (k n : ℕ) → k < n + 1 → (k < n) ⊎ (k ≡ n)
less-or k n h = grind (arith, h)

-- each impl with a number below n is so
abbrev pub EachBelow : (ImplDecl → Type 0) → ℕ → World → Type 0
EachBelow P n V = (y : ImplDecl) → In y V.impls → y.name < n → P y

module _ (P : ImplDecl → Type 0) (V : World) where
  pub each-no-more : (n : ℕ) → impls_named V n ≡ [] → EachBelow P n V → EachBelow P (n + 1) V
  each-no-more n none below y i lt = by (less-or y.name n lt)
    where
      by : (y.name < n) ⊎ (y.name ≡ n) → P y
      by (inl h) = below y i h
      by (inr e) = absurd (none-named V n none y i e)

  pub each-one-more : (n : ℕ) (x : ImplDecl) → impls_named V n ≡ x ∷ [] → P x → EachBelow P n V → EachBelow P (n + 1) V
  each-one-more n x named own below y i lt = by (less-or y.name n lt)
    where
      by : (y.name < n) ⊎ (y.name ≡ n) → P y
      by (inl h) = below y i h
      by (inr e) = subst P (one-named V n x named y i e) own

pub each-weaker : (P Q : ImplDecl → Type 0) (n : ℕ) (V : World) → ((y : ImplDecl) → P y → Q y) → EachBelow P n V → EachBelow Q n V
each-weaker P Q n V f below y i lt = f y (below y i lt)

pub none-below : (P : ImplDecl → Type 0) (V : World) → EachBelow P 0 V
none-below P V y i lt = absurd (never lt)
  where
    never : y.name < 0 → ⊥
    never q = omega (arith, q)

pub all-below : (P : ImplDecl → Type 0) (es : List Entry) (d : Items) (n end : ℕ) → IsAbove end d → end ≤ n → EachBelow P n (declared es d) → (y : ImplDecl) → In y (declared es d).impls → P y
all-below P es d n end above le below y i = below y i (let q = named-below d es end above y i in omega (arith, q, le))

-- ---- numbers
abbrev pub number : ImplId → ℕ
number i = i.index

pub numbers-grow : (k : ℕ) (xs ys : List ImplId) → In k (map number xs) → In k (map number (xs ++ ys))
numbers-grow k xs ys h = let x = map-in number xs k h in subst (λ z. In z (map number (xs ++ ys))) x.2 (in-map number (xs ++ ys) x.0 (in-left x.0 xs ys x.1))

pub number-last : (xs : List ImplId) (i : ImplId) → In i.index (map number (xs ++ i ∷ []))
number-last xs i = in-map number (xs ++ i ∷ []) i (in-right i xs (i ∷ []) (here i []))

-- ---- one more impl of a trait
module _ (m k : ImplsByTrait) (trait : TraitId) (id : ImplId) (added : (t : TraitId) → listed k t ≡ (if is_trait trait t then listed m t ++ id ∷ [] else listed m t)) where
  stays-there : (n : ℕ) (t : TraitId) → HasNumber n (listed m t) → HasNumber n (listed k t)
  stays-there n t h = subst (λ xs. In n (map number xs)) (sym (added t)) (by (is_trait trait t))
    where
      by : (b : Bool) → In n (map number (if b then listed m t ++ id ∷ [] else listed m t))
      by true = numbers-grow n (listed m t) (id ∷ []) h
      by false = h

  now-there : (t : TraitId) → is_trait trait t ≡ true → HasNumber id.index (listed k t)
  now-there t e = subst (λ xs. In id.index (map number xs)) (sym (added t)) (by (is_trait trait t) e)
    where
      by : (b : Bool) → b ≡ true → In id.index (map number (if b then listed m t ++ id ∷ [] else listed m t))
      by true e = number-last (listed m t) id
      by false e = absurd cc

  pub listed-still : (y : ImplDecl) → IsListed m y → IsListed k y
  listed-still y h t e = stays-there y.name t (h t e)

  pub listed-now : (es : List Entry) (def : ImplDef) → trait ≡ def.header.def_id → IsListed k (erased_impl (impl_in es id def))
  listed-now es def of t e = now-there t (same-trait trait t (e ∙ sym (ap (λ (u : TraitId). u.index) of)))

-- ---- impls whose self type is a parameter
pub not-own : (es : List Entry) (def : ImplDef) (c : ℕ) → (def.home.index == c) ≡ false → DeclaresOwnBlanket es c def → ⊥
not-own es def c f b = clash (sym (ap (λ n. n == c) b.0 ∙ self-number c) ∙ f)
  where
    clash : true ≡ false → ⊥
    clash q = cc

pub not-blanket : (es : List Entry) (def : ImplDef) (c : ℕ) (head : SimplifiedType) → Some (label_of head) ≡ head_of (trees_at es def.header.args.0) → DeclaresOwnBlanket es c def → ⊥
not-blanket es def c head e b = clash (label_of head) (e ∙ b.1)
  where
    clash : {L : Type 0} (l : L) → Some l ≡ None → ⊥
    clash l q = cc

pub declared-none : (es : List Entry) (def : ImplDef) (c : ℕ) → (DeclaresOwnBlanket es c def → ⊥) → (def.home.index ≡ c) × (head_of (erase (trees_at es def.header.args.0)) ≡ None) → ⊥
declared-none es def c f b = f (b.0, sym (erased-head (trees_at es def.header.args.0)) ∙ b.1)

module _ (es : List Entry) (d : Items) where
  abbrev V : World
  V = declared es d

  -- ---- the partners of an impl
  module _ (later : ImplId) where
    pub none-partners : (ids : List ImplId) → impls_named V later.index ≡ [] → HavePartners V d.local later.index ids
    none-partners ids none x y p e m = absurd (none-named V later.index none x p.stands e)

    module _ (def : ImplDef) (named : impls_named V later.index ≡ erased_impl (impl_in es later def) ∷ []) where
      is-it : (x : ImplDecl) → In x V.impls → x.name ≡ later.index → erased_impl (impl_in es later def) ≡ x
      is-it x i e = one-named V later.index (erased_impl (impl_in es later def)) named x i e

      pub foreign-partners : (ids : List ImplId) → (def.home.index == d.local) ≡ false → HavePartners V d.local later.index ids
      foreign-partners ids foreign x y p e m = absurd (clash (sym own ∙ foreign))
        where
          own : (def.home.index == d.local) ≡ true
          own = subst (λ n. (n == d.local) ≡ true) (sym (ap (λ (z : ImplDecl). z.home) (is-it x p.stands e) ∙ p.own)) (self-number d.local)

          clash : true ≡ false → ⊥
          clash q = cc

      pub blanket-partners : (m : ImplsByTrait) → None ≡ head_of (trees_at es def.header.args.0) → ListsImpls V d.local m → HavePartners V d.local later.index (listed m def.header.def_id)
      blanket-partners m blanket lists x y p e meet =
          lists x p.stands (p.own, ap (λ (z : ImplDecl). head_of z.header.args) (sym (is-it x p.stands e)) ∙ erased-head (trees_at es def.header.args.0) ∙ sym blanket) y p.partner def.header.def_id
          (ap (λ (z : ImplDecl). z.header.trait) (is-it x p.stands e) ∙ ap (λ (r : Reference). r.trait) meet.equal)
