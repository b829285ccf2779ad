-- The check of a later version, impl by impl. V is what the crate c sees.
use Rattle.std.specs.Prelude.{◌≡◌, ◌≤◌, ◌-◌, ℕ, true, false, List, map, take, Some, slice_get}
use Rattle.type_terms.specs.Promised.Label.{Sort}
use Rattle.type_terms.specs.Promised.Proofs.{Every}
use Rattle.type_terms.specs.Promised.Questions.{Solution, IsRefuted}
use Rattle.type_terms.specs.Promised.Renumbering.{View, HoldsView, renumbered_reference}
use Rattle.type_terms.specs.Wider.{IsBelow, anything}
use Rattle.type_terms.specs.Promised.Erased.{erased_reference, erased_impl}
use Rattle.type_terms.specs.Promised.Versions.{is_addable}
use Rattle.type_terms.specs.Promised.Worlds.{World, Reference}
use Rattle.type_terms.specs.Promised.Handles.{Entry}
use Rattle.declarations.specs.Items.{reference_in}
use Rattle.declarations.specs.declared.items.ImplDef.{ImplDef}
use Rattle.text_language.specs.Promised.Declarations.{Declarations, section_impls}
use Rattle.sessions.specs.Promised.Releases.{LaterAnswer, compatible, breaking}

-- The header of an impl over the terms of an interner, without lifetimes.
abbrev pub header_in : List Entry → ImplDef → Reference
header_in es def = erased_reference (reference_in es def.header)

-- The headers of section number k, in its order, without lifetimes.
abbrev pub section_headers : Declarations → ℕ → List Reference
section_headers d k = map (λ i. (erased_impl i.item).header) (section_impls d k)

-- A later version of c may add an impl with this header.
abbrev pub MayAdd : World → ℕ → Reference → Type 0
MayAdd V c h = is_addable V c h ≡ true

-- Number n, counted from 1, is the first of the headers that a later version of c may not add.
pub record IsFirstRefused (V : World) (c : ℕ) (hs : List Reference) (n : ℕ) : Type 0 where
  pub counted : 1 ≤ n
  pub found : Reference
  pub there : slice_get hs (n - 1) ≡ Some found
  pub refused : is_addable V c found ≡ false
  pub before : Every (MayAdd V c) (take (n - 1) hs)

-- A later version of c may add all, or that is the first that it may not add.
abbrev pub IsAnswerOn : World → ℕ → List Reference → LaterAnswer → Type 0
IsAnswerOn V c hs compatible = Every (MayAdd V c) hs
IsAnswerOn V c hs (breaking n) = IsFirstRefused V c hs n

-- A release that only loses impls, or gives them more where-clauses, turns no `no`. V is a set with the old version, and W one with the new
-- version, which has some of V's rules.
abbrev pub OldRefutationsStay : World → List View → Type 0
OldRefutationsStay V vs =
    (v : View) → HoldsView V v → (ks : List Sort) (r : Reference) → IsRefuted v.world v.asker ks r → (W : World) → IsBelow anything W V
    → Solution W ks (renumbered_reference v.numbers r) → ⊥
