-- What the answers to `later` and `supers` promise.
use Rattle.std.specs.Prelude.{◌≡◌, ◌≤◌, ◌<◌, ◌-◌, ℕ, true, false, IsTrue, List, [], map, take, Some, slice_get}
use Rattle.type_terms.specs.Promised.Erased.{erased_reference, erased_impl}
use Rattle.type_terms.specs.Promised.Trees.{Trees, Fits}
use Rattle.type_terms.specs.Promised.Worlds.{World, Reference, ImplDecl, sees, view_of, with_args}
use Rattle.type_terms.specs.Promised.Rules.{is_auto, is_coinductive}
use Rattle.type_terms.specs.Promised.Walks.{keeps_orphan_rule, is_known}
use Rattle.type_terms.specs.Promised.Answers.{is_closed, IsDeterminate, Overlaps}
use Rattle.type_terms.specs.Promised.Proofs.{In, Every, HasProof}
use Rattle.type_terms.specs.Promised.Supers.{opaque_reference, SupersHold, IsHeld}
use Rattle.type_terms.specs.Promised.Renumbering.{View, HoldsView, asker_in_set, renumbered_impl}
use Rattle.type_terms.specs.Promised.LinkedSet.{JoinedSet}
use Rattle.type_terms.specs.Promised.Versions.{Added, is_addable, in_scope}
use Rattle.text_language.specs.Promised.Declarations.{Declarations, NamedImpl, section_impls, world_of}
use Rattle.declarations.specs.Promised.Elaboration.{supertraits}
use Rattle.text_lowering.specs.Promised.SeenWorlds.{plainly_seen_from, unbound_reference}
use Rattle.sessions.specs.Promised.Promises.{view_in}

-- ---- later versions
pub data LaterAnswer : Type 0 where
  compatible : LaterAnswer
  breaking : (number : ℕ) → LaterAnswer

-- section number k, from 0, is of crate c
abbrev pub IsSectionOf : Declarations → ℕ → ℕ → Type 0
IsSectionOf d c k = slice_get d.sections k ≡ Some c

-- a later version of crate c may add the impl
abbrev pub MayBeAdded : Declarations → ℕ → NamedImpl → Type 0
MayBeAdded d c i = Added (view_in d c) c (erased_impl i.item)

-- Impl n of the section, counted from 1, is the first that a later version of c may not add.
pub record IsFirstBreaking (d : Declarations) (c k n : ℕ) : Type 0 where
  pub counted : 1 ≤ n
  pub found : NamedImpl
  pub there : slice_get (section_impls d k) (n - 1) ≡ Some found
  pub breaks : is_addable (view_in d c) c (erased_impl found.item).header ≡ false
  pub before : Every (MayBeAdded d c) (take (n - 1) (section_impls d k))

-- `compatible`: each impl of the section may be added. `breaking n`: the n-th is the first that may not.
abbrev pub IsLaterAnswer : Declarations → ℕ → ℕ → LaterAnswer → Type 0
IsLaterAnswer d c k compatible = Every (MayBeAdded d c) (section_impls d k)
IsLaterAnswer d c k (breaking n) = IsFirstBreaking d c k n

-- What such an impl of crate d does not affect, in a set W of crates. It overlaps no impl that a crate that uses d has, or may write some
-- day. None of its instances is knowable in a crate that d does not see.
pub record BreaksNoUser (W : World) (d : ℕ) (i : ImplDecl) : Type 0 where
  pub apart : (c : ℕ) → sees W c d ≡ true → (c ≡ d → ⊥) → (j : ImplDecl) → IsTrue (in_scope W c j.header) → IsTrue (keeps_orphan_rule W c j.header) → Overlaps i j → ⊥
  pub unknown : (c : ℕ) → sees W d c ≡ false → (A : Trees) → Fits A i.header.args → is_known W c (with_args A i.header) ≡ false

-- This holds for each impl that may be added by a view that the set holds, under any renumbering.
abbrev pub AddedImplsBreakNoUser : World → List View → Type 0
AddedImplsBreakNoUser W vs = (v : View) → HoldsView W v → (i : ImplDecl) → Added v.world v.asker i → BreaksNoUser W (asker_in_set v) (renumbered_impl v.numbers i)

-- ---- supertraits of headers
pub data SupersAnswer : Type 0 where
  held : SupersAnswer
  missing undecided : (impl clause : ℕ) → SupersAnswer

-- The strict supertraits of an impl's header, as they are evaluated: each once, in the order of `elaborate`.
abbrev pub asked_supers : Declarations → ℕ → ImplDecl → List Reference
asked_supers d c i = map erased_reference (supertraits (plainly_seen_from d c) (opaque_reference (unbound_reference i.header)))

-- The where-clauses from which they may be proved.
abbrev pub given_clauses : ImplDecl → List Reference
given_clauses i = map (λ r. erased_reference (opaque_reference r)) i.clauses

-- Supertrait j, counted from 1, of the header of crate c's impl number k is the first for which no proof was found. Those before it have
-- proofs, and it is not determinate.
pub record StopsIn (limit : ℕ) (d : Declarations) (c k j : ℕ) : Type 0 where
  pub found : ImplDecl
  pub stands : In found (view_of (world_of d) c).impls
  pub named : found.name ≡ k
  pub own : found.home ≡ c
  pub counted : 1 ≤ j
  pub super : Reference
  pub at : slice_get (asked_supers d c found) (j - 1) ≡ Some super
  pub before : Every (HasProof (view_in d c) (given_clauses found)) (take (j - 1) (asked_supers d c found))
  pub not_determinate : IsDeterminate limit (view_in d c) (given_clauses found) super → ⊥

-- Number k is the first of crate c's impls with such a supertrait.
pub record StopsAt (limit : ℕ) (d : Declarations) (c k j : ℕ) : Type 0 where
  pub first : (i : ImplDecl) → In i (view_in d c).impls → i.home ≡ c → i.name < k → SupersHold (view_in d c) i
  pub stops : StopsIn limit d c k j

-- `missing` and `undecided` promise the same.
abbrev pub IsSupersAnswer : ℕ → Declarations → ℕ → SupersAnswer → Type 0
IsSupersAnswer limit d c held = IsHeld (view_in d c) c
IsSupersAnswer limit d c (missing k j) = StopsAt limit d c k j
IsSupersAnswer limit d c (undecided k j) = StopsAt limit d c k j

-- ---- removed and changed impls
-- V is what a crate saw when it used the old version of another one, U what it sees now, and W a set with the new version.
pub record KeepsWhatHeld (V U W : World) : Type 0 where
  -- The structs and traits are the same. New ones may be written into the old text, which has no impls for them.
  pub structs : U.structs ≡ V.structs
  pub traits : U.traits ≡ V.traits
  -- Each impl of a trait that is not auto has a proof of its header from its where-clauses, also an impl that is gone or has changed. This is
  -- what `prove` answers of it in the new text.
  pub impls : (i : ImplDecl) → In i V.impls → is_auto V i.header.trait ≡ false → HasProof W (map opaque_reference i.clauses) (opaque_reference i.header)
  -- What is `Sized` or has an auto trait still is or has.
  pub autos : (r : Reference) → IsTrue (is_closed r.args) → is_coinductive V r.trait ≡ true → HasProof V [] r → HasProof W [] r

-- Then each closed trait reference that had a proof has one.
abbrev pub OldProofsStay : World → List View → Type 0
OldProofsStay W us =
    (V : World) (vs : List View) (rank : ℕ → ℕ) → JoinedSet V vs rank → (c : ℕ) → KeepsWhatHeld (view_of V c) (view_of W c) W
    → (r : Reference) → IsTrue (is_closed r.args) → HasProof (view_of V c) [] r → HasProof W [] r
