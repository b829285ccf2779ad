-- What a verdict on a crate promises. V is the view of crate c, without lifetimes.
use Rattle.std.specs.Prelude.{◌≡◌, ℕ, ◌≤◌, true, false, List, [], map, Some}
use Rattle.type_terms.specs.Promised.Worlds.{World, Reference, ImplDecl, with_args}
use Rattle.type_terms.specs.Promised.Proofs.{In, Every, HasElaboratedProof}
use Rattle.type_terms.specs.Promised.Walks.{keeps_orphan_rule}
use Rattle.type_terms.specs.Promised.Answers.{CommonInstance, IsRealOverlap}
use Rattle.type_terms.specs.Promised.Renumbering.{Renumbering, View, HoldsView, renumbered_impl}
use Rattle.type_terms.specs.Promised.LinkedSet.{LinkedSet, Cleared, IsPair}
use Rattle.type_terms.specs.Promised.OrphanErrors.{OrphanError, orphan_error}
use Rattle.type_terms.specs.Promised.OpenedHeaders.{opened}

-- The view V of c, where ρ gives the numbers that a linked set has for those of the text.
abbrev pub placed : World → ℕ → Renumbering → View
placed V c ρ = record { numbers = ρ; asker = c; world = V }

-- P holds of each linked set that has crate c with this view, by whatever numbers the set has for the text's. This
-- includes sets that list the auto traits of a `dyn` in another order than the text, because such a set in the text's
-- order is a linked set as well.
abbrev pub InEverySetWith : World → ℕ → (World → Renumbering → Type 0) → Type 0
InEverySetWith V c P = (W : World) (vs : List View) (rank : ℕ → ℕ) → LinkedSet W vs rank → (ρ : Renumbering) → HoldsView W (placed V c ρ) → P W ρ

-- Each impl of c keeps the orphan rule (RFC 2451).
abbrev pub KeepsOrphanRule : World → ℕ → Type 0
KeepsOrphanRule V c = (i : ImplDecl) → In i V.impls → i.home ≡ c → keeps_orphan_rule V c i.header ≡ true

-- Impl i is of crate c, and its header breaks the orphan rule.
pub record BreaksOrphanRule (V : World) (c : ℕ) (i : ImplDecl) : Type 0 where
  pub stands : In i V.impls
  pub own : i.home ≡ c
  pub breaks : keeps_orphan_rule V c i.header ≡ false

-- Impl k is the first impl of c whose header breaks the orphan rule, and e is the reason.
pub record IsFirstOrphan (V : World) (c k : ℕ) (e : OrphanError) : Type 0 where
  pub found : ImplDecl
  pub number : found.name ≡ k
  pub broken : BreaksOrphanRule V c found
  pub first : (i : ImplDecl) → BreaksOrphanRule V c i → k ≤ i.name
  pub error : orphan_error V c (opened found.header).args ≡ Some e

-- ---- overlap
-- No common instance of the two impls satisfies both lists of where-clauses, where a clause is satisfied if H holds of
-- it.
abbrev pub ClausesNeverMeet : (Reference → Type 0) → ImplDecl → ImplDecl → Type 0
ClausesNeverMeet H i j = (m : CommonInstance i j) → Every H (map (with_args m.left) i.clauses) → Every H (map (with_args m.right) j.clauses) → ⊥

-- No common instance of the pair has proofs of both lists of where-clauses:
-- - in any linked set with this view, or
-- - by elaborated proofs in the view alone.
-- The second says more, because some views are in no linked set. For example, that of
-- `trait Sup; trait Sub: Sup; impl Sub for u8`.
abbrev pub IsCleared : World → ℕ → ImplDecl → ImplDecl → Type 0
IsCleared V c i j = ClausesNeverMeet (HasElaboratedProof V []) i j × InEverySetWith V c (λ W ρ. Cleared W (renumbered_impl ρ i) (renumbered_impl ρ j))

-- Impls k and j are a pair that crate c brings together and that really overlaps. Earlier pairs may have common
-- instances as well.
pub record IsOverlap (limit : ℕ) (V : World) (c k j : ℕ) : Type 0 where
  pub later : ImplDecl
  pub earlier : ImplDecl
  pub later_number : later.name ≡ k
  pub earlier_number : earlier.name ≡ j
  pub pair : IsPair V c later earlier
  pub real : IsRealOverlap limit V c later earlier

-- ---- verdicts
-- What is said of a crate: it is accepted, its impl breaks the orphan rule, or its impl overlaps an earlier one.
pub data Verdict : Type 0 where
  accepted : Verdict
  orphan : ℕ → OrphanError → Verdict
  overlap : ℕ → ℕ → Verdict

-- Each impl of the crate keeps the orphan rule, and each pair that the crate brings together is cleared.
pub record IsAccepted (V : World) (c : ℕ) : Type 0 where
  pub keeps : KeepsOrphanRule V c
  pub cleared : (i j : ImplDecl) → IsPair V c i j → IsCleared V c i j

-- The verdict is right. The orphan rule is checked of all headers before any pair.
abbrev pub IsVerdict : ℕ → World → ℕ → Verdict → Type 0
IsVerdict limit V c accepted = IsAccepted V c
IsVerdict limit V c (orphan k e) = IsFirstOrphan V c k e
IsVerdict limit V c (overlap k j) = KeepsOrphanRule V c × IsOverlap limit V c k j
