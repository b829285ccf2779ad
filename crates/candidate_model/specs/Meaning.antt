-- What declarations mean, and where solutions are looked for.
use Rattle.std.specs.Prelude.{◌≡◌, ℕ, Bool, true, List, []}
use Rattle.type_terms.specs.Promised.Worlds.{World, CrateDecl, Reference, ImplDecl}
use Rattle.type_terms.specs.Promised.Erased.{erased_world}
use Rattle.type_terms.specs.Promised.Renumbering.{View, Renumbering, HoldsView, renumbered_reference}
use Rattle.type_terms.specs.Promised.Proofs.{In, HasProof}
use Rattle.type_terms.specs.Promised.Proofs.{HasElaboratedProof}
use Rattle.type_terms.specs.Promised.LinkedSet.{LinkedSet}
use Rattle.declarations.specs.Heads.{begins_declared}

-- The visible declarations as they are written, and the crate. The flag says whether they pass the tests and the goal fits them. If not, no
-- goal is decided.
pub record ViewMeaning : Type 0 where
  pub view : World
  pub crate : ℕ
  pub is_sound : Bool

-- A linked set with the crate's view, without lifetimes and by other numbers. `impl<'a, T> Clone for &'a T` is there an impl for
-- `&'static T`. No rule depends on the list of crates of a view.
pub record LinkedWith (m : ViewMeaning) : Type 0 where
  pub set : World
  pub views : List View
  pub rank : ℕ → ℕ
  pub linked : LinkedSet set views rank
  pub numbers : Renumbering
  pub crates : List CrateDecl
  pub holds : HoldsView set (record { numbers = numbers; asker = m.crate; world = record (erased_world m.view) { crates = crates } })

-- What has a proof in the set, by the view's numbers.
abbrev pub proved_in : {m : ViewMeaning} → LinkedWith m → Reference → Type 0
proved_in w r = HasProof w.set [] (renumbered_reference w.numbers r)

-- The self type of each impl is a parameter, or has a rigid head.
abbrev pub SelfTypesBegin : World → Type 0
SelfTypesBegin V = (i : ImplDecl) → In i V.impls → begins_declared i.header.args ≡ true

-- Solutions are looked for by the view alone, with any list of crates and even if there is no linked set with it, or in a linked set.
pub data SolutionPlace (m : ViewMeaning) : Type 0 where
  by_view : List CrateDecl → SelfTypesBegin m.view → SolutionPlace m
  in_set : LinkedWith m → SolutionPlace m

-- What has a proof there. By the view alone the proof must contain the supertraits of all that it concludes, since these are premises of the
-- unknowable candidate. By `trait Sub<A>: FnOnce<(A,)>; impl Sub<bool> for fn(char)` alone, `fn(char): Sub<bool>` has a proof. But in
-- another crate the answer to `fn(char): Sub<?a>` is ?a = char.
abbrev pub proved_at : {m : ViewMeaning} → SolutionPlace m → Reference → Type 0
proved_at {m = m} (by_view crates begin) r = HasElaboratedProof (record (erased_world m.view) { crates = crates }) [] r
proved_at (in_set w) r = proved_in w r

-- What has a proof by the view alone, with this list of crates, whatever the supertraits have.
abbrev pub proved_alone : ViewMeaning → List CrateDecl → Reference → Type 0
proved_alone m crates r = HasProof (record (erased_world m.view) { crates = crates }) [] r
