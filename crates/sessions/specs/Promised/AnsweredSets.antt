-- Sets of crates of several texts, told by what calls answered of each crate.
use Rattle.std.specs.Prelude.{◌≡◌, ◌⊎◌, ℕ, List}
use Rattle.type_terms.specs.Promised.Worlds.{World, StructDecl, TraitDecl, ImplDecl, core}
use Rattle.type_terms.specs.Promised.Proofs.{In, Every}
use Rattle.type_terms.specs.Promised.Core.{core_world}
use Rattle.type_terms.specs.Promised.Renumbering.{View, asker_in_set, HoldsView}
use Rattle.type_terms.specs.Promised.Supers.{IsHeld}
use Rattle.type_terms.specs.Promised.LinkedSet.{LinkedSet, OrderedCrates}
use Rattle.text_language.specs.Promised.Declarations.{Declarations}
use Rattle.type_terms.specs.Promised.Verdicts.{IsAccepted}
use Rattle.type_terms.specs.Promised.SetLaws.{Headline, AnswersHold}
use Rattle.sessions.specs.Promised.Promises.{view_in}
use Rattle.sessions.specs.Promised.Subjects.{IsOfText}

-- The view is what its crate sees of some text without a fault, and calls answered that the crate is accepted and held.
pub record IsAcceptedAndHeld (v : View) : Type 0 where
  pub text : Declarations
  pub of_text : IsOfText text
  pub seen : v.world ≡ view_in text v.asker
  pub accepted : IsAccepted v.world v.asker
  pub held : IsHeld v.world v.asker

-- Crate c of the set was asked, with one of the views.
abbrev pub WasAsked : List View → ℕ → Type 0
WasAsked vs c = (v : View) × In v vs × (asker_in_set v ≡ c)

-- All that W declares is of core or of a crate that was asked. Out: an impl of a crate that no call was made about.
pub record IsOfAskedCrates (W : World) (asked : ℕ → Type 0) : Type 0 where
  pub structs : (x : StructDecl) → In x W.structs → (x.home ≡ core) ⊎ asked x.home
  pub traits : (x : TraitDecl) → In x W.traits → (x.home ≡ core) ⊎ asked x.home
  pub impls : (i : ImplDecl) → In i W.impls → In i core_world.impls ⊎ asked i.home

-- W is a finite set of crates that fit together, closed under uses: core, and crates of any texts, each accepted and held. It stands there
-- with what it saw of its text, or with later versions of the crates that it uses. Out: a set with a crate that is accepted and not held.
pub record IsAnsweredSet (W : World) (vs : List View) (rank : ℕ → ℕ) : Type 0 where
  pub fits : OrderedCrates W rank
  pub holds : Every (HoldsView W) vs
  pub crates : IsOfAskedCrates W (WasAsked vs)
  pub answered : (v : View) → In v vs → IsAcceptedAndHeld v

-- Such a set is linked.
abbrev pub AnsweredSetsAreLinked : Type 0
AnsweredSetsAreLinked = (W : World) (vs : List View) (rank : ℕ → ℕ) → IsAnsweredSet W vs rank → LinkedSet W vs rank

-- So no closed reference has proofs by two impls in it, and what was answered of its crates about one trait reference holds in it. What is
-- answered about several speaks of each linked set itself (`AreRefuted`, `YesHolds`).
abbrev pub AnsweredSetsAreCoherent : Type 0
AnsweredSetsAreCoherent = (W : World) (vs : List View) (rank : ℕ → ℕ) → IsAnsweredSet W vs rank → (limit : ℕ) → Headline W vs × AnswersHold limit W vs
