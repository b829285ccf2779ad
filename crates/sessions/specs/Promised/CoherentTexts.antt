-- What follows for a text as a whole if all its crates are accepted.
use Rattle.std.specs.Prelude.{◌≡◌, ℕ, ◌<◌, IsTrue, List, [], length}
use Rattle.type_terms.specs.Promised.Label.{Sort}
use Rattle.type_terms.specs.Promised.Trees.{Trees}
use Rattle.type_terms.specs.Promised.Worlds.{Reference, core, World}
use Rattle.type_terms.specs.Promised.Proofs.{Every, HasProof, HasProofByImpl}
use Rattle.type_terms.specs.Promised.Answers.{is_closed}
use Rattle.type_terms.specs.Promised.Supers.{IsHeld}
use Rattle.text_language.specs.Promised.Declarations.{Declarations, world_of}
use Rattle.type_terms.specs.Promised.Verdicts.{IsAccepted}
use Rattle.type_terms.specs.Promised.Questions.{yes, no}
use Rattle.sessions.specs.Promised.Entailment.{Entails}
use Rattle.sessions.specs.Promised.OwnValues.{HasNoParameter, SpeakOfOwn}
use Rattle.sessions.specs.Promised.Promises.{view_in}
use Rattle.sessions.specs.Promised.Subjects.{IsOfText}
use Rattle.sessions.specs.Promised.Together.{filled_references, SolutionOfAll, AreProved, AreRefuted}
use Rattle.type_terms.specs.Promised.Erased.{erased_world}

-- Each crate of the text but `core` is accepted, by what it sees.
abbrev pub CratesAreAccepted : Declarations → Type 0
CratesAreAccepted d = (c : ℕ) → core < c → c < length d.crates → IsAccepted (view_in d c) c

-- In each crate but `core`, the supertraits of the headers of its impls have proofs by what it sees and the impls' where-clauses.
abbrev pub CratesAreHeld : Declarations → Type 0
CratesAreHeld d = (c : ℕ) → core < c → c < length d.crates → IsHeld (view_in d c) c

-- The text as a whole: all its crates, up to lifetimes.
abbrev pub text_world : Declarations → World
text_world d = erased_world (world_of d)

-- What holds for the text as a whole, and not only by what one of its crates sees.
pub record TextIsCoherent (d : Declarations) : Type 0 where
  -- no concrete trait reference has proofs by two impls
  pub one_impl : (r : Reference) → IsTrue (is_closed r.args) → (n k : ℕ) → HasProofByImpl (text_world d) [] r n → HasProofByImpl (text_world d) [] r k → n ≡ k
  -- what is answered `no` in some crate has no solution
  pub no_holds : (c : ℕ) (ks : List Sort) (rs : List Reference) → AreRefuted (view_in d c) c ks rs no → SolutionOfAll (HasProof (text_world d) []) ks rs → ⊥
  -- what is answered `yes` in some crate is entailed by the where-clauses
  pub yes_holds : (c : ℕ) (ks : List Sort) (ts : List Trees) (E rs : List Reference) → AreProved (view_in d c) ks E rs (yes ts)
      → Every (Entails (text_world d) E) (filled_references ks ts rs)
  -- what is answered `no` in some crate is not answered `yes` without where-clauses in any; a `refute` question has no parameters
  pub no_or_yes : (c e : ℕ) (ks : List Sort) (ts : List Trees) (rs : List Reference) → Every HasNoParameter rs → AreRefuted (view_in d c) c ks rs no
      → AreProved (view_in d e) ks [] rs (yes ts) → SpeakOfOwn (view_in d e) [] rs ts → ⊥

-- The same holds if each crate has the supertraits of its headers, by what it sees.
abbrev pub HeldTextsAreCoherent : Type 0
HeldTextsAreCoherent = (d : Declarations) → IsOfText d → CratesAreAccepted d → CratesAreHeld d → TextIsCoherent d
