-- What a session is about.
use Rattle.std.specs.Prelude.{◌≡◌, ℕ, true, false, List, Ok}
use Rattle.type_terms.specs.Promised.Handles.{Entry, Keeps}
use Rattle.text_language.specs.Promised.Declarations.{Declarations, Question}
use Rattle.text_language.specs.Promised.TextSays.{TextSays}
use Rattle.text_lowering.specs.Promised.Questions.{IsQuestion}

-- The declarations, one of their crates by its number, and the limits: the depth, and how many terms of a kind, goals and answers there are
-- at most. Then the terms of the session's interner, how many goals and answers the session stores, and how many frames its graph has
-- started.
pub record Subject : Type 0 where
  pub declarations : Declarations
  pub of_crate : ℕ
  pub depth : ℕ
  pub handles : ℕ
  pub terms : List Entry
  pub goals : ℕ
  pub answers : ℕ
  pub frames : ℕ

-- A call does not change what the session is about, nor its limits. Each handle keeps its term.
pub record StaysOn (old new : Subject) : Type 0 where
  pub declarations : new.declarations ≡ old.declarations
  pub of_crate : new.of_crate ≡ old.of_crate
  pub depth : new.depth ≡ old.depth
  pub handles : new.handles ≡ old.handles
  pub terms : Keeps old.terms new.terms

-- Some text declares them.
abbrev pub IsOfText : Declarations → Type 0
IsOfText d = (bytes : List ℕ) × TextSays bytes (Ok d)

-- Query number n, counted from 1, is q, and its crate is c.
pub record Asks (d : Declarations) (c n : ℕ) (q : Question) : Type 0 where
  pub question : IsQuestion d n q
  pub asker : q.asker ≡ c

-- It is a `prove` query.
pub record AsksProof (d : Declarations) (c n : ℕ) (q : Question) : Type 0 where
  pub asks : Asks d c n q
  pub proves : q.is_refute ≡ false

-- It is a `refute` query.
pub record AsksRefutation (d : Declarations) (c n : ℕ) (q : Question) : Type 0 where
  pub asks : Asks d c n q
  pub refutes : q.is_refute ≡ true
