-- Which goals have a proof by what a crate sees, and which have none in any linked set with it.
use Rattle.std.specs.Prelude.{◌≡◌, ℕ, false, List, [], Some}
use Rattle.std.specs.List.{slice_get}
use Rattle.sessions.specs.TypeTerms.Promised.Label.{Sort}
use Rattle.sessions.specs.TypeTerms.Promised.Trees.{some_node}
use Rattle.sessions.specs.TypeTerms.Promised.Proofs.{HasProof}
use Rattle.sessions.specs.TypeTerms.Promised.Handles.{Entry}
use Rattle.sessions.specs.TypeTerms.Promised.Worlds.{World, Reference}
use Rattle.sessions.specs.TermFolds.declared.predicate.TraitRef.{TraitRef}
use Rattle.sessions.specs.TextLowering.QuestionVariables.{is_undeclared_variable}
use Rattle.sessions.specs.TypeTerms.Promised.Questions.{IsRefuted}
use Rattle.sessions.specs.ProofChecker.Steps.{term_of}

-- It is refused like a query with the answer `no`. It holds no parameter that is a type or a constant, and no inference variable but those
-- of these kinds. Whatever they stand for, it has no proof in a linked set with crate c, whose view is V.
pub record IsRefusedGoal (V : World) (c : ℕ) (r : Reference) : Type 0 where
  pub kinds : List Sort
  pub unknowns : some_node (is_undeclared_variable kinds) r.args ≡ false
  pub refuted : IsRefuted V c kinds r

-- The goal at index p of rs is refused like this.
abbrev pub IsRefusedAt : List Entry → World → ℕ → List TraitRef → ℕ → Type 0
IsRefusedAt es V c rs p = (r : TraitRef) × (slice_get rs p ≡ Some r) × IsRefusedGoal V c (term_of es r)

-- The goal at index p of rs has a proof by V.
abbrev pub HoldsAt : List Entry → World → List TraitRef → ℕ → Type 0
HoldsAt es V rs p = (r : TraitRef) × (slice_get rs p ≡ Some r) × HasProof V [] (term_of es r)
