-- Steps that are a proof of a query's trait reference.
use Rattle.std.specs.Prelude.{◌≡◌, ℕ, List, ◌∷◌, map, Some}
use Rattle.std.specs.List.{slice_get}
use Rattle.type_terms.specs.Promised.Erased.{erased_reference}
use Rattle.type_terms.specs.Promised.Trees.{Trees}
use Rattle.type_terms.specs.Promised.Worlds.{World, Reference}
use Rattle.type_terms.specs.Promised.Handles.{Entry}
use Rattle.infer_table.specs.Content.{Table, Ready, content}
use Rattle.infer_table.specs.Solutions.{resolved}
use Rattle.type_terms.specs.Promised.Questions.{FitKinds, filled_reference}
use Rattle.proof_checker.specs.Steps.{AreProofOf}
use Rattle.proof_checker.specs.declared.steps.Step.{Step}
use Rattle.text_language.specs.Promised.Declarations.{Declarations, Question}
use Rattle.text_lowering.specs.Promised.Questions.{variable_kinds}
use Rattle.sessions.specs.Promised.Promises.{view_in}

-- With values of their kinds for the query's variables, the steps are a proof of its trait reference r by the rules of V, the query's
-- where-clauses and what the steps assume.
pub record AreProofBy (V : World) (q : Question) (r : Reference) (es : List Entry) (ss : List Step) : Type 0 where
  pub values : List Trees
  pub fit : FitKinds (variable_kinds q) values
  pub proof : AreProofOf es V (map erased_reference q.clauses) (filled_reference (variable_kinds q) values (erased_reference r)) ss

-- V is what the query's crate sees of the text, and the trait reference is that with this number, counted from 0. So the answer `yes` with
-- these values is right of it, if the steps assume nothing.
abbrev pub AreProofOfBound : Declarations → Question → ℕ → List Entry → List Step → Type 0
AreProofOfBound d q n es ss = (r : Reference) × (slice_get (q.asked ∷ q.further) n ≡ Some r) × AreProofBy (view_in d q.asker) q r es ss

-- The second trait reference is the first with the values of some table.
pub record IsResolved (r x : Reference) : Type 0 where
  pub entries : List Entry
  pub table : Table
  pub ready : Ready entries table
  pub trait : x.trait ≡ r.trait
  pub args : x.args ≡ resolved (content entries table.values) r.args

-- With the values of some table for the variables of r, the steps are a proof of it by the rules of V and the where-clauses E.
pub record IsShown (es : List Entry) (V : World) (E : List Reference) (r : Reference) (ss : List Step) : Type 0 where
  pub asked : Reference
  pub resolved : IsResolved r asked
  pub proof : AreProofOf es V E (erased_reference asked) ss
