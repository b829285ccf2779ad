-- What is claimed of a trace: all that is stated of its goals and candidates as checked.
use Rattle.std.specs.Prelude.{◌≡◌, ℕ, true, List, Option, Some}
use Rattle.std.specs.List.{slice_get}
use Rattle.sessions.specs.TypeTerms.Promised.Handles.{Entry}
use Rattle.sessions.specs.TypeTerms.Promised.Worlds.{World}
use Rattle.sessions.specs.TermFolds.declared.predicate.TraitRef.{TraitRef}
use Rattle.sessions.specs.Declarations.Items.{reference_in}
use Rattle.sessions.specs.Declarations.Promised.Elaboration.{Each}
use Rattle.sessions.specs.OrphanCheck.declared.errors.Conflict.{Conflict}
use Rattle.sessions.specs.ProofChecker.Steps.{term_of}
use Rattle.explain_traces.specs.declared.nodes.GoalWalk.{GoalWalk}
use Rattle.sessions.specs.Promised.Promises.{view_in}
use Rattle.sessions.specs.Promised.Subjects.{Subject}
use Rattle.explain_sessions.specs.Adding.{HasFreeInstance, MayAdd}
use Rattle.explain_sessions.specs.Refusals.{HoldsAt, IsRefusedAt}
use Rattle.explain_sessions.specs.Rules.{AreChecked, HasNoImplAt, HasNoRowAt}
use Rattle.explain_sessions.specs.Unseen.{IsUnseen}
use Rattle.explain_sessions.specs.declared.adding.Adder.{Adder}
use Rattle.explain_sessions.specs.declared.claims.Claims.{Claims}

-- Which crates outside the view may have an impl for the goal at an index of rs.
abbrev pub IsUnseenAt : List Entry → World → ℕ → List TraitRef → ℕ × Option Conflict → Type 0
IsUnseenAt es V c rs x = (r : TraitRef) × (slice_get rs x.0 ≡ Some r) × IsUnseen V c (reference_in es r) x.1

-- Who may write an impl for the goal at a place of rs.
abbrev pub MayAddAt : List Entry → World → ℕ → List TraitRef → ℕ × Adder → Type 0
MayAddAt es V c rs x = (r : TraitRef) × (slice_get rs x.0 ≡ Some r) × MayAdd V c (reference_in es r) x.1

-- The goal at an index of rs has an instance that no impl of V concludes.
abbrev pub IsFreeAt : List Entry → World → List TraitRef → ℕ → Type 0
IsFreeAt es V rs p = (r : TraitRef) × (slice_get rs p ≡ Some r) × HasFreeInstance V (term_of es r)

-- Each claim is true by what crate c sees, V.
pub record AreClaims (es : List Entry) (V : World) (c : ℕ) (w : GoalWalk) (x : Claims) : Type 0 where
  pub candidates : AreChecked es V w x.candidates
  pub refused : Each (IsRefusedAt es V c w.references.items) x.refused.items
  pub held : Each (HoldsAt es V w.references.items) x.held.items
  pub unseen : Each (IsUnseenAt es V c w.references.items) x.unseen.items
  pub adders : Each (MayAddAt es V c w.references.items) x.adders.items
  pub no_impl : x.no_impl ≡ true → HasNoImplAt es V w.references.items 0
  pub no_built_in_rule : x.no_built_in_rule ≡ true → HasNoRowAt es V w.references.items 0

-- Each claim is true for the crate of a session.
abbrev pub ClaimsHold : Subject → GoalWalk → Claims → Type 0
ClaimsHold s w x = AreClaims s.terms (view_in s.declarations s.of_crate) s.of_crate w x

-- The same for which crates outside the view may have impls for goals.
abbrev pub UnseenHold : Subject → GoalWalk → List (ℕ × Option Conflict) → Type 0
UnseenHold s w xs = Each (IsUnseenAt s.terms (view_in s.declarations s.of_crate) s.of_crate w.references.items) xs

-- The same for which goals have an instance that no impl concludes.
abbrev pub FreeHold : Subject → GoalWalk → List ℕ → Type 0
FreeHold s w ps = Each (IsFreeAt s.terms (view_in s.declarations s.of_crate) w.references.items) ps

-- And so who may write impls for them.
abbrev pub AddersHold : Subject → GoalWalk → List (ℕ × Adder) → Type 0
AddersHold s w xs = Each (MayAddAt s.terms (view_in s.declarations s.of_crate) s.of_crate w.references.items) xs
