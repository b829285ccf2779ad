-- Declarations by which goals are decided, and goals for which it is known whether they are.
use Rattle.std.specs.Prelude.{◌≡◌, Bool, true, IsTrue, if◌then◌else◌, List, Some, None}
use Rattle.type_terms.specs.Promised.Handles.{Entry}
use Rattle.infer_table.specs.Inputs.{form_of}
use Rattle.infer_table.specs.declared.input.CanonicalInput.{CanonicalInput}
use Rattle.infer_table.specs.Goals.{GoalHeld}
use Rattle.declarations.specs.Applied.{HaveBounds}
use Rattle.declarations.specs.Held.{AreHeld}
use Rattle.declarations.specs.Items.{Items, written}
use Rattle.candidate_model.specs.Asking.{goal_over_kinds}
use Rattle.candidate_model.specs.DeclaredWell.{is_declared_well}
use Rattle.structural_traits.specs.Constituents.{HaveFields}
use Rattle.candidate_assembly.specs.Fitting.{GoalFits, solving_of}
use Rattle.built_in_candidates.specs.Goals.{asked_of}
use Rattle.candidate_assembly.specs.Headers.{HaveCandidates}
use Rattle.candidate_assembly.specs.Sections.{decided}
use Rattle.candidate_assembly.specs.Solving.{meaning_for}

-- The declarations' terms are the interner's, they are declared well, and all of their impls can be candidates. They stay ready while the
-- interner grows.
pub record AreReadyDeclarations (es : List Entry) (d : Items) : Type 0 where
  pub held : AreHeld es d
  pub well : is_declared_well (written es d) ≡ true
  pub impls : HaveCandidates es d
  pub fields : HaveFields es d
  pub bounds : HaveBounds es d

-- The goal is decided if this is true, and then fits the declarations.
pub record Decides (es : List Entry) (d : Items) (g : CanonicalInput) (b : Bool) : Type 0 where
  pub is : decided (meaning_for (solving_of es d) (form_of es g)) (goal_over_kinds (written es d) (form_of es g)) ≡ (if b then Some (asked_of es g) else None)
  pub fits : IsTrue b → GoalFits es d g

-- A goal that is decided by ready declarations.
pub record IsWellPosedGoal (es : List Entry) (d : Items) (g : CanonicalInput) : Type 0 where
  pub ready : AreReadyDeclarations es d
  pub goal : GoalHeld es g.goal
  pub is : decided (meaning_for (solving_of es d) (form_of es g)) (goal_over_kinds (written es d) (form_of es g)) ≡ Some (asked_of es g)
  pub fits : GoalFits es d g
