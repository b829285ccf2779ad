-- Equations between lists of arguments.
use Rattle.std.specs.Prelude.{◌≡◌, Bool, true, false, List, [], ◌∷◌, ◌++◌, map}
use Rattle.type_terms.specs.Promised.Handles.{Entry}
use Rattle.type_terms.specs.Terms.{Lawful}
use Rattle.type_terms.specs.Promised.Handles.{ArgsHeld}
use Rattle.type_terms.specs.Kinds.{args_trees}
use Rattle.type_terms.specs.declared.kinds.GenericArgKind.{GenericArgKind}
use Rattle.infer_table.specs.declared.terms.Equation as Code
use Rattle.goal_evaluator.specs.Lists.{Every}
use Rattle.goal_evaluator.specs.Readings.{EquationHeld}
use Rattle.goal_evaluator.specs.FrameTables.{Equation}
use Rattle.goal_evaluator.specs.StepReadings.{equation_read}
use Rattle.candidate_model.specs.Candidates.{all_equal, never_met}

-- An equation without solutions, if one list is longer.
abbrev pub never_if : Bool → List Equation
never_if true = never_met ∷ []
never_if false = []

-- The equations say that arguments with the same index are equal. The flag says whether one list is longer.
abbrev pub ArePaired : List GenericArgKind → List GenericArgKind → List Code.Equation × Bool → Type 0
ArePaired xs ys r =
    (es : List Entry) → Lawful es → ArgsHeld es xs → ArgsHeld es ys
    → Every (EquationHeld es) r.0 × (map (equation_read es) r.0 ++ never_if r.1 ≡ all_equal (args_trees es xs) (args_trees es ys))
