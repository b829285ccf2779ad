-- The nested goals of candidates whose equations hold.
use Rattle.std.specs.Prelude.{◌≡◌, List}
use Rattle.goal_evaluator.specs.Lists.{Every}
use Rattle.goal_evaluator.specs.Table.{Tables, workings}
use Rattle.goal_evaluator.specs.Candidate.{Spec}
use Rattle.solver_completeness.specs.Closed.{AreWays, DeterminesNested}

module _ {Question Response : Type 0} (t : Tables Question Response) where
  -- P holds of each nested goal, for all values for which the candidate's equations hold
  abbrev pub AsksOnly : (t.Fact → Type 0) → t.Table → t.Values → Spec (workings t) → Type 0
  AsksOnly P begin v c =
      Every (λ n. (s : t.Assignment) → t.Allows (t.fresh begin c.kinds) s → Every (λ e. t.Meets e s) c.equations → t.own s ≡ v → P (t.fact n s)) c.nested

  -- what holds of all premises of the rule instances that the candidates are holds of all their nested goals
  abbrev pub PremisesAreAsked : (t.Fact → Type 0) → Type 0
  PremisesAreAsked P =
      (begin : t.Table) (v : t.Values) (specs : List (Spec (workings t))) (ways : List (List t.Fact)) → AreWays t begin v specs ways → Every (DeterminesNested t begin) specs → Every (Every P) ways
      → Every (AsksOnly P begin v) specs
