-- The leaves of plans: how the responses of the evaluated candidates become a result.
use Rattle.std.specs.Prelude.{ℕ, ◌==◌, Bool, true, false, if◌then◌else◌, List, [], ◌∷◌, filter, Option, Some, None}
use Rattle.goal_evaluator.specs.Table.{Tables, workings}
use Rattle.goal_evaluator.specs.Candidate.{Considered}
use Rattle.goal_evaluator.specs.Merge.{or_else, responses, merge_or_flounder}
use Rattle.goal_evaluator.specs.Plans.{Plan, answers}

abbrev pub if_so : {A : Type 0} → Bool → A → Option A
if_so true x = Some x
if_so false x = None

module _ {Question Response : Type 0} (t : Tables Question Response) where
  -- the numbers of these candidates, except this one
  abbrev pub numbers_but : ℕ → List (Considered (workings t)) → List ℕ
  numbers_but n [] = []
  numbers_but n (c ∷ seen) = if c.number == n then numbers_but n seen else c.number ∷ numbers_but n seen

  module _ (applicable : Response → Bool) (same : Response → Response → Bool) (begin : t.Table) where
    -- all responses are merged, and no candidate is ignored
    abbrev pub all_merged : List (Considered (workings t)) → Plan t
    all_merged seen = answers (merge_or_flounder t applicable same begin (responses t seen)) []

    -- the responses of those for which `kept` holds are merged, and no candidate is ignored
    abbrev pub kept_merged : (Considered (workings t) → Bool) → List (Considered (workings t)) → Plan t
    kept_merged kept seen = all_merged (filter kept seen)

    -- ---- if the first response that passes the test is the result, the other candidates are ignored
    abbrev pub passes : Option Response → Bool
    passes None = false
    passes (Some r) = applicable r

    -- the oldest candidate whose response passes
    abbrev pub first_passing : List (Considered (workings t)) → Option (Considered (workings t))
    first_passing [] = None
    first_passing (c ∷ seen) = or_else (first_passing seen) (if_so (passes c.response) c)

    abbrev pub taken_or_merged : List (Considered (workings t)) → Option (Considered (workings t)) → Plan t
    taken_or_merged seen (Some c) = answers c.response (numbers_but c.number seen)
    taken_or_merged seen None = all_merged seen

    abbrev pub first_taken : (Considered (workings t) → Bool) → List (Considered (workings t)) → Plan t
    first_taken kept seen = taken_or_merged (filter kept seen) (first_passing (filter kept seen))
