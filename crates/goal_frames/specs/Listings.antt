-- A list of candidates as a plan: one after another, and then a merge of all responses.
use Rattle.std.specs.Prelude.{◌≡◌, ℕ, ◌≤◌, Bool, false, length, List, []}
use Rattle.infer_table.specs.declared.certainty.Certainty.{Certainty}
use Rattle.goal_evaluator.specs.Lists.{Every, SomeOf}
use Rattle.goal_evaluator.specs.Table.{Tables, workings, IsFree}
use Rattle.goal_evaluator.specs.Candidate.{Spec}
use Rattle.goal_evaluator.specs.Law.{Realizes}
use Rattle.goal_evaluator.specs.Handler.{Handled, CandidateIsLawful}
use Rattle.goal_evaluator.specs.Plans.{Plan, Planned, planned, each_of, nested_in}
use Rattle.goal_evaluator.specs.PlanAnswers.{all_merged}

module _ {Question Response : Type 0} (t : Tables Question Response) where
  -- a goal with the list of its candidates, and what its proofs are
  pub record Listing : Type 1 where
    pub goal : t.Values → t.Fact
    pub begin : t.Table
    pub specs : List (Spec (workings t))
    pub Rule : t.Fact → List t.Fact → Type 0
    pub World : Type 0
    pub Proves : World → t.Fact → Type 0
    pub coinductive : Bool
    -- the greatest number of nested goals of all candidates, and the greatest width of their terms
    pub number : ℕ
    pub widest : ℕ

  module _ (applicable : Response → Bool) (same : Response → Response → Bool) where
    abbrev pub plan_of : Listing → Plan t
    plan_of l = each_of t l.specs (all_merged t applicable same l.begin) []

    abbrev pub as_plan : Listing → Planned t
    as_plan l = record {
      goal = l.goal;
      begin = l.begin;
      plan = plan_of l;
      Rule = l.Rule;
      World = l.World;
      Proves = l.Proves;
      coinductive = l.coinductive;
      candidates = length l.specs;
      number = l.number;
      widest = l.widest;
    }

    abbrev pub listed : Listing → Handled t
    listed l = planned t (as_plan l)

    -- the laws of a list of candidates
    pub record IsListing (l : Listing) : Type 0 where
      pub begins : IsFree t l.begin
      pub says_nothing : (c : Certainty) → t.has_values (t.respond l.begin c) ≡ false
      pub begins_within : t.TableWithin l.widest l.begin
      pub each : Every (CandidateIsLawful t (listed l)) l.specs
      pub asks : nested_in t l.specs ≤ l.number
      -- in every world a solution of the goal is one by some candidate
      pub cover : (w : l.World) (v : t.Values) → l.Proves w (l.goal v) → SomeOf (Realizes t (l.Proves w) l.begin v) l.specs
