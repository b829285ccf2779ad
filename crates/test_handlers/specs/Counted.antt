-- Workings whose tables also count the responses that were applied to them.
use Rattle.std.specs.Prelude.{◌≡◌, ℕ, suc, Option, Some, None}
use Rattle.goal_evaluator.specs.Operations.{Workings}
use Rattle.goal_evaluator.specs.Correspondences.{CandidateCorrespondence}

-- a table, and the number of responses that were applied to it
pub record CountedAnswers (Table : Type 0) : Type 0 where
  pub table : Table
  pub answers : ℕ

abbrev pub with_count : {Table : Type 0} → ℕ → Option Table → Option (CountedAnswers Table)
with_count n None = None
with_count n (Some T) = Some (record { table = T; answers = n })

module _ {Question Response : Type 0} (t : Workings Question Response) where
  abbrev pub counting : Workings Question Response
  counting = record {
    operations = record {
      Table = CountedAnswers t.operations.Table;
      Nested = t.operations.Nested;
      question = λ T n. t.operations.question T.table n;
      apply = λ T n r. with_count (suc T.answers) (t.operations.apply T.table n r);
      certainty = t.operations.certainty;
      has_values = t.operations.has_values;
    };
    Equation = t.Equation;
    Kinds = t.Kinds;
    Regions = t.Regions;
    fresh = λ T kinds. record { table = t.fresh T.table kinds; answers = T.answers };
    equate = λ T es. with_count T.answers (t.equate T.table es);
    recorded = λ T regions. record { table = t.recorded T.table regions; answers = T.answers };
    respond = λ T sure. t.respond T.table sure;
  }

  -- everything except tables corresponds to itself
  abbrev pub but_for_tables : (t.operations.Table → CountedAnswers t.operations.Table → Type 0) → CandidateCorrespondence t counting
  but_for_tables Tables = record {
    rounds = record { Tables = Tables; Goals = λ n m. n ≡ m; Questions = λ p q. p ≡ q; Responses = λ q r s. r ≡ s };
    Responses = λ r s. r ≡ s;
    Equations = λ e f. e ≡ f;
    Kinds = λ j k. j ≡ k;
    Regions = λ p q. p ≡ q;
  }

  -- a table corresponds to itself with any count
  abbrev pub but_for_counts : CandidateCorrespondence t counting
  but_for_counts = but_for_tables (λ T U. T ≡ U.table)
