-- Lists of rules over terms are lawful programs.
use Rattle.std.proofs.Common.{ℕ, ◌≤◌, arith, not, ◌||◌, refl, ap, is_some}
use Rattle.std.specs.Prelude.{max}
use Rattle.infer_table.specs.Canonical.{CanonicalForm}
use Rattle.infer_table.specs.declared.certainty.TypingMode.{TypingMode}
use Rattle.infer_table.specs.declared.certainty.TypingMode.TheVariants.{Coherence, PostAnalysis}
use Rattle.goal_evaluator.specs.Content.{NestedQuestion}
use Rattle.goal_evaluator.specs.FrameTables.{kinds_known}
use Rattle.goal_frames.specs.Handlers.{has_placeholder, world_of_search}
use Rattle.goal_frames.specs.RulePrograms.{book_of, rule_goals, RulesArePrograms}
use Rattle.goal_frames.proofs.Handlers.{handlers-are-lawful}
use Rattle.goal_frames.proofs.HandlerPrograms.{handlers-are-programs}
use Rattle.goal_frames.proofs.Decided.{IsDecided, questions-decided}

-- a question that is decided is looked for where its goal is
decided-searched : (mode : TypingMode) (f : CanonicalForm) (q : NestedQuestion) → IsDecided q → world_of_search mode f → world_of_search mode q.form
decided-searched Coherence f q d x = ap (λ o. is_some o || not (has_placeholder (kinds_known q.form.kinds))) d.1
decided-searched PostAnalysis f q d x = x

pub rules-are-programs : RulesArePrograms
rules-are-programs =
    handlers-are-programs rule_goals (record {
      begins = λ w mode f. refl;
      handlers = λ w mode f. handlers-are-lawful (book_of w) w.made mode f;
      instances = λ w mode q v. refl;
      rules = λ w mode f g premises r. r;
      kinds = λ w mode f v. refl;
      numbers = λ w mode f q h. (less _ _ _ h, less _ _ _ h);
      worlds = λ w mode f heard q came e x. (decided-searched mode f q (questions-decided (book_of w) w.made mode f heard q came e) x, λ g p. p);
    })
  where
    less : (q g r : ℕ) → q ≤ max g r → max q r ≤ max g r
    less q g r h = omega (arith, h)
