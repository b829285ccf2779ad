-- A handler's goals are lawful programs.
use Rattle.std.proofs.Common.{◌≡◌, false, Option, refl, subst}
use Rattle.search_graph.specs.SearchPaths.declared.path_kind.PathKind.{PathKind}
use Rattle.search_graph.specs.SearchPaths.declared.path_kind.PathKind.TheVariants.{Inductive, Unknown, Coinductive, ForcedAmbiguity}
use Rattle.infer_table.specs.Canonical.{CanonicalForm}
use Rattle.infer_table.specs.declared.certainty.Certainty.{Certainty}
use Rattle.infer_table.specs.declared.certainty.Certainty.TheVariants.{Maybe}
use Rattle.infer_table.specs.declared.certainty.MaybeCause.TheVariants.{Overflow}
use Rattle.infer_table.specs.declared.certainty.TypingMode.{TypingMode}
use Rattle.infer_table.specs.Responses.{AnswerTrees}
use Rattle.goal_evaluator.specs.Law.{IsYes}
use Rattle.goal_evaluator.specs.TableAnswers.{respond, has_values}
use Rattle.goal_evaluator.specs.Widths.{TableWithin}
use Rattle.goal_evaluator.specs.TableOperations.{begin}
use Rattle.goal_evaluator.proofs.Finite.{made-of-closed}
use Rattle.goal_evaluator.proofs.WidthLaws.{respond_within}
use Rattle.goal_evaluator.specs.Tables.{frame_tables}
use Rattle.goal_frames.specs.Programs.{SaysNothing}
use Rattle.goal_evaluator.specs.FrameTables.{kinds_known}
use Rattle.goal_frames.specs.Meanings.{Goals}
use Rattle.goal_frames.specs.HandlerPrograms.{silent, overflow_answer, cycle_certainty, cycle_answer, programs_of, HandlersArePrograms, AreLawfulGoals}

no-yes : (f : CanonicalForm) → IsYes frame_tables (overflow_answer f) → ⊥
no-yes f y = cc

cycle-yes : (f : CanonicalForm) (k : PathKind) → IsYes frame_tables (cycle_answer f k) → k ≡ Coinductive
cycle-yes f Coinductive y = refl
cycle-yes f Unknown y = absurd (no-yes f y)
cycle-yes f ForcedAmbiguity y = absurd (no-yes f y)
cycle-yes f Inductive y = absurd (no-yes f y)

module _ (m : Goals) (laws : AreLawfulGoals m) where
  abbrev pub IsSilent : m.World → TypingMode → CanonicalForm → Option AnswerTrees → Type 0
  IsSilent w mode f a = SaysNothing frame_tables (programs_of m) (m.handled w mode f) a

  pub is-silent : (w : m.World) (mode : TypingMode) (f : CanonicalForm) (c : Certainty) → IsSilent w mode f (silent f c)
  is-silent w mode f c = (
    subst (λ t. has_values (respond t c) ≡ false) (laws.begins w mode f) ((laws.handlers w mode f).says_nothing c),
    respond_within (m.handled w mode f).widest (begin (kinds_known f.kinds)) c (subst (TableWithin (m.handled w mode f).widest) (laws.begins w mode f) (laws.handlers w mode f).begins_within),
  )

  pub handlers-are-programs : HandlersArePrograms m
  handlers-are-programs = record {
    handlers = laws.handlers;
    systems = λ w mode.
        record {
          instance = laws.instances w mode;
          rule = laws.rules w mode;
          kind = laws.kinds w mode;
          made = λ q v. refl;
          closed = λ f g u v x i j. made-of-closed (record { form = g; coinductive = false }) (record { form = f; coinductive = false }) u v x i j;
        };
    numbers = laws.numbers;
    worlds = laws.worlds;
    initial_yes = λ w mode f k y. cycle-yes f k y;
    overflow_yes = λ w mode f y. no-yes f y;
    initial = λ w mode f k. is-silent w mode f (cycle_certainty k);
    overflow = λ w mode f. is-silent w mode f (Maybe Overflow);
  }
