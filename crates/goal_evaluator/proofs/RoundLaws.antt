-- Rounds over the table of a frame do what an evaluation does with its content.
use Rattle.std.proofs.Common.{◌≡◌, Bool, not, List, refl, ◌∙◌, ap, Option, Some, None}
use Rattle.std.specs.Prelude.{option_map}
use Rattle.type_terms.specs.Promised.Label.{Label}
use Rattle.infer_table.specs.Canonical.{canonical_form}
use Rattle.infer_table.specs.Unification.{TableTrees}
use Rattle.infer_table.specs.declared.canonical.CanonicalVarKind.{CanonicalVarKind}
use Rattle.infer_table.specs.declared.certainty.TypingMode.{TypingMode}
use Rattle.infer_table.specs.Goals.{goal_resolved}
use Rattle.infer_table.specs.Responses.{AnswerTrees}
use Rattle.goal_evaluator.specs.Lists.{OnBoth}
use Rattle.goal_evaluator.specs.Table.{operations}
use Rattle.goal_evaluator.proofs.Correspondences.{rounds_correspond}
use Rattle.goal_evaluator.specs.Responses.{is_identity_modulo_regions}
use Rattle.goal_evaluator.specs.Instances.{goal_put_in}
use Rattle.goal_evaluator.specs.FrameTables.{FrameTable, IsMadeFrame, Nested, slot_at, goal_in}
use Rattle.goal_evaluator.specs.TableOperations.{with_content}
use Rattle.goal_evaluator.specs.TableAnswers as Frames
use Rattle.goal_evaluator.specs.TableAnswers.{IsWellFormed, originals_of}
use Rattle.goal_evaluator.proofs.Equating.{some-is}
use Rattle.goal_evaluator.proofs.Applying.{put-made}
use Rattle.goal_evaluator.specs.Tables.{frame_tables}
use Rattle.goal_evaluator.specs.Evaluating.{evaluation, NestedTrees, goal_values, put_into}
use Rattle.goal_evaluator.specs.RoundLaws.{in_rounds, RoundsEndAlike, AreOneTable, AreOneGoal, RoundsAreOne}
use Rattle.goal_evaluator.proofs.Filling.{put-alike, same-values}

module _ (mode : TypingMode) (coinductive : Bool) (kinds : List CanonicalVarKind) (labels : List Label) where
  -- the frame that is left has the content that is left
  frames-alike : (t : FrameTable) (o x : Option TableTrees) → ((u : TableTrees) → o ≡ Some u → IsMadeFrame (with_content t u)) → t.kinds ≡ kinds → t.labels ≡ labels → o ≡ x
      → OnBoth (AreOneTable mode coinductive kinds labels) (option_map (with_content t) o) x
  frames-alike t None None f k l e = tt
  frames-alike t (Some u) (Some x) f k l e = record { made = f u refl; kinds_are = k; labels_are = l; content_is = some-is u x e }
  frames-alike t None (Some x) f k l e = absurd (cc)
  frames-alike t (Some u) None f k l e = absurd (cc)

  goal-is : (t : FrameTable) (u : TableTrees) (n : Nested) (m : NestedTrees) → AreOneTable mode coinductive kinds labels t u → AreOneGoal mode coinductive kinds labels n m → goal_in t n ≡ goal_resolved u.bindings m.goal
  goal-is t u n m h g =
      ap (λ (w : TableTrees). goal_resolved w.bindings (goal_put_in (slot_at t.labels) n.goal)) h.content_is
      ∙ ap (λ ls. goal_resolved u.bindings (goal_put_in (slot_at ls) n.goal)) h.labels_are
      ∙ ap (goal_resolved u.bindings) g.goal_is

  applies-alike : (t : FrameTable) (u : TableTrees) (n : Nested) (m : NestedTrees) (a b : AnswerTrees) → AreOneTable mode coinductive kinds labels t u → AreOneGoal mode coinductive kinds labels n m
      → a ≡ b → IsWellFormed a → Frames.put_into t.content (originals_of t n) a ≡ put_into u (goal_values (goal_resolved u.bindings m.goal)) b
  applies-alike t u n m a b h g e fits =
      put-alike t.content (originals_of t n) a fits
      ∙ ap (λ w. put_into w (originals_of t n) a) h.content_is
      ∙ ap (λ x. put_into u (goal_values x) a) (goal-is t u n m h g)
      ∙ ap (put_into u (goal_values (goal_resolved u.bindings m.goal))) e

pub rounds-are-one : RoundsAreOne
rounds-are-one mode coinductive kinds labels = record {
  question = λ t u n m h g. record { mode_is = refl; form_is = ap canonical_form (goal-is mode coinductive kinds labels t u n m h g); step_is = g.step_is };
  apply = λ t u n m a b h g x.
      frames-alike mode coinductive kinds labels t (Frames.put_into t.content (originals_of t n) a) (put_into u (goal_values (goal_resolved u.bindings m.goal)) b) (put-made t h.made n a) h.kinds_are h.labels_are
      (applies-alike mode coinductive kinds labels t u n m a b h g x.is x.fits);
  certainty = λ q a b x. ap (λ (z : AnswerTrees). z.certainty) x.is;
  has_values = λ q a b x. same-values a x.fits ∙ ap (λ (z : AnswerTrees). not (is_identity_modulo_regions 0 z.values)) x.is;
}

pub rounds-end-alike : RoundsEndAlike
rounds-end-alike mode coinductive kinds labels =
    rounds_correspond (operations frame_tables) (evaluation mode) (in_rounds mode coinductive kinds labels) (rounds-are-one mode coinductive kinds labels)
