-- Rounds of an evaluation correspond to rounds over the tables of frames.
use Rattle.std.specs.Prelude.{◌≡◌, Bool, List}
use Rattle.type_terms.specs.Promised.Label.{Label}
use Rattle.infer_table.specs.Unification.{TableTrees}
use Rattle.infer_table.specs.declared.canonical.CanonicalVarKind.{CanonicalVarKind}
use Rattle.infer_table.specs.declared.certainty.TypingMode.{TypingMode}
use Rattle.infer_table.specs.Responses.{AnswerTrees}
use Rattle.goal_evaluator.specs.Table.{operations}
use Rattle.goal_evaluator.specs.Readings.{is_coinductive_step}
use Rattle.goal_evaluator.specs.Correspondences.{Correspondence, IsCorrespondence, RoundsCorrespond}
use Rattle.goal_evaluator.specs.Instances.{goal_put_in}
use Rattle.goal_evaluator.specs.Content as Frames
use Rattle.goal_evaluator.specs.FrameTables.{FrameTable, IsMadeFrame, Nested, slot_at}
use Rattle.goal_evaluator.specs.TableAnswers.{IsWellFormed}
use Rattle.goal_evaluator.specs.Tables.{frame_tables}
use Rattle.goal_evaluator.specs.Evaluating.{AskedQuestion, NestedTrees, evaluation}

-- in this typing mode, for a goal whose trait is coinductive or not, in tables of these kinds and labels
module _ (mode : TypingMode) (coinductive : Bool) (kinds : List CanonicalVarKind) (labels : List Label) where
  -- the well-formed table of a frame has this content
  pub record AreOneTable (t : FrameTable) (u : TableTrees) : Type 0 where
    pub made : IsMadeFrame t
    pub kinds_are : t.kinds ≡ kinds
    pub labels_are : t.labels ≡ labels
    pub content_is : t.content ≡ u

  -- the nested goal, with the labels in place of its variables, is this goal
  pub record AreOneGoal (n : Nested) (m : NestedTrees) : Type 0 where
    pub goal_is : goal_put_in (slot_at labels) n.goal ≡ m.goal
    pub step_is : n.coinductive ≡ is_coinductive_step coinductive m.source

  -- the same canonical goal, with the same kind of step
  pub record AreOneQuestion (p : Frames.NestedQuestion) (q : AskedQuestion) : Type 0 where
    pub mode_is : q.mode ≡ mode
    pub form_is : p.form ≡ q.form
    pub step_is : p.coinductive ≡ is_coinductive_step coinductive q.source

  -- the same well-formed response, which need not fit its goal
  pub record AreOneAnswer (p : Frames.NestedQuestion) (a b : AnswerTrees) : Type 0 where
    pub is : a ≡ b
    pub fits : IsWellFormed a

  abbrev pub in_rounds : Correspondence (operations frame_tables) (evaluation mode)
  in_rounds = record { Tables = AreOneTable; Goals = AreOneGoal; Questions = AreOneQuestion; Responses = AreOneAnswer }

-- with well-formed responses, rounds over both have the same nested goals and ends
abbrev pub RoundsAreOne : Type 0
RoundsAreOne = (mode : TypingMode) (coinductive : Bool) (kinds : List CanonicalVarKind) (labels : List Label) → IsCorrespondence (operations frame_tables) (evaluation mode) (in_rounds mode coinductive kinds labels)

abbrev pub RoundsEndAlike : Type 0
RoundsEndAlike = (mode : TypingMode) (coinductive : Bool) (kinds : List CanonicalVarKind) (labels : List Label) → RoundsCorrespond (operations frame_tables) (evaluation mode) (in_rounds mode coinductive kinds labels)
