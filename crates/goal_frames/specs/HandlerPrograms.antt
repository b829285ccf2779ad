-- The goals of a handler as the programs of a search.
use Rattle.std.specs.Prelude.{◌≡◌, ◌≤◌, false, List, [], Option, Some}
use Rattle.search_graph.specs.SearchPaths.declared.path_kind.PathKind.{PathKind}
use Rattle.search_graph.specs.SearchPaths.declared.path_kind.PathKind.TheVariants.{Coinductive}
use Rattle.infer_table.specs.Canonical.{CanonicalForm}
use Rattle.infer_table.specs.declared.certainty.Certainty.{Certainty}
use Rattle.infer_table.specs.declared.certainty.Certainty.TheVariants.{Yes, Maybe}
use Rattle.infer_table.specs.declared.certainty.MaybeCause.TheVariants.{Overflow}
use Rattle.infer_table.specs.declared.certainty.TypingMode.{TypingMode}
use Rattle.infer_table.specs.Responses.{AnswerTrees}
use Rattle.goal_evaluator.specs.Handler.{IsHandler}
use Rattle.type_terms.specs.Promised.Handles.{Entry, Keeps}
use Rattle.goal_evaluator.specs.History.{evaluate, asks, CameInOrder}
use Rattle.goal_evaluator.specs.Promises.{frame_of_goal, Anything, History}
use Rattle.goal_evaluator.specs.TableAnswers.{respond}
use Rattle.goal_evaluator.specs.Content.{Values, Fact, NestedQuestion, fact_of}
use Rattle.goal_evaluator.specs.Finite.{made_of}
use Rattle.goal_evaluator.specs.Widths.{number_of}
use Rattle.goal_evaluator.specs.TableOperations.{begin}
use Rattle.goal_evaluator.specs.Tables.{frame_tables}
use Rattle.goal_frames.specs.Programs.{Programs, ArePrograms}
use Rattle.goal_evaluator.specs.FrameTables.{kinds_known}
use Rattle.goal_frames.specs.Meanings.{Goals, HandlerMeaning}

-- ---- fixed responses of each goal
-- it has no values
abbrev pub silent : CanonicalForm → Certainty → Option AnswerTrees
silent f c = Some (respond (begin (kinds_known f.kinds)) c)

-- for a goal that exceeds the depth or the number of repetitions
abbrev pub overflow_answer : CanonicalForm → Option AnswerTrees
overflow_answer f = silent f (Maybe Overflow)

-- The certainty of a goal that recurs by a path of this kind. A coinductive cycle holds, and any other is an overflow.
abbrev pub cycle_certainty : PathKind → Certainty
cycle_certainty Coinductive = Yes
cycle_certainty k = Maybe Overflow

-- for a goal that recurs by a path of this kind
abbrev pub cycle_answer : CanonicalForm → PathKind → Option AnswerTrees
cycle_answer f k = silent f (cycle_certainty k)

-- ---- all goals
module _ (m : Goals) where
  -- the programs of a search, where a nested goal has its canonical form and the typing mode of its parent
  abbrev pub programs_of : Programs frame_tables
  programs_of = record {
    World = m.World;
    Mode = TypingMode;
    Goal = CanonicalForm;
    goal_of = λ q. q.form;
    handled = m.handled;
    Rule = m.Rule;
    coinductive = m.coinductive;
    made_of = λ f v. made_of (record { form = f; coinductive = false }) v;
    initial = λ w mode f k. cycle_answer f k;
    overflow = λ w mode f. overflow_answer f;
  }

  abbrev pub HandlersArePrograms : Type 0
  HandlersArePrograms = ArePrograms frame_tables programs_of

  -- the laws of goals
  pub record AreLawfulGoals : Type 0 where
    -- a frame begins with an inference variable for each one of its goal
    pub begins : (w : m.World) (mode : TypingMode) (g : CanonicalForm) → (m.handled w mode g).begin ≡ begin (kinds_known g.kinds)
    -- the laws of candidates and of results
    pub handlers : (w : m.World) (mode : TypingMode) (g : CanonicalForm) → IsHandler frame_tables (m.handled w mode g)
    -- the instances of a nested goal are those of its canonical form
    pub instances : (w : m.World) (mode : TypingMode) (q : NestedQuestion) (v : Values) → fact_of q v ≡ (m.handled w mode q.form).goal v
    -- a rule of one goal is a rule
    pub rules : (w : m.World) (mode : TypingMode) (g : CanonicalForm) (f : Fact) (premises : List Fact) → (m.handled w mode g).Rule f premises → m.Rule w f premises
    -- the instances of a goal are coinductive exactly if its trait is
    pub kinds : (w : m.World) (mode : TypingMode) (g : CanonicalForm) (v : Values) → m.coinductive w ((m.handled w mode g).goal v) ≡ (m.handled w mode g).coinductive
    -- if a nested goal is no wider than the terms of its parent's frame, its own frame makes no wider terms and has no more
    -- nested goals
    pub numbers : (w : m.World) (mode : TypingMode) (g : CanonicalForm) (q : NestedQuestion) → number_of q ≤ (m.handled w mode g).widest
        → ((m.handled w mode q.form).widest ≤ (m.handled w mode g).widest) × ((m.handled w mode q.form).number ≤ (m.handled w mode g).number)
    -- a nested goal's solutions are sought in every set of crates in which those of its parent are
    pub worlds : (w : m.World) (mode : TypingMode) (g : CanonicalForm) (heard : History frame_tables (m.handled w mode g)) (q : NestedQuestion)
        → CameInOrder (Anything frame_tables (m.handled w mode g)) (frame_of_goal frame_tables (m.handled w mode g)) heard
        → asks (frame_of_goal frame_tables (m.handled w mode g)) heard ≡ evaluate q
        → (x : (m.handled w mode g).World) → (y : (m.handled w mode q.form).World) × ((f : Fact) → (m.handled w mode g).Proves x f → (m.handled w mode q.form).Proves y f)

-- the laws of a handler
pub record HandlerIsLawful {Handler : Type 0} (m : HandlerMeaning Handler) : Type 0 where
  -- as the interner grows, handles stay ready and represent the same declarations
  pub ready_kept : (h : Handler) (old new : List Entry) → Keeps old new → m.IsReady h old → m.IsReady h new
  pub world_kept : (h : Handler) (old new : List Entry) → Keeps old new → m.IsReady h old → m.world h new ≡ m.world h old
  -- who notes nothing claims nothing
  pub no_notes : (h : Handler) (es : List Entry) → m.AreNotes h es []
  pub goals : AreLawfulGoals m.goals
