-- The result of an open candidate is that of its evaluation with the replies to its nested goals.
use Rattle.std.proofs.Common.{◌≡◌, List, [], ◌∷◌, map, refl, sym, ◌∙◌, ap, subst, Bool, Option, Some, None}
use Rattle.type_terms.specs.Promised.Label.{Label}
use Rattle.type_terms.specs.Promised.Handles.{Entry}
use Rattle.infer_table.specs.declared.canonical.CanonicalVarKind.{CanonicalVarKind}
use Rattle.infer_table.specs.declared.certainty.TypingMode.{TypingMode}
use Rattle.infer_table.specs.declared.terms.Equation as Code
use Rattle.infer_table.specs.declared.goal.Goal.{Goal}
use Rattle.infer_table.specs.declared.response.CanonicalResponse.{CanonicalResponse}
use Rattle.infer_table.specs.Goals.{goal_trees}
use Rattle.infer_table.specs.Responses.{AnswerTrees}
use Rattle.goal_evaluator.specs.Ends.{RunIsRefused, Awaits, EndsIn}
use Rattle.goal_evaluator.specs.Evaluating as InCode
use Rattle.goal_evaluator.specs.Evaluating.{evaluation}
use Rattle.goal_evaluator.specs.Frames.{begun}
use Rattle.goal_evaluator.specs.Trial.{spec_trees, equations_trees, premises_trees, candidate}
use Rattle.goal_evaluator.specs.declared.TheConstants.{FIXPOINT_STEP_LIMIT}
use Rattle.goal_evaluator.specs.declared.candidate.CandidateSource.{CandidateSource}
use Rattle.goal_evaluator.specs.declared.candidate.CandidateSpec.{CandidateSpec}
use Rattle.goal_evaluator.specs.declared.goal.GoalSource.{GoalSource}
use Rattle.goal_evaluator.specs.Candidate as Frames
use Rattle.goal_evaluator.specs.Correspondences.{AreAnswers, AnswersCorrespond, Runs}
use Rattle.goal_evaluator.specs.Handler.{Handled}
use Rattle.goal_evaluator.specs.History.{inside, request, evaluate, finish_candidate}
use Rattle.goal_evaluator.specs.Lists.{Every, Pairwise}
use Rattle.goal_evaluator.specs.Replays.{Run, ready, waits, run}
use Rattle.goal_evaluator.specs.Script.{Script, done, ask}
use Rattle.goal_evaluator.specs.Table.{operations, workings}
use Rattle.goal_evaluator.specs.Content.{NestedQuestion}
use Rattle.goal_evaluator.specs.TableAnswers.{IsWellFormed}
use Rattle.goal_evaluator.specs.FrameTables.{IsMadeFrame}
use Rattle.goal_evaluator.specs.TableOperations.{begin}
use Rattle.goal_evaluator.proofs.TableBeginning.{begin-made}
use Rattle.goal_evaluator.specs.Tables.{frame_tables}
use Rattle.goal_evaluator.specs.Fitting.{IsGoalOver}
use Rattle.goal_evaluator.specs.RoundLaws.{AreOneQuestion, in_rounds}
use Rattle.goal_evaluator.specs.Candidates.{labels_of, AreOneEquation, AreOnePremise, AreOneCandidate}
use Rattle.goal_evaluator.proofs.Candidates.{candidates-are-one}
use Rattle.goal_evaluator.specs.StepReadings.{ShownCandidate, equation_read, nested_read, spec_read, result_read}
use Rattle.goal_frames.specs.Fitting.{AnswerFits, ResultFits, IsEquationOver, IsOver}
use Rattle.goal_evaluator.specs.Replayed.{after}
use Rattle.goal_frames.specs.Places.{FrameStanding, candidate_of, Opened, IsInside, WaitsAtQuestion, IsFinishing, with_result}
use Rattle.goal_frames.proofs.Fits.{one-answer, candidate-fits}

abbrev Answer : Type 0
Answer = Option AnswerTrees

-- ---- a script after answers, and its run over them
pub waits-after : {Q A X : Type 0} (s : Script Q A X) (replies : List A) (q : Q) → run s replies ≡ waits q → (k : A → Script Q A X) × (after s replies ≡ ask q k)
waits-after (done x) replies q e = absurd (cc)
waits-after (ask p k) [] q e = (k, ap (λ z. ask z k) (asked e)) where
  asked : {X Y Z : Type 0} {a b : X} → ◌≡◌ {A = Run X Y Z} (waits a) (waits b) → a ≡ b
  asked r = cc
waits-after (ask p k) (a ∷ replies) q e = waits-after (k a) replies q e

pub ready-after : {Q A X : Type 0} (s : Script Q A X) (replies : List A) (x : X) (more : List A) → run s replies ≡ ready x more → after s replies ≡ done x
ready-after (done y) replies x more e = ap done (cc)
ready-after (ask p k) [] x more e = absurd (cc)
ready-after (ask p k) (a ∷ replies) x more e = ready-after (k a) replies x more e

-- ---- one candidate in both forms
module _ (es : List Entry) (coinductive : Bool) (kinds : List CanonicalVarKind) (s : CandidateSpec) where
  abbrev spec-labels : List Label
  spec-labels = labels_of kinds s.variables.items

  equations-are-one : (xs : List Code.Equation) → Every (IsEquationOver spec-labels es) xs → Pairwise (AreOneEquation spec-labels) (map (equation_read es) xs) (equations_trees es xs)
  equations-are-one [] o = tt
  equations-are-one (x ∷ xs) o = (record { left_over = o.0.0; right_over = o.0.1; left_is = refl; right_is = refl }, equations-are-one xs o.1)

  premises-are-one : (ns : List (GoalSource × Goal)) → Every (λ (n : GoalSource × Goal). IsGoalOver spec-labels (goal_trees es n.1)) ns
      → Pairwise (AreOnePremise coinductive spec-labels) (map (nested_read es coinductive) ns) (premises_trees es ns)
  premises-are-one [] o = tt
  premises-are-one (n ∷ ns) o = (record { over = o.0; goal_is = refl; step_is = refl }, premises-are-one ns o.1)

  pub candidate-is-one : IsOver kinds es s → AreOneCandidate coinductive kinds (spec_read es coinductive s) (spec_trees es s)
  candidate-is-one o = record {
    kinds_are = refl;
    equations = equations-are-one s.equations.items o.equations;
    constraints_over = o.constraints;
    constraints_are = refl;
    nested = premises-are-one s.nested_goals.items o.nested;
    certainty_is = refl;
  }

-- ---- answers that are well-formed are one answer in both forms
pub result-fits : (es : List Entry) (r : Option CanonicalResponse) → ResultFits es r → AnswerFits (result_read es r)
result-fits es None f = tt
result-fits es (Some r) f = f

module _ (mode : TypingMode) (coinductive : Bool) (kinds : List CanonicalVarKind) (ls : List Label) where
  answers-are-one : (p : NestedQuestion) (a : Answer) → AnswerFits a → AnswersCorrespond (operations frame_tables) (evaluation mode) (in_rounds mode coinductive kinds ls) p a a
  answers-are-one p None f = tt
  answers-are-one p (Some a) f = one-answer mode coinductive kinds ls p a f

  replies-are-one : (s : Script NestedQuestion Answer Answer) (rs : List Answer) → Every AnswerFits rs → AreAnswers (operations frame_tables) (evaluation mode) (in_rounds mode coinductive kinds ls) s rs rs
  replies-are-one (done x) rs f = tt
  replies-are-one (ask q k) [] f = tt
  replies-are-one (ask q k) (a ∷ rs) f = (answers-are-one q a f.0, replies-are-one (k a) rs f.1)

-- ---- what the frame asks
module _ (h : Handled frame_tables) (mode : TypingMode) (kinds : List CanonicalVarKind) (begins : h.begin ≡ begin kinds) (source : CandidateSource) (o : Opened h kinds source) where
  abbrev labels : List Label
  labels = labels_of kinds o.evaluated.kinds

  abbrev code-run : Run InCode.AskedQuestion Answer Answer
  code-run = run (candidate mode (begun kinds) o.evaluated) o.replies

  abbrev frame-run : Run NestedQuestion Answer Answer
  frame-run = run (candidate_of h o.spec) o.replies

  runs-are-one : Runs (operations frame_tables) (evaluation mode) (in_rounds mode h.coinductive kinds labels) (λ (a b : Answer). a ≡ b) frame-run code-run
  runs-are-one =
      subst (λ t. Runs (operations frame_tables) (evaluation mode) (in_rounds mode h.coinductive kinds labels) (λ (a b : Answer). a ≡ b)
      (run (Frames.candidate (workings frame_tables) FIXPOINT_STEP_LIMIT t o.spec) o.replies) code-run) (sym begins)
      (candidates-are-one mode h.coinductive kinds o.spec o.evaluated o.replies o.replies o.one
      (replies-are-one mode h.coinductive kinds labels (Frames.candidate (workings frame_tables) FIXPOINT_STEP_LIMIT (begin kinds) o.spec) o.replies o.fit))

  -- where the code waits at a question, the frame does
  waits-too : (a : Run NestedQuestion Answer Answer) (b : Run InCode.AskedQuestion Answer Answer) (q : InCode.AskedQuestion)
      → Runs (operations frame_tables) (evaluation mode) (in_rounds mode h.coinductive kinds labels) (λ (x y : Answer). x ≡ y) a b → Awaits b q
      → (p : NestedQuestion) × (a ≡ waits p) × AreOneQuestion mode h.coinductive kinds labels p q
  waits-too (waits p) (waits r) q r1 w = (p, refl, subst (AreOneQuestion mode h.coinductive kinds labels p) w r1)
  waits-too (ready x more) (waits r) q r1 w = absurd r1
  waits-too a (ready y more) q r1 w = absurd w

  -- where the code is ready with an answer, the frame is
  ends-too : (a : Run NestedQuestion Answer Answer) (b : Run InCode.AskedQuestion Answer Answer) (x : AnswerTrees)
      → Runs (operations frame_tables) (evaluation mode) (in_rounds mode h.coinductive kinds labels) (λ (y z : Answer). y ≡ z) a b → EndsIn (λ y more. x ≡ y) b
      → (more : List Answer) × (a ≡ ready (Some x) more)
  ends-too (ready y more) (ready (Some z) left) x r e = (more, ap (λ w. ready w more) (r ∙ ap Some (sym e)))
  ends-too (waits p) (ready (Some z) left) x r e = absurd r
  ends-too a (ready None left) x r e = absurd e
  ends-too a (waits q) x r e = absurd e

  -- where the code is refused, the frame is
  refused-too : (a : Run NestedQuestion Answer Answer) (b : Run InCode.AskedQuestion Answer Answer)
      → Runs (operations frame_tables) (evaluation mode) (in_rounds mode h.coinductive kinds labels) (λ (y z : Answer). y ≡ z) a b → RunIsRefused b
      → (more : List Answer) × (a ≡ ready None more)
  refused-too (ready y more) (ready None left) r e = (more, ap (λ w. ready w more) r)
  refused-too (waits p) (ready None left) r e = absurd r
  refused-too a (ready (Some z) left) r e = absurd e
  refused-too a (waits q) r e = absurd e

  -- the answer that the code is ready with is well-formed
  pub answer-fits : (x : AnswerTrees) → EndsIn (λ y more. x ≡ y) code-run → IsWellFormed x
  answer-fits x e =
      let there = ends-too frame-run code-run x runs-are-one e in
      candidate-fits h.begin (subst IsMadeFrame (sym begins) (begin-made kinds)) o.spec o.replies x there.0 there.1

  module _ (xs : List ShownCandidate) (p : FrameStanding) (inside_it : IsInside h xs o.spec o.replies p) where
    pub asks-question : (q : InCode.AskedQuestion) → Awaits code-run q
        → (r : NestedQuestion) × (request p ≡ evaluate r) × AreOneQuestion mode h.coinductive kinds labels r q × WaitsAtQuestion h xs o.spec o.replies p
    asks-question q w =
        let there = waits-too frame-run code-run q runs-are-one w in
        let on = waits-after (candidate_of h o.spec) o.replies there.0 there.1 in (
          there.0,
          ap request inside_it.at ∙ ap (λ c. request (inside inside_it.next.past.heard inside_it.told c (with_result h inside_it.next))) on.1,
          there.2,
          record { inside = inside_it; question = there.0; answered = on.0; waits = on.1 },
        )

    -- with this result
    ends-with : (a : Answer) → after (candidate_of h o.spec) o.replies ≡ done a → (request p ≡ finish_candidate) × IsFinishing h xs source a p
    ends-with a e = (
      ap request inside_it.at ∙ ap (λ c. request (inside inside_it.next.past.heard inside_it.told c (with_result h inside_it.next))) e,
      record {
        spec = o.spec;
        next = inside_it.next;
        source_is = o.source_is;
        told = inside_it.told;
        at = inside_it.at ∙ ap (λ c. inside inside_it.next.past.heard inside_it.told c (with_result h inside_it.next)) e;
      },
    )

    pub ends-answered : (x : AnswerTrees) → EndsIn (λ y more. x ≡ y) code-run → (request p ≡ finish_candidate) × IsFinishing h xs source (Some x) p
    ends-answered x e =
        let there = ends-too frame-run code-run x runs-are-one e in
        ends-with (Some x) (ready-after (candidate_of h o.spec) o.replies (Some x) there.0 there.1)

    pub ends-refused : RunIsRefused code-run → (request p ≡ finish_candidate) × IsFinishing h xs source None p
    ends-refused e =
        let there = refused-too frame-run code-run runs-are-one e in
        ends-with None (ready-after (candidate_of h o.spec) o.replies None there.0 there.1)
