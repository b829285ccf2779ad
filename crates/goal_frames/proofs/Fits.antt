-- The responses of candidates are well-formed.
use Rattle.std.proofs.Common.{◌≡◌, List, [], ◌∷◌, refl, subst, Bool, Option, Some, None}
use Rattle.type_terms.specs.Promised.Label.{Label}
use Rattle.infer_table.specs.declared.canonical.CanonicalVarKind.{CanonicalVarKind}
use Rattle.infer_table.specs.declared.certainty.TypingMode.{TypingMode}
use Rattle.infer_table.specs.Responses.{AnswerTrees}
use Rattle.goal_evaluator.specs.declared.TheConstants.{FIXPOINT_STEP_LIMIT}
use Rattle.goal_evaluator.specs.Candidate.{Spec, candidate}
use Rattle.goal_evaluator.specs.Replays.{Run, ready, run}
use Rattle.goal_evaluator.specs.Lists.{Every}
use Rattle.goal_evaluator.specs.Script.{Script, done, ask}
use Rattle.goal_evaluator.specs.Table.{workings}
use Rattle.goal_evaluator.proofs.Scripts.{Asks}
use Rattle.goal_evaluator.proofs.Kept.{AreSo, responds_so, made_kept}
use Rattle.goal_evaluator.specs.TableAnswers.{IsWellFormed}
use Rattle.goal_evaluator.specs.Content.{NestedQuestion}
use Rattle.goal_evaluator.specs.FrameTables.{FrameTable, IsMadeFrame, Nested}
use Rattle.goal_evaluator.proofs.WellFormed.{answers_well_formed}
use Rattle.goal_evaluator.specs.Tables.{frame_tables}
use Rattle.goal_evaluator.proofs.FrameTableLaws.{tables_are_lawful}
use Rattle.goal_evaluator.specs.RoundLaws.{AreOneAnswer}

pub one-answer : (mode : TypingMode) (coinductive : Bool) (kinds : List CanonicalVarKind) (ls : List Label) (p : NestedQuestion) (a : AnswerTrees) → IsWellFormed a → AreOneAnswer mode coinductive kinds ls p a a
one-answer mode coinductive kinds ls p a f = record { is = refl; fits = f }

abbrev Fits : Option AnswerTrees → Type 0
Fits None = Unit {0}
Fits (Some a) = IsWellFormed a

abbrev Any-question : NestedQuestion → Type 0
Any-question q = Unit {0}

abbrev Any-answer : NestedQuestion → Option AnswerTrees → Type 0
Any-answer q a = Unit {0}

ends-fitting : (s : Script NestedQuestion (Option AnswerTrees) (Option AnswerTrees)) (replies : List (Option AnswerTrees)) (x : Option AnswerTrees) (more : List (Option AnswerTrees))
    → Asks Any-question Any-answer Fits s → run s replies ≡ ready x more → Fits x
ends-fitting (done y) replies x more h e = subst Fits (same e) h where
  same : {a b : Option AnswerTrees} {m n : List (Option AnswerTrees)} → ◌≡◌ {A = Run NestedQuestion (Option AnswerTrees) (Option AnswerTrees)} (ready a m) (ready b n) → a ≡ b
  same r = cc
ends-fitting (ask q k) [] x more h e = absurd (cc)
ends-fitting (ask q k) (a ∷ replies) x more h e = ends-fitting (k a) replies x more (h.1 a tt) e

each-nested : (ns : List Nested) → Every (AreSo frame_tables Any-question IsMadeFrame) ns
each-nested [] = tt
each-nested (n ∷ ns) = (λ T made. tt, each-nested ns)

-- what a candidate answers in a frame's table
pub candidate-fits : (t : FrameTable) → IsMadeFrame t → (s : Spec (workings frame_tables)) (replies : List (Option AnswerTrees)) (a : AnswerTrees) (more : List (Option AnswerTrees))
    → run (candidate (workings frame_tables) FIXPOINT_STEP_LIMIT t s) replies ≡ ready (Some a) more → IsWellFormed a
candidate-fits t made s replies a more e =
    ends-fitting (candidate (workings frame_tables) FIXPOINT_STEP_LIMIT t s) replies (Some a) more
    (responds_so frame_tables Any-question IsMadeFrame (made_kept frame_tables tables_are_lawful Any-question) Fits (λ T c m. answers_well_formed T m c) tt FIXPOINT_STEP_LIMIT t s made (each-nested s.nested)) e
