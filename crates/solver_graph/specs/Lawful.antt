-- The laws of the solver's contexts and frames, on which a search rests.
use Rattle.std.proofs.Common.{◌≡◌, ◌≤◌, ◌∙◌, true, List, refl, sym, ap, subst, Option, Some, None, option_map}
use Rattle.std.proofs.Math.Nat.{le_refl}
use Rattle.std.specs.Option.{option_eq}
use Rattle.type_terms.specs.Promised.Handles.{Entry}
use Rattle.search_graph.specs.declared.delegate.Reply.{Reply}
use Rattle.search_graph.specs.Meaning.{KeepsContext, IsLawful}
use Rattle.infer_table.specs.Canonical.{CanonicalForm}
use Rattle.infer_table.specs.declared.certainty.TypingMode.{TypingMode}
use Rattle.infer_table.specs.Inputs.{form_of}
use Rattle.infer_table.specs.Responses.{AnswerTrees, answer_trees}
use Rattle.goal_evaluator.specs.Tables.{frame_tables}
use Rattle.goal_evaluator.proofs.FrameTableLaws.{tables_are_lawful}
use Rattle.goal_frames.proofs.Lawful.{lawful}
use Rattle.goal_frames.specs.declared.store.ResponseId.{ResponseId}
use Rattle.goal_frames.specs.contracts.store.ResponseIdPartialEq.TheImpl.{ghosts as response}
use Rattle.goal_frames.specs.Stores.{answer_at}
use Rattle.goal_frames.proofs.Numbers.{one-answer, response-id-eq}
use Rattle.goal_frames.specs.declared.frame.GoalFrame.{GoalFrame}
use Rattle.goal_frames.specs.HandlerPrograms.{HandlersArePrograms}
use Rattle.goal_frames.specs.Steps as Steps
use Rattle.goal_frames.specs.Meanings.{HandlerMeaning}
use Rattle.solver_graph.specs.declared.context.SolverCx.{SolverCx}
use Rattle.solver_graph.specs.Contexts.{Asked, entries_of, answer_of, ResponseIsMade}
use Rattle.solver_graph.specs.Searching.{programs, handles, FrameHasHeard, solver_meaning, world_in, steps_left}

same-number : (a b : ResponseId) → a ≡ b → response.eq a b ≡ true
same-number a b e = (response-id-eq a b).1 e

module _ {Handler : Type 0} (ready : Handler → List Entry → Type 0) where
  -- results that represent one response are equal
  pub same-answer : (c : SolverCx Handler) (r s : Option ResponseId) → ResponseIsMade ready c r → ResponseIsMade ready c s → answer_of c r ≡ answer_of c s → option_eq response.eq r s ≡ true
  same-answer c None None x y e = refl
  same-answer c None (Some j) x y e = let there = ap (option_map (answer_trees (entries_of c))) y.1.1 in cc
  same-answer c (Some i) None x y e = let there = ap (option_map (answer_trees (entries_of c))) x.1.1 in cc
  same-answer c (Some i) (Some j) x y e =
      let a = answer_trees (entries_of c) x.1.0 in
      let here : answer_at (entries_of c) c.store i ≡ Some a = ap (option_map (answer_trees (entries_of c))) x.1.1 in
      same-number i j (one-answer (entries_of c) c.store i j a x.0.lawful x.0.store here (sym e ∙ here))

module _ {Handler : Type 0} (m : HandlerMeaning Handler) where
  pub solver-lawful : HandlersArePrograms m.goals → IsLawful (solver_meaning m)
  solver-lawful laws = lawful frame_tables tables_are_lawful (programs m.goals) laws (handles m)

  steps-same : (f : GoalFrame) (mode : TypingMode) (w v : m.goals.World) (x y : CanonicalForm) → w ≡ v → x ≡ y → Steps.steps_left (m.goals.handled w mode x) f ≤ Steps.steps_left (m.goals.handled v mode y) f
  steps-same f mode w v x y e h =
      subst (λ z. Steps.steps_left (m.goals.handled w mode x) f ≤ Steps.steps_left (m.goals.handled z mode y) f) e
      (subst (λ z. Steps.steps_left (m.goals.handled w mode x) f ≤ Steps.steps_left (m.goals.handled w mode z) f) h (le_refl (Steps.steps_left (m.goals.handled w mode x) f)))

  -- a context that has grown leaves a frame as many steps
  pub steps-kept : (c d : SolverCx Handler) (g : Asked) (heard : List (Reply (Option AnswerTrees))) (f : GoalFrame) → KeepsContext (solver_meaning m) c d
      → FrameHasHeard m c g heard f → steps_left m d f ≤ steps_left m c f
  steps-kept c d g heard f k h =
      let later = k.frames g heard f h in
      steps-same f f.goal.mode (world_in m d) (world_in m c) (form_of (entries_of d) f.goal) (form_of (entries_of c) f.goal)
      k.world (later.form ∙ sym h.form)
