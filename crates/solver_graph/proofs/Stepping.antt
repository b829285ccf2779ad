-- A step of a goal's frame is a step of the search's frame.
use Rattle.std.proofs.Common.{◌≡◌, ◌<◌, ◌∙◌, List, ◌∷◌, refl, sym, ap, subst, Option}
use Rattle.type_terms.specs.Promised.Handles.{Entry, Keeps}
use Rattle.search_graph.specs.Meaning as Search
use Rattle.search_graph.specs.declared.delegate.Reply.{Reply}
use Rattle.search_graph.specs.declared.delegate.Reply.TheVariants.{Begin, Result, Entered, Finished, Ignored}
use Rattle.search_graph.specs.declared.delegate.Request.{Request}
use Rattle.search_graph.specs.declared.delegate.Request.TheVariants.{Evaluate, EnterCandidate, FinishCandidate, IgnoreCandidate, Done}
use Rattle.infer_table.specs.Canonical.{CanonicalForm}
use Rattle.infer_table.specs.declared.certainty.TypingMode.{TypingMode}
use Rattle.infer_table.specs.declared.input.CanonicalInput.{CanonicalInput}
use Rattle.infer_table.specs.declared.response.CanonicalResponse.{CanonicalResponse}
use Rattle.infer_table.specs.Inputs.{form_of}
use Rattle.infer_table.specs.Responses.{AnswerTrees}
use Rattle.goal_evaluator.specs.Handler.{Handled, IsHandler}
use Rattle.goal_evaluator.specs.History as Histories
use Rattle.goal_evaluator.specs.Promises.{frame_of_goal}
use Rattle.goal_evaluator.specs.Promises as Promises
use Rattle.goal_evaluator.specs.Content.{NestedQuestion}
use Rattle.goal_evaluator.specs.Tables.{frame_tables}
use Rattle.goal_frames.specs.Searches.{asks, kind_of, reply_of, replies_of, request_of}
use Rattle.goal_frames.specs.declared.frame.GoalFrame.{GoalFrame}
use Rattle.goal_frames.specs.declared.store.ResponseId.{ResponseId}
use Rattle.goal_frames.specs.Frames as Frames
use Rattle.goal_frames.specs.Steps as Steps
use Rattle.goal_frames.specs.Steps.{AsksFewer}
use Rattle.goal_frames.proofs.Falling.{falls}
use Rattle.goal_frames.specs.Meanings.{HandlerMeaning, StayNotes}
use Rattle.solver_graph.specs.declared.context.SolverCx.{SolverCx}
use Rattle.solver_graph.specs.Contexts.{Asked, entries_of, Advances, IsKeptAnswer}
use Rattle.solver_graph.specs.Answers.{reply_read, request_read}
use Rattle.solver_graph.specs.Searching.{programs, bare, bare_handles, AnyAnswer, RepliedResultIs, world_in, handles, FrameHasHeard, solver_meaning, steps_left}
use Rattle.solver_graph.proofs.Due.{due-same, heard-more, came-anyhow}
use Rattle.solver_graph.proofs.Growing.{asked-later, input-later, told-there, all-told, same-world}

abbrev CodeReply : Type 0
CodeReply = Reply (Option CanonicalResponse)

-- a reply in code, as the goal's frame has it
same-reply : (es : List Entry) (reply : CodeReply) → Frames.reply_read es reply ≡ reply_of (reply_read es reply)
same-reply es Begin = refl
same-reply es (Result r) = refl
same-reply es Entered = refl
same-reply es (Finished n) = refl
same-reply es Ignored = refl

-- a request in code, as the search has it
evaluate-cong : (m n : TypingMode) (f g : CanonicalForm) (j k : _) → m ≡ n → f ≡ g → j ≡ k → ◌≡◌ {A = Request Asked (Option AnswerTrees)} (Evaluate (m, f) j) (Evaluate (n, g) k)
evaluate-cong m n f g j k e h i = ap (λ x. Evaluate (x, f) j) e ∙ ap (λ x. Evaluate (n, x) j) h ∙ ap (Evaluate (n, g)) i

same-request : (mode : TypingMode) (es : List Entry) (q : Request CanonicalInput (Option CanonicalResponse)) (r : Histories.Request NestedQuestion (Option AnswerTrees)) → Frames.IsRequestOf mode es q r
    → request_read es q ≡ request_of (λ (x : NestedQuestion). (mode, x.form)) (kind_of frame_tables) r
same-request mode es (Evaluate input kind) (Histories.evaluate x) i = evaluate-cong _ _ _ _ _ _ i.0 i.1 i.2
same-request mode es EnterCandidate Histories.enter_candidate i = refl
same-request mode es FinishCandidate Histories.finish_candidate i = refl
same-request mode es (IgnoreCandidate n) (Histories.ignore_candidate k) i = ap IgnoreCandidate i
same-request mode es (Done a) (Histories.returns b) i = ap Done i
same-request mode es q r i = absurd i

-- a reply that a search gives is kept
pub told-kept : {Handler : Type 0} (m : HandlerMeaning Handler) (c : SolverCx Handler) (reply : CodeReply) (given : Reply (Option ResponseId))
    → reply_read (entries_of c) reply ≡ Search.reply_of (solver_meaning m) c given → Search.IsReply (solver_meaning m) c given
    → RepliedResultIs (IsKeptAnswer m.IsReady c) (reply_read (entries_of c) reply)
told-kept m c reply given same is = subst (RepliedResultIs (IsKeptAnswer m.IsReady c)) (sym same) (by given is)
  where
    by : (given : Reply (Option ResponseId)) → Search.IsReply (solver_meaning m) c given
        → RepliedResultIs (IsKeptAnswer m.IsReady c) (Search.reply_of (solver_meaning m) c given)
    by Begin h = tt
    by (Result r) h = (r, h, refl)
    by Entered h = tt
    by (Finished n) h = tt
    by Ignored h = tt

module _ {Handler : Type 0} (m : HandlerMeaning Handler)
    (kept : (h : Handler) (old new : List Entry) → Keeps old new → m.IsReady h old → m.world h new ≡ m.world h old) where
  abbrev world : SolverCx Handler → m.goals.World
  world c = world_in m c

  abbrev Heard : SolverCx Handler → Asked → List (Reply (Option AnswerTrees)) → GoalFrame → Type 0
  Heard = FrameHasHeard m

  abbrev by_frame : SolverCx Handler → GoalFrame → Handled frame_tables
  by_frame c f = m.goals.handled (world c) f.goal.mode (form_of (entries_of c) f.goal)

  module _ (c : SolverCx Handler) (f : GoalFrame) where
    -- the frame of the goal that the frame was started for
    of-goal : (g : Asked) (heard : List (Reply (Option AnswerTrees))) → Heard c g heard f → m.goals.handled (world c) g.0 g.1 ≡ by_frame c f
    of-goal g heard x = ap (λ n. m.goals.handled (world c) n g.1) (sym x.mode) ∙ ap (λ z. m.goals.handled (world c) f.goal.mode z) (sym x.form)

    module _ (reply : CodeReply) (g : Asked) (heard : List (Reply (Option AnswerTrees))) (x : Heard c g heard f) where
      abbrev Due : Type 0
      Due = Search.IsDueAfter (solver_meaning m) (world c) g heard (reply_read (entries_of c) reply)

      pub all-due : Due → Search.AreReplies (bare m.goals) AnyAnswer (world c) g (reply_read (entries_of c) reply ∷ heard)
      all-due due =
          heard-more frame_tables (programs m.goals) (bare_handles m.goals) (world c) g heard (reply_read (entries_of c) reply) x.due
          (due-same frame_tables (programs m.goals) (handles m) (bare_handles m.goals) (world c) g heard (reply_read (entries_of c) reply) due)

      in-order : Due
          → Histories.CameInOrder (Promises.Anything frame_tables (m.goals.handled (world c) g.0 g.1)) (frame_of_goal frame_tables (m.goals.handled (world c) g.0 g.1)) (Frames.reply_read (entries_of c) reply ∷ replies_of heard)
      in-order due =
          subst (λ y. Histories.CameInOrder (Promises.Anything frame_tables (m.goals.handled (world c) g.0 g.1)) (frame_of_goal frame_tables (m.goals.handled (world c) g.0 g.1)) (y ∷ replies_of heard)) (sym (same-reply (entries_of c) reply))
          (came-anyhow frame_tables (programs m.goals) (bare_handles m.goals) (world c) g (reply_read (entries_of c) reply) heard (all-due due))

      -- a reply that is due to the search's frame is due to the goal's
      pub is-due : Due → Frames.ReplyIsDue (entries_of c) (by_frame c f) f (Frames.reply_read (entries_of c) reply)
      is-due due = subst (λ h. Frames.ReplyIsDue (entries_of c) h f (Frames.reply_read (entries_of c) reply)) (of-goal g heard x) (replies_of heard, x.frame, in-order due)

      module _ (d : SolverCx Handler) (a : Advances m.IsReady c d) (after : GoalFrame) (q : Request CanonicalInput (Option CanonicalResponse))
          (held : Frames.ReplyIsMade (entries_of c) reply) (told : RepliedResultIs (IsKeptAnswer m.IsReady c) (reply_read (entries_of c) reply)) (fewer : AsksFewer f.place after.place)
          (goal : after.goal ≡ f.goal) (steps : Frames.FrameSteps (entries_of c) (by_frame c f) f (Frames.reply_read (entries_of c) reply) (entries_of d) after q) where
        stepped : Due
            → Frames.HasHeard (entries_of d) (m.goals.handled (world c) g.0 g.1) after (Frames.reply_read (entries_of c) reply ∷ replies_of heard)
            × Frames.IsRequestOf f.goal.mode (entries_of d) q (Histories.asks (frame_of_goal frame_tables (m.goals.handled (world c) g.0 g.1)) (Frames.reply_read (entries_of c) reply ∷ replies_of heard))
        stepped due =
            (subst (λ h. Frames.FrameSteps (entries_of c) h f (Frames.reply_read (entries_of c) reply) (entries_of d) after q) (sym (of-goal g heard x)) steps) (replies_of heard) x.frame (in-order due)

        -- the frame has heard one reply more
        pub hears-more : Due → StayNotes m d.handler (entries_of d) after.notes.items → Heard d g (reply_read (entries_of c) reply ∷ heard) after
        hears-more due notes =
            let same = same-world m kept c d x.ready a in
            record {
              ready = a.ready;
              mode = ap (λ z. z.mode) goal ∙ x.mode;
              form = ap (form_of (entries_of d)) goal ∙ ap (λ z. z.1) (asked-later (entries_of c) (entries_of d) a.entries f.goal x.frame.held.goal) ∙ x.form;
              kept = let i = x.kept.0 in let j = input-later m.IsReady c d a i x.kept.1 in (i, j.0, j.1 ∙ x.kept.2);
              replies = (told-there m kept c d x.ready a (reply_read (entries_of c) reply) told, all-told m kept c d x.ready a heard x.replies);
              due = subst (λ w. Search.AreReplies (bare m.goals) AnyAnswer w g (reply_read (entries_of c) reply ∷ heard)) (sym same) (all-due due);
              frame = subst (λ w. Frames.HasHeard (entries_of d) (m.goals.handled w g.0 g.1) after (replies_of (reply_read (entries_of c) reply ∷ heard))) (sym same)
                  (subst (λ y. Frames.HasHeard (entries_of d) (m.goals.handled (world c) g.0 g.1) after (y ∷ replies_of heard)) (same-reply (entries_of c) reply) (stepped due).0);
              notes = notes;
            }

        -- and makes the search's request
        pub requests : Due → request_read (entries_of d) q ≡ asks frame_tables (programs m.goals) (world c) g (reply_read (entries_of c) reply ∷ heard)
        requests due =
            let i = subst (λ y. Frames.IsRequestOf f.goal.mode (entries_of d) q (Histories.asks (frame_of_goal frame_tables (m.goals.handled (world c) g.0 g.1)) (y ∷ replies_of heard))) (same-reply (entries_of c) reply) (stepped due).1 in
            same-request f.goal.mode (entries_of d) q _ i ∙ ap (λ (n : TypingMode). request_of (λ (y : NestedQuestion). (n, y.form)) (kind_of frame_tables) (Histories.asks (frame_of_goal frame_tables (m.goals.handled (world c) g.0 g.1)) (replies_of (reply_read (entries_of c) reply ∷ heard)))) x.mode

        -- it has fewer steps left, in each context that keeps what this one knows
        pub has-fewer : ((w : m.goals.World) (mode : TypingMode) (form : CanonicalForm) → IsHandler frame_tables (m.goals.handled w mode form)) → Due
            → (e : SolverCx Handler) → world e ≡ world c → Heard e g (reply_read (entries_of c) reply ∷ heard) after
            → steps_left m e after < steps_left m c f
        has-fewer lawful due e same there =
            let h = m.goals.handled (world c) g.0 g.1 in
            let less = falls h (lawful (world c) g.0 g.1) (entries_of c) (entries_of d) f after (replies_of heard) (Frames.reply_read (entries_of c) reply) x.frame (in-order due) (stepped due).0 fewer in
            let later : h ≡ by_frame e after =
            ap (λ w. m.goals.handled w g.0 g.1) (sym same) ∙ ap (λ n. m.goals.handled (world e) n g.1) (sym there.mode) ∙ ap (λ z. m.goals.handled (world e) after.goal.mode z) (sym there.form)
            in
            subst (λ k. Steps.steps_left k after < Steps.steps_left (by_frame c f) f) later (subst (λ k. Steps.steps_left h after < Steps.steps_left k f) (of-goal g heard x) less)
