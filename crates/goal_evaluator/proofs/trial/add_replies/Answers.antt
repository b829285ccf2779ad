use Rattle.std.proofs.Common.{◌≡◌, [], ◌∷◌, ◌++◌, ◌+◌, drop, refl, ap, sym, ◌∙◌, subst, List}
use Rattle.std.specs.Prelude.{option_map}
use Rattle.std.proofs.lemmas.List.{map-append}
use Rattle.type_terms.specs.Promised.Handles.{Entry}
use Rattle.infer_table.specs.Responses.{answer_trees}
use Rattle.infer_table.proofs.Values.{past-end}
use Rattle.goal_evaluator.specs.Lists.{Every}
use Rattle.goal_evaluator.specs.Readings.{ResultHeld}
use Rattle.goal_evaluator.specs.Context.{Context}
use Rattle.goal_evaluator.specs.Evaluating.{replies_trees}
use Rattle.goal_evaluator.proofs.Contexts.{every-more}
use Rattle.goal_evaluator.proofs.Handed.{rest-replies}
use Rattle.goal_evaluator.proofs.Turns.{every-at, one-more-there, all-there}
use Rattle.goal_evaluator.proofs.trial.add_replies.Goals as goal

pub loop-reply-preserved : goal.loop-reply-preserved
loop-reply-preserved c =
    let inv = c.loop-reply.invariant in
    let xs = c.args.replies.now in
    let i = c.loop-reply.reply-index in
    let x = c.reply-item.result in
    let a = c.in_ok-copy.copy in
    let lt = c.loop-reply-test.true in
    let context = c.loop-reply.context in
    let with-room = c.make_room.new.self in
    let after = c.reply.new.self in
    let made = c.in_ok-make_room.ensures.made.1 in
    let heard : after ≡ record with-room { replies = with-room.replies ++ a ∷ [] } = c.reply.ensures.heard in
    let longer : after.replies ≡ context.replies ++ a ∷ [] = ap (λ (z : Context). z.replies) heard ∙ ap (λ (z : Context). z.replies ++ a ∷ []) made in
    let more : (es : List Entry) → replies_trees es after.replies ≡ replies_trees es context.replies ++ option_map (answer_trees es) a ∷ [] =
    λ es. ap (replies_trees es) longer ∙ map-append (option_map (answer_trees es)) context.replies (a ∷ []) in
    record {
      rest = rest-replies c.args.context.now context with-room after (with-room.replies ++ a ∷ []) inv.rest made heard;
      left = λ es. ap (λ z. z ++ replies_trees es (drop (i + 1) xs)) (more es)
          ∙ one-more-there (option_map (answer_trees es)) (replies_trees es context.replies) (replies_trees es context.replies) _ (option_map (answer_trees es) a) xs i x lt c.reply-item.is refl (c.in_ok-copy.ensures.same es) (inv.left es);
      held = λ es h g. subst (Every (ResultHeld es)) (sym longer)
          (every-more (ResultHeld es) context.replies a (inv.held es h g) (c.in_ok-copy.ensures.held es (subst (ResultHeld es) (sym c.reply-item.is) (every-at (ResultHeld es) xs i x g lt))));
    }

pub returns-clause-added : goal.returns-clause-added
returns-clause-added c = λ es.
    let xs = c.args.replies.now in
    let i = c.loop-reply.reply-index in
    all-there (option_map (answer_trees es)) _ _ (drop i xs) (past-end xs i c.loop-reply-test.false) (c.loop-reply.invariant.left es)
