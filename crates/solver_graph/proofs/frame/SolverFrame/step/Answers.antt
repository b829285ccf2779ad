use Rattle.std.proofs.Common.{◌∙◌, sym, subst}
use Rattle.goal_frames.specs.Frames.{ReplyIsDue, reply_read}
use Rattle.goal_frames.specs.Meanings.{StayNotes, goal_meaning}
use Rattle.goal_frames.specs.declared.frame.GoalFrame.{GoalFrame}
use Rattle.solver_graph.proofs.frame.SolverFrame.step.Goals as goal

pub step-requires-clause-due : goal.step-requires-clause-due
step-requires-clause-due g c =
    let h = g.H.GoalHandler in
    let es = c.args.cx.now.entries in
    subst (λ (f : GoalFrame). ReplyIsDue es (goal_meaning h.meaning c.args.handler.now es f.goal) f (reply_read es c.args.reply))
    (sym c.self.view_is ∙ sym c.deref_mut.ensures.value) c.requires.due

pub step-requires-clause-notes : goal.step-requires-clause-notes
step-requires-clause-notes g c =
    subst (λ (f : GoalFrame). StayNotes g.H.GoalHandler.meaning c.args.handler.now c.args.cx.now.entries f.notes.items)
    (sym c.self.view_is ∙ sym c.deref_mut.ensures.value) c.requires.notes
