use Rattle.std.proofs.Common.{rules, ◌≡◌, ◌∷◌, sym, subst}
use Rattle.sessions.specs.Declarations.Applied.{AreApplied, TraitRefsHeld}
use Rattle.sessions.proofs.Declarations.Growth.{references-kept}
use Rattle.sessions.proofs.SeveralAsked.{all-held}
use Rattle.explain_sessions.proofs.Rests.{advanced-further}
use Rattle.explain_sessions.proofs.questions.pose_proof.Goals as goal

pub elaborate_in-requires-clause-ready : goal.elaborate_in-requires-clause-ready
elaborate_in-requires-clause-ready c = c.requires.ready

pub elaborate_in-requires-clause-held : goal.elaborate_in-requires-clause-held
elaborate_in-requires-clause-held c = subst (TraitRefsHeld c.args.cx.now.interner.entries) (sym c.deref.ensures.value) c.requires.lowered.1.clauses_held

pub elaborate_in-requires-clause-applied : goal.elaborate_in-requires-clause-applied
elaborate_in-requires-clause-applied c = subst (AreApplied c.args.cx.now.interner.entries c.args.cx.now.handler.declarations) (sym c.deref.ensures.value) c.requires.applied

pub returns-in_err-clauses-clause-advances : goal.returns-in_err-clauses-clause-advances
returns-in_err-clauses-clause-advances c = c.elaborate_in.ensures.advances

pub pose-requires-clause-ready : goal.pose-requires-clause-ready
pose-requires-clause-ready c = c.elaborate_in.ensures.advances.ready

pub pose-requires-clause-clauses : goal.pose-requires-clause-clauses
pose-requires-clause-clauses c =
    let cs : c.deref-2.result.now ≡ c.in_ok-clauses.clauses.items = search rules in
    subst (TraitRefsHeld c.elaborate_in.new.cx.interner.entries) (sym cs) c.in_ok-clauses.ensures.held

pub pose-requires-clause-bounds : goal.pose-requires-clause-bounds
pose-requires-clause-bounds c =
    let old = c.args.cx.now.interner.entries in
    let l = c.args.lowered.now in
    references-kept old c.elaborate_in.new.cx.interner.entries c.elaborate_in.ensures.advances.entries (l.asked ∷ l.further.items) (all-held old c.requires.lowered.0 l c.requires.lowered.1)

pub returns-clause-advances : goal.returns-clause-advances
returns-clause-advances c = advanced-further c.args.cx.now c.elaborate_in.new.cx c.pose.new.cx c.elaborate_in.ensures.advances c.pose.ensures.advances

pub returns-clause-goals : goal.returns-clause-goals
returns-clause-goals c = c.pose.ensures.goals

pub returns-clause-table : goal.returns-clause-table
returns-clause-table c = c.pose.ensures.table
