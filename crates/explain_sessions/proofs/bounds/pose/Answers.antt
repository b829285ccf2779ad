use Rattle.std.proofs.Common.{rules, ◌≡◌, sym, ◌∙◌, subst}
use Rattle.sessions.specs.Declarations.Applied.{TraitRefsHeld}
use Rattle.sessions.proofs.AnsweredTogether.{goals-held}
use Rattle.sessions.proofs.Declarations.Growth.{references-kept}
use Rattle.explain_sessions.proofs.Rests.{unchanged}
use Rattle.explain_sessions.proofs.bounds.pose.Goals as goal

pub question_table_in-requires : goal.question_table_in-requires
question_table_in-requires c = c.requires.ready

pub returns-in_err-references-clause-advances : goal.returns-in_err-references-clause-advances
returns-in_err-references-clause-advances c = unchanged c.args.cx.now c.requires.ready

pub returns-in_err-goals-clause-advances : goal.returns-in_err-goals-clause-advances
returns-in_err-goals-clause-advances c = unchanged c.args.cx.now c.requires.ready

pub returns-in_err-table-clause-advances : goal.returns-in_err-table-clause-advances
returns-in_err-table-clause-advances c = c.question_table_in.ensures.advances

pub returns-clause-advances : goal.returns-clause-advances
returns-clause-advances c = c.question_table_in.ensures.advances

pub returns-clause-goals : goal.returns-clause-goals
returns-clause-goals c =
    let old = c.args.cx.now.interner.entries in
    let new = c.question_table_in.new.cx.interner.entries in
    let k = c.question_table_in.ensures.advances.entries in
    let rs : c.deref.result.now ≡ c.in_ok-references.references.items = search rules in
    goals-held c.references_are_goals.ensures new c.args.clauses.now c.deref.result.now c.in_ok-goals.goals.obligations.items c.in_ok-goals.ensures
    (references-kept old new k c.args.clauses.now c.requires.clauses)
    (references-kept old new k c.deref.result.now (subst (TraitRefsHeld old) (sym (rs ∙ c.in_ok-references.ensures)) c.requires.bounds))

pub returns-clause-table : goal.returns-clause-table
returns-clause-table c = c.in_ok-table.ensures.ready
