use Rattle.std.proofs.Common.{ap, ◌∙◌, sym, subst, Ok, Err}
use Rattle.std.proofs.lemmas.Result.{err_from_is_err_and}
use Rattle.orphan_check.specs.Walks.{ArePending, IsStep, pending_steps, reads}
use Rattle.orphan_check.proofs.Stepping.{each-pop, visit-steps, error-steps}
use Rattle.orphan_check.proofs.walk.Walk.step.Goals as goal

pub visit-requires-clause-held : goal.visit-requires-clause-held
visit-requires-clause-held g c =
    let es = c.args.self.now.context.cx.now.entries in
    (each-pop _ c.pop.new.self.items c.in-Some.next (subst (ArePending es) c.in-Some.ensures.items c.requires.pending_held)).1

pub returns-in_err-visit-in-Some-clause-stepped : goal.returns-in_err-visit-in-Some-clause-stepped
returns-in_err-visit-in-Some-clause-stepped g c =
    let es = c.args.self.now.context.cx.now.entries in
    let r = reads g.N.Normalize.answers c.args.self.now in
    let e = err_from_is_err_and c.from_residual.result c.from_residual.ensures.1 in
    subst (λ z. IsStep es (pending_steps es r c.args.pending.now.items) z (pending_steps es r c.visit.new.pending.items)) (sym (e.1 ∙ ap Err e.2))
    (error-steps es (pending_steps es r c.args.pending.now.items) (pending_steps es r c.visit.new.pending.items) c.in_err-visit-in-Some.field-0.0
    (visit-steps es r c.args.pending.now.items c.pop.new.self.items c.visit.new.pending.items c.in-Some.next (Err c.in_err-visit-in-Some.field-0.0) c.in-Some.ensures.items c.in_err-visit-in-Some.ensures.visited))

pub returns-in_ok-visit-in-Some-clause-stepped : goal.returns-in_ok-visit-in-Some-clause-stepped
returns-in_ok-visit-in-Some-clause-stepped g c =
    let es = c.args.self.now.context.cx.now.entries in
    let r = reads g.N.Normalize.answers c.args.self.now in
    visit-steps es r c.args.pending.now.items c.pop.new.self.items c.visit.new.pending.items c.in-Some.next (Ok c.in_ok-visit-in-Some.field-0) c.in-Some.ensures.items c.in_ok-visit-in-Some.ensures.visited
