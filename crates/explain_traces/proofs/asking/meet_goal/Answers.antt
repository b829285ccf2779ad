use Rattle.std.proofs.Common.{◌∙◌, ap}
use Rattle.type_terms.specs.Terms.{args_lists}
use Rattle.type_terms.specs.Kept.{args-held-later, has-later}
use Rattle.explain_traces.proofs.Walks.{asked-further, asked-grown, walkable-later, walkable-asked, walkable-met, walkable-same, ready-later}
use Rattle.explain_traces.proofs.asking.meet_goal.Goals as goal

pub returns-in_err-asked-clause-again : goal.returns-in_err-asked-clause-again
returns-in_err-asked-clause-again g c =
    let k = c.context_laws.ensures.keeps c.args.search.now.cx c.ask.new.cx c.requires.walkable.askable.ready c.ask.ensures.advances in
    walkable-later g.H.GoalHandler.meaning c.args.search.now.graph c.args.search.now.cache c.args.search.now.cx c.ask.new.cx c.args.table.now c.args.walk.now.references.items k c.ask.ensures.advances.ready c.requires.walkable

pub returns-in_err-asked-clause-asked : goal.returns-in_err-asked-clause-asked
returns-in_err-asked-clause-asked g c =
    asked-grown g.H.GoalHandler.meaning c.args.search.now.graph c.args.search.now.cx c.ask.new.cx (c.context_laws.ensures.keeps c.args.search.now.cx c.ask.new.cx c.requires.walkable.askable.ready c.ask.ensures.advances)

pub answer_once-requires-clause-askable : goal.answer_once-requires-clause-askable
answer_once-requires-clause-askable g c =
    let k = c.context_laws.ensures.keeps c.args.search.now.cx c.ask.new.cx c.requires.walkable.askable.ready c.ask.ensures.advances in
    (walkable-later g.H.GoalHandler.meaning c.args.search.now.graph c.args.search.now.cache c.args.search.now.cx c.ask.new.cx c.args.table.now c.args.walk.now.references.items k c.ask.ensures.advances.ready c.requires.walkable).askable

pub returns-in_err-answer-clause-again : goal.returns-in_err-answer-clause-again
returns-in_err-answer-clause-again g c =
    let h = g.H.GoalHandler.meaning in
    let k = c.context_laws.ensures.keeps c.args.search.now.cx c.ask.new.cx c.requires.walkable.askable.ready c.ask.ensures.advances in
    let x = walkable-later h c.args.search.now.graph c.args.search.now.cache c.args.search.now.cx c.ask.new.cx c.args.table.now c.args.walk.now.references.items k c.ask.ensures.advances.ready c.requires.walkable in
    let a = c.answer_once.ensures.asked in
    let y = walkable-asked h c.args.search.now.graph c.answer_once.new.search.graph c.args.search.now.cache c.answer_once.new.search.cache c.ask.new.cx c.answer_once.new.search.cx c.args.table.now c.args.table.now c.args.walk.now.references.items x c.answer_once.ensures.again a.entries
    (ready-later c.ask.new.cx.interner.entries c.answer_once.new.search.cx.interner.entries a.entries c.args.table.now x.table) in
    walkable-same h c.answer_once.new.search.graph c.answer_once.new.search.cache c.answer_once.new.search.cx c.args.table.now c.args.walk.now.references.items c.begin.new.self.references.items y (ap (λ r. r.items) c.begin.ensures)

pub returns-in_err-answer-clause-asked : goal.returns-in_err-answer-clause-asked
returns-in_err-answer-clause-asked g c =
    let h = g.H.GoalHandler.meaning in
    let k = c.context_laws.ensures.keeps c.args.search.now.cx c.ask.new.cx c.requires.walkable.askable.ready c.ask.ensures.advances in
    asked-further h c.args.search.now.graph c.args.search.now.graph c.answer_once.new.search.graph c.args.search.now.cx c.ask.new.cx c.answer_once.new.search.cx (asked-grown h c.args.search.now.graph c.args.search.now.cx c.ask.new.cx k) c.answer_once.ensures.asked

pub returns-in_err-place-clause-again : goal.returns-in_err-place-clause-again
returns-in_err-place-clause-again g c =
    let h = g.H.GoalHandler.meaning in
    let k = c.context_laws.ensures.keeps c.args.search.now.cx c.ask.new.cx c.requires.walkable.askable.ready c.ask.ensures.advances in
    let x = walkable-later h c.args.search.now.graph c.args.search.now.cache c.args.search.now.cx c.ask.new.cx c.args.table.now c.args.walk.now.references.items k c.ask.ensures.advances.ready c.requires.walkable in
    let a = c.answer_once.ensures.asked in
    let y = walkable-asked h c.args.search.now.graph c.answer_once.new.search.graph c.args.search.now.cache c.answer_once.new.search.cache c.ask.new.cx c.answer_once.new.search.cx c.args.table.now c.args.table.now c.args.walk.now.references.items x c.answer_once.ensures.again a.entries
    (ready-later c.ask.new.cx.interner.entries c.answer_once.new.search.cx.interner.entries a.entries c.args.table.now x.table) in
    let z = walkable-same h c.answer_once.new.search.graph c.answer_once.new.search.cache c.answer_once.new.search.cx c.args.table.now c.args.walk.now.references.items c.count.new.self.references.items y (ap (λ r. r.items) (c.count.ensures ∙ c.begin.ensures)) in
    walkable-met h c.answer_once.new.search.graph c.answer_once.new.search.cache c.answer_once.new.search.cx c.args.table.now c.count.new.self.references.items c.meet.new.self.references.items c.in_ok-asked.asked.goal.predicate.trait_ref z
    (has-later c.ask.new.cx.interner.entries c.answer_once.new.search.cx.interner.entries a.entries args_lists c.in_ok-asked.asked.goal.predicate.trait_ref.args.0 c.in_ok-asked.ensures.held.predicate) c.meet.ensures

pub returns-in_err-place-clause-asked : goal.returns-in_err-place-clause-asked
returns-in_err-place-clause-asked g c =
    let h = g.H.GoalHandler.meaning in
    let k = c.context_laws.ensures.keeps c.args.search.now.cx c.ask.new.cx c.requires.walkable.askable.ready c.ask.ensures.advances in
    asked-further h c.args.search.now.graph c.args.search.now.graph c.answer_once.new.search.graph c.args.search.now.cx c.ask.new.cx c.answer_once.new.search.cx (asked-grown h c.args.search.now.graph c.args.search.now.cx c.ask.new.cx k) c.answer_once.ensures.asked

pub returns-clause-again : goal.returns-clause-again
returns-clause-again g c =
    let h = g.H.GoalHandler.meaning in
    let k = c.context_laws.ensures.keeps c.args.search.now.cx c.ask.new.cx c.requires.walkable.askable.ready c.ask.ensures.advances in
    let x = walkable-later h c.args.search.now.graph c.args.search.now.cache c.args.search.now.cx c.ask.new.cx c.args.table.now c.args.walk.now.references.items k c.ask.ensures.advances.ready c.requires.walkable in
    let a = c.answer_once.ensures.asked in
    let y = walkable-asked h c.args.search.now.graph c.answer_once.new.search.graph c.args.search.now.cache c.answer_once.new.search.cache c.ask.new.cx c.answer_once.new.search.cx c.args.table.now c.args.table.now c.args.walk.now.references.items x c.answer_once.ensures.again a.entries
    (ready-later c.ask.new.cx.interner.entries c.answer_once.new.search.cx.interner.entries a.entries c.args.table.now x.table) in
    let z = walkable-same h c.answer_once.new.search.graph c.answer_once.new.search.cache c.answer_once.new.search.cx c.args.table.now c.args.walk.now.references.items c.count.new.self.references.items y (ap (λ r. r.items) (c.count.ensures ∙ c.begin.ensures)) in
    walkable-met h c.answer_once.new.search.graph c.answer_once.new.search.cache c.answer_once.new.search.cx c.args.table.now c.count.new.self.references.items c.meet.new.self.references.items c.in_ok-asked.asked.goal.predicate.trait_ref z
    (has-later c.ask.new.cx.interner.entries c.answer_once.new.search.cx.interner.entries a.entries args_lists c.in_ok-asked.asked.goal.predicate.trait_ref.args.0 c.in_ok-asked.ensures.held.predicate) c.meet.ensures

pub returns-clause-asked : goal.returns-clause-asked
returns-clause-asked g c =
    let h = g.H.GoalHandler.meaning in
    let k = c.context_laws.ensures.keeps c.args.search.now.cx c.ask.new.cx c.requires.walkable.askable.ready c.ask.ensures.advances in
    asked-further h c.args.search.now.graph c.args.search.now.graph c.answer_once.new.search.graph c.args.search.now.cx c.ask.new.cx c.answer_once.new.search.cx (asked-grown h c.args.search.now.graph c.args.search.now.cx c.ask.new.cx k) c.answer_once.ensures.asked

pub returns-clause-input : goal.returns-clause-input
returns-clause-input g c = (c.answer_once.ensures.asked.keeps.inputs c.in_ok-asked.asked.input c.in_ok-asked.ensures.input.0).0

pub returns-clause-values : goal.returns-clause-values
returns-clause-values g c = args-held-later c.ask.new.cx.interner.entries c.answer_once.new.search.cx.interner.entries c.answer_once.ensures.asked.entries c.in_ok-asked.asked.values.items c.in_ok-asked.ensures.args
