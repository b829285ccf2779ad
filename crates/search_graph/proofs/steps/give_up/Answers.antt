use Rattle.std.proofs.Common.{◌+◌, [], sym, ◌∙◌, refl, inl, inr}
use Rattle.search_paths.specs.KeptPaths.{indices}
use Rattle.search_graph.proofs.Ends.{held_after, faithful_after}
use Rattle.search_graph.proofs.Faithfuls.{faithful_not_plain}
use Rattle.search_graph.proofs.Graphs.{AreCached-later}
use Rattle.search_graph.proofs.Orders.{from_zero}
use Rattle.search_graph.proofs.steps.give_up.Goals as goal
use Rattle.type_terms.proofs.BooleanBasics.{true-false as true_not_false}

pub returns-in_err-overflow-clause-cache : goal.returns-in_err-overflow-clause-cache
returns-in_err-overflow-clause-cache g c =
    rw c.number_of.ensures.entries (AreCached-later g.D.Delegate.meaning c.args.cx.now c.overflow.new.cx c.args.cache.now.entries.items c.overflow.ensures.keeps c.requires.cache)

pub finish-requires-clause-cache : goal.finish-requires-clause-cache
finish-requires-clause-cache g c =
    rw c.number_of.ensures.entries (AreCached-later g.D.Delegate.meaning c.args.cx.now c.overflow.new.cx c.args.cache.now.entries.items c.overflow.ensures.keeps c.requires.cache)

pub finish-requires-clause-kept : goal.finish-requires-clause-kept
finish-requires-clause-kept g c =
    let keeps = c.overflow.ensures.keeps in
    let told = c.in_ok-overflow.ensures.told in
    λ h. rw (keeps.world, (keeps.inputs c.args.input c.requires.input).1)
    (λ limit within n b less plain. absurd (c.requires.not_plain limit (elim within [ inl x ↦ x | inr y ↦ absurd (true_not_false (sym told ∙ y)) ]) n b less plain))

pub returns-clause-kept : goal.returns-clause-kept
returns-clause-kept g c =
    held_after c.finish.result c.in_ok-overflow.overflow c.number_of.new.self.entries.items c.finish.new.cache.entries.items c.number_of.new.self.asked.items c.args.input c.args.input c.in_ok-number.number c.args.depth refl c.in_ok-overflow.ensures.unread
    (λ off. from_zero _ _ c.in_ok-overflow.ensures.depth) c.finish.ensures.kept c.finish.ensures.reply

pub returns-clause-faithful : goal.returns-clause-faithful
returns-clause-faithful g c =
    let m = g.D.Delegate.meaning in
    let first = c.args.cx.now in
    let found = c.in_ok-overflow.overflow in
    let told = c.in_ok-overflow.ensures.told in
    faithful_after m first c.overflow.new.cx [] c.args.input c.finish.result found (c.args.depth + 1)
    (faithful_not_plain m (m.world first) (c.args.depth + 1) [] (m.goal_of first c.args.input) (m.answer_of c.overflow.new.cx found.result) found.dependencies.encountered_overflow (indices found.dependencies.heads.items)
    (λ limit h. c.requires.not_plain limit (elim h [ inl x ↦ x | inr y ↦ absurd (true_not_false (sym told ∙ y)) ])))
    c.finish.ensures.reply
