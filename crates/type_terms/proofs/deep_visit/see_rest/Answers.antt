use Rattle.std.proofs.Common.{◌≡◌, ap, reverse, refl, sym, subst, ◌∷◌, None, ◌∙◌}
use Rattle.std.specs.Prelude.{Some}
use Rattle.type_terms.specs.declared.deep_visit.Pending.TheVariants.{Visit}
use Rattle.type_terms.specs.Binders.{counts_of}
use Rattle.type_terms.specs.Visits.{VisitsEach, ended_each}
use Rattle.type_terms.specs.Pending.{AllHeld, part_trees, ahead, pieces_ahead}
use Rattle.type_terms.proofs.PendingFacts.{ahead-pop, ahead-none, at-once}
use Rattle.type_terms.proofs.deep_visit.see_rest.Goals as goal

pub returns-in-Break-clause-visited : goal.returns-in-Break-clause-visited
returns-in-Break-clause-visited g c =
    let es = c.args.cx.now.entries in
    let bs = counts_of c.args.binders.now in
    let sees = g.V.TypeVisitor.sees es in
    let cs = reverse c.loop-next.path.counts.items in
    let rest = reverse c.pop.new.self.items in
    let part = c.in-Visit.part in
    let off : ahead c.loop-next.path ≡ Visit part ∷ rest = ahead-pop _ _ _ c.in-Some.ensures.items ∙ ap (λ z. z ∷ rest) c.in-Visit.is in
    let step = at-once sees bs es cs (reverse c.deref.result.now) cs rest rest (part_trees es part) _ _ (Some c.in-Break.value) (ap reverse c.deref.ensures.value) refl refl c.in-Break.ensures.visited in
    c.loop-next.invariant.2 _ (Some c.in-Break.value) (subst (λ q. VisitsEach sees bs (pieces_ahead es cs q) c.loop-next.visitor c.see_part.new.visitor (Some c.in-Break.value)) (sym off) step)

pub loop-next-preserved : goal.loop-next-preserved
loop-next-preserved g c =
    let es = c.args.cx.now.entries in
    let bs = counts_of c.args.binders.now in
    let sees = g.V.TypeVisitor.sees es in
    let cs = reverse c.loop-next.path.counts.items in
    let rest = reverse c.pop.new.self.items in
    let part = c.in-Visit.part in
    let off : ahead c.loop-next.path ≡ Visit part ∷ rest = ahead-pop _ _ _ c.in-Some.ensures.items ∙ ap (λ z. z ∷ rest) c.in-Visit.is in
    let held = subst (AllHeld es) off c.loop-next.invariant.1 in
    let step = at-once sees bs es cs (reverse c.deref.result.now) cs rest rest (part_trees es part) _ _ None (ap reverse c.deref.ensures.value) refl refl c.in-Continue.ensures.visited in
    (c.see_part.ensures.ready, held.1, λ x r h. c.loop-next.invariant.2 x r (subst (λ q. VisitsEach sees bs (pieces_ahead es cs q) c.loop-next.visitor x r) (sym off) (step x r h)))

pub returns-clause-visited : goal.returns-clause-visited
returns-clause-visited g c =
    let es = c.args.cx.now.entries in
    c.loop-next.invariant.2 _ None (rw (ahead-none c.loop-next.path.todo.items _ c.loop-next.path.todo.ok.0 c.in_default.ensures.cases.0) ended_each)
