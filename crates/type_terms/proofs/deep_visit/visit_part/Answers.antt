use Rattle.std.proofs.Common.{◌≡◌, [], ◌∷◌, ◌∙◌, ap, subst}
use Rattle.std.specs.ControlFlow.{break_value}
use Rattle.type_terms.specs.declared.deep_visit.Pending.TheVariants.{Visit}
use Rattle.type_terms.specs.Binders.{counts_of}
use Rattle.type_terms.specs.Visits.{VisitsEach}
use Rattle.type_terms.specs.Pending.{part_trees, ahead, crossed, pieces_ahead}
use Rattle.type_terms.proofs.PendingFacts.{visits-one-piece}
use Rattle.type_terms.proofs.deep_visit.visit_part.Goals as goal

pub returns-in-Ok-clause-visited : goal.returns-in-Ok-clause-visited
returns-in-Ok-clause-visited g c =
    let es = c.args.cx.now.entries in
    let bs = counts_of c.args.binders.now in
    let sees = g.V.TypeVisitor.sees es in
    let out : crossed c.push.new.self ≡ [] = c.push.ensures.inside ∙ c.new-path.ensures.inside in
    let one : ahead c.push.new.self ≡ Visit c.args.part ∷ [] = c.in-Ok.ensures.ahead ∙ ap (λ z. Visit c.args.part ∷ z) c.new-path.ensures.ahead in
    let here = subst (λ n. VisitsEach sees bs (pieces_ahead es n (ahead c.push.new.self)) c.args.visitor.now c.run.new.visitor (break_value c.run.result)) out c.run.ensures.visited in
    visits-one-piece sees bs (part_trees es c.args.part) _ _ _ (subst (λ q. VisitsEach sees bs (pieces_ahead es [] q) c.args.visitor.now c.run.new.visitor (break_value c.run.result)) one here)
