use Rattle.std.proofs.Common.{[], ◌∷◌, subst}
use Rattle.std.specs.Prelude.{Some}
use Rattle.std.specs.ControlFlow.{break_value}
use Rattle.type_terms.specs.Trees.{Single}
use Rattle.type_terms.specs.Promised.Handles.{trees_at}
use Rattle.type_terms.specs.Binders.{counts_of}
use Rattle.type_terms.specs.Visits.{VisitsEach}
use Rattle.type_terms.specs.Pending.{ahead, piece_below, pieces_ahead}
use Rattle.type_terms.proofs.Items.{type-is-one}
use Rattle.type_terms.proofs.PendingFacts.{visits-below-piece}
use Rattle.type_terms.proofs.deep_visit.visit_below.Goals as goal

pub returns-in-Break-clause-visited : goal.returns-in-Break-clause-visited
returns-in-Break-clause-visited g c =
    let es = c.args.cx.now.entries in
    let bs = counts_of c.args.binders.now in
    let sees = g.V.TypeVisitor.sees es in
    let t = trees_at es c.args.ty.0 in
    let one : Single t = type-is-one es c.lawful.ensures c.args.ty.0 c.requires.held in
    let out = c.new-path.ensures.inside in
    let none_ahead = c.new-path.ensures.ahead in
    let here = subst (λ n. VisitsEach sees bs (piece_below n t ∷ pieces_ahead es n (ahead c.new-path.result)) c.args.visitor.now c.enter.new.visitor (Some c.in-Break.value)) out c.in-Break.ensures.follows in
    visits-below-piece sees bs t _ _ _ one (subst (λ q. VisitsEach sees bs (piece_below [] t ∷ pieces_ahead es [] q) c.args.visitor.now c.enter.new.visitor (Some c.in-Break.value)) none_ahead here)

pub returns-in-Continue-clause-visited : goal.returns-in-Continue-clause-visited
returns-in-Continue-clause-visited g c =
    let es = c.args.cx.now.entries in
    let bs = counts_of c.args.binders.now in
    let sees = g.V.TypeVisitor.sees es in
    let t = trees_at es c.args.ty.0 in
    let one : Single t = type-is-one es c.lawful.ensures c.args.ty.0 c.requires.held in
    let out = c.new-path.ensures.inside in
    let none_ahead = c.new-path.ensures.ahead in
    let r = break_value c.run.result in
    let whole = c.in-Continue.ensures.follows _ r c.run.ensures.visited in
    let here = subst (λ n. VisitsEach sees bs (piece_below n t ∷ pieces_ahead es n (ahead c.new-path.result)) c.args.visitor.now c.run.new.visitor r) out whole in
    visits-below-piece sees bs t _ _ _ one (subst (λ q. VisitsEach sees bs (piece_below [] t ∷ pieces_ahead es [] q) c.args.visitor.now c.run.new.visitor r) none_ahead here)
