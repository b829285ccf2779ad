use Rattle.std.proofs.Common.{◌≡◌, ap, ◌++◌, ◌∙◌}
use Rattle.std.specs.Prelude.{Some}
use Rattle.type_terms.specs.Promised.Trees.{◌+++◌}
use Rattle.type_terms.specs.Promised.Handles.{trees_at, bounds_lists}
use Rattle.type_terms.specs.Terms.{args_lists}
use Rattle.type_terms.specs.Kinds.{principal_trees, autos_trees, args_trees}
use Rattle.type_terms.specs.Visits.{next_each}
use Rattle.type_terms.specs.Binders.{counts_of}
use Rattle.type_terms.specs.Kept.{trees-is}
use Rattle.type_terms.specs.Pending.{crossed, path_pieces}
use Rattle.type_terms.proofs.VisitFacts.{autos-visited}
use Rattle.type_terms.proofs.PendingFacts.{follows-by, visits-bounds}
use Rattle.type_terms.proofs.deep_visit.turn_bounds.Goals as goal

pub returns-in-Some-clause-follows : goal.returns-in-Some-clause-follows
returns-in-Some-clause-follows g c =
    let es = c.args.cx.now.entries in
    let bs = counts_of c.args.binders.now in
    let cs = crossed c.args.path.now in
    let sees = g.V.TypeVisitor.sees es in
    let autos = c.bounds.result.now.autos.items in
    let p = c.in-Some.principal in
    let at : trees_at es c.args.bounds.0 ≡ principal_trees es (Some p) +++ autos_trees autos =
    trees-is es bounds_lists c.args.bounds.0 _ c.bounds.ensures.is ∙ ap (λ q. principal_trees es q +++ autos_trees autos) c.in-Some.is in
    let args : trees_at es p.args.0 ≡ args_trees es c.args-in-Some.result.now = trees-is es args_lists p.args.0 _ c.args-in-Some.ensures.is in
    rw (at, args) (follows-by sees bs _ _ _ _ (λ x q h. visits-bounds sees bs cs p.bound_vars p.def_id.index (args_trees es c.args-in-Some.result.now) (autos_trees autos) (path_pieces es c.args.path.now) c.args.visitor.now x q
    (λ v t h. g.met.V.TypeVisitor.enters_bounds v es (cs ++ bs) t h) (λ v. autos-visited sees (cs ++ bs) v (λ t h. g.met.V.TypeVisitor.enters_bounds v es (cs ++ bs) t h) autos) h) _ _ _ c.add_bound.ensures.follows)

pub returns-in-None-clause-follows : goal.returns-in-None-clause-follows
returns-in-None-clause-follows g c =
    let es = c.args.cx.now.entries in
    let bs = counts_of c.args.binders.now in
    let cs = crossed c.args.path.now in
    let v = c.args.visitor.now in
    let autos = c.bounds.result.now.autos.items in
    let at : trees_at es c.args.bounds.0 ≡ autos_trees autos =
    trees-is es bounds_lists c.args.bounds.0 _ c.bounds.ensures.is ∙ ap (λ q. principal_trees es q +++ autos_trees autos) c.in-None.is in
    λ x r h. rw at (next_each (autos-visited (g.V.TypeVisitor.sees es) (cs ++ bs) v (λ t k. g.met.V.TypeVisitor.enters_bounds v es (cs ++ bs) t k) autos) h)
