use Rattle.std.proofs.Common.{ap, reverse, ◌∙◌, refl}
use Rattle.type_terms.specs.Promised.Trees.{◌+++◌}
use Rattle.type_terms.specs.Binders.{counts_of}
use Rattle.type_terms.specs.Pending.{part_trees, ahead, crossed}
use Rattle.type_terms.proofs.VisitFacts.{visits-append, visits-broken}
use Rattle.type_terms.proofs.PendingFacts.{at-once, both-ahead}
use Rattle.type_terms.proofs.deep_visit.add_both.Goals as goal

pub returns-in-Ok-clause-follows : goal.returns-in-Ok-clause-follows
returns-in-Ok-clause-follows g c =
    both-ahead (g.V.TypeVisitor.sees c.args.cx.now.entries) (counts_of c.args.binders.now) c.args.cx.now.entries (crossed c.args.path.now) _ (ahead c.args.path.now) _ c.args.first c.args.second _ c.push_both.ensures.inside c.in-Ok.ensures.ahead

pub returns-in-Break-clause-follows : goal.returns-in-Break-clause-follows
returns-in-Break-clause-follows g c =
    let es = c.args.cx.now.entries in
    at-once (g.V.TypeVisitor.sees es) (counts_of c.args.binders.now) es (crossed c.args.path.now) _ _ (ahead c.args.path.now) _
    (part_trees es c.args.first +++ part_trees es c.args.second) _ _ _ (ap reverse c.deref.ensures.value ∙ c.push_both.ensures.inside) c.push_both.ensures.inside c.in-Err.ensures.ahead
    (visits-broken c.in-Break.ensures.visited refl (part_trees es c.args.second))

pub returns-in-Continue-clause-follows : goal.returns-in-Continue-clause-follows
returns-in-Continue-clause-follows g c =
    let es = c.args.cx.now.entries in
    at-once (g.V.TypeVisitor.sees es) (counts_of c.args.binders.now) es (crossed c.args.path.now) _ _ (ahead c.args.path.now) _
    (part_trees es c.args.first +++ part_trees es c.args.second) _ _ _ (ap reverse c.deref.ensures.value ∙ c.push_both.ensures.inside) c.push_both.ensures.inside c.in-Err.ensures.ahead
    (visits-append c.in-Continue.ensures.visited refl c.see_part-in-Continue.ensures.visited)
