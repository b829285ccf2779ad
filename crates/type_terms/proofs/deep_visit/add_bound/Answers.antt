use Rattle.std.proofs.Common.{ap, reverse, ◌∙◌}
use Rattle.type_terms.specs.Binders.{counts_of}
use Rattle.type_terms.specs.Pending.{part_trees, ahead, crossed}
use Rattle.type_terms.proofs.PendingFacts.{at-once-bound}
use Rattle.type_terms.proofs.deep_visit.add_bound.Goals as goal

pub returns-in-Err-clause-follows : goal.returns-in-Err-clause-follows
returns-in-Err-clause-follows g c =
    at-once-bound (g.V.TypeVisitor.sees c.args.cx.now.entries) (counts_of c.args.binders.now) c.args.cx.now.entries c.args.count (crossed c.args.path.now) _ _ (ahead c.args.path.now) _
    (part_trees c.args.cx.now.entries c.args.part) _ _ _ (ap reverse c.deref.ensures.value ∙ c.in-Err.ensures.inside) c.in-Err.ensures.inside c.in-Err.ensures.ahead c.see_part.ensures.visited
