use Rattle.std.proofs.Common.{refl}
use Rattle.type_terms.specs.Promised.Handles.{trees_at}
use Rattle.type_terms.specs.Pieces.{one_piece}
use Rattle.type_terms.proofs.VisitFacts.{visits-both, visits-stop}
use Rattle.infer_table.proofs.goal.Goal.visit_with.Goals as goal

pub returns-in-Break-clause-visited : goal.returns-in-Break-clause-visited
returns-in-Break-clause-visited g c =
    rw (← c.deref.ensures.value) (visits-stop c.in-Break.ensures.visited refl (one_piece (trees_at c.args.cx.now.entries c.args.self.now.predicate.trait_ref.args.0)))

pub returns-in-Continue-clause-visited : goal.returns-in-Continue-clause-visited
returns-in-Continue-clause-visited g c = rw (← c.deref.ensures.value) (visits-both c.in-Continue.ensures.visited refl c.visit_with.ensures.visited)
