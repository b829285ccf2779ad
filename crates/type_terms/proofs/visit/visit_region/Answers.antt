use Rattle.std.proofs.Common.{refl}
use Rattle.type_terms.specs.Promised.Handles.{region_trees, region_label}
use Rattle.type_terms.specs.Binders.{counts_of}
use Rattle.type_terms.proofs.VisitFacts.{break-at, pass-at, enter-leaf}
use Rattle.type_terms.proofs.visit.visit_region.Goals as goal

pub returns-in-Break-clause-visited : goal.returns-in-Break-clause-visited
returns-in-Break-clause-visited g c =
    break-at (g.V.TypeVisitor.sees c.args.cx.now.entries) (counts_of c.args.binders.now) (region_trees c.args.region) _ _ _ refl c.in-Break.ensures.sees

pub returns-in-Enter-clause-visited : goal.returns-in-Enter-clause-visited
returns-in-Enter-clause-visited g c =
    enter-leaf (g.V.TypeVisitor.sees c.args.cx.now.entries) (counts_of c.args.binders.now) (region_label c.args.region.kind) _ _ (rw (← c.in-Enter.is) c.visit_region.ensures.sees)

pub returns-in-Pass-clause-visited : goal.returns-in-Pass-clause-visited
returns-in-Pass-clause-visited g c =
    pass-at (g.V.TypeVisitor.sees c.args.cx.now.entries) (counts_of c.args.binders.now) (region_trees c.args.region) _ _ refl (rw (← c.in-Pass.is) c.visit_region.ensures.sees)
