use Rattle.std.proofs.Common.{ap, reverse, refl}
use Rattle.type_terms.specs.Promised.Handles.{arg_trees}
use Rattle.type_terms.specs.Binders.{counts_of}
use Rattle.type_terms.specs.Pending.{ahead, crossed}
use Rattle.type_terms.proofs.PendingFacts.{at-once}
use Rattle.type_terms.proofs.deep_visit.turn.Goals as goal

pub returns-in-Arg-clause-follows : goal.returns-in-Arg-clause-follows
returns-in-Arg-clause-follows g c =
    let es = c.args.cx.now.entries in
    rw c.in-Arg.is
    (at-once (g.V.TypeVisitor.sees es) (counts_of c.args.binders.now) es (crossed c.args.path.now) _ (crossed c.args.path.now) (ahead c.args.path.now) (ahead c.args.path.now) (arg_trees es c.in-Arg.arg) _ _ _
    (ap reverse c.deref.ensures.value) refl refl c.see_arg.ensures.visited)
