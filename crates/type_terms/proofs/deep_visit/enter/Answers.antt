use Rattle.type_terms.specs.Promised.Handles.{types}
use Rattle.type_terms.specs.Binders.{counts_of}
use Rattle.type_terms.specs.Kept.{trees-is}
use Rattle.type_terms.specs.Pending.{crossed, path_pieces}
use Rattle.type_terms.proofs.PendingFacts.{leaf-follows}
use Rattle.type_terms.proofs.deep_visit.enter.Goals as goal

pub returns-in_default-clause-follows : goal.returns-in_default-clause-follows
returns-in_default-clause-follows g c =
    let es = c.args.cx.now.entries in
    rw (trees-is es types c.args.ty.0 _ c.kind.ensures.is)
    (leaf-follows (g.V.TypeVisitor.sees es) (counts_of c.args.binders.now) es (crossed c.args.path.now) (path_pieces es c.args.path.now) c.kind.result c.args.visitor.now
    c.in_default.not-Adt c.in_default.not-Ref c.in_default.not-RawPtr c.in_default.not-Array c.in_default.not-Slice c.in_default.not-Tuple c.in_default.not-FnPtr c.in_default.not-Dynamic)
