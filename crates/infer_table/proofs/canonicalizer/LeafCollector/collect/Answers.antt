use Rattle.infer_table.proofs.OnceLeaves.{collected-once}
use Rattle.infer_table.proofs.Refusals.{collecting-breaks}
use Rattle.infer_table.proofs.canonicalizer.LeafCollector.collect.Goals as goal

pub returns-in-Break-clause-memory : goal.returns-in-Break-clause-memory
returns-in-Break-clause-memory g c =
    let es = c.args.cx.now.entries in
    collecting-breaks es (collected-once es c.args.self c.in-Break.ensures.visited c.new-once.ensures.visitor (c.new-once.ensures.entered es))

pub returns-in-Continue-clause-visited : goal.returns-in-Continue-clause-visited
returns-in-Continue-clause-visited g c =
    let es = c.args.cx.now.entries in
    collected-once es c.args.self c.in-Continue.ensures.visited c.new-once.ensures.visitor (c.new-once.ensures.entered es)
