use Rattle.std.proofs.Common.{sym, ◌∙◌}
use Rattle.infer_table.proofs.LeafFacts.{place-of-key, found-at, not-found-at}
use Rattle.infer_table.proofs.canonicalizer.Canonicalizer.place.Goals as goal
use Rattle.infer_table.proofs.canonicalizer.Canonicalizer.place.Goals.{in-Some, in-None}

pub returns-clause-place : goal.returns-clause-place
returns-clause-place c =
    let keys = c.args.self.now.leaves.now.keys in
    let there = place-of-key c.args.cx.now.entries c.lawful.ensures c.args.leaf keys c.requires.leaf c.requires.listed in
    elim c.match-get_index_of.branch [
      | in-Some w ↦ w.place-is ∙ found-at _ keys _ w.in-Some.ensures.index ∙ sym there
      | in-None w ↦ w.place-is ∙ w.len-place.ensures.len ∙ not-found-at _ keys w.in-None.ensures.index ∙ sym there
    ]
