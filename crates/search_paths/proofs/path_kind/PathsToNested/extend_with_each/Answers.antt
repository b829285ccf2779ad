use Rattle.search_paths.proofs.PathSets.{extended-each}
use Rattle.search_paths.proofs.path_kind.PathsToNested.extend_with_each.Goals as goal

pub returns : goal.returns
returns c =
    rw (c.union-3.ensures tt, c.union-2.ensures tt, c.union.ensures tt)
    (extended-each c.args.paths.0 c.args.self.0 c.extend_where.result.0 c.extend_where-2.result.0 c.extend_where-3.result.0 c.extend_where-4.result.0 c.extend_where.ensures c.extend_where-2.ensures c.extend_where-3.ensures c.extend_where-4.ensures)
