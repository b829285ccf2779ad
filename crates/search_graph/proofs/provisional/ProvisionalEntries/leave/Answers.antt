use Rattle.std.proofs.Common.{length, refl}
use Rattle.std.proofs.lemmas.Option.{slice_get_read}
use Rattle.search_graph.proofs.Entries.{adds_entry}
use Rattle.search_graph.proofs.provisional.ProvisionalEntries.leave.Goals as goal

pub returns-clause-added : goal.returns-clause-added
returns-clause-added g c =
    let lists = c.args.self.now.lists.items in
    let there = slice_get_read lists (length lists) c.args.head c.index_mut-list.result.now refl c.requires c.index_mut-list.ensures.value in
    adds_entry lists c.args.head c.index_mut-list.result.now c.push.new.self c.args.entry c.requires there c.in_ok-push.ensures.items
