use Rattle.search_graph.proofs.Blockers.{blockers_noted}
use Rattle.search_graph.proofs.cache.CachedResults.note_blocker.Goals as goal

pub invariant_of-self-2-clause-blocked : goal.invariant_of-self-2-clause-blocked
invariant_of-self-2-clause-blocked g c =
    blockers_noted c.args.self.now.blockers.items c.make_room.new.newest.items c.args.self.now.asked.items c.args.place c.args.number c.args.self.now.blocked c.make_room.ensures.same c.in_ok-make_room.ensures.room c.requires
