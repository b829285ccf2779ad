use Rattle.std.proofs.Common.{sym}
use Rattle.indexmap.specs.IndexMap.{keys}
use Rattle.type_terms.proofs.Entries.{key-at, entry-of-key, older-of-key}
use Rattle.type_terms.proofs.interner.Interner.node.Goals as goal

pub returns-clause-is : goal.returns-clause-is
returns-clause-is c =
    rw (← c.self.view_is)
    ((entry-of-key (keys c.self.inside.nodes) c.args.index _ c.self.invariant.older (key-at c.self.inside.nodes.entries c.args.index _ _ (sym c.in-Some.ensures.entry))).0)

pub returns-clause-held : goal.returns-clause-held
returns-clause-held c =
    rw (← c.self.view_is)
    ((entry-of-key (keys c.self.inside.nodes) c.args.index _ c.self.invariant.older (key-at c.self.inside.nodes.entries c.args.index _ _ (sym c.in-Some.ensures.entry))).1)

pub returns-clause-older : goal.returns-clause-older
returns-clause-older c =
    older-of-key (keys c.self.inside.nodes) c.args.index _ c.self.invariant.older (key-at c.self.inside.nodes.entries c.args.index _ _ (sym c.in-Some.ensures.entry))
