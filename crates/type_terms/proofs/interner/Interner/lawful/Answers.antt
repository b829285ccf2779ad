use Rattle.indexmap.specs.IndexMap.{keys}
use Rattle.type_terms.proofs.MadeFacts.{made-all}
use Rattle.type_terms.proofs.Sorts.{sorted-all}
use Rattle.type_terms.proofs.Unique.{unique-handles}
use Rattle.type_terms.proofs.interner.Interner.lawful.Goals as goal

pub returns : goal.returns
returns c =
    let ns = keys c.self.inside.nodes in
    rw (← c.self.view_is) (record { sorted = sorted-all ns; made = made-all ns c.self.invariant.older; distinct = unique-handles ns c.self.invariant.older c.len.ensures.unique })
