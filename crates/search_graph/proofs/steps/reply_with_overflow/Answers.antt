use Rattle.search_graph.proofs.Graphs.{AreCached-later}
use Rattle.search_graph.proofs.Ranges.{in_range_one}
use Rattle.search_graph.proofs.steps.reply_with_overflow.Goals as goal

pub returns-clause-cache : goal.returns-clause-cache
returns-clause-cache g c =
    rw c.number_of_asking.ensures.entries (AreCached-later g.D.Delegate.meaning c.args.cx.now c.overflow.new.cx c.args.cache.now.entries.items c.overflow.ensures.keeps c.requires.cache)

pub returns-in_err-overflow-clause-cache : goal.returns-in_err-overflow-clause-cache
returns-in_err-overflow-clause-cache g c =
    rw c.number_of_asking.ensures.entries (AreCached-later g.D.Delegate.meaning c.args.cx.now c.overflow.new.cx c.args.cache.now.entries.items c.overflow.ensures.keeps c.requires.cache)

pub returns-clause-range : goal.returns-clause-range
returns-clause-range g c =
    let asked = c.in_ok-overflow.ensures.asked in
    in_range_one c.number_of_asking.new.cache.asked.items c.in_ok-overflow.field-0.dependencies.nested_goals c.in_ok-number.number asked.0 asked.1 asked.2
