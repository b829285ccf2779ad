use Rattle.std.proofs.Common.{rules, ◌≡◌, ◌-◌, suc, refl, Ok}
use Rattle.solver_graph.proofs.Settled.{asked-further, proved-further}
use Rattle.solver_graph.proofs.LeftTables.{left-further}
use Rattle.solver_graph.specs.declared.settling.TheConstants.{MAX_ASKINGS}
use Rattle.solver_graph.specs.declared.settling.Asking.TheVariants as asking
use Rattle.solver_graph.proofs.Askings.{once, again, as-many}
use Rattle.solver_graph.proofs.settling.ask_until_settled.Goals as goal

pub returns-in-Changes-clause-asked : goal.returns-in-Changes-clause-asked
returns-in-Changes-clause-asked g c =
    asked-further g.H.GoalHandler.meaning c.args.search.now.graph c.ask_once.new.search.graph c.ask_again.new.search.graph c.args.search.now.cache c.ask_once.new.search.cache c.ask_again.new.search.cache
    c.args.search.now.cx c.ask_once.new.search.cx c.ask_again.new.search.cx c.args.table.now c.ask_once.new.table c.ask_again.new.table c.ask_once.ensures.asked c.ask_again.ensures.asked

pub returns-in-Changes-clause-proved : goal.returns-in-Changes-clause-proved
returns-in-Changes-clause-proved g c = λ e.
    proved-further g.H.GoalHandler.meaning (g.H.GoalHandler.meaning.world c.args.search.now.cx.handler c.args.search.now.cx.interner.entries) (g.H.GoalHandler.meaning.world c.ask_once.new.search.cx.handler c.ask_once.new.search.cx.interner.entries)
    c.ask_once.ensures.asked.keeps.world c.args.search.now.graph c.ask_once.new.search.graph c.args.search.now.cache c.ask_once.new.search.cache c.args.search.now.cx c.ask_once.new.search.cx c.ask_again.new.search.cx
    c.args.table.now c.ask_once.new.table c.ask_again.new.table c.args.goal.now c.requires.goal c.ask_once.ensures.asked (c.ask_again.ensures.proved e)

pub returns-in_err-ask_once-clause-frames : goal.returns-in_err-ask_once-clause-frames
returns-in_err-ask_once-clause-frames g c =
    let m = g.H.GoalHandler.meaning in
    as-many m c.args.mode (suc (MAX_ASKINGS - 1)) MAX_ASKINGS c.args.search.now.cx c.args.search.now.graph c.ask_once.new.search.graph c.args.table.now c.args.goal.now refl
    (once m c.args.mode (MAX_ASKINGS - 1) c.args.search.now.cx c.args.search.now.graph c.ask_once.new.search.graph c.args.table.now c.args.goal.now c.ask_once.ensures.frames)

pub returns-in-Holds-clause-frames : goal.returns-in-Holds-clause-frames
returns-in-Holds-clause-frames g c =
    let m = g.H.GoalHandler.meaning in
    as-many m c.args.mode (suc (MAX_ASKINGS - 1)) MAX_ASKINGS c.args.search.now.cx c.args.search.now.graph c.ask_once.new.search.graph c.args.table.now c.args.goal.now refl
    (once m c.args.mode (MAX_ASKINGS - 1) c.args.search.now.cx c.args.search.now.graph c.ask_once.new.search.graph c.args.table.now c.args.goal.now c.ask_once.ensures.frames)

pub returns-in-IsRefused-clause-frames : goal.returns-in-IsRefused-clause-frames
returns-in-IsRefused-clause-frames g c =
    let m = g.H.GoalHandler.meaning in
    as-many m c.args.mode (suc (MAX_ASKINGS - 1)) MAX_ASKINGS c.args.search.now.cx c.args.search.now.graph c.ask_once.new.search.graph c.args.table.now c.args.goal.now refl
    (once m c.args.mode (MAX_ASKINGS - 1) c.args.search.now.cx c.args.search.now.graph c.ask_once.new.search.graph c.args.table.now c.args.goal.now c.ask_once.ensures.frames)

pub returns-in-IsUnsure-clause-frames : goal.returns-in-IsUnsure-clause-frames
returns-in-IsUnsure-clause-frames g c =
    let m = g.H.GoalHandler.meaning in
    as-many m c.args.mode (suc (MAX_ASKINGS - 1)) MAX_ASKINGS c.args.search.now.cx c.args.search.now.graph c.ask_once.new.search.graph c.args.table.now c.args.goal.now refl
    (once m c.args.mode (MAX_ASKINGS - 1) c.args.search.now.cx c.args.search.now.graph c.ask_once.new.search.graph c.args.table.now c.args.goal.now c.ask_once.ensures.frames)

pub returns-in-Changes-clause-frames : goal.returns-in-Changes-clause-frames
returns-in-Changes-clause-frames g c =
    let m = g.H.GoalHandler.meaning in
    let done : c.ask_once.result ≡ Ok asking.Changes = search rules in
    as-many m c.args.mode (suc (MAX_ASKINGS - 1)) MAX_ASKINGS c.args.search.now.cx c.args.search.now.graph c.ask_again.new.search.graph c.args.table.now c.args.goal.now refl
    (again m c.args.mode (MAX_ASKINGS - 1) c.args.search.now.cx c.ask_once.new.search.cx c.args.search.now.graph c.ask_once.new.search.graph c.ask_again.new.search.graph c.args.table.now c.ask_once.new.table c.args.goal.now c.requires.goal
    c.ask_once.ensures.asked.entries c.ask_once.ensures.asked.keeps.world c.ask_once.ensures.asked.depth c.ask_once.ensures.frames (c.ask_once.ensures.left done) c.ask_again.ensures.frames)

pub returns-in-Changes-clause-covers : goal.returns-in-Changes-clause-covers
returns-in-Changes-clause-covers g c =
    left-further g.H.GoalHandler.meaning c.args.mode c.args.search.now.graph c.ask_once.new.search.graph c.args.search.now.cache c.ask_once.new.search.cache c.args.search.now.cx c.ask_once.new.search.cx c.ask_again.new.search.cx
    c.args.table.now c.ask_once.new.table c.ask_again.new.table c.args.goal.now c.requires.goal c.ask_once.ensures.asked c.ask_once.ensures.covers c.ask_again.ensures.covers
