use Rattle.std.proofs.Common.{rules, ◌≡◌, ◌+◌, ◌-◌, suc, refl, Ok}
use Rattle.infer_table.specs.Growth.{grows-refl}
use Rattle.search_graph.proofs.Graphs.{Keeps-refl}
use Rattle.solver_graph.specs.LeftTables.{itself}
use Rattle.solver_graph.specs.Searching.{solver_meaning}
use Rattle.solver_graph.specs.declared.settling.Asking.TheVariants as asking
use Rattle.solver_graph.proofs.Settled.{asked-further, proved-further}
use Rattle.solver_graph.proofs.LeftTables.{left-further}
use Rattle.solver_graph.specs.declared.settling.TheConstants.{MAX_ASKINGS}
use Rattle.solver_graph.proofs.Askings.{one-less, once, again, as-many, asked-none}
use Rattle.solver_graph.proofs.settling.ask_again.Goals as goal

pub returns-in_err-ask_once-clause-asked : goal.returns-in_err-ask_once-clause-asked
returns-in_err-ask_once-clause-asked g c =
    asked-further g.H.GoalHandler.meaning c.args.search.now.graph c.loop-asking.search.graph c.ask_once.new.search.graph c.args.search.now.cache c.loop-asking.search.cache c.ask_once.new.search.cache c.args.search.now.cx c.loop-asking.search.cx c.ask_once.new.search.cx c.args.table.now c.loop-asking.table c.ask_once.new.table c.loop-asking.invariant.asked c.ask_once.ensures.asked

pub returns-in-Holds-clause-asked : goal.returns-in-Holds-clause-asked
returns-in-Holds-clause-asked g c =
    asked-further g.H.GoalHandler.meaning c.args.search.now.graph c.loop-asking.search.graph c.ask_once.new.search.graph c.args.search.now.cache c.loop-asking.search.cache c.ask_once.new.search.cache c.args.search.now.cx c.loop-asking.search.cx c.ask_once.new.search.cx c.args.table.now c.loop-asking.table c.ask_once.new.table c.loop-asking.invariant.asked c.ask_once.ensures.asked

pub returns-in-IsUnsure-clause-asked : goal.returns-in-IsUnsure-clause-asked
returns-in-IsUnsure-clause-asked g c =
    asked-further g.H.GoalHandler.meaning c.args.search.now.graph c.loop-asking.search.graph c.ask_once.new.search.graph c.args.search.now.cache c.loop-asking.search.cache c.ask_once.new.search.cache c.args.search.now.cx c.loop-asking.search.cx c.ask_once.new.search.cx c.args.table.now c.loop-asking.table c.ask_once.new.table c.loop-asking.invariant.asked c.ask_once.ensures.asked

pub returns-in-Holds-clause-proved : goal.returns-in-Holds-clause-proved
returns-in-Holds-clause-proved g c = λ _.
    let done : c.ask_once.result ≡ Ok asking.Holds = search rules in
    proved-further g.H.GoalHandler.meaning (g.H.GoalHandler.meaning.world c.args.search.now.cx.handler c.args.search.now.cx.interner.entries) (g.H.GoalHandler.meaning.world c.loop-asking.search.cx.handler c.loop-asking.search.cx.interner.entries)
    c.loop-asking.invariant.asked.keeps.world c.args.search.now.graph c.loop-asking.search.graph c.args.search.now.cache c.loop-asking.search.cache c.args.search.now.cx c.loop-asking.search.cx c.ask_once.new.search.cx c.args.table.now c.loop-asking.table c.ask_once.new.table
    c.args.goal.now c.requires.goal c.loop-asking.invariant.asked (c.ask_once.ensures.holds done)

pub loop-asking-init : goal.loop-asking-init
loop-asking-init g c = record {
  again = c.requires;
  asked = record {
    depth = refl;
    results = λ place x i. i;
    consistent = λ i. i;
    keeps = Keeps-refl (solver_meaning g.H.GoalHandler.meaning) c.args.search.now.cx;
    entries = λ i x p. p;
    grows = grows-refl c.args.table.now;
    narrows = λ s i. i;
    clean = λ i. i;
  };
  covers = itself;
  frames = λ s h. h;
}

pub loop-asking-preserved : goal.loop-asking-preserved
loop-asking-preserved g c = record {
  again = c.ask_once.ensures.again;
  asked = asked-further g.H.GoalHandler.meaning c.args.search.now.graph c.loop-asking.search.graph c.ask_once.new.search.graph c.args.search.now.cache c.loop-asking.search.cache c.ask_once.new.search.cache c.args.search.now.cx c.loop-asking.search.cx c.ask_once.new.search.cx c.args.table.now c.loop-asking.table c.ask_once.new.table c.loop-asking.invariant.asked c.ask_once.ensures.asked;
  covers = left-further g.H.GoalHandler.meaning c.args.mode c.args.search.now.graph c.loop-asking.search.graph c.args.search.now.cache c.loop-asking.search.cache c.args.search.now.cx c.loop-asking.search.cx c.ask_once.new.search.cx c.args.table.now c.loop-asking.table c.ask_once.new.table
      c.args.goal.now c.requires.goal c.loop-asking.invariant.asked c.loop-asking.invariant.covers c.ask_once.ensures.covers;
  frames = λ s h.
      let i = c.loop-asking._asking in
      let m = g.H.GoalHandler.meaning in
      let done : c.ask_once.result ≡ Ok asking.Changes = search rules in
      c.loop-asking.invariant.frames s
      (as-many m c.args.mode (suc (MAX_ASKINGS - (i + 1))) (MAX_ASKINGS - i) c.loop-asking.search.cx c.loop-asking.search.graph s c.loop-asking.table c.args.goal.now (one-less i c.loop-asking-test.true)
      (again m c.args.mode (MAX_ASKINGS - (i + 1)) c.loop-asking.search.cx c.ask_once.new.search.cx c.loop-asking.search.graph c.ask_once.new.search.graph s c.loop-asking.table c.ask_once.new.table c.args.goal.now c.loop-asking.invariant.again.goal
      c.ask_once.ensures.asked.entries c.ask_once.ensures.asked.keeps.world c.ask_once.ensures.asked.depth c.ask_once.ensures.frames (c.ask_once.ensures.left done) h));
}

pub returns-in_err-ask_once-clause-frames : goal.returns-in_err-ask_once-clause-frames
returns-in_err-ask_once-clause-frames g c =
    let i = c.loop-asking._asking in
    let m = g.H.GoalHandler.meaning in
    c.loop-asking.invariant.frames c.ask_once.new.search.graph
    (as-many m c.args.mode (suc (MAX_ASKINGS - (i + 1))) (MAX_ASKINGS - i) c.loop-asking.search.cx c.loop-asking.search.graph c.ask_once.new.search.graph c.loop-asking.table c.args.goal.now (one-less i c.loop-asking-test.true)
    (once m c.args.mode (MAX_ASKINGS - (i + 1)) c.loop-asking.search.cx c.loop-asking.search.graph c.ask_once.new.search.graph c.loop-asking.table c.args.goal.now c.ask_once.ensures.frames))

pub returns-in-Holds-clause-frames : goal.returns-in-Holds-clause-frames
returns-in-Holds-clause-frames g c =
    let i = c.loop-asking._asking in
    let m = g.H.GoalHandler.meaning in
    c.loop-asking.invariant.frames c.ask_once.new.search.graph
    (as-many m c.args.mode (suc (MAX_ASKINGS - (i + 1))) (MAX_ASKINGS - i) c.loop-asking.search.cx c.loop-asking.search.graph c.ask_once.new.search.graph c.loop-asking.table c.args.goal.now (one-less i c.loop-asking-test.true)
    (once m c.args.mode (MAX_ASKINGS - (i + 1)) c.loop-asking.search.cx c.loop-asking.search.graph c.ask_once.new.search.graph c.loop-asking.table c.args.goal.now c.ask_once.ensures.frames))

pub returns-in-IsUnsure-clause-frames : goal.returns-in-IsUnsure-clause-frames
returns-in-IsUnsure-clause-frames g c =
    let i = c.loop-asking._asking in
    let m = g.H.GoalHandler.meaning in
    c.loop-asking.invariant.frames c.ask_once.new.search.graph
    (as-many m c.args.mode (suc (MAX_ASKINGS - (i + 1))) (MAX_ASKINGS - i) c.loop-asking.search.cx c.loop-asking.search.graph c.ask_once.new.search.graph c.loop-asking.table c.args.goal.now (one-less i c.loop-asking-test.true)
    (once m c.args.mode (MAX_ASKINGS - (i + 1)) c.loop-asking.search.cx c.loop-asking.search.graph c.ask_once.new.search.graph c.loop-asking.table c.args.goal.now c.ask_once.ensures.frames))

pub returns-clause-frames : goal.returns-clause-frames
returns-clause-frames g c =
    let m = g.H.GoalHandler.meaning in
    c.loop-asking.invariant.frames c.loop-asking.search.graph (asked-none m c.args.mode _ _ _ (MAX_ASKINGS - c.loop-asking._asking) _ c.loop-asking.search.graph.frames)

pub returns-in_err-ask_once-clause-covers : goal.returns-in_err-ask_once-clause-covers
returns-in_err-ask_once-clause-covers g c =
    left-further g.H.GoalHandler.meaning c.args.mode c.args.search.now.graph c.loop-asking.search.graph c.args.search.now.cache c.loop-asking.search.cache c.args.search.now.cx c.loop-asking.search.cx c.ask_once.new.search.cx c.args.table.now c.loop-asking.table c.ask_once.new.table
    c.args.goal.now c.requires.goal c.loop-asking.invariant.asked c.loop-asking.invariant.covers c.ask_once.ensures.covers

pub returns-in-Holds-clause-covers : goal.returns-in-Holds-clause-covers
returns-in-Holds-clause-covers g c =
    left-further g.H.GoalHandler.meaning c.args.mode c.args.search.now.graph c.loop-asking.search.graph c.args.search.now.cache c.loop-asking.search.cache c.args.search.now.cx c.loop-asking.search.cx c.ask_once.new.search.cx c.args.table.now c.loop-asking.table c.ask_once.new.table
    c.args.goal.now c.requires.goal c.loop-asking.invariant.asked c.loop-asking.invariant.covers c.ask_once.ensures.covers

pub returns-in-IsUnsure-clause-covers : goal.returns-in-IsUnsure-clause-covers
returns-in-IsUnsure-clause-covers g c =
    left-further g.H.GoalHandler.meaning c.args.mode c.args.search.now.graph c.loop-asking.search.graph c.args.search.now.cache c.loop-asking.search.cache c.args.search.now.cx c.loop-asking.search.cx c.ask_once.new.search.cx c.args.table.now c.loop-asking.table c.ask_once.new.table
    c.args.goal.now c.requires.goal c.loop-asking.invariant.asked c.loop-asking.invariant.covers c.ask_once.ensures.covers
