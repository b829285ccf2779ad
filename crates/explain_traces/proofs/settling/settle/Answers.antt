use Rattle.infer_table.specs.Growth.{grows-refl}
use Rattle.explain_traces.proofs.Walks.{asked-none}
use Rattle.explain_traces.proofs.settling.settle.Goals as goal

pub ask_until_settled-requires : goal.ask_until_settled-requires
ask_until_settled-requires g c = record {
  empty = c.requires.askable.empty;
  cache = c.requires.askable.cache;
  ready = c.requires.askable.ready;
  table = c.requires.table;
  goal = c.requires.goal;
}

pub returns-then-not-has_infer-clause-asked : goal.returns-then-not-has_infer-clause-asked
returns-then-not-has_infer-clause-asked g c = asked-none g.H.GoalHandler.meaning c.args.search.now.graph c.args.search.now.cx

pub returns-then-not-has_infer-clause-grows : goal.returns-then-not-has_infer-clause-grows
returns-then-not-has_infer-clause-grows g c = grows-refl c.args.table.now

pub returns-in_err-ask_until_settled-clause-again : goal.returns-in_err-ask_until_settled-clause-again
returns-in_err-ask_until_settled-clause-again g c = let e = c.ask_until_settled.ensures.again in record { empty = e.empty; cache = e.cache; ready = e.ready }

pub returns-in_err-ask_until_settled-clause-asked : goal.returns-in_err-ask_until_settled-clause-asked
returns-in_err-ask_until_settled-clause-asked g c = let e = c.ask_until_settled.ensures.asked in record { depth = e.depth; keeps = e.keeps; entries = e.entries }

pub returns-clause-again : goal.returns-clause-again
returns-clause-again g c = let e = c.ask_until_settled.ensures.again in record { empty = e.empty; cache = e.cache; ready = e.ready }

pub returns-clause-asked : goal.returns-clause-asked
returns-clause-asked g c = let e = c.ask_until_settled.ensures.asked in record { depth = e.depth; keeps = e.keeps; entries = e.entries }
