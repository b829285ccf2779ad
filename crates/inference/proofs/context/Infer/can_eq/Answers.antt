use Rattle.std.proofs.Common.{ap}
use Rattle.fulfillment.specs.declared.selecting.FulfillmentCtxt.{FulfillmentCtxt}
use Rattle.inference.specs.declared.context.Infer.{Infer}
use Rattle.inference.proofs.Results.{full-of-equation, of-ok}
use Rattle.inference.proofs.context.Infer.can_eq.Goals as goal

pub returns-clause-as_before : goal.returns-clause-as_before
returns-clause-as_before g c =
    let made = c.eq-made in
    record {
      table = c.roll_back.ensures c.args.self.now.table c.snapshot-place.ensures made.ensures.grows.table;
      goals = ap (λ (x : FulfillmentCtxt). x.obligations.items) made.ensures.goals;
      mode = made.ensures.mode;
      limit = ap (λ (x : FulfillmentCtxt). x.limit) made.ensures.goals;
    }

pub returns-clause-again : goal.returns-clause-again
returns-clause-again g c =
    let now = c.args.search.now in
    let made = c.eq-made in
    let i = c.args.self.now in
    let j : Infer = record { table = c.roll_back.new.self; goals = made.new.self.goals; mode = made.new.self.mode } in
    let can =
    c.resting_laws.ensures.can now.graph made.new.search.graph now.cache made.new.search.cache now.cx made.new.search.cx i c.requires.can made.ensures.advances.entries
    made.ensures.again.select.empty made.ensures.again.select.cache made.ensures.again.select.ready in
    c.restoring_laws.ensures.can made.new.search.graph made.new.search.cache made.new.search.cx i j can (returns-clause-as_before g c)

pub returns-clause-faithful : goal.returns-clause-faithful
returns-clause-faithful g c =
    let now = c.args.search.now in
    let made = c.eq-made in
    let i = c.args.self.now in
    let j : Infer = record { table = c.roll_back.new.self; goals = made.new.self.goals; mode = made.new.self.mode } in
    let keeps = c.context_laws.ensures.keeps now.cx made.new.search.cx c.requires.can.select.ready made.ensures.advances in
    let can =
    c.resting_laws.ensures.can now.graph made.new.search.graph now.cache made.new.search.cache now.cx made.new.search.cx i c.requires.can made.ensures.advances.entries
    made.ensures.again.select.empty made.ensures.again.select.cache made.ensures.again.select.ready in
    λ own asked faithful.
    c.restoring_laws.ensures.faithful made.new.search.graph made.new.search.cache made.new.search.cx i j can (returns-clause-as_before g c) own asked
    (c.resting_laws.ensures.faithful now.graph now.cache now.cx made.new.search.cx i c.requires.can made.ensures.advances.entries keeps.world own asked faithful)

pub returns-clause-possible : goal.returns-clause-possible
returns-clause-possible g c = λ e.
    let made = c.eq-made in
    let same = of-ok made.result _ (c.can_be.ensures.possible e) made.ensures.equates in
    let s = c.solution_laws.ensures.closed made.new.search.cx.interner.entries made.new.self.table made.ensures.again.select.table in
    let both = same.only s.0 s.1 in
    (s.0, both.0, both.1)

pub returns-clause-impossible : goal.returns-clause-impossible
returns-clause-impossible g c = λ e. c.eq-made.ensures.no_solution (c.can_be.ensures.impossible e)

pub returns-clause-full : goal.returns-clause-full
returns-clause-full g c = full-of-equation c.can_be.result c.eq-made.result c.eq-made.new.search.cx.interner c.can_be.ensures.fault c.eq-made.ensures.full
