use Rattle.std.proofs.Common.{rules, ◌≡◌, ◌<◌, ◌≤◌, ℕ, arith, length, refl, ap, ◌∙◌, sym, subst, ◌⊎◌, true≢false, Result, Ok, length-set}
use Rattle.std.proofs.lemmas.List.Elements.{AllWithin-none, AllWithin-upto, All-from_all_within}
use Rattle.infer_table.specs.Goals.{GoalHeld}
use Rattle.type_terms.specs.declared.Fault.{Fault}
use Rattle.std.proofs.Math.Nat.{le_refl}
use Rattle.fulfillment.specs.Leaving.{none}
use Rattle.fulfillment.specs.Obligations.{ObligationIsSettled}
use Rattle.fulfillment.specs.Selecting.{GoalStaysOpen, IsReached}
use Rattle.fulfillment.specs.declared.obligation.Obligation.{Obligation}
use Rattle.fulfillment.specs.declared.obligation.ObligationId.{ObligationId}
use Rattle.fulfillment.specs.declared.obligation.Step.TheVariants as step
use Rattle.fulfillment.specs.declared.selecting.Round.{Round}
use Rattle.fulfillment.specs.declared.selecting.Round.TheVariants as round
use Rattle.fulfillment.proofs.Selections.{selected-nothing, turn-selected, turn-again, turn-refused, turn-falls, turn-fell, turn-same, turn-settled, turn-narrowed, turn-frames, turn-frames-all, start-within}
use Rattle.fulfillment.proofs.selecting.FulfillmentCtxt.select_in_turn.Goals as goal
use Rattle.fulfillment.proofs.selecting.FulfillmentCtxt.select_in_turn.Goals.{in-Narrowed, in-Quiet}

-- the number of the refused obligation
number-same : (i : ℕ) (id : ObligationId) → ◌≡◌ {A = Result Round Fault} (Ok (round.Refused (record { index = i }))) (Ok (round.Refused id)) → id.index ≡ i
number-same i id e = let same : id ≡ record { index = i } = cc in ap (λ (x : ObligationId). x.index) same

pub each-init : goal.each-init
each-init g c = record {
  again = c.requires;
  selected = selected-nothing g.H.GoalHandler.meaning c.args.mode c.args.search.now.graph c.args.search.now.cache c.args.search.now.cx c.args.table.now c.args.self.now.obligations.items;
  narrowed = λ e. absurd cc;
  settled = AllWithin-none (λ (p : Obligation). ObligationIsSettled p ⊎ GoalStaysOpen g.H.GoalHandler.meaning c.args.mode c.args.search.now.graph c.args.search.now.cx c.args.table.now c.args.self.now.obligations.items p.goal) c.args.self.now.obligations.items 0;
  quiet = λ e. refl;
  frames = none (le_refl c.args.search.now.graph.frames);
  limit = refl;
  as_many = sym (c.len-index-end.ensures ∙ c.args.self.now.obligations.ok.0);
}

pub select-requires : goal.select-requires
select-requires g c =
    let again = c.each.invariant.again in
    let within : c.each.index < length c.each.self.obligations.items = omega (arith, c.each-test.true, c.each.invariant.as_many) in
    record {
      empty = again.empty;
      cache = again.cache;
      ready = again.ready;
      table = again.table;
      goal =
          subst (λ (o : Obligation). GoalHeld c.each.search.cx.interner.entries o.goal) (sym c.index_mut-obligation.ensures.value)
          (again.goals c.each.index c.index_mut-obligation.result.now within);
    }

pub each-preserved : goal.each-preserved
each-preserved g c =
    record {
      again = turn-again g.H.GoalHandler.meaning c.args.mode c.args.search.now.graph c.each.search.graph c.select.new.search.graph c.args.search.now.cache c.each.search.cache c.select.new.search.cache
          c.args.search.now.cx c.each.search.cx c.select.new.search.cx c.args.table.now c.each.table c.select.new.table c.args.self.now.obligations.items c.each.self.obligations.items
          c.each.index c.index_mut-obligation.result.now c.select.new.self c.requires.goals c.each.invariant.selected c.each.invariant.again (omega (arith, c.each-test.true, c.each.invariant.as_many)) c.index_mut-obligation.ensures.value
          c.select.ensures.asked c.select.ensures.stands c.select.ensures.again;
      selected = turn-selected g.H.GoalHandler.meaning c.args.mode c.args.search.now.graph c.each.search.graph c.select.new.search.graph c.args.search.now.cache c.each.search.cache c.select.new.search.cache
          c.args.search.now.cx c.each.search.cx c.select.new.search.cx c.args.table.now c.each.table c.select.new.table c.args.self.now.obligations.items c.each.self.obligations.items
          c.each.index c.index_mut-obligation.result.now c.select.new.self c.requires.goals c.each.invariant.selected c.each.invariant.again (omega (arith, c.each-test.true, c.each.invariant.as_many)) c.index_mut-obligation.ensures.value
          c.select.ensures.asked c.select.ensures.stands c.select.ensures.covers;
      narrowed = elim c.match-branch-2.branch [
        | in-Narrowed w ↦ λ _. let done : c.select.result ≡ Ok step.Narrowed = search rules in turn-falls g.H.GoalHandler.meaning c.args.mode c.args.search.now.graph c.each.search.graph c.select.new.search.graph c.args.search.now.cache c.each.search.cache c.select.new.search.cache
            c.args.search.now.cx c.each.search.cx c.select.new.search.cx c.args.table.now c.each.table c.select.new.table c.args.self.now.obligations.items c.each.self.obligations.items
            c.each.index c.index_mut-obligation.result.now c.select.new.self c.requires.goals c.each.invariant.selected c.each.invariant.again (omega (arith, c.each-test.true, c.each.invariant.as_many)) c.index_mut-obligation.ensures.value
            c.select.ensures.asked c.select.ensures.stands (c.select.ensures.narrowed done)
        | in-Quiet w ↦ λ e. turn-fell g.H.GoalHandler.meaning c.args.mode c.args.search.now.graph c.each.search.graph c.select.new.search.graph c.args.search.now.cache c.each.search.cache c.select.new.search.cache
            c.args.search.now.cx c.each.search.cx c.select.new.search.cx c.args.table.now c.each.table c.select.new.table c.args.self.now.obligations.items c.each.self.obligations.items
            c.each.index c.index_mut-obligation.result.now c.select.new.self c.requires.goals c.each.invariant.selected c.each.invariant.again (omega (arith, c.each-test.true, c.each.invariant.as_many)) c.index_mut-obligation.ensures.value
            c.select.ensures.asked c.select.ensures.stands (c.each.invariant.narrowed (sym w.has_narrowed-is ∙ e))
      ];
      settled = elim c.match-branch-2.branch [
        | in-Narrowed w ↦ let done : c.select.result ≡ Ok step.Narrowed = search rules in turn-narrowed g.H.GoalHandler.meaning c.args.mode c.args.search.now.graph c.each.search.graph c.select.new.search.graph c.args.search.now.cache c.each.search.cache c.select.new.search.cache
            c.args.search.now.cx c.each.search.cx c.select.new.search.cx c.args.table.now c.each.table c.select.new.table c.args.self.now.obligations.items c.each.self.obligations.items
            c.each.index c.index_mut-obligation.result.now c.select.new.self c.requires.goals c.each.invariant.selected c.each.invariant.again (omega (arith, c.each-test.true, c.each.invariant.as_many)) c.index_mut-obligation.ensures.value
            c.select.ensures.asked c.select.ensures.stands c.each.invariant.settled (c.select.ensures.narrowed done)
        | in-Quiet w ↦ let done : c.select.result ≡ Ok step.Quiet = search rules in turn-settled g.H.GoalHandler.meaning c.args.mode c.args.search.now.graph c.each.search.graph c.select.new.search.graph c.args.search.now.cache c.each.search.cache c.select.new.search.cache
            c.args.search.now.cx c.each.search.cx c.select.new.search.cx c.args.table.now c.each.table c.select.new.table c.args.self.now.obligations.items c.each.self.obligations.items
            c.each.index c.index_mut-obligation.result.now c.select.new.self c.requires.goals c.each.invariant.selected c.each.invariant.again (omega (arith, c.each-test.true, c.each.invariant.as_many)) c.index_mut-obligation.ensures.value
            c.select.ensures.asked c.select.ensures.stands c.each.invariant.settled (c.select.ensures.quiet done)
      ];
      quiet = elim c.match-branch-2.branch [
        | in-Narrowed w ↦ λ e. absurd (true≢false (sym w.has_narrowed-is ∙ e))
        | in-Quiet w ↦ λ e. let done : c.select.result ≡ Ok step.Quiet = search rules in turn-same g.H.GoalHandler.meaning c.args.mode c.args.search.now.graph c.each.search.graph c.select.new.search.graph c.args.search.now.cache c.each.search.cache c.select.new.search.cache
            c.args.search.now.cx c.each.search.cx c.select.new.search.cx c.args.table.now c.each.table c.select.new.table c.args.self.now.obligations.items c.each.self.obligations.items
            c.each.index c.index_mut-obligation.result.now c.select.new.self c.requires.goals c.each.invariant.selected c.each.invariant.again (omega (arith, c.each-test.true, c.each.invariant.as_many)) c.index_mut-obligation.ensures.value
            c.select.ensures.asked c.select.ensures.stands (c.each.invariant.quiet (sym w.has_narrowed-is ∙ e)) (c.select.ensures.same done)
      ];
      frames = turn-frames g.H.GoalHandler.meaning c.args.mode c.args.search.now.graph c.each.search.graph c.select.new.search.graph c.args.search.now.cache c.each.search.cache c.select.new.search.cache
          c.args.search.now.cx c.each.search.cx c.select.new.search.cx c.args.table.now c.each.table c.select.new.table c.args.self.now.obligations.items c.each.self.obligations.items
          c.each.index c.index_mut-obligation.result.now c.select.new.self c.requires.goals c.each.invariant.selected c.each.invariant.again (omega (arith, c.each-test.true, c.each.invariant.as_many)) c.index_mut-obligation.ensures.value
          c.select.ensures.asked c.select.ensures.stands c.each.invariant.frames c.select.ensures.frames;
      limit = c.each.invariant.limit;
      as_many = length-set c.each.self.obligations.items c.each.index c.select.new.self ∙ c.each.invariant.as_many;
    }

pub returns-in_err-select-clause-again : goal.returns-in_err-select-clause-again
returns-in_err-select-clause-again g c = turn-again g.H.GoalHandler.meaning c.args.mode c.args.search.now.graph c.each.search.graph c.select.new.search.graph c.args.search.now.cache c.each.search.cache c.select.new.search.cache
    c.args.search.now.cx c.each.search.cx c.select.new.search.cx c.args.table.now c.each.table c.select.new.table c.args.self.now.obligations.items c.each.self.obligations.items
    c.each.index c.index_mut-obligation.result.now c.select.new.self c.requires.goals c.each.invariant.selected c.each.invariant.again (omega (arith, c.each-test.true, c.each.invariant.as_many)) c.index_mut-obligation.ensures.value
    c.select.ensures.asked c.select.ensures.stands c.select.ensures.again

pub returns-in_err-select-clause-selected : goal.returns-in_err-select-clause-selected
returns-in_err-select-clause-selected g c = turn-selected g.H.GoalHandler.meaning c.args.mode c.args.search.now.graph c.each.search.graph c.select.new.search.graph c.args.search.now.cache c.each.search.cache c.select.new.search.cache
    c.args.search.now.cx c.each.search.cx c.select.new.search.cx c.args.table.now c.each.table c.select.new.table c.args.self.now.obligations.items c.each.self.obligations.items
    c.each.index c.index_mut-obligation.result.now c.select.new.self c.requires.goals c.each.invariant.selected c.each.invariant.again (omega (arith, c.each-test.true, c.each.invariant.as_many)) c.index_mut-obligation.ensures.value
    c.select.ensures.asked c.select.ensures.stands c.select.ensures.covers

pub returns-in-Refused-clause-again : goal.returns-in-Refused-clause-again
returns-in-Refused-clause-again g c = turn-again g.H.GoalHandler.meaning c.args.mode c.args.search.now.graph c.each.search.graph c.select.new.search.graph c.args.search.now.cache c.each.search.cache c.select.new.search.cache
    c.args.search.now.cx c.each.search.cx c.select.new.search.cx c.args.table.now c.each.table c.select.new.table c.args.self.now.obligations.items c.each.self.obligations.items
    c.each.index c.index_mut-obligation.result.now c.select.new.self c.requires.goals c.each.invariant.selected c.each.invariant.again (omega (arith, c.each-test.true, c.each.invariant.as_many)) c.index_mut-obligation.ensures.value
    c.select.ensures.asked c.select.ensures.stands c.select.ensures.again

pub returns-in-Refused-clause-selected : goal.returns-in-Refused-clause-selected
returns-in-Refused-clause-selected g c = turn-selected g.H.GoalHandler.meaning c.args.mode c.args.search.now.graph c.each.search.graph c.select.new.search.graph c.args.search.now.cache c.each.search.cache c.select.new.search.cache
    c.args.search.now.cx c.each.search.cx c.select.new.search.cx c.args.table.now c.each.table c.select.new.table c.args.self.now.obligations.items c.each.self.obligations.items
    c.each.index c.index_mut-obligation.result.now c.select.new.self c.requires.goals c.each.invariant.selected c.each.invariant.again (omega (arith, c.each-test.true, c.each.invariant.as_many)) c.index_mut-obligation.ensures.value
    c.select.ensures.asked c.select.ensures.stands c.select.ensures.covers

pub returns-in-Refused-clause-refused : goal.returns-in-Refused-clause-refused
returns-in-Refused-clause-refused g c = λ id e.
    let done : c.select.result ≡ Ok step.Refused = search rules in
    turn-refused g.H.GoalHandler.meaning c.args.mode c.args.search.now.graph c.each.search.graph c.select.new.search.graph c.args.search.now.cache c.each.search.cache c.select.new.search.cache
    c.args.search.now.cx c.each.search.cx c.select.new.search.cx c.args.table.now c.each.table c.select.new.table c.args.self.now.obligations.items c.each.self.obligations.items
    c.each.index c.index_mut-obligation.result.now c.select.new.self c.requires.goals c.each.invariant.selected c.each.invariant.again (omega (arith, c.each-test.true, c.each.invariant.as_many)) c.index_mut-obligation.ensures.value
    c.select.ensures.asked c.select.ensures.stands (c.select.ensures.refused done) id (number-same c.each.index id e)

pub returns-else-has_narrowed-clause-quiet : goal.returns-else-has_narrowed-clause-quiet
returns-else-has_narrowed-clause-quiet g c = λ _.
    let ps = c.each.self.obligations.items in
    let all : length ps ≤ c.each.index = omega (arith, c.each-test.false, c.each.invariant.as_many) in
    let Seen : Obligation → Type 0 = λ p. ObligationIsSettled p ⊎ GoalStaysOpen g.H.GoalHandler.meaning c.args.mode c.args.search.now.graph c.args.search.now.cx c.args.table.now c.args.self.now.obligations.items p.goal in
    record {
      same = c.each.invariant.quiet c.if-has_narrowed.false;
      each = All-from_all_within Seen ps (AllWithin-upto Seen ps 0 c.each.index (length ps) all c.each.invariant.settled);
    }

pub returns-in_err-select-clause-frames : goal.returns-in_err-select-clause-frames
returns-in_err-select-clause-frames g c = turn-frames-all g.H.GoalHandler.meaning c.args.mode c.args.search.now.graph c.each.search.graph c.select.new.search.graph c.args.search.now.cache c.each.search.cache c.select.new.search.cache
    c.args.search.now.cx c.each.search.cx c.select.new.search.cx c.args.table.now c.each.table c.select.new.table c.args.self.now.obligations.items c.each.self.obligations.items
    c.each.index c.index_mut-obligation.result.now c.select.new.self c.requires.goals c.each.invariant.selected c.each.invariant.again (omega (arith, c.each-test.true, c.each.invariant.as_many)) c.index_mut-obligation.ensures.value
    c.select.ensures.asked c.select.ensures.stands c.each.invariant.frames c.select.ensures.frames

pub returns-in-Refused-clause-frames : goal.returns-in-Refused-clause-frames
returns-in-Refused-clause-frames g c = turn-frames-all g.H.GoalHandler.meaning c.args.mode c.args.search.now.graph c.each.search.graph c.select.new.search.graph c.args.search.now.cache c.each.search.cache c.select.new.search.cache
    c.args.search.now.cx c.each.search.cx c.select.new.search.cx c.args.table.now c.each.table c.select.new.table c.args.self.now.obligations.items c.each.self.obligations.items
    c.each.index c.index_mut-obligation.result.now c.select.new.self c.requires.goals c.each.invariant.selected c.each.invariant.again (omega (arith, c.each-test.true, c.each.invariant.as_many)) c.index_mut-obligation.ensures.value
    c.select.ensures.asked c.select.ensures.stands c.each.invariant.frames c.select.ensures.frames

pub returns-then-has_narrowed-clause-frames : goal.returns-then-has_narrowed-clause-frames
returns-then-has_narrowed-clause-frames g c = start-within g.H.GoalHandler.meaning c.args.mode c.args.search.now.graph c.each.search.graph c.args.search.now.cache c.each.search.cache c.args.search.now.cx c.each.search.cx c.args.table.now c.each.table
    c.args.self.now.obligations.items c.each.self.obligations.items c.requires.goals c.each.invariant.selected c.each.index (length c.args.self.now.obligations.items)
    (omega (arith, c.each.auto.index-end, c.len-index-end.ensures, c.args.self.now.obligations.ok.0)) c.each.invariant.frames

pub returns-else-has_narrowed-clause-frames : goal.returns-else-has_narrowed-clause-frames
returns-else-has_narrowed-clause-frames g c = start-within g.H.GoalHandler.meaning c.args.mode c.args.search.now.graph c.each.search.graph c.args.search.now.cache c.each.search.cache c.args.search.now.cx c.each.search.cx c.args.table.now c.each.table
    c.args.self.now.obligations.items c.each.self.obligations.items c.requires.goals c.each.invariant.selected c.each.index (length c.args.self.now.obligations.items)
    (omega (arith, c.each.auto.index-end, c.len-index-end.ensures, c.args.self.now.obligations.ok.0)) c.each.invariant.frames

pub returns-then-is_spent-clause-stopped : goal.returns-then-is_spent-clause-stopped
returns-then-is_spent-clause-stopped g c = λ _. subst (λ n. IsReached c.args.until n) c.frames.ensures (c.is_spent.ensures c.if-is_spent.true)

pub returns-then-is_spent-clause-frames : goal.returns-then-is_spent-clause-frames
returns-then-is_spent-clause-frames g c = start-within g.H.GoalHandler.meaning c.args.mode c.args.search.now.graph c.each.search.graph c.args.search.now.cache c.each.search.cache c.args.search.now.cx c.each.search.cx c.args.table.now c.each.table
    c.args.self.now.obligations.items c.each.self.obligations.items c.requires.goals c.each.invariant.selected c.each.index (length c.args.self.now.obligations.items)
    (omega (arith, c.each.auto.index-end, c.len-index-end.ensures, c.args.self.now.obligations.ok.0)) c.each.invariant.frames
