use Rattle.std.proofs.Common.{rules, ◌≡◌, refl, ap, ◌∙◌, Option, Some, Result, Ok}
use Rattle.type_terms.specs.declared.Fault.{Fault}
use Rattle.std.proofs.Math.Nat.{le_refl}
use Rattle.fulfillment.specs.Leaving.{none}
use Rattle.fulfillment.specs.Obligations.{total_left}
use Rattle.fulfillment.specs.Selecting.{GoalStaysOpen, SomeStaysOpen}
use Rattle.fulfillment.specs.declared.obligation.Obligation.{Obligation}
use Rattle.fulfillment.specs.declared.obligation.ObligationId.{ObligationId}
use Rattle.fulfillment.specs.declared.selecting.Round.TheVariants as round
use Rattle.fulfillment.specs.declared.selecting.Selected.{Selected}
use Rattle.fulfillment.specs.declared.selecting.Selected.TheVariants as selected
use Rattle.fulfillment.proofs.Selections.{selected-nothing, selected-further, refused-later, open-later, pending-because, round-frames, last-frames}
use Rattle.fulfillment.proofs.selecting.FulfillmentCtxt.select_within.Goals as goal

number-same : (x id : ObligationId) → ◌≡◌ {A = Result (Option Selected) Fault} (Ok (Some (selected.Refused x))) (Ok (Some (selected.Refused id))) → x ≡ id
number-same x id e = cc

some-same : {E : Type 0} (x y : Selected) → ◌≡◌ {A = Result (Option Selected) E} (Ok (Some x)) (Ok (Some y)) → x ≡ y
some-same x y e = cc

pub rounds-init : goal.rounds-init
rounds-init g c = record {
  again = c.requires;
  selected = selected-nothing g.H.GoalHandler.meaning c.args.mode c.args.search.now.graph c.args.search.now.cache c.args.search.now.cx c.args.table.now c.args.self.now.obligations.items;
  frames = none (le_refl c.args.search.now.graph.frames);
  limit = refl;
}

pub rounds-preserved : goal.rounds-preserved
rounds-preserved g c = record {
  again = c.select_in_turn.ensures.again;
  selected = selected-further g.H.GoalHandler.meaning c.args.mode c.args.search.now.graph c.rounds.search.graph c.args.search.now.cache c.rounds.search.cache c.args.search.now.cx c.rounds.search.cx c.args.table.now c.rounds.table
      c.args.self.now.obligations.items c.rounds.self.obligations.items c.requires.goals c.rounds.invariant.selected c.select_in_turn.new.search.graph c.select_in_turn.new.search.cache c.select_in_turn.new.search.cx c.select_in_turn.new.table c.select_in_turn.new.self.obligations.items c.select_in_turn.ensures.selected;
  frames =
      let done : c.select_in_turn.result ≡ Ok round.Narrowed = search rules in
      round-frames g.H.GoalHandler.meaning c.args.mode c.args.search.now.graph c.rounds.search.graph c.args.search.now.cache c.rounds.search.cache c.args.search.now.cx c.rounds.search.cx c.args.table.now c.rounds.table
      c.args.self.now.obligations.items c.rounds.self.obligations.items c.requires.goals c.rounds.invariant.selected c.select_in_turn.new.search.graph (total_left c.select_in_turn.new.self.obligations.items) (c.select_in_turn.ensures.narrowed done) c.rounds.invariant.frames c.select_in_turn.ensures.frames;
  limit = c.select_in_turn.ensures.limit ∙ c.rounds.invariant.limit;
}

pub rounds-smaller : goal.rounds-smaller
rounds-smaller g c = let done : c.select_in_turn.result ≡ Ok round.Narrowed = search rules in c.select_in_turn.ensures.narrowed done

pub returns-in_err-id-clause-selected : goal.returns-in_err-id-clause-selected
returns-in_err-id-clause-selected g c = selected-further g.H.GoalHandler.meaning c.args.mode c.args.search.now.graph c.rounds.search.graph c.args.search.now.cache c.rounds.search.cache c.args.search.now.cx c.rounds.search.cx c.args.table.now c.rounds.table
    c.args.self.now.obligations.items c.rounds.self.obligations.items c.requires.goals c.rounds.invariant.selected c.select_in_turn.new.search.graph c.select_in_turn.new.search.cache c.select_in_turn.new.search.cx c.select_in_turn.new.table c.select_in_turn.new.self.obligations.items c.select_in_turn.ensures.selected

pub returns-in-Refused-clause-selected : goal.returns-in-Refused-clause-selected
returns-in-Refused-clause-selected g c = selected-further g.H.GoalHandler.meaning c.args.mode c.args.search.now.graph c.rounds.search.graph c.args.search.now.cache c.rounds.search.cache c.args.search.now.cx c.rounds.search.cx c.args.table.now c.rounds.table
    c.args.self.now.obligations.items c.rounds.self.obligations.items c.requires.goals c.rounds.invariant.selected c.select_in_turn.new.search.graph c.select_in_turn.new.search.cache c.select_in_turn.new.search.cx c.select_in_turn.new.table c.select_in_turn.new.self.obligations.items c.select_in_turn.ensures.selected

pub returns-in-Refused-clause-refused : goal.returns-in-Refused-clause-refused
returns-in-Refused-clause-refused g c = λ id e.
    let done : c.select_in_turn.result ≡ Ok (round.Refused c.in-Refused.id) = search rules in
    refused-later g.H.GoalHandler.meaning c.args.mode c.args.search.now.graph c.rounds.search.graph c.args.search.now.cache c.rounds.search.cache c.args.search.now.cx c.rounds.search.cx c.args.table.now c.rounds.table
    c.args.self.now.obligations.items c.rounds.self.obligations.items c.requires.goals c.rounds.invariant.selected id (c.select_in_turn.ensures.refused id (done ∙ ap (λ x. Ok (round.Refused x)) (number-same c.in-Refused.id id e)))

pub returns-in-Quiet-clause-selected : goal.returns-in-Quiet-clause-selected
returns-in-Quiet-clause-selected g c = selected-further g.H.GoalHandler.meaning c.args.mode c.args.search.now.graph c.rounds.search.graph c.args.search.now.cache c.rounds.search.cache c.args.search.now.cx c.rounds.search.cx c.args.table.now c.rounds.table
    c.args.self.now.obligations.items c.rounds.self.obligations.items c.requires.goals c.rounds.invariant.selected c.select_in_turn.new.search.graph c.select_in_turn.new.search.cache c.select_in_turn.new.search.cx c.select_in_turn.new.table c.select_in_turn.new.self.obligations.items c.select_in_turn.ensures.selected

pub returns-in-Quiet-clause-all_done : goal.returns-in-Quiet-clause-all_done
returns-in-Quiet-clause-all_done g c = λ e. c.outcome.ensures.done (some-same c.outcome.result selected.AllDone e)

pub returns-in-Quiet-clause-refused : goal.returns-in-Quiet-clause-refused
returns-in-Quiet-clause-refused g c = λ id e. absurd (c.outcome.ensures.not_refused id (some-same c.outcome.result (selected.Refused id) e))

pub returns-in-Quiet-clause-pending : goal.returns-in-Quiet-clause-pending
returns-in-Quiet-clause-pending g c = λ e.
    let done : c.select_in_turn.result ≡ Ok round.Quiet = search rules in
    record {
      last_graph = c.rounds.search.graph;
      last_results = c.rounds.search.cache;
      last_context = c.rounds.search.cx;
      last_table = c.rounds.table;
      last_obligations = c.rounds.self.obligations.items;
      earlier = c.rounds.invariant.selected;
      last = c.select_in_turn.ensures.selected;
      quiet = c.select_in_turn.ensures.quiet done;
    }

pub returns-in-Quiet-clause-unsettled : goal.returns-in-Quiet-clause-unsettled
returns-in-Quiet-clause-unsettled g c = λ e.
    let done : c.select_in_turn.result ≡ Ok round.Quiet = search rules in
    let all = selected-further g.H.GoalHandler.meaning c.args.mode c.args.search.now.graph c.rounds.search.graph c.args.search.now.cache c.rounds.search.cache c.args.search.now.cx c.rounds.search.cx c.args.table.now c.rounds.table
    c.args.self.now.obligations.items c.rounds.self.obligations.items c.requires.goals c.rounds.invariant.selected c.select_in_turn.new.search.graph c.select_in_turn.new.search.cache c.select_in_turn.new.search.cx c.select_in_turn.new.table c.select_in_turn.new.self.obligations.items c.select_in_turn.ensures.selected in
    pending-because (SomeStaysOpen g.H.GoalHandler.meaning c.args.mode c.args.search.now.graph c.args.search.now.cx c.args.table.now c.args.self.now.obligations.items)
    c.args.self.now.obligations.items c.select_in_turn.new.self.obligations.items all.kept all.unsettled
    (λ (p : Obligation). GoalStaysOpen g.H.GoalHandler.meaning c.args.mode c.rounds.search.graph c.rounds.search.cx c.rounds.table c.rounds.self.obligations.items p.goal)
    (λ p x. open-later g.H.GoalHandler.meaning c.args.mode c.args.search.now.graph c.rounds.search.graph c.args.search.now.cache c.rounds.search.cache c.args.search.now.cx c.rounds.search.cx c.args.table.now c.rounds.table
    c.args.self.now.obligations.items c.rounds.self.obligations.items c.requires.goals c.rounds.invariant.selected x.0)
    (c.select_in_turn.ensures.quiet done).each (c.outcome.ensures.pending (some-same c.outcome.result selected.Pending e))

pub returns-in_err-id-clause-frames : goal.returns-in_err-id-clause-frames
returns-in_err-id-clause-frames g c = last-frames g.H.GoalHandler.meaning c.args.mode c.args.search.now.graph c.rounds.search.graph c.args.search.now.cache c.rounds.search.cache c.args.search.now.cx c.rounds.search.cx c.args.table.now c.rounds.table
    c.args.self.now.obligations.items c.rounds.self.obligations.items c.requires.goals c.rounds.invariant.selected c.select_in_turn.new.search.graph c.rounds.invariant.frames c.select_in_turn.ensures.frames

pub returns-in-Refused-clause-frames : goal.returns-in-Refused-clause-frames
returns-in-Refused-clause-frames g c = last-frames g.H.GoalHandler.meaning c.args.mode c.args.search.now.graph c.rounds.search.graph c.args.search.now.cache c.rounds.search.cache c.args.search.now.cx c.rounds.search.cx c.args.table.now c.rounds.table
    c.args.self.now.obligations.items c.rounds.self.obligations.items c.requires.goals c.rounds.invariant.selected c.select_in_turn.new.search.graph c.rounds.invariant.frames c.select_in_turn.ensures.frames

pub returns-in-Quiet-clause-frames : goal.returns-in-Quiet-clause-frames
returns-in-Quiet-clause-frames g c = last-frames g.H.GoalHandler.meaning c.args.mode c.args.search.now.graph c.rounds.search.graph c.args.search.now.cache c.rounds.search.cache c.args.search.now.cx c.rounds.search.cx c.args.table.now c.rounds.table
    c.args.self.now.obligations.items c.rounds.self.obligations.items c.requires.goals c.rounds.invariant.selected c.select_in_turn.new.search.graph c.rounds.invariant.frames c.select_in_turn.ensures.frames

pub returns-in-Stopped-clause-selected : goal.returns-in-Stopped-clause-selected
returns-in-Stopped-clause-selected g c = selected-further g.H.GoalHandler.meaning c.args.mode c.args.search.now.graph c.rounds.search.graph c.args.search.now.cache c.rounds.search.cache c.args.search.now.cx c.rounds.search.cx c.args.table.now c.rounds.table
    c.args.self.now.obligations.items c.rounds.self.obligations.items c.requires.goals c.rounds.invariant.selected c.select_in_turn.new.search.graph c.select_in_turn.new.search.cache c.select_in_turn.new.search.cx c.select_in_turn.new.table c.select_in_turn.new.self.obligations.items c.select_in_turn.ensures.selected

pub returns-in-Stopped-clause-frames : goal.returns-in-Stopped-clause-frames
returns-in-Stopped-clause-frames g c = last-frames g.H.GoalHandler.meaning c.args.mode c.args.search.now.graph c.rounds.search.graph c.args.search.now.cache c.rounds.search.cache c.args.search.now.cx c.rounds.search.cx c.args.table.now c.rounds.table
    c.args.self.now.obligations.items c.rounds.self.obligations.items c.requires.goals c.rounds.invariant.selected c.select_in_turn.new.search.graph c.rounds.invariant.frames c.select_in_turn.ensures.frames

pub returns-in-Stopped-clause-stopped : goal.returns-in-Stopped-clause-stopped
returns-in-Stopped-clause-stopped g c = λ _. let done : c.select_in_turn.result ≡ Ok round.Stopped = search rules in c.select_in_turn.ensures.stopped done
