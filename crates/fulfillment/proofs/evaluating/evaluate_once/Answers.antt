use Rattle.std.proofs.Common.{◌∙◌, sym, inl, inr, ap, Err}
use Rattle.infer_table.specs.Unification.{table_trees}
use Rattle.infer_table.proofs.Numbers.{goal-held-later}
use Rattle.std.proofs.Math.Nat.{le_refl}
use Rattle.std.proofs.lemmas.Result.{IfErr-weaker}
use Rattle.solver_graph.proofs.WithoutCanonical.{evaluations-keep-out}
use Rattle.solver_graph.specs.Roots.{goal_in}
use Rattle.solver_graph.specs.declared.outcome.RootError.TheVariants as Root
use Rattle.solver_graph.proofs.Settled.{not-definite-changed, not-definite-unsure, ok-same, narrows-refused, clean-refused, proved-once}
use Rattle.solver_graph.proofs.LeftTables.{left-once, left-refused}
use Rattle.fulfillment.proofs.evaluating.evaluate_once.Goals as goal

pub returns-in-Ok-clause-again : goal.returns-in-Ok-clause-again
returns-in-Ok-clause-again g c =
    let e = c.evaluate.ensures.rests in
    record {
      empty = e.empty;
      cache = e.cache;
      ready = e.ready;
      table = e.table;
      goal = goal-held-later c.args.search.now.cx.interner.entries c.evaluate.new.self.cx.interner.entries e.entries c.args.goal.now c.requires.goal;
    }

pub returns-in-Ok-clause-asked : goal.returns-in-Ok-clause-asked
returns-in-Ok-clause-asked g c =
    let e = c.evaluate.ensures.rests in
    let a = c.in-Ok.ensures.says.answer in
    record {
      depth = e.depth;
      results = e.results;
      consistent = e.consistent;
      keeps = e.keeps;
      entries = e.entries;
      grows = e.grows;
      narrows = c.in-Ok.ensures.says.narrows;
      clean = λ h. evaluations-keep-out (table_trees c.args.search.now.cx.interner.entries c.args.table.now) (table_trees c.evaluate.new.self.cx.interner.entries c.evaluate.new.table) (goal_in c.args.search.now.cx.interner.entries c.args.table.now c.args.goal.now) a.0 h a.3;
    }

pub returns-in-Err-clause-again : goal.returns-in-Err-clause-again
returns-in-Err-clause-again g c =
    let e = c.evaluate.ensures.rests in
    record {
      empty = e.empty;
      cache = e.cache;
      ready = e.ready;
      table = e.table;
      goal = goal-held-later c.args.search.now.cx.interner.entries c.evaluate.new.self.cx.interner.entries e.entries c.args.goal.now c.requires.goal;
    }

pub returns-in-Err-clause-asked : goal.returns-in-Err-clause-asked
returns-in-Err-clause-asked g c =
    let e = c.evaluate.ensures.rests in
    record {
      depth = e.depth;
      results = e.results;
      consistent = e.consistent;
      keeps = e.keeps;
      entries = e.entries;
      grows = e.grows;
      narrows = narrows-refused c.args.search.now.cx.interner.entries c.evaluate.new.self.cx.interner.entries c.args.table.now c.evaluate.new.table e.entries c.requires.table c.in-Err.ensures.refusal.unchanged;
      clean = clean-refused c.args.search.now.cx.interner.entries c.evaluate.new.self.cx.interner.entries c.args.table.now c.evaluate.new.table e.entries c.requires.table c.in-Err.ensures.refusal.unchanged;
    }

pub returns-in-Ok-clause-holds : goal.returns-in-Ok-clause-holds
returns-in-Ok-clause-holds g c = λ e.
    let h = c.read.ensures.holds (ok-same e) in
    proved-once g.H.GoalHandler.meaning (g.H.GoalHandler.meaning.world c.args.search.now.cx.handler c.args.search.now.cx.interner.entries) c.args.search.now.cx c.evaluate.new.self.cx c.args.table.now c.evaluate.new.table c.args.goal.now
    c.in-Ok.ensures.says.narrows (c.in-Ok.ensures.yes h.0 h.1)

pub returns-in-Ok-clause-narrows : goal.returns-in-Ok-clause-narrows
returns-in-Ok-clause-narrows g c = λ e.
    let a = c.in-Ok.ensures.says.answer in
    inr (a.0, a.1.found, not-definite-changed a.0 (sym a.2.has_changed ∙ c.read.ensures.narrows (ok-same e)))

pub returns-in-Ok-clause-unsettled : goal.returns-in-Ok-clause-unsettled
returns-in-Ok-clause-unsettled g c = λ cause e.
    let a = c.in-Ok.ensures.says.answer in
    inr (a.0, a.1.found, not-definite-unsure a.0 (λ q. c.read.ensures.unsettled cause (ok-same e) (a.2.certainty ∙ q)))

pub returns-in-Err-clause-unsettled : goal.returns-in-Err-clause-unsettled
returns-in-Err-clause-unsettled g c = λ cause e. inl (c.in-Err.ensures.faults.not_plain (ap Err (c.read_error.ensures.unsettled cause e)))

pub returns-in-Err-clause-refused : goal.returns-in-Err-clause-refused
returns-in-Err-clause-refused g c = λ e.
    let a = c.in-Err.ensures.refusal.answer (ap Err (c.read_error.ensures.refused e)) in
    (a.0, a.1.found, a.2, c.in-Err.ensures.refusal.no_proof (ap Err (c.read_error.ensures.refused e)))

pub returns-in-Err-clause-full : goal.returns-in-Err-clause-full
returns-in-Err-clause-full g c =
    IfErr-weaker c.read_error.result _ _ (λ f is q. c.in-Err.ensures.faults.full (is ∙ ap Root.Fault q)) c.read_error.ensures.fault

pub returns-in-Ok-clause-covers : goal.returns-in-Ok-clause-covers
returns-in-Ok-clause-covers g c =
    let a = c.in-Ok.ensures.says.answer in
    left-once g.H.GoalHandler.meaning c.args.mode c.args.search.now.cx c.evaluate.new.self.cx c.args.table.now c.evaluate.new.table c.args.goal.now a.0 a.3 c.in-Ok.ensures.says.covers

pub returns-in-Err-clause-covers : goal.returns-in-Err-clause-covers
returns-in-Err-clause-covers g c =
    left-refused g.H.GoalHandler.meaning c.args.mode c.args.search.now.cx c.evaluate.new.self.cx c.args.table.now c.evaluate.new.table c.args.goal.now c.evaluate.ensures.rests.entries c.requires.table
    c.in-Err.ensures.refusal.unchanged

pub returns-in-Ok-clause-frames : goal.returns-in-Ok-clause-frames
returns-in-Ok-clause-frames g c = c.evaluate.ensures.costs.frames _ (le_refl _)

pub returns-in-Err-clause-frames : goal.returns-in-Err-clause-frames
returns-in-Err-clause-frames g c = c.evaluate.ensures.costs.frames _ (le_refl _)
