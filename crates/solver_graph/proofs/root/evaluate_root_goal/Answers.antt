use Rattle.std.proofs.Common.{rules, ◌≡◌, refl, sym, ◌∙◌, ap, subst, Some, None, Result, Err}
use Rattle.infer_table.specs.Canonical.{goal_leaves}
use Rattle.infer_table.specs.Content.{variables_of}
use Rattle.infer_table.specs.Growth.{grows-refl}
use Rattle.infer_table.specs.Kept.{content-kept, ready-later}
use Rattle.infer_table.specs.Solutions.{Solves}
use Rattle.infer_table.specs.declared.certainty.EqError.{EqError}
use Rattle.infer_table.specs.declared.certainty.EqError.TheVariants as Eq
use Rattle.infer_table.specs.Values.{values_of}
use Rattle.infer_table.proofs.Numbers.{goal-held-later, goal-trees-later}
use Rattle.infer_table.specs.Covers.{IsOfKnown}
use Rattle.infer_table.specs.Responses.{answer_trees}
use Rattle.goal_evaluator.specs.StepReadings.{result_read}
use Rattle.solver_graph.specs.Searching.{solver_meaning, of_term}
use Rattle.solver_graph.proofs.Growing.{later, keeps, limits-further}
use Rattle.solver_graph.specs.Errors.{error_of_equation}
use Rattle.solver_graph.specs.Evaluations.{asked_in}
use Rattle.solver_graph.specs.declared.outcome.GoalEvaluation.{GoalEvaluation}
use Rattle.solver_graph.specs.declared.outcome.RootError.{RootError}
use Rattle.solver_graph.specs.declared.outcome.RootError.TheVariants as Root
use Rattle.solver_graph.specs.Roots.{goal_in}
use Rattle.solver_graph.proofs.Answers.{values-are}
use Rattle.solver_graph.proofs.Caches.{justified-later}
use Rattle.solver_graph.proofs.Later.{left-later, values-later}
use Rattle.solver_graph.specs.Contexts.{goal_of}
use Rattle.solver_graph.specs.Shortages.{RootFullAtLimit, interner}
use Rattle.solver_graph.proofs.Shortages.{equation-full, handed, root-fault}
use Rattle.solver_graph.proofs.Results.{no-frames, no-cost, no-limits, frames-before, free-before, limits-before, result-before, result-later}
use Rattle.solver_graph.proofs.Rooted.{definite, keeps-two, entries-two, keeps-three, right-at, limits-two}
use Rattle.solver_graph.proofs.Searched.{root-proof, root-agrees}
use Rattle.solver_graph.proofs.root.evaluate_root_goal.Goals as goal

pub search-requires-clause-cache : goal.search-requires-clause-cache
search-requires-clause-cache g c =
    justified-later (solver_meaning g.H.GoalHandler.meaning) c.args.cx.now c.ask.new.cx c.args.cache.now (keeps g.H.GoalHandler.meaning g.met.H.GoalHandler.lawful.world_kept c.args.cx.now c.ask.new.cx c.requires.ready c.ask.ensures.advances) c.requires.cache

pub apply_answer-applied-requires-clause-values : goal.apply_answer-applied-requires-clause-values
apply_answer-applied-requires-clause-values g c =
    let d : c.deref.result.now ≡ c.in_ok-asked.asked.values.items = search rules in
    (values-later c.ask.new.cx.interner.entries c.search.new.cx.interner.entries (λ i e h. c.search.ensures.keeps.held (of_term i e) h) c.in_ok-asked.asked.values.items c.deref.result.now d (goal_leaves (goal_in c.args.cx.now.interner.entries c.args.table.now c.args.goal.now)) c.in_ok-asked.ensures.args c.in_ok-asked.ensures.leaves c.in_ok-asked.ensures.values).args

pub apply_answer-applied-requires-clause-leaves : goal.apply_answer-applied-requires-clause-leaves
apply_answer-applied-requires-clause-leaves g c =
    let d : c.deref.result.now ≡ c.in_ok-asked.asked.values.items = search rules in
    (values-later c.ask.new.cx.interner.entries c.search.new.cx.interner.entries (λ i e h. c.search.ensures.keeps.held (of_term i e) h) c.in_ok-asked.asked.values.items c.deref.result.now d (goal_leaves (goal_in c.args.cx.now.interner.entries c.args.table.now c.args.goal.now)) c.in_ok-asked.ensures.args c.in_ok-asked.ensures.leaves c.in_ok-asked.ensures.values).leaves

pub apply_answer-applied-requires-clause-ready : goal.apply_answer-applied-requires-clause-ready
apply_answer-applied-requires-clause-ready g c =
    ready-later c.args.cx.now.interner.entries c.search.new.cx.interner.entries c.args.table.now (entries-two g.H.GoalHandler.meaning g.met.H.GoalHandler.lawful.world_kept c.args.cx.now c.ask.new.cx c.search.new.cx c.requires.ready c.ask.ensures.advances c.search.ensures.keeps) c.requires.table

-- the error says no solution only where the answer was refused
refused : (error : EqError) → error_of_equation error ≡ Root.NoSolution → error ≡ Eq.NoSolution
refused Eq.NoSolution e = refl
refused (Eq.Fault fault) e = absurd (cc)

no-conflict : (error : EqError) → error_of_equation error ≡ Root.Conflict → ⊥
no-conflict Eq.NoSolution e = cc
no-conflict (Eq.Fault fault) e = cc

err-is : (x y : RootError) → ◌≡◌ {A = Result GoalEvaluation RootError} (Err x) (Err y) → x ≡ y
err-is x y e = cc

pub returns-in_err-asked-clause-rests : goal.returns-in_err-asked-clause-rests
returns-in_err-asked-clause-rests g c = record {
  empty = search rules;
  depth = search rules;
  cache = justified-later (solver_meaning g.H.GoalHandler.meaning) c.args.cx.now c.ask.new.cx c.args.cache.now (keeps g.H.GoalHandler.meaning g.met.H.GoalHandler.lawful.world_kept c.args.cx.now c.ask.new.cx c.requires.ready c.ask.ensures.advances) c.requires.cache;
  consistent = search rules;
  results = search rules;
  ready = search rules;
  keeps = keeps g.H.GoalHandler.meaning g.met.H.GoalHandler.lawful.world_kept c.args.cx.now c.ask.new.cx c.requires.ready c.ask.ensures.advances;
  entries = search rules;
  limits = c.ask.ensures.advances.limits;
  table = search rules;
  grows = grows-refl c.args.table.now;
}

pub returns-in_err-asked-clause-costs : goal.returns-in_err-asked-clause-costs
returns-in_err-asked-clause-costs g c = record {
  frames = no-frames (solver_meaning g.H.GoalHandler.meaning) c.args.cx.now (asked_in c.args.mode c.args.cx.now.interner.entries c.args.table.now c.args.goal.now) c.args.graph.now;
  cached = no-cost (solver_meaning g.H.GoalHandler.meaning) c.args.cx.now (asked_in c.args.mode c.args.cx.now.interner.entries c.args.table.now c.args.goal.now) c.args.graph.now c.args.cache.now;
  limits = no-limits (solver_meaning g.H.GoalHandler.meaning) c.args.cx.now (asked_in c.args.mode c.args.cx.now.interner.entries c.args.table.now c.args.goal.now) c.args.graph.now;
}

pub returns-in_err-asked-clause-faults : goal.returns-in_err-asked-clause-faults
returns-in_err-asked-clause-faults g c = record {
  not_plain = search rules;
  conflict = search rules;
  full = handed (RootFullAtLimit c.ask.new.cx) c.from_residual.result c.from_residual.ensures.1 (root-fault c.in_err-asked.ensures.full);
}

pub returns-in_err-answer-clause-rests : goal.returns-in_err-answer-clause-rests
returns-in_err-answer-clause-rests g c = record {
  empty = search rules;
  depth = search rules;
  cache = search rules;
  consistent = search rules;
  results = search rules;
  ready = search rules;
  keeps = keeps-two g.H.GoalHandler.meaning g.met.H.GoalHandler.lawful.world_kept c.args.cx.now c.ask.new.cx c.search.new.cx c.requires.ready c.ask.ensures.advances c.search.ensures.keeps;
  entries = entries-two g.H.GoalHandler.meaning g.met.H.GoalHandler.lawful.world_kept c.args.cx.now c.ask.new.cx c.search.new.cx c.requires.ready c.ask.ensures.advances c.search.ensures.keeps;
  limits = limits-two g.H.GoalHandler.meaning g.met.H.GoalHandler.lawful.world_kept c.args.cx.now c.ask.new.cx c.search.new.cx c.requires.ready c.ask.ensures.advances c.search.ensures.keeps;
  table = ready-later c.args.cx.now.interner.entries c.search.new.cx.interner.entries c.args.table.now (entries-two g.H.GoalHandler.meaning g.met.H.GoalHandler.lawful.world_kept c.args.cx.now c.ask.new.cx c.search.new.cx c.requires.ready c.ask.ensures.advances c.search.ensures.keeps) c.requires.table;
  grows = grows-refl c.args.table.now;
}

pub returns-in_err-answer-clause-costs : goal.returns-in_err-answer-clause-costs
returns-in_err-answer-clause-costs g c = record {
  frames = frames-before (solver_meaning g.H.GoalHandler.meaning) c.args.cx.now c.ask.new.cx (keeps g.H.GoalHandler.meaning g.met.H.GoalHandler.lawful.world_kept c.args.cx.now c.ask.new.cx c.requires.ready c.ask.ensures.advances) (goal_of c.ask.new.cx c.in_ok-asked.asked.input) (asked_in c.args.mode c.args.cx.now.interner.entries c.args.table.now c.args.goal.now) c.in_ok-asked.ensures.input.1 c.args.graph.now c.search.new.graph c.search.ensures.frames;
  cached = free-before (solver_meaning g.H.GoalHandler.meaning) c.args.cx.now c.ask.new.cx (keeps g.H.GoalHandler.meaning g.met.H.GoalHandler.lawful.world_kept c.args.cx.now c.ask.new.cx c.requires.ready c.ask.ensures.advances) (goal_of c.ask.new.cx c.in_ok-asked.asked.input) (asked_in c.args.mode c.args.cx.now.interner.entries c.args.table.now c.args.goal.now) c.in_ok-asked.ensures.input.1 c.args.graph.now c.search.new.graph c.args.cache.now c.requires.cache c.search.new.cache c.search.ensures.cached;
  limits = limits-before (solver_meaning g.H.GoalHandler.meaning) c.args.cx.now c.ask.new.cx (keeps g.H.GoalHandler.meaning g.met.H.GoalHandler.lawful.world_kept c.args.cx.now c.ask.new.cx c.requires.ready c.ask.ensures.advances) (goal_of c.ask.new.cx c.in_ok-asked.asked.input) (asked_in c.args.mode c.args.cx.now.interner.entries c.args.table.now c.args.goal.now) c.in_ok-asked.ensures.input.1 c.args.graph.now c.search.new.graph c.search.ensures.limits;
}

pub returns-in_err-answer-clause-faults : goal.returns-in_err-answer-clause-faults
returns-in_err-answer-clause-faults g c = record {
  not_plain = search rules;
  conflict = search rules;
  full = search rules;
}

pub returns-in_default-clause-rests : goal.returns-in_default-clause-rests
returns-in_default-clause-rests g c = record {
  empty = search rules;
  depth = search rules;
  cache = search rules;
  consistent = search rules;
  results = search rules;
  ready = search rules;
  keeps = keeps-two g.H.GoalHandler.meaning g.met.H.GoalHandler.lawful.world_kept c.args.cx.now c.ask.new.cx c.search.new.cx c.requires.ready c.ask.ensures.advances c.search.ensures.keeps;
  entries = entries-two g.H.GoalHandler.meaning g.met.H.GoalHandler.lawful.world_kept c.args.cx.now c.ask.new.cx c.search.new.cx c.requires.ready c.ask.ensures.advances c.search.ensures.keeps;
  limits = limits-two g.H.GoalHandler.meaning g.met.H.GoalHandler.lawful.world_kept c.args.cx.now c.ask.new.cx c.search.new.cx c.requires.ready c.ask.ensures.advances c.search.ensures.keeps;
  table = ready-later c.args.cx.now.interner.entries c.search.new.cx.interner.entries c.args.table.now (entries-two g.H.GoalHandler.meaning g.met.H.GoalHandler.lawful.world_kept c.args.cx.now c.ask.new.cx c.search.new.cx c.requires.ready c.ask.ensures.advances c.search.ensures.keeps) c.requires.table;
  grows = grows-refl c.args.table.now;
}

pub returns-in_default-clause-costs : goal.returns-in_default-clause-costs
returns-in_default-clause-costs g c = record {
  frames = frames-before (solver_meaning g.H.GoalHandler.meaning) c.args.cx.now c.ask.new.cx (keeps g.H.GoalHandler.meaning g.met.H.GoalHandler.lawful.world_kept c.args.cx.now c.ask.new.cx c.requires.ready c.ask.ensures.advances) (goal_of c.ask.new.cx c.in_ok-asked.asked.input) (asked_in c.args.mode c.args.cx.now.interner.entries c.args.table.now c.args.goal.now) c.in_ok-asked.ensures.input.1 c.args.graph.now c.search.new.graph c.search.ensures.frames;
  cached = free-before (solver_meaning g.H.GoalHandler.meaning) c.args.cx.now c.ask.new.cx (keeps g.H.GoalHandler.meaning g.met.H.GoalHandler.lawful.world_kept c.args.cx.now c.ask.new.cx c.requires.ready c.ask.ensures.advances) (goal_of c.ask.new.cx c.in_ok-asked.asked.input) (asked_in c.args.mode c.args.cx.now.interner.entries c.args.table.now c.args.goal.now) c.in_ok-asked.ensures.input.1 c.args.graph.now c.search.new.graph c.args.cache.now c.requires.cache c.search.new.cache c.search.ensures.cached;
  limits = limits-before (solver_meaning g.H.GoalHandler.meaning) c.args.cx.now c.ask.new.cx (keeps g.H.GoalHandler.meaning g.met.H.GoalHandler.lawful.world_kept c.args.cx.now c.ask.new.cx c.requires.ready c.ask.ensures.advances) (goal_of c.ask.new.cx c.in_ok-asked.asked.input) (asked_in c.args.mode c.args.cx.now.interner.entries c.args.table.now c.args.goal.now) c.in_ok-asked.ensures.input.1 c.args.graph.now c.search.new.graph c.search.ensures.limits;
}

pub returns-in_default-clause-refusal : goal.returns-in_default-clause-refusal
returns-in_default-clause-refusal g c = record {
  unchanged = search rules;
  answer =
      λ _.
      let n : c.in_ok-answer.field-0 ≡ None = search rules in
      (None, (result-before (solver_meaning g.H.GoalHandler.meaning) c.args.cx.now c.ask.new.cx (keeps g.H.GoalHandler.meaning g.met.H.GoalHandler.lawful.world_kept c.args.cx.now c.ask.new.cx c.requires.ready c.ask.ensures.advances) (goal_of c.ask.new.cx c.in_ok-asked.asked.input) (asked_in c.args.mode c.args.cx.now.interner.entries c.args.table.now c.args.goal.now) c.in_ok-asked.ensures.input.1 c.args.graph.now c.search.new.graph c.args.cache.now c.requires.cache c.search.new.cache c.search.new.cx (result_read c.search.new.cx.interner.entries c.in_ok-answer.field-0) None (ap (result_read c.search.new.cx.interner.entries) n) c.in_ok-answer.ensures.found), refl);
  no_proof =
      λ _ p x s h q.
      let n : c.in_ok-answer.field-0 ≡ None = search rules in
      root-agrees c.args.cx.now.interner.entries c.requires.ready.lawful c.args.table.now c.requires.table c.args.goal.now c.requires.goal p.clean s h g.H.GoalHandler.meaning.goals g.met.H.GoalHandler.lawful.goals (g.H.GoalHandler.meaning.world c.args.cx.now.handler c.args.cx.now.interner.entries) c.args.mode None (right-at g.H.GoalHandler.meaning g.met.H.GoalHandler.lawful.world_kept c.args.cx.now c.ask.new.cx c.requires.ready c.ask.ensures.advances c.in_ok-asked.asked.input (asked_in c.args.mode c.args.cx.now.interner.entries c.args.table.now c.args.goal.now) (result_read c.search.new.cx.interner.entries c.in_ok-answer.field-0) None c.in_ok-asked.ensures.input.1 (ap (result_read c.search.new.cx.interner.entries) n) c.in_ok-answer.ensures.sound).covers x q;
}

pub returns-in-Ok-clause-rests : goal.returns-in-Ok-clause-rests
returns-in-Ok-clause-rests g c = record {
  empty = search rules;
  depth = search rules;
  cache = justified-later (solver_meaning g.H.GoalHandler.meaning) c.search.new.cx (record { alloc = c.search.new.cx.alloc; interner = c.apply_answer-applied.new.cx; handler = c.search.new.cx.handler; store = c.search.new.cx.store }) c.search.new.cache (keeps g.H.GoalHandler.meaning g.met.H.GoalHandler.lawful.world_kept c.search.new.cx (record { alloc = c.search.new.cx.alloc; interner = c.apply_answer-applied.new.cx; handler = c.search.new.cx.handler; store = c.search.new.cx.store }) c.search.ensures.ready (later g.H.GoalHandler.meaning.IsReady g.met.H.GoalHandler.lawful.ready_kept c.search.new.cx (record { alloc = c.search.new.cx.alloc; interner = c.apply_answer-applied.new.cx; handler = c.search.new.cx.handler; store = c.search.new.cx.store }) c.search.ensures.ready refl refl c.apply_answer-applied.ensures.terms.grew.keeps c.lawful.ensures c.apply_answer-applied.ensures.terms.grew.limit)) c.search.ensures.cache;
  consistent = search rules;
  results = search rules;
  ready = (later g.H.GoalHandler.meaning.IsReady g.met.H.GoalHandler.lawful.ready_kept c.search.new.cx (record { alloc = c.search.new.cx.alloc; interner = c.apply_answer-applied.new.cx; handler = c.search.new.cx.handler; store = c.search.new.cx.store }) c.search.ensures.ready refl refl c.apply_answer-applied.ensures.terms.grew.keeps c.lawful.ensures c.apply_answer-applied.ensures.terms.grew.limit).ready;
  keeps = keeps-three g.H.GoalHandler.meaning g.met.H.GoalHandler.lawful.world_kept c.args.cx.now c.ask.new.cx c.search.new.cx c.requires.ready c.ask.ensures.advances c.search.ensures.keeps (record { alloc = c.search.new.cx.alloc; interner = c.apply_answer-applied.new.cx; handler = c.search.new.cx.handler; store = c.search.new.cx.store }) c.search.ensures.ready (later g.H.GoalHandler.meaning.IsReady g.met.H.GoalHandler.lawful.ready_kept c.search.new.cx (record { alloc = c.search.new.cx.alloc; interner = c.apply_answer-applied.new.cx; handler = c.search.new.cx.handler; store = c.search.new.cx.store }) c.search.ensures.ready refl refl c.apply_answer-applied.ensures.terms.grew.keeps c.lawful.ensures c.apply_answer-applied.ensures.terms.grew.limit);
  entries = λ i e h. c.apply_answer-applied.ensures.terms.grew.keeps i e (entries-two g.H.GoalHandler.meaning g.met.H.GoalHandler.lawful.world_kept c.args.cx.now c.ask.new.cx c.search.new.cx c.requires.ready c.ask.ensures.advances c.search.ensures.keeps i e h);
  limits = limits-further c.args.cx.now c.search.new.cx (record { alloc = c.search.new.cx.alloc; interner = c.apply_answer-applied.new.cx; handler = c.search.new.cx.handler; store = c.search.new.cx.store }) (limits-two g.H.GoalHandler.meaning g.met.H.GoalHandler.lawful.world_kept c.args.cx.now c.ask.new.cx c.search.new.cx c.requires.ready c.ask.ensures.advances c.search.ensures.keeps) (record { terms = c.apply_answer-applied.ensures.terms.grew.limit; kept = refl });
  table = search rules;
  grows = search rules;
}

pub returns-in-Ok-clause-costs : goal.returns-in-Ok-clause-costs
returns-in-Ok-clause-costs g c = record {
  frames = frames-before (solver_meaning g.H.GoalHandler.meaning) c.args.cx.now c.ask.new.cx (keeps g.H.GoalHandler.meaning g.met.H.GoalHandler.lawful.world_kept c.args.cx.now c.ask.new.cx c.requires.ready c.ask.ensures.advances) (goal_of c.ask.new.cx c.in_ok-asked.asked.input) (asked_in c.args.mode c.args.cx.now.interner.entries c.args.table.now c.args.goal.now) c.in_ok-asked.ensures.input.1 c.args.graph.now c.search.new.graph c.search.ensures.frames;
  cached = free-before (solver_meaning g.H.GoalHandler.meaning) c.args.cx.now c.ask.new.cx (keeps g.H.GoalHandler.meaning g.met.H.GoalHandler.lawful.world_kept c.args.cx.now c.ask.new.cx c.requires.ready c.ask.ensures.advances) (goal_of c.ask.new.cx c.in_ok-asked.asked.input) (asked_in c.args.mode c.args.cx.now.interner.entries c.args.table.now c.args.goal.now) c.in_ok-asked.ensures.input.1 c.args.graph.now c.search.new.graph c.args.cache.now c.requires.cache c.search.new.cache c.search.ensures.cached;
  limits = limits-before (solver_meaning g.H.GoalHandler.meaning) c.args.cx.now c.ask.new.cx (keeps g.H.GoalHandler.meaning g.met.H.GoalHandler.lawful.world_kept c.args.cx.now c.ask.new.cx c.requires.ready c.ask.ensures.advances) (goal_of c.ask.new.cx c.in_ok-asked.asked.input) (asked_in c.args.mode c.args.cx.now.interner.entries c.args.table.now c.args.goal.now) c.in_ok-asked.ensures.input.1 c.args.graph.now c.search.new.graph c.search.ensures.limits;
}

pub returns-in-Ok-clause-says : goal.returns-in-Ok-clause-says
returns-in-Ok-clause-says g c = record {
  held = goal-held-later c.ask.new.cx.interner.entries c.apply_answer-applied.new.cx.entries (λ i e h. c.apply_answer-applied.ensures.terms.grew.keeps i e (c.search.ensures.keeps.held (of_term i e) h)) c.in_ok-asked.asked.goal c.in_ok-asked.ensures.held;
  resolved = goal-trees-later c.ask.new.cx.interner.entries c.apply_answer-applied.new.cx.entries (λ i e h. c.apply_answer-applied.ensures.terms.grew.keeps i e (c.search.ensures.keeps.held (of_term i e) h)) c.in_ok-asked.asked.goal c.in_ok-asked.ensures.held ∙ c.in_ok-asked.ensures.resolved;
  answer =
      let d : c.deref.result.now ≡ c.in_ok-asked.asked.values.items = search rules in
      let v = (values-later c.ask.new.cx.interner.entries c.search.new.cx.interner.entries (λ i e h. c.search.ensures.keeps.held (of_term i e) h) c.in_ok-asked.asked.values.items c.deref.result.now d (goal_leaves (goal_in c.args.cx.now.interner.entries c.args.table.now c.args.goal.now)) c.in_ok-asked.ensures.args c.in_ok-asked.ensures.leaves c.in_ok-asked.ensures.values) in (
        (answer_trees c.search.new.cx.interner.entries c.in-Some.answer),
        (result-later (solver_meaning g.H.GoalHandler.meaning) c.args.cx.now c.search.new.cx (record { alloc = c.search.new.cx.alloc; interner = c.apply_answer-applied.new.cx; handler = c.search.new.cx.handler; store = c.search.new.cx.store }) (keeps g.H.GoalHandler.meaning g.met.H.GoalHandler.lawful.world_kept c.search.new.cx (record { alloc = c.search.new.cx.alloc; interner = c.apply_answer-applied.new.cx; handler = c.search.new.cx.handler; store = c.search.new.cx.store }) c.search.ensures.ready (later g.H.GoalHandler.meaning.IsReady g.met.H.GoalHandler.lawful.ready_kept c.search.new.cx (record { alloc = c.search.new.cx.alloc; interner = c.apply_answer-applied.new.cx; handler = c.search.new.cx.handler; store = c.search.new.cx.store }) c.search.ensures.ready refl refl c.apply_answer-applied.ensures.terms.grew.keeps c.lawful.ensures c.apply_answer-applied.ensures.terms.grew.limit)) c.args.cache.now c.search.new.cache c.search.ensures.cache c.args.graph.now c.search.new.graph (asked_in c.args.mode c.args.cx.now.interner.entries c.args.table.now c.args.goal.now) (Some (answer_trees c.search.new.cx.interner.entries c.in-Some.answer))
            (result-before (solver_meaning g.H.GoalHandler.meaning) c.args.cx.now c.ask.new.cx (keeps g.H.GoalHandler.meaning g.met.H.GoalHandler.lawful.world_kept c.args.cx.now c.ask.new.cx c.requires.ready c.ask.ensures.advances) (goal_of c.ask.new.cx c.in_ok-asked.asked.input) (asked_in c.args.mode c.args.cx.now.interner.entries c.args.table.now c.args.goal.now) c.in_ok-asked.ensures.input.1 c.args.graph.now c.search.new.graph c.args.cache.now c.requires.cache c.search.new.cache c.search.new.cx (result_read c.search.new.cx.interner.entries c.in_ok-answer.field-0) (Some (answer_trees c.search.new.cx.interner.entries c.in-Some.answer)) (ap (result_read c.search.new.cx.interner.entries) c.in-Some.is) c.in_ok-answer.ensures.found)),
        record { certainty = refl; has_changed = c.has_changed-changed.ensures },
        left-later c.args.cx.now.interner.entries c.search.new.cx.interner.entries (entries-two g.H.GoalHandler.meaning g.met.H.GoalHandler.lawful.world_kept c.args.cx.now c.ask.new.cx c.search.new.cx c.requires.ready c.ask.ensures.advances c.search.ensures.keeps) c.args.table.now c.requires.table (values_of c.search.new.cx.interner.entries c.deref.result.now) (goal_in c.args.cx.now.interner.entries c.args.table.now c.args.goal.now) (answer_trees c.search.new.cx.interner.entries c.in-Some.answer) (values-are c.search.new.cx.interner.entries c.search.ensures.ready.lawful c.deref.result.now (goal_in c.args.cx.now.interner.entries c.args.table.now c.args.goal.now) v.args v.leaves v.labels_are) ∙ c.in-Ok.ensures.exact,
      );
  covers =
      λ p x s h q.
      let d : c.deref.result.now ≡ c.in_ok-asked.asked.values.items = search rules in
      let v = (values-later c.ask.new.cx.interner.entries c.search.new.cx.interner.entries (λ i e h. c.search.ensures.keeps.held (of_term i e) h) c.in_ok-asked.asked.values.items c.deref.result.now d (goal_leaves (goal_in c.args.cx.now.interner.entries c.args.table.now c.args.goal.now)) c.in_ok-asked.ensures.args c.in_ok-asked.ensures.leaves c.in_ok-asked.ensures.values) in
      let same = (content-kept c.args.cx.now.interner.entries c.search.new.cx.interner.entries c.args.table.now.values (entries-two g.H.GoalHandler.meaning g.met.H.GoalHandler.lawful.world_kept c.args.cx.now c.ask.new.cx c.search.new.cx c.requires.ready c.ask.ensures.advances c.search.ensures.keeps) c.requires.table.held) in
      c.in-Ok.ensures.kept (goal_in c.args.cx.now.interner.entries c.args.table.now c.args.goal.now) v.labels_are p.environment_known p.predicate_known (subst (IsOfKnown (variables_of c.args.table.now)) (sym same) p.table_known) s (subst (Solves s) (sym same) h)
      (root-agrees c.args.cx.now.interner.entries c.requires.ready.lawful c.args.table.now c.requires.table c.args.goal.now c.requires.goal p.clean s h g.H.GoalHandler.meaning.goals g.met.H.GoalHandler.lawful.goals (g.H.GoalHandler.meaning.world c.args.cx.now.handler c.args.cx.now.interner.entries) c.args.mode (Some (answer_trees c.search.new.cx.interner.entries c.in-Some.answer)) (right-at g.H.GoalHandler.meaning g.met.H.GoalHandler.lawful.world_kept c.args.cx.now c.ask.new.cx c.requires.ready c.ask.ensures.advances c.in_ok-asked.asked.input (asked_in c.args.mode c.args.cx.now.interner.entries c.args.table.now c.args.goal.now) (result_read c.search.new.cx.interner.entries c.in_ok-answer.field-0) (Some (answer_trees c.search.new.cx.interner.entries c.in-Some.answer)) c.in_ok-asked.ensures.input.1 (ap (result_read c.search.new.cx.interner.entries) c.in-Some.is) c.in_ok-answer.ensures.sound).covers x q);
  narrows = λ s h. subst (Solves s) (content-kept c.args.cx.now.interner.entries c.search.new.cx.interner.entries c.args.table.now.values (entries-two g.H.GoalHandler.meaning g.met.H.GoalHandler.lawful.world_kept c.args.cx.now c.ask.new.cx c.search.new.cx c.requires.ready c.ask.ensures.advances c.search.ensures.keeps) c.requires.table.held) (c.in-Ok.ensures.narrows s h);
}

pub returns-in-Ok-clause-yes : goal.returns-in-Ok-clause-yes
returns-in-Ok-clause-yes g c =
    λ y n clean s h.
    root-proof c.args.cx.now.interner.entries c.requires.ready.lawful c.args.table.now c.requires.table c.args.goal.now c.requires.goal clean s h g.H.GoalHandler.meaning.goals g.met.H.GoalHandler.lawful.goals (g.H.GoalHandler.meaning.world c.args.cx.now.handler c.args.cx.now.interner.entries) c.args.mode c.handlers_are_programs.ensures
    ((right-at g.H.GoalHandler.meaning g.met.H.GoalHandler.lawful.world_kept c.args.cx.now c.ask.new.cx c.requires.ready c.ask.ensures.advances c.in_ok-asked.asked.input (asked_in c.args.mode c.args.cx.now.interner.entries c.args.table.now c.args.goal.now) (result_read c.search.new.cx.interner.entries c.in_ok-answer.field-0) (Some (answer_trees c.search.new.cx.interner.entries c.in-Some.answer)) c.in_ok-asked.ensures.input.1 (ap (result_read c.search.new.cx.interner.entries) c.in-Some.is) c.in_ok-answer.ensures.sound).yes (definite (answer_trees c.search.new.cx.interner.entries c.in-Some.answer) y (sym c.has_changed-changed.ensures ∙ n)))

pub returns-in-Err-clause-rests : goal.returns-in-Err-clause-rests
returns-in-Err-clause-rests g c = record {
  empty = search rules;
  depth = search rules;
  cache = justified-later (solver_meaning g.H.GoalHandler.meaning) c.search.new.cx (record { alloc = c.search.new.cx.alloc; interner = c.apply_answer-applied.new.cx; handler = c.search.new.cx.handler; store = c.search.new.cx.store }) c.search.new.cache (keeps g.H.GoalHandler.meaning g.met.H.GoalHandler.lawful.world_kept c.search.new.cx (record { alloc = c.search.new.cx.alloc; interner = c.apply_answer-applied.new.cx; handler = c.search.new.cx.handler; store = c.search.new.cx.store }) c.search.ensures.ready (later g.H.GoalHandler.meaning.IsReady g.met.H.GoalHandler.lawful.ready_kept c.search.new.cx (record { alloc = c.search.new.cx.alloc; interner = c.apply_answer-applied.new.cx; handler = c.search.new.cx.handler; store = c.search.new.cx.store }) c.search.ensures.ready refl refl c.apply_answer-applied.ensures.terms.grew.keeps c.lawful.ensures c.apply_answer-applied.ensures.terms.grew.limit)) c.search.ensures.cache;
  consistent = search rules;
  results = search rules;
  ready = (later g.H.GoalHandler.meaning.IsReady g.met.H.GoalHandler.lawful.ready_kept c.search.new.cx (record { alloc = c.search.new.cx.alloc; interner = c.apply_answer-applied.new.cx; handler = c.search.new.cx.handler; store = c.search.new.cx.store }) c.search.ensures.ready refl refl c.apply_answer-applied.ensures.terms.grew.keeps c.lawful.ensures c.apply_answer-applied.ensures.terms.grew.limit).ready;
  keeps = keeps-three g.H.GoalHandler.meaning g.met.H.GoalHandler.lawful.world_kept c.args.cx.now c.ask.new.cx c.search.new.cx c.requires.ready c.ask.ensures.advances c.search.ensures.keeps (record { alloc = c.search.new.cx.alloc; interner = c.apply_answer-applied.new.cx; handler = c.search.new.cx.handler; store = c.search.new.cx.store }) c.search.ensures.ready (later g.H.GoalHandler.meaning.IsReady g.met.H.GoalHandler.lawful.ready_kept c.search.new.cx (record { alloc = c.search.new.cx.alloc; interner = c.apply_answer-applied.new.cx; handler = c.search.new.cx.handler; store = c.search.new.cx.store }) c.search.ensures.ready refl refl c.apply_answer-applied.ensures.terms.grew.keeps c.lawful.ensures c.apply_answer-applied.ensures.terms.grew.limit);
  entries = λ i e h. c.apply_answer-applied.ensures.terms.grew.keeps i e (entries-two g.H.GoalHandler.meaning g.met.H.GoalHandler.lawful.world_kept c.args.cx.now c.ask.new.cx c.search.new.cx c.requires.ready c.ask.ensures.advances c.search.ensures.keeps i e h);
  limits = limits-further c.args.cx.now c.search.new.cx (record { alloc = c.search.new.cx.alloc; interner = c.apply_answer-applied.new.cx; handler = c.search.new.cx.handler; store = c.search.new.cx.store }) (limits-two g.H.GoalHandler.meaning g.met.H.GoalHandler.lawful.world_kept c.args.cx.now c.ask.new.cx c.search.new.cx c.requires.ready c.ask.ensures.advances c.search.ensures.keeps) (record { terms = c.apply_answer-applied.ensures.terms.grew.limit; kept = refl });
  table = search rules;
  grows = search rules;
}

pub returns-in-Err-clause-costs : goal.returns-in-Err-clause-costs
returns-in-Err-clause-costs g c = record {
  frames = frames-before (solver_meaning g.H.GoalHandler.meaning) c.args.cx.now c.ask.new.cx (keeps g.H.GoalHandler.meaning g.met.H.GoalHandler.lawful.world_kept c.args.cx.now c.ask.new.cx c.requires.ready c.ask.ensures.advances) (goal_of c.ask.new.cx c.in_ok-asked.asked.input) (asked_in c.args.mode c.args.cx.now.interner.entries c.args.table.now c.args.goal.now) c.in_ok-asked.ensures.input.1 c.args.graph.now c.search.new.graph c.search.ensures.frames;
  cached = free-before (solver_meaning g.H.GoalHandler.meaning) c.args.cx.now c.ask.new.cx (keeps g.H.GoalHandler.meaning g.met.H.GoalHandler.lawful.world_kept c.args.cx.now c.ask.new.cx c.requires.ready c.ask.ensures.advances) (goal_of c.ask.new.cx c.in_ok-asked.asked.input) (asked_in c.args.mode c.args.cx.now.interner.entries c.args.table.now c.args.goal.now) c.in_ok-asked.ensures.input.1 c.args.graph.now c.search.new.graph c.args.cache.now c.requires.cache c.search.new.cache c.search.ensures.cached;
  limits = limits-before (solver_meaning g.H.GoalHandler.meaning) c.args.cx.now c.ask.new.cx (keeps g.H.GoalHandler.meaning g.met.H.GoalHandler.lawful.world_kept c.args.cx.now c.ask.new.cx c.requires.ready c.ask.ensures.advances) (goal_of c.ask.new.cx c.in_ok-asked.asked.input) (asked_in c.args.mode c.args.cx.now.interner.entries c.args.table.now c.args.goal.now) c.in_ok-asked.ensures.input.1 c.args.graph.now c.search.new.graph c.search.ensures.limits;
}

pub returns-in-Err-clause-refusal : goal.returns-in-Err-clause-refusal
returns-in-Err-clause-refusal g c = record {
  unchanged = search rules;
  answer =
      λ n.
      let d : c.deref.result.now ≡ c.in_ok-asked.asked.values.items = search rules in
      let v = (values-later c.ask.new.cx.interner.entries c.search.new.cx.interner.entries (λ i e h. c.search.ensures.keeps.held (of_term i e) h) c.in_ok-asked.asked.values.items c.deref.result.now d (goal_leaves (goal_in c.args.cx.now.interner.entries c.args.table.now c.args.goal.now)) c.in_ok-asked.ensures.args c.in_ok-asked.ensures.leaves c.in_ok-asked.ensures.values) in (
        Some (answer_trees c.search.new.cx.interner.entries c.in-Some.answer),
        (result-later (solver_meaning g.H.GoalHandler.meaning) c.args.cx.now c.search.new.cx (record { alloc = c.search.new.cx.alloc; interner = c.apply_answer-applied.new.cx; handler = c.search.new.cx.handler; store = c.search.new.cx.store }) (keeps g.H.GoalHandler.meaning g.met.H.GoalHandler.lawful.world_kept c.search.new.cx (record { alloc = c.search.new.cx.alloc; interner = c.apply_answer-applied.new.cx; handler = c.search.new.cx.handler; store = c.search.new.cx.store }) c.search.ensures.ready (later g.H.GoalHandler.meaning.IsReady g.met.H.GoalHandler.lawful.ready_kept c.search.new.cx (record { alloc = c.search.new.cx.alloc; interner = c.apply_answer-applied.new.cx; handler = c.search.new.cx.handler; store = c.search.new.cx.store }) c.search.ensures.ready refl refl c.apply_answer-applied.ensures.terms.grew.keeps c.lawful.ensures c.apply_answer-applied.ensures.terms.grew.limit)) c.args.cache.now c.search.new.cache c.search.ensures.cache c.args.graph.now c.search.new.graph (asked_in c.args.mode c.args.cx.now.interner.entries c.args.table.now c.args.goal.now) (Some (answer_trees c.search.new.cx.interner.entries c.in-Some.answer))
            (result-before (solver_meaning g.H.GoalHandler.meaning) c.args.cx.now c.ask.new.cx (keeps g.H.GoalHandler.meaning g.met.H.GoalHandler.lawful.world_kept c.args.cx.now c.ask.new.cx c.requires.ready c.ask.ensures.advances) (goal_of c.ask.new.cx c.in_ok-asked.asked.input) (asked_in c.args.mode c.args.cx.now.interner.entries c.args.table.now c.args.goal.now) c.in_ok-asked.ensures.input.1 c.args.graph.now c.search.new.graph c.args.cache.now c.requires.cache c.search.new.cache c.search.new.cx (result_read c.search.new.cx.interner.entries c.in_ok-answer.field-0) (Some (answer_trees c.search.new.cx.interner.entries c.in-Some.answer)) (ap (result_read c.search.new.cx.interner.entries) c.in-Some.is) c.in_ok-answer.ensures.found)),
        left-later c.args.cx.now.interner.entries c.search.new.cx.interner.entries (entries-two g.H.GoalHandler.meaning g.met.H.GoalHandler.lawful.world_kept c.args.cx.now c.ask.new.cx c.search.new.cx c.requires.ready c.ask.ensures.advances c.search.ensures.keeps) c.args.table.now c.requires.table (values_of c.search.new.cx.interner.entries c.deref.result.now) (goal_in c.args.cx.now.interner.entries c.args.table.now c.args.goal.now) (answer_trees c.search.new.cx.interner.entries c.in-Some.answer) (values-are c.search.new.cx.interner.entries c.search.ensures.ready.lawful c.deref.result.now (goal_in c.args.cx.now.interner.entries c.args.table.now c.args.goal.now) v.args v.leaves v.labels_are) ∙ c.in-Err.ensures.refusal (ap Err (refused c.in-Err.error (sym c.from.ensures ∙ err-is _ _ n))),
      );
  no_proof =
      λ n p x s h q.
      let d : c.deref.result.now ≡ c.in_ok-asked.asked.values.items = search rules in
      let v = (values-later c.ask.new.cx.interner.entries c.search.new.cx.interner.entries (λ i e h. c.search.ensures.keeps.held (of_term i e) h) c.in_ok-asked.asked.values.items c.deref.result.now d (goal_leaves (goal_in c.args.cx.now.interner.entries c.args.table.now c.args.goal.now)) c.in_ok-asked.ensures.args c.in_ok-asked.ensures.leaves c.in_ok-asked.ensures.values) in
      let same = (content-kept c.args.cx.now.interner.entries c.search.new.cx.interner.entries c.args.table.now.values (entries-two g.H.GoalHandler.meaning g.met.H.GoalHandler.lawful.world_kept c.args.cx.now c.ask.new.cx c.search.new.cx c.requires.ready c.ask.ensures.advances c.search.ensures.keeps) c.requires.table.held) in
      c.in-Err.ensures.accepted (ap Err (refused c.in-Err.error (sym c.from.ensures ∙ err-is _ _ n))) (goal_in c.args.cx.now.interner.entries c.args.table.now c.args.goal.now) v.labels_are p.environment_known p.predicate_known (subst (IsOfKnown (variables_of c.args.table.now)) (sym same) p.table_known) s (subst (Solves s) (sym same) h)
      (root-agrees c.args.cx.now.interner.entries c.requires.ready.lawful c.args.table.now c.requires.table c.args.goal.now c.requires.goal p.clean s h g.H.GoalHandler.meaning.goals g.met.H.GoalHandler.lawful.goals (g.H.GoalHandler.meaning.world c.args.cx.now.handler c.args.cx.now.interner.entries) c.args.mode (Some (answer_trees c.search.new.cx.interner.entries c.in-Some.answer)) (right-at g.H.GoalHandler.meaning g.met.H.GoalHandler.lawful.world_kept c.args.cx.now c.ask.new.cx c.requires.ready c.ask.ensures.advances c.in_ok-asked.asked.input (asked_in c.args.mode c.args.cx.now.interner.entries c.args.table.now c.args.goal.now) (result_read c.search.new.cx.interner.entries c.in_ok-answer.field-0) (Some (answer_trees c.search.new.cx.interner.entries c.in-Some.answer)) c.in_ok-asked.ensures.input.1 (ap (result_read c.search.new.cx.interner.entries) c.in-Some.is) c.in_ok-answer.ensures.sound).covers x q);
}

pub returns-in-Err-clause-faults : goal.returns-in-Err-clause-faults
returns-in-Err-clause-faults g c = record {
  not_plain = λ n. absurd (no-conflict c.in-Err.error (sym c.from.ensures ∙ err-is _ _ n));
  conflict = λ n. absurd (no-conflict c.in-Err.error (sym c.from.ensures ∙ err-is _ _ n));
  full = λ n. interner (c.in-Err.ensures.terms.full (equation-full c.in-Err.error (sym c.from.ensures ∙ n)));
}
