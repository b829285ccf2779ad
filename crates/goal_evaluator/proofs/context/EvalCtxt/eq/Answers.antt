use Rattle.std.proofs.Common.{sym, subst, OnOk, Result}
use Rattle.std.specs.Prelude.{IfErr}
use Rattle.type_terms.specs.Promised.Handles.{arg_trees}
use Rattle.infer_table.specs.Content.{Table, content, Ready}
use Rattle.infer_table.specs.Shortages.{EqFullAtLimit}
use Rattle.infer_table.specs.Solutions.{OlderStays}
use Rattle.goal_evaluator.specs.Context.{Context, IsReadyContext}
use Rattle.goal_evaluator.proofs.Contexts.{ready-with-table}
use Rattle.goal_evaluator.specs.declared.error.EvalError.{EvalError}
use Rattle.goal_evaluator.specs.Shortages.{EvalFullAtLimit}
use Rattle.goal_evaluator.proofs.Shortages.{given-up}
use Rattle.goal_evaluator.proofs.context.EvalCtxt.eq.Goals as goal
use Rattle.goal_evaluator.proofs.context.EvalCtxt.eq.Goals.{in-Ok, in-Err}

pub eq-requires-clause-ready : goal.eq-requires-clause-ready
eq-requires-clause-ready c = subst (λ (x : Context). Ready c.args.cx.now.entries x.table) (sym c.self.view_is) c.requires.ready.table

pub returns-clause-ready : goal.returns-clause-ready
returns-clause-ready c =
    ready-with-table c.args.cx.now.entries c.eq.new.cx.entries _ c.eq.new.self c.eq.ensures.terms.grew.keeps
    (subst (λ (x : Context). IsReadyContext c.args.cx.now.entries x) (sym c.self.view_is) c.requires.ready)
    c.eq.ensures.ready

pub returns-clause-older : goal.returns-clause-older
returns-clause-older c =
    let es = c.args.cx.now.entries in
    let Stays = λ (t : Table). OlderStays (content es t.values) (content c.eq.new.cx.entries c.eq.new.self.values) (arg_trees es c.args.left) (arg_trees es c.args.right) in
    subst (λ (x : Context). OnOk c.match-eq.result (Stays x.table)) c.self.view_is
    (elim c.match-eq.branch [
      | in-Ok w ↦ subst (λ r. OnOk r (Stays c.self.inside.table)) (sym w.result-is) (subst (λ r. OnOk r (Stays c.self.inside.table)) w.in-Ok.is c.eq.ensures.older)
      | in-Err w ↦ subst (λ r. OnOk r (Stays c.self.inside.table)) (sym w.result-is) tt
    ])

pub returns-clause-terms : goal.returns-clause-terms
returns-clause-terms c = record {
  grew = c.eq.ensures.terms.grew;
  full =
      let AtLimit = λ (r : Result (Unit {0}) EvalError). IfErr r (EvalFullAtLimit c.eq.new.cx) in
      elim c.match-eq.branch [
        | in-Ok w ↦ subst AtLimit (sym w.result-is) tt
        | in-Err w ↦ subst AtLimit (sym w.result-is)
            (λ q. subst (λ r. IfErr r (EqFullAtLimit c.eq.new.cx)) w.in-Err.is c.eq.ensures.terms.full (given-up w.in-Err.error _ w.from.ensures q))
      ];
}
