use Rattle.std.proofs.Common.{◌≡◌, refl, sym, ◌∙◌, ap, subst}
use Rattle.infer_table.specs.Canonical.{canonical_form, goal_leaves}
use Rattle.infer_table.specs.Goals.{GoalHeld, goal_trees}
use Rattle.infer_table.specs.Leaves.{labels}
use Rattle.infer_table.proofs.Numbers.{goal-held-later, goal-trees-later}
use Rattle.solver_graph.specs.Shortages.{ContextFullAtLimit, interner}
use Rattle.solver_graph.proofs.Growing.{later}
use Rattle.solver_graph.proofs.Shortages.{handed}
use Rattle.solver_graph.proofs.Later.{keeps-further, goal-in-twice}
use Rattle.solver_graph.proofs.asking.ask.Goals as goal

pair : {A B : Type 0} → (m n : A) (f h : B) → m ≡ n → f ≡ h → ◌≡◌ {A = A × B} (m, f) (n, h)
pair m n f h p q = cc

pub returns-in_err-resolved-clause-advances : goal.returns-in_err-resolved-clause-advances
returns-in_err-resolved-clause-advances g c =
    later g.H.GoalHandler.meaning.IsReady g.met.H.GoalHandler.lawful.ready_kept c.args.cx.now
    (record { alloc = c.args.cx.now.alloc; interner = c.resolve_goal-resolved.new.cx; handler = c.args.cx.now.handler; store = c.args.cx.now.store }) c.requires.ready refl refl
    c.resolve_goal-resolved.ensures.terms.grew.keeps c.lawful.ensures c.resolve_goal-resolved.ensures.terms.grew.limit

pub returns-in_err-input-clause-advances : goal.returns-in_err-input-clause-advances
returns-in_err-input-clause-advances g c =
    later g.H.GoalHandler.meaning.IsReady g.met.H.GoalHandler.lawful.ready_kept c.args.cx.now
    (record { alloc = c.args.cx.now.alloc; interner = c.canonicalize_goal-canonicalized.new.cx; handler = c.args.cx.now.handler; store = c.args.cx.now.store }) c.requires.ready refl refl
    (keeps-further c.args.cx.now.interner.entries c.resolve_goal-resolved.new.cx.entries c.canonicalize_goal-canonicalized.new.cx.entries c.resolve_goal-resolved.ensures.terms.grew.keeps
    c.canonicalize_goal-canonicalized.ensures.terms.grew.keeps) c.lawful-2.ensures (c.canonicalize_goal-canonicalized.ensures.terms.grew.limit ∙ c.resolve_goal-resolved.ensures.terms.grew.limit)

pub keep_goal-requires-clause-ready : goal.keep_goal-requires-clause-ready
keep_goal-requires-clause-ready g c =
    (later g.H.GoalHandler.meaning.IsReady g.met.H.GoalHandler.lawful.ready_kept c.args.cx.now
    (record { alloc = c.args.cx.now.alloc; interner = c.canonicalize_goal-canonicalized.new.cx; handler = c.args.cx.now.handler; store = c.args.cx.now.store }) c.requires.ready refl refl
    (keeps-further c.args.cx.now.interner.entries c.resolve_goal-resolved.new.cx.entries c.canonicalize_goal-canonicalized.new.cx.entries c.resolve_goal-resolved.ensures.terms.grew.keeps
    c.canonicalize_goal-canonicalized.ensures.terms.grew.keeps) c.lawful-2.ensures (c.canonicalize_goal-canonicalized.ensures.terms.grew.limit ∙ c.resolve_goal-resolved.ensures.terms.grew.limit)).ready

pub returns-clause-held : goal.returns-clause-held
returns-clause-held g c =
    subst (λ z. GoalHeld z.entries c.in_ok-resolved.resolved) (sym c.keep_goal.ensures.interner)
    (goal-held-later c.resolve_goal-resolved.new.cx.entries c.canonicalize_goal-canonicalized.new.cx.entries c.canonicalize_goal-canonicalized.ensures.terms.grew.keeps c.in_ok-resolved.resolved c.in_ok-resolved.ensures.held)

pub returns-clause-resolved : goal.returns-clause-resolved
returns-clause-resolved g c =
    ap (λ z. goal_trees z.entries c.in_ok-resolved.resolved) c.keep_goal.ensures.interner
    ∙ goal-trees-later c.resolve_goal-resolved.new.cx.entries c.canonicalize_goal-canonicalized.new.cx.entries c.canonicalize_goal-canonicalized.ensures.terms.grew.keeps c.in_ok-resolved.resolved c.in_ok-resolved.ensures.held
    ∙ c.in_ok-resolved.ensures.resolved

pub returns-clause-input : goal.returns-clause-input
returns-clause-input g c = (
  c.in_ok-input-2.ensures.is.0,
  c.in_ok-input-2.ensures.is.1
      ∙ pair _ _ _ _ c.in_ok-input.ensures.mode
      (c.in_ok-input.ensures.form.form
      ∙ ap canonical_form
      (goal-in-twice c.args.cx.now.interner.entries c.resolve_goal-resolved.new.cx.entries c.resolve_goal-resolved.ensures.terms.grew.keeps c.args.table.now c.requires.table c.args.goal.now c.in_ok-resolved.resolved
      c.in_ok-resolved.ensures.resolved)),
)

pub returns-clause-values : goal.returns-clause-values
returns-clause-values g c =
    ap (λ z. labels z.entries c.in_ok-input.field-0.values.items) c.keep_goal.ensures.interner
    ∙ c.in_ok-input.ensures.values
    ∙ ap goal_leaves
    (goal-in-twice c.args.cx.now.interner.entries c.resolve_goal-resolved.new.cx.entries c.resolve_goal-resolved.ensures.terms.grew.keeps c.args.table.now c.requires.table c.args.goal.now c.in_ok-resolved.resolved
    c.in_ok-resolved.ensures.resolved)

pub returns-in_err-resolved-clause-full : goal.returns-in_err-resolved-clause-full
returns-in_err-resolved-clause-full g c = handed (ContextFullAtLimit _) c.from_residual.result c.from_residual.ensures.1 (λ q. interner (c.in_err-resolved.ensures.terms.full q))

pub returns-in_err-input-clause-full : goal.returns-in_err-input-clause-full
returns-in_err-input-clause-full g c =
    let again = c.from_residual-in_err-input in
    handed (ContextFullAtLimit _) again.result again.ensures.1 (λ q. interner (c.in_err-input.ensures.terms.full q))
