use Rattle.std.proofs.Common.{sym, subst, take, ◌++◌, ◌∷◌, []}
use Rattle.type_terms.specs.Promised.Trees.{◌+++◌}
use Rattle.type_terms.specs.declared.kinds.GenericArgKind.TheVariants.{Lifetime as ALifetime, Const as AConst}
use Rattle.type_terms.specs.Promised.Handles.{arg_trees, ArgHeld}
use Rattle.type_terms.specs.Kinds.{args_trees}
use Rattle.type_terms.proofs.Items.{arg-held-at}
use Rattle.infer_table.specs.Content.{content}
use Rattle.infer_table.specs.Occurring.{Pushes}
use Rattle.infer_table.proofs.ContentFacts.{valued}
use Rattle.infer_table.proofs.Occurring.{pushes-none, pushes-type, pushes-other, args-step, region-without}
use Rattle.infer_table.proofs.infer_ctxt.InferCtxt.push_types.Goals.{in-Ty+in_ok-push-in-Ty, in-Const, in-Lifetime}
use Rattle.infer_table.proofs.infer_ctxt.InferCtxt.push_types.Goals as goal

pub parts-init : goal.parts-init
parts-init c = pushes-none c.args.cx.now.entries (content c.args.cx.now.entries c.args.self.now.values) c.args.variable.index c.args.todo.now.items

pub constant_is_without-requires-clause-held : goal.constant_is_without-requires-clause-held
constant_is_without-requires-clause-held c =
    let es = c.args.cx.now.entries in
    subst (ArgHeld es) (c.in-Const.is) (subst (ArgHeld es) (sym c.arg-item.is) (arg-held-at es c.args.args.now c.parts.arg-index c.arg-item.result c.requires.held c.parts-test.true))

pub parts-preserved : goal.parts-preserved
parts-preserved c =
    let es = c.args.cx.now.entries in
    let bs = content es c.args.self.now.values in
    let v = c.args.variable.index in
    let xs = c.args.args.now in
    let i = c.parts.arg-index in
    let before = args_trees es (take i xs) in
    let step = args-step es xs i c.arg-item.result c.arg-item.result c.parts-test.true c.arg-item.is in
    let x = c.arg-item.result in
    let old = c.args.todo.now.items in
    let held = subst (ArgHeld es) (sym c.arg-item.is) (arg-held-at es xs i x c.requires.held c.parts-test.true) in
    subst (λ t. Pushes es bs v t old c.match-arg.todo.items) (sym step)
    (elim c.match-arg.branch [
      | in-Ty+in_ok-push-in-Ty w ↦
          subst (λ z. Pushes es bs v (before +++ arg_trees es x) old z.items) (sym w.todo-is)
          (subst (λ zs. Pushes es bs v (before +++ arg_trees es x) old zs) (sym w.in_ok-push-in-Ty.ensures.items)
          (subst (λ y. Pushes es bs v (before +++ arg_trees es y) old (c.parts.todo.items ++ w.in-Ty.ty ∷ [])) (sym w.in-Ty.is)
          (pushes-type es bs v before w.in-Ty.ty old c.parts.todo.items (subst (ArgHeld es) w.in-Ty.is held) c.parts.invariant)))
      | in-Const w ↦
          subst (λ z. Pushes es bs v (before +++ arg_trees es x) old z.items) (sym w.todo-is)
          (subst (λ y. Pushes es bs v (before +++ arg_trees es y) old c.parts.todo.items) (sym w.in-Const.is)
          (pushes-other es bs v before (arg_trees es (AConst w.in-Const.constant)) old c.parts.todo.items w.constant_is_without.ensures.without c.parts.invariant))
      | in-Lifetime w ↦
          subst (λ z. Pushes es bs v (before +++ arg_trees es x) old z.items) (sym w.todo-is)
          (subst (λ y. Pushes es bs v (before +++ arg_trees es y) old c.parts.todo.items) (sym w.in-Lifetime.is)
          (pushes-other es bs v before (arg_trees es (ALifetime w.in-Lifetime.field-0)) old c.parts.todo.items (region-without es bs v w.in-Lifetime.field-0 (valued es c.args.self.now.values)) c.parts.invariant))
    ])
