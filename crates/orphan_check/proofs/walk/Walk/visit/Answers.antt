use Rattle.std.proofs.Common.{refl, ◌∙◌, ap, sym, subst, suc, ◌-◌, ◌∷◌, [], Err}
use Rattle.std.proofs.lemmas.Result.{err_from_is_err_and}
use Rattle.type_terms.specs.Promised.Handles.{trees_at}
use Rattle.orphan_check.specs.Promised.Errors.{is_first}
use Rattle.orphan_check.specs.Steps.{too_deep, entered}
use Rattle.orphan_check.specs.Walks.{IsVisit, pending_steps, reads}
use Rattle.orphan_check.proofs.Stepping.{on-top-none, on-top-push, first-steps, positive, push-steps, read-refused, step-local, step-open, step-foreign, step-reference, step-fundamental}
use Rattle.orphan_check.proofs.walk.Walk.visit.Goals as goal

pub returns-then-next-eq0-clause-visited : goal.returns-then-next-eq0-clause-visited
returns-then-next-eq0-clause-visited g c =
    let es = c.args.self.now.context.cx.now.entries in
    let r = reads g.N.Normalize.answers c.args.self.now in
    let p = c.args.next in (
      trees_at es p.ty.0,
      is_first p.first,
      pending_steps es r c.args.pending.now.items,
      first-steps es r c.args.pending.now.items p 0 (too_deep (trees_at es p.ty.0) (is_first p.first) ∷ []) c.if-next-eq0.true refl,
    )

pub returns-in_err-ty-clause-visited : goal.returns-in_err-ty-clause-visited
returns-in_err-ty-clause-visited g c =
    let es = c.args.self.now.context.cx.now.entries in
    let r = reads g.N.Normalize.answers c.args.self.now in
    let ps = c.args.pending.now.items in
    let p = c.args.next in
    let e = err_from_is_err_and c.from_residual.result c.from_residual.ensures.1 in
    subst (λ z. IsVisit es r p ps z ps) (sym (e.1 ∙ ap Err e.2)) (read-refused es r ps ps p (p.limit - 1) c.in_err-ty.field-0.0 (positive p.limit c.if-next-eq0.false) c.in_err-ty.ensures)

pub returns-in-Local-clause-visited : goal.returns-in-Local-clause-visited
returns-in-Local-clause-visited g c =
    let es = c.args.self.now.context.cx.now.entries in
    let r = reads g.N.Normalize.answers c.args.self.now in
    let p = c.args.next in
    first-steps es r c.args.pending.now.items p (suc (p.limit - 1)) _ (positive p.limit c.if-next-eq0.false)
    (step-local es c.lawful.ensures r (p.limit - 1) (is_first p.first) (trees_at es p.ty.0) (trees_at es c.in_ok-ty.ty.0) c.in_ok-ty.ensures.0 c.in-Local.ensures)

pub returns-in-Local-clause-on_top : goal.returns-in-Local-clause-on_top
returns-in-Local-clause-on_top g c = on-top-none (c.args.next.limit - 1) c.args.pending.now.items

pub returns-in-Uncovered-clause-visited : goal.returns-in-Uncovered-clause-visited
returns-in-Uncovered-clause-visited g c =
    let es = c.args.self.now.context.cx.now.entries in
    let r = reads g.N.Normalize.answers c.args.self.now in
    let p = c.args.next in
    first-steps es r c.args.pending.now.items p (suc (p.limit - 1)) _ (positive p.limit c.if-next-eq0.false)
    (step-open es c.lawful.ensures r (p.limit - 1) (is_first p.first) (trees_at es p.ty.0) (trees_at es c.in_ok-ty.ty.0) c.in_ok-ty.ensures.0 c.in-Uncovered.ensures)

pub returns-in-Uncovered-clause-on_top : goal.returns-in-Uncovered-clause-on_top
returns-in-Uncovered-clause-on_top g c = on-top-none (c.args.next.limit - 1) c.args.pending.now.items

pub returns-in-NonLocal-clause-visited : goal.returns-in-NonLocal-clause-visited
returns-in-NonLocal-clause-visited g c =
    let es = c.args.self.now.context.cx.now.entries in
    let r = reads g.N.Normalize.answers c.args.self.now in
    let p = c.args.next in
    first-steps es r c.args.pending.now.items p (suc (p.limit - 1)) _ (positive p.limit c.if-next-eq0.false)
    (step-foreign es c.lawful.ensures r (p.limit - 1) (is_first p.first) (trees_at es p.ty.0) (trees_at es c.in_ok-ty.ty.0) c.in_ok-ty.ensures.0 c.in-NonLocal.ensures)

pub returns-in-NonLocal-clause-on_top : goal.returns-in-NonLocal-clause-on_top
returns-in-NonLocal-clause-on_top g c = on-top-none (c.args.next.limit - 1) c.args.pending.now.items

pub returns-in_ok-push-in-Reference-clause-visited : goal.returns-in_ok-push-in-Reference-clause-visited
returns-in_ok-push-in-Reference-clause-visited g c =
    let es = c.args.self.now.context.cx.now.entries in
    let r = reads g.N.Normalize.answers c.args.self.now in
    let ps = c.args.pending.now.items in
    let p = c.args.next in
    first-steps es r ps p (suc (p.limit - 1)) _ (positive p.limit c.if-next-eq0.false)
    (step-reference es c.lawful.ensures r (p.limit - 1) (is_first p.first) (trees_at es p.ty.0) (trees_at es c.in_ok-ty.ty.0) c.in-Reference.to c.in_ok-ty.ensures.0 c.in-Reference.ensures)
    ∙ ap (λ z. entered ∷ z) (sym (push-steps es r ps c.push.new.self.items _ c.in_ok-push-in-Reference.ensures.items))

pub returns-in_ok-push-in-Reference-clause-on_top : goal.returns-in_ok-push-in-Reference-clause-on_top
returns-in_ok-push-in-Reference-clause-on_top g c =
    let ps = c.args.pending.now.items in
    let n = c.args.next.limit - 1 in
    on-top-push n ps ps c.push.new.self.items _ (on-top-none n ps) c.in_ok-push-in-Reference.ensures.items refl

pub returns-in_ok-push_types-in-Fundamental-clause-visited : goal.returns-in_ok-push_types-in-Fundamental-clause-visited
returns-in_ok-push_types-in-Fundamental-clause-visited g c =
    let es = c.args.self.now.context.cx.now.entries in
    let r = reads g.N.Normalize.answers c.args.self.now in
    let p = c.args.next in
    first-steps es r c.args.pending.now.items p (suc (p.limit - 1)) _ (positive p.limit c.if-next-eq0.false)
    (step-fundamental es c.lawful.ensures r (p.limit - 1) (is_first p.first) (trees_at es p.ty.0) (trees_at es c.in_ok-ty.ty.0) c.in-Fundamental.args c.in_ok-ty.ensures.0 c.in-Fundamental.ensures)
    ∙ ap (λ z. entered ∷ z) (sym c.in_ok-push_types-in-Fundamental.ensures.pushed)
