use Rattle.std.proofs.Common.{◌∙◌, ap, sym, subst, ◌++◌, Ok, Err}
use Rattle.std.proofs.lemmas.Result.{err_from_is_err_and}
use Rattle.std.specs.HashSet.{contains}
use Rattle.type_terms.specs.Promised.Handles.{trees_at}
use Rattle.orphan_check.specs.Steps.{steps}
use Rattle.orphan_check.specs.Visited.{visit_eq}
use Rattle.orphan_check.specs.Walks.{ArePending, AreOnTop, IsVisit, IsDecisive, pending_steps, reads}
use Rattle.orphan_check.proofs.Stepping.{each-pop}
use Rattle.orphan_check.proofs.Deciding.{goes-first, passed, passed-fewer, visit-fewer, visit-refused, visited, goes-on, decided-local, decided-open}
use Rattle.orphan_check.proofs.walk.Walk.decisive.Goals as goal

pub walk-init : goal.walk-init
walk-init g c =
    let es = c.args.self.now.context.cx.now.entries in
    let r = reads g.N.Normalize.answers c.args.self.now in
    let all = steps r c.args.limit (trees_at es c.args.args.0) in
    let ps = c.push_types.new.pending.items in
    goes-first es r c.args.limit all (λ v. contains visit_eq c.new-visited.result.visits v) ps c.in_ok-push_types.ensures.held
    (subst (λ z. AreOnTop c.args.limit z ps) c.new-pending.ensures.items c.in_ok-push_types.ensures.on_top)
    (c.in_ok-push_types.ensures.pushed ∙ ap (λ z. all ++ pending_steps es r z) c.new-pending.ensures.items) c.new-visited.ensures

pub walk-smaller-then-enter : goal.walk-smaller-then-enter
walk-smaller-then-enter g c =
    let es = c.args.self.now.context.cx.now.entries in
    let r = reads g.N.Normalize.answers c.args.self.now in
    passed-fewer es r (steps r c.args.limit (trees_at es c.args.args.0)) (λ v. contains visit_eq c.walk.visited.visits v) (λ v. contains visit_eq c.enter.new.self.visits v) c.walk.pending.items c.pop.new.self.items c.in-Some.next
    c.walk.invariant c.in-Some.ensures.items c.enter.ensures.one (c.enter.ensures.before c.if-enter.true)

pub walk-preserved-then-enter : goal.walk-preserved-then-enter
walk-preserved-then-enter g c =
    let es = c.args.self.now.context.cx.now.entries in
    let r = reads g.N.Normalize.answers c.args.self.now in
    passed es r (steps r c.args.limit (trees_at es c.args.args.0)) (λ v. contains visit_eq c.walk.visited.visits v) (λ v. contains visit_eq c.enter.new.self.visits v) c.walk.pending.items c.pop.new.self.items c.in-Some.next
    c.walk.invariant c.in-Some.ensures.items c.enter.ensures.one (c.enter.ensures.before c.if-enter.true)

pub visit-requires-clause-held : goal.visit-requires-clause-held
visit-requires-clause-held g c =
    let es = c.args.self.now.context.cx.now.entries in
    (each-pop _ c.pop.new.self.items c.in-Some.next (subst (ArePending es) c.in-Some.ensures.items c.walk.invariant.held)).1

pub returns-in_err-visit : goal.returns-in_err-visit
returns-in_err-visit g c =
    let es = c.args.self.now.context.cx.now.entries in
    let r = reads g.N.Normalize.answers c.args.self.now in
    let all = steps r c.args.limit (trees_at es c.args.args.0) in
    let e = err_from_is_err_and c.from_residual-in_err-visit.result c.from_residual-in_err-visit.ensures.1 in
    subst (IsDecisive all) (sym (e.1 ∙ ap Err e.2))
    (visit-refused es r all (λ v. contains visit_eq c.walk.visited.visits v) (λ v. contains visit_eq c.enter.new.self.visits v) c.walk.pending.items c.pop.new.self.items c.in-Some.next c.walk.invariant c.in-Some.ensures.items c.enter.ensures.one
    c.in_err-visit.field-0.0 c.visit.new.pending.items c.in_err-visit.ensures.visited)

pub returns-in-Local : goal.returns-in-Local
returns-in-Local g c =
    let es = c.args.self.now.context.cx.now.entries in
    let r = reads g.N.Normalize.answers c.args.self.now in
    let now = c.visit.new.pending.items in (
      trees_at es c.in-Local.field-0.0,
      decided-local es r (steps r c.args.limit (trees_at es c.args.args.0)) (λ v. contains visit_eq c.walk.visited.visits v) (λ v. contains visit_eq c.enter.new.self.visits v) c.walk.pending.items c.pop.new.self.items c.in-Some.next
          c.walk.invariant c.in-Some.ensures.items c.enter.ensures.one c.in-Local.field-0 now (subst (λ z. IsVisit es r c.in-Some.next c.pop.new.self.items (Ok z) now) c.in-Local.is c.in_ok-visit.ensures.visited),
    )

pub returns-in-Uncovered : goal.returns-in-Uncovered
returns-in-Uncovered g c =
    let es = c.args.self.now.context.cx.now.entries in
    let r = reads g.N.Normalize.answers c.args.self.now in
    let now = c.visit.new.pending.items in (
      trees_at es c.in-Uncovered.field-0.0,
      decided-open es r (steps r c.args.limit (trees_at es c.args.args.0)) (λ v. contains visit_eq c.walk.visited.visits v) (λ v. contains visit_eq c.enter.new.self.visits v) c.walk.pending.items c.pop.new.self.items c.in-Some.next
          c.walk.invariant c.in-Some.ensures.items c.enter.ensures.one c.in-Uncovered.field-0 now (subst (λ z. IsVisit es r c.in-Some.next c.pop.new.self.items (Ok z) now) c.in-Uncovered.is c.in_ok-visit.ensures.visited),
    )

pub walk-smaller : goal.walk-smaller
walk-smaller g c =
    let es = c.args.self.now.context.cx.now.entries in
    let r = reads g.N.Normalize.answers c.args.self.now in
    visit-fewer es r (steps r c.args.limit (trees_at es c.args.args.0)) (λ v. contains visit_eq c.walk.visited.visits v) (λ v. contains visit_eq c.enter.new.self.visits v) c.walk.pending.items c.pop.new.self.items c.in-Some.next
    c.walk.invariant c.in-Some.ensures.items c.enter.ensures.one c.in_ok-visit.field-0 c.visit.new.pending.items c.in_ok-visit.ensures.visited

pub walk-preserved : goal.walk-preserved
walk-preserved g c =
    let es = c.args.self.now.context.cx.now.entries in
    let r = reads g.N.Normalize.answers c.args.self.now in
    let m = c.in_ok-visit.field-0 in
    visited es r (steps r c.args.limit (trees_at es c.args.args.0)) (λ v. contains visit_eq c.walk.visited.visits v) (λ v. contains visit_eq c.enter.new.self.visits v) c.walk.pending.items c.pop.new.self.items c.in-Some.next
    c.walk.invariant c.in-Some.ensures.items c.enter.ensures.one m (goes-on m c.in-Entered.is) c.visit.new.pending.items c.in_ok-visit.ensures.visited c.in_ok-visit.ensures.on_top c.in_ok-visit.ensures.held
