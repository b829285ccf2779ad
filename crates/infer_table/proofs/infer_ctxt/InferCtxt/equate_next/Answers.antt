use Rattle.std.proofs.Common.{◌≡◌, ◌∙◌, sym, ap, subst, ◌∷◌, ℕ, inl, length, arith}
use Rattle.infer_table.specs.Worklists.{equation_trees, worklist}
use Rattle.infer_table.specs.Related.{Tracks, Begins}
use Rattle.infer_table.specs.declared.related.Related.{Related}
use Rattle.infer_table.proofs.RunFacts.{stands-on}
use Rattle.infer_table.proofs.RelatedSteps.{worklist-length, skip-tracks, skip-stands, skip-same, skip-advances, step-tracks}
use Rattle.infer_table.proofs.infer_ctxt.InferCtxt.equate_next.Goals.{then-len-left, else-len-left}
use Rattle.infer_table.proofs.infer_ctxt.InferCtxt.equate_next.Goals as goal

pub returns-then-is_settled-clause-tracked : goal.returns-then-is_settled-clause-tracked
returns-then-is_settled-clause-tracked c =
    let es = c.args.cx.now.entries in
    let t = c.args.self.now in
    let w = worklist es c.args.todo.now.items in
    let r = c.requires.tracked in
    let rests = c.is_settled.ensures.settled c.if-is_settled.true es t (equation_trees es c.args.equation ∷ w) r.tracked in
    c.finish.ensures.tracks es t w (skip-tracks es t (equation_trees es c.args.equation) w c.args.related.now rests r) (let a = worklist-length es c.args.todo.now.items in let b = c.len-left.ensures in omega (arith, a, b)) c.num_region_vars.ensures

pub returns-then-is_settled-clause-same : goal.returns-then-is_settled-clause-same
returns-then-is_settled-clause-same c =
    let es = c.args.cx.now.entries in
    let t = c.args.self.now in
    skip-same es c.lawful.ensures t c.requires.ready c.args.todo.now.items c.requires.todo_held c.args.equation c.requires.left c.requires.right
    (c.is_settled.ensures.settled c.if-is_settled.true es t (equation_trees es c.args.equation ∷ worklist es c.args.todo.now.items) c.requires.tracked.tracked)

pub returns-then-is_settled-clause-advances : goal.returns-then-is_settled-clause-advances
returns-then-is_settled-clause-advances c =
    let es = c.args.cx.now.entries in
    let t = c.args.self.now in
    skip-advances es c.lawful.ensures t c.requires.ready c.args.todo.now.items c.requires.todo_held c.args.equation c.requires.left c.requires.right
    (c.is_settled.ensures.settled c.if-is_settled.true es t (equation_trees es c.args.equation ∷ worklist es c.args.todo.now.items) c.requires.tracked.tracked)

pub returns-then-is_settled-clause-exact : goal.returns-then-is_settled-clause-exact
returns-then-is_settled-clause-exact c = λ end s.
    let es = c.args.cx.now.entries in
    let t = c.args.self.now in
    skip-stands es c.lawful.ensures t c.requires.ready c.args.todo.now.items c.requires.todo_held c.args.equation c.requires.left c.requires.right
    (c.is_settled.ensures.settled c.if-is_settled.true es t (equation_trees es c.args.equation ∷ worklist es c.args.todo.now.items) c.requires.tracked.tracked) end s

pub returns-clause-tracked : goal.returns-clause-tracked
returns-clause-tracked c =
    let es = c.args.cx.now.entries in
    let fs = c.equate.new.cx.entries in
    let t = c.args.self.now in
    let u = c.equate.new.self in
    let before = c.args.todo.now.items in
    let left = c.equate.new.todo.items in
    let on : (new : Related) → new.settled ≡ c.args.related.now.settled → Begins c.args.equation (length before) t.region_vars c.args.related.now.begun.items new.begun.items → Tracks fs u (worklist fs left) new =
    λ new.
    step-tracks es fs c.lawful.ensures c.equate.ensures.terms.grew.keeps t u c.requires.ready c.equate.ensures.grows c.args.equation c.requires.left c.requires.right before left c.in_ok-found.found c.in_ok-found.ensures.exact
    c.args.related.now new c.requires.tracked in
    c.finish-2.ensures.tracks fs u (worklist fs left)
    (elim c.if-len-left.branch [
      | then-len-left w ↦ on c.if-len-left.related (ap (λ (r : Related). r.settled) w.related-is ∙ w.begin.ensures.settled)
          (subst (λ (r : Related). Begins c.args.equation (length before) t.region_vars c.args.related.now.begun.items r.begun.items) (sym w.related-is)
          (subst (λ (n : ℕ). Begins c.args.equation n t.region_vars c.args.related.now.begun.items w.begin.new.self.begun.items) (let b = c.len-left.ensures in omega (arith, b))
          (subst (λ (r : ℕ). Begins c.args.equation c.len-left.result r c.args.related.now.begun.items w.begin.new.self.begun.items) c.num_region_vars-lifetimes.ensures w.begin.ensures.begun)))
      | else-len-left w ↦ on c.if-len-left.related (ap (λ (r : Related). r.settled) w.related-is) (inl (ap (λ (r : Related). r.begun.items) w.related-is))
    ]) (let a = worklist-length fs left in let b = c.len-2.ensures in omega (arith, a, b)) c.num_region_vars-2.ensures

pub returns-clause-exact : goal.returns-clause-exact
returns-clause-exact c = λ end s.
    stands-on end c.args.cx.now.entries c.equate.new.cx.entries c.args.self.now c.equate.new.self c.args.equation c.args.todo.now.items c.equate.new.todo.items s c.in_ok-found.found c.in_ok-found.ensures.exact c.in_ok-found.ensures.advances
