use Rattle.std.proofs.Common.{refl, ◌∙◌, ap, arith, length, length-append, ◌∷◌, [], is_ok, Vec, Global}
use Rattle.infer_table.specs.declared.related.Begun.{Begun}
use Rattle.infer_table.proofs.RelatedSteps.{no-items, stays-open, is-done, is-dropped, none-begun}
use Rattle.infer_table.proofs.related.Related.finish.Goals as goal

pub done-init : goal.done-init
done-init c = λ es t todo h n r. h

pub returns-then-last-left : goal.returns-then-last-left
returns-then-last-left c = record {
  tracks = λ es t todo h n r.
      let lt = c.if-last-left.true in
      stays-open es t todo c.done.self c.in-Some.last c.pop.new.self.items (c.done.invariant es t todo h n r) (c.in-Some.ensures.items) (record c.done.self { begun = c.push.new.self }) refl (is_ok c.push.result) c.push.ensures.items (omega (arith, n, lt));
}

pub done-smaller-then-opened_none : goal.done-smaller-then-opened_none
done-smaller-then-opened_none c =
    let e = ap length c.in-Some.ensures.items in
    let l = length-append c.pop.new.self.items (c.in-Some.last ∷ []) in
    let s = ap (λ (v : Vec Begun Global). length v.items) c.settle.ensures.begun in
    omega (arith, e, l, s)

pub done-preserved-then-opened_none : goal.done-preserved-then-opened_none
done-preserved-then-opened_none c = λ es t todo h n r.
    let le = c.if-last-left.false in
    is-done es t todo c.done.self c.in-Some.last c.pop.new.self.items (c.done.invariant es t todo h n r) c.in-Some.ensures.items c.settle.new.self (ap (λ v. v.items) c.settle.ensures.begun) (omega (arith, n, le)) (c.opened_none.ensures c.if-opened_none.true ∙ r) c.settle.ensures.one

pub done-smaller : goal.done-smaller
done-smaller c =
    let e = ap length c.in-Some.ensures.items in
    let l = length-append c.pop.new.self.items (c.in-Some.last ∷ []) in
    omega (arith, e, l)

pub done-preserved : goal.done-preserved
done-preserved c = λ es t todo h n r. is-dropped es t todo c.done.self c.in-Some.last c.pop.new.self.items (c.done.invariant es t todo h n r) c.in-Some.ensures.items (record c.done.self { begun = c.pop.new.self }) refl refl

pub returns : goal.returns
returns c = record {
  tracks = λ es t todo h n r. none-begun es t todo (record c.done.self { begun = c.pop.new.self }) (c.done.invariant es t todo h n r).settled (no-items c.pop.new.self.items (let e = c.in_default.ensures.cases.1 in omega (arith, e)));
}
