use Rattle.std.proofs.Common.{◌≡◌, sym, ◌∙◌, arith, subst, map, drop}
use Rattle.text_tables.specs.Views.{sort_of_kind}
use Rattle.text_names.specs.UsedNames.{Holds}
use Rattle.text_names.specs.Views.{variable_in}
use Rattle.text_names.specs.Variables.{other_kind_names}
use Rattle.text_names.proofs.OtherSorts.{other-before, same-before}
use Rattle.text_names.proofs.variables.names_but.Goals as goal

pub loop-at-preserved-in-Continue-1 : goal.loop-at-preserved-in-Continue-1
loop-at-preserved-in-Continue-1 c =
    let vs = c.args.variables.now in
    let p = sort_of_kind c.args.sort in
    let i = c.loop-at.invariant in
    record {
      within = omega (arith, i.within);
      held = subst (Holds c.insert.new.self) (other-before p vs c.loop-at.at _ c.loop-at-test.true i.within (sym c.is_same.ensures ∙ c.if-not-is_same.true)) (c.in_ok-insert.ensures (other_kind_names p (map variable_in (drop c.loop-at.at vs))) i.held);
    }

pub loop-at-preserved : goal.loop-at-preserved
loop-at-preserved c =
    let vs = c.args.variables.now in
    let p = sort_of_kind c.args.sort in
    let i = c.loop-at.invariant in
    record {
      within = omega (arith, i.within);
      held = subst (Holds c.loop-at.others) (same-before p vs c.loop-at.at _ c.loop-at-test.true i.within (sym c.is_same.ensures ∙ c.if-not-is_same.false)) i.held;
    }

pub returns : goal.returns
returns c =
    let none : c.loop-at.at ≡ 0 = omega (arith, c.loop-at-test.false) in
    subst (λ n. Holds c.loop-at.others (other_kind_names (sort_of_kind c.args.sort) (map variable_in (drop n c.args.variables.now)))) none c.loop-at.invariant.held
