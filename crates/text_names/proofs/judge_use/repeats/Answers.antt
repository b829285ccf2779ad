use Rattle.std.proofs.Common.{drop, map, sym, ◌∙◌, subst, arith}
use Rattle.text_lines.specs.TokenViews.{text_of}
use Rattle.text_names.specs.UsedNames.{Holds}
use Rattle.text_names.proofs.Numbers.{one-before, repeats-found, repeats-none}
use Rattle.text_names.proofs.judge_use.repeats.Goals as goal

pub returns-then-contains : goal.returns-then-contains
returns-then-contains c =
    let ns = c.args.names.now in
    let i = c.loop-at.invariant in
    repeats-found ns c.loop-at.at _ c.loop-at-test.true i.within (sym (c.contains.ensures (map text_of (drop c.loop-at.at ns)) i.held) ∙ c.if-contains.true)

pub loop-at-preserved : goal.loop-at-preserved
loop-at-preserved c =
    let ns = c.args.names.now in
    let i = c.loop-at.invariant in
    let behind = map text_of (drop c.loop-at.at ns) in
    record {
      within = omega arith;
      held = subst (Holds c.insert.new.self) (sym (one-before ns c.loop-at.at _ c.loop-at-test.true i.within)) (c.in_ok-insert.ensures behind i.held);
      none = repeats-none ns c.loop-at.at _ c.loop-at-test.true i.within (sym (c.contains.ensures behind i.held) ∙ c.if-contains.false) i.none;
    }
