use Rattle.std.proofs.Common.{◌≤◌, arith, refl}
use Rattle.declarations.specs.Items.{declared}
use Rattle.pair_checks.specs.ByTrait.{IsListed}
use Rattle.pair_checks.proofs.ByTrait.{each-no-more, each-one-more, each-weaker, none-below, all-below, listed-still, listed-now}
use Rattle.pair_checks.proofs.by_trait.ImplsByTrait.of_all.Goals as goal

pub loop-index-init : goal.loop-index-init
loop-index-init c = λ es. none-below (IsListed c.new-impls.result) (declared es c.args.declarations.now)

pub loop-index-preserved-in_default : goal.loop-index-preserved-in_default
loop-index-preserved-in_default c = λ es. each-no-more (IsListed c.loop-index.impls) (declared es c.args.declarations.now) c.loop-index.index (c.in_default.ensures.found es) (c.loop-index.invariant es)

pub loop-index-preserved : goal.loop-index-preserved
loop-index-preserved c = λ es.
    let V = declared es c.args.declarations.now in
    let m = c.loop-index.impls in
    let k = c.add.new.self in
    let trait = c.in-Some.def.now.header.def_id in
    each-one-more (IsListed k) V c.loop-index.index _ (c.in-Some.ensures.found es)
    (listed-now m k trait _ c.in_ok-add.ensures es c.in-Some.def.now refl)
    (each-weaker (IsListed m) (IsListed k) c.loop-index.index V (listed-still m k trait _ c.in_ok-add.ensures) (c.loop-index.invariant es))

pub returns : goal.returns
returns c = λ es.
    let over : c.args.end ≤ c.loop-index.index = omega (arith, c.loop-index-test.false) in
    all-below (IsListed c.loop-index.impls) es c.args.declarations.now c.loop-index.index c.args.end c.requires.numbered over (c.loop-index.invariant es)
