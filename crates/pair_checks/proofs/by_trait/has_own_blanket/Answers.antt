use Rattle.std.proofs.Common.{◌≤◌, arith}
use Rattle.type_terms.specs.Promised.Worlds.{ImplDecl}
use Rattle.declarations.specs.Items.{declared}
use Rattle.pair_checks.specs.ByTrait.{IsOwnBlanket}
use Rattle.pair_checks.proofs.ByTrait.{each-no-more, each-one-more, none-below, all-below, declared-none}
use Rattle.pair_checks.proofs.by_trait.has_own_blanket.Goals as goal

pub is_own_blanket-requires : goal.is_own_blanket-requires
is_own_blanket-requires c = c.in-Some.ensures.held c.args.cx.now.entries c.requires.held

pub loop-index-init : goal.loop-index-init
loop-index-init c = none-below (λ (y : ImplDecl). IsOwnBlanket c.args.declarations.now.local y → ⊥) (declared c.args.cx.now.entries c.args.declarations.now)

pub loop-index-preserved-in_default : goal.loop-index-preserved-in_default
loop-index-preserved-in_default c =
    let es = c.args.cx.now.entries in
    let d = c.args.declarations.now in
    each-no-more (λ (y : ImplDecl). IsOwnBlanket d.local y → ⊥) (declared es d) c.loop-index.index (c.in_default.ensures.found es) c.loop-index.invariant

pub loop-index-preserved : goal.loop-index-preserved
loop-index-preserved c =
    let es = c.args.cx.now.entries in
    let d = c.args.declarations.now in
    each-one-more (λ (y : ImplDecl). IsOwnBlanket d.local y → ⊥) (declared es d) c.loop-index.index _ (c.in-Some.ensures.found es)
    (declared-none es c.in-Some.def.now d.local (c.is_own_blanket.ensures c.if-is_own_blanket.false)) c.loop-index.invariant

pub returns : goal.returns
returns c = λ _.
    let over : c.args.end ≤ c.loop-index.index = omega (arith, c.loop-index-test.false) in
    all-below (λ (y : ImplDecl). IsOwnBlanket c.args.declarations.now.local y → ⊥) c.args.cx.now.entries c.args.declarations.now c.loop-index.index c.args.end c.requires.numbered over c.loop-index.invariant
