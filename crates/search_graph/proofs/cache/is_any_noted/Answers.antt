use Rattle.std.proofs.Common.{◌<◌, subst, arith}
use Rattle.search_paths.specs.Nested.{IsWithin}
use Rattle.search_graph.specs.Chain.{IsNotedBy}
use Rattle.search_graph.proofs.Noted.{key_at}
use Rattle.search_graph.proofs.cache.is_any_noted.Goals as goal

pub returns : goal.returns
returns c = λ no number on within noted.
    let at = key_at c.args.positions.now.entries number on in
    let inside = at.4 in
    let before : at.0 < c.loop-index.index = omega (arith, inside) in
    c.loop-index.invariant at.0 at.1 before at.2 (subst (IsWithin c.args.range) at.3 within) (subst (IsNotedBy c.args.first.now c.args.place) at.3 noted)
