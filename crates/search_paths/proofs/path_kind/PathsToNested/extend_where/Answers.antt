use Rattle.std.proofs.Common.{◌≡◌, ◌<◌, ℕ, Some, bit_and, ap, ◌∙◌, sym, arith}
use Rattle.std.proofs.lemmas.Bool.{eqb-true, eqb-false, not-true, not-false}
use Rattle.search_paths.specs.Path.{only}
use Rattle.search_paths.proofs.PathSets.{has-one, shares-one, extended-there, extended-nowhere}
use Rattle.search_paths.proofs.path_kind.PathsToNested.extend_where.Goals as goal

pub returns-then-intersects : goal.returns-then-intersects
returns-then-intersects c =
    let kinds : ℕ = c.args.paths.0 in
    let same : c.from.result.0 ≡ only (Some c.args.kind) = c.from.ensures in
    let met : 0 < bit_and kinds (only (Some c.args.kind)) =
    rw (← same) (let ne = eqb-false _ _ (not-true _ (sym (c.intersects.ensures tt) ∙ c.if-intersects.true)) in omega arith) in
    extended-there kinds c.args.kind c.args.self.0 c.extend_with.result.0 (has-one kinds (Some c.args.kind) met) c.extend_with.ensures.exact

pub returns-else-intersects : goal.returns-else-intersects
returns-else-intersects c =
    let kinds : ℕ = c.args.paths.0 in
    let same : c.from.result.0 ≡ only (Some c.args.kind) = c.from.ensures in
    extended-nowhere kinds c.args.kind c.args.self.0 c.empty.result.0
    (shares-one kinds (Some c.args.kind) (ap (bit_and kinds) (sym same) ∙ eqb-true _ _ (not-false _ (sym (c.intersects.ensures tt) ∙ c.if-intersects.false)))) (c.empty.ensures tt)
