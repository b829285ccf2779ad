use Rattle.std.proofs.Common.{◌≡◌, ◌-◌, ◌^◌, ◌<◌, ℕ, Some, bit_and, ap, ◌∙◌, sym, arith}
use Rattle.std.proofs.lemmas.Bool.{eqb-true, eqb-false, not-true, not-false}
use Rattle.std.specs.Int.RustNames.{bit_or}
use Rattle.search_paths.specs.Path.{flag_of}
use Rattle.search_paths.proofs.PathSets.{AreExtendedBy-stays, AreExtendedBy-moves, AreExtendedBy-union, AreExtendedBy-twice}
use Rattle.search_paths.proofs.path_kind.PathsToNested.extend_with.Goals as goal

pub returns-then-intersects-clause-exact : goal.returns-then-intersects-clause-exact
returns-then-intersects-clause-exact c =
    let k = c.args.path in
    let n : ℕ = c.args.self.0 in
    let lesser = c.lesser_paths-lesser.ensures in
    let met : 0 < bit_and n (2 ^ flag_of (Some k) - 1) =
    rw (← lesser) (let ne = eqb-false _ _ (not-true _ (sym (c.intersects.ensures tt) ∙ c.if-intersects.true)) in omega arith) in
    let is : c.insert.new.self.0 ≡ bit_or (bit_and n (2 ^ 8 - 1 - (2 ^ flag_of (Some k) - 1))) (2 ^ flag_of (Some k)) =
    c.insert.ensures tt
    ∙ (λ i. bit_or ((c.remove.ensures tt ∙ ap (λ m. bit_and n (2 ^ 8 - 1 - m)) lesser) i) (c.from.ensures i)) in
    rw is (AreExtendedBy-moves k n met)

pub returns-then-intersects-clause-union : goal.returns-then-intersects-clause-union
returns-then-intersects-clause-union c = AreExtendedBy-union

pub returns-then-intersects-clause-twice : goal.returns-then-intersects-clause-twice
returns-then-intersects-clause-twice c = AreExtendedBy-twice

pub returns-else-intersects-clause-exact : goal.returns-else-intersects-clause-exact
returns-else-intersects-clause-exact c =
    let k = c.args.path in
    let n : ℕ = c.args.self.0 in
    let lesser = c.lesser_paths-lesser.ensures in
    AreExtendedBy-stays k n (ap (bit_and n) (sym lesser) ∙ eqb-true _ _ (not-false _ (sym (c.intersects.ensures tt) ∙ c.if-intersects.false)))

pub returns-else-intersects-clause-union : goal.returns-else-intersects-clause-union
returns-else-intersects-clause-union c = AreExtendedBy-union

pub returns-else-intersects-clause-twice : goal.returns-else-intersects-clause-twice
returns-else-intersects-clause-twice c = AreExtendedBy-twice
