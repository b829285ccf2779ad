-- The rule instances of trait references by the rules of a set of crates.
use Rattle.std.specs.Prelude.{◌≡◌, ℕ, true, List, [], ◌∷◌, ◌++◌, map, if◌then◌else◌}
use Rattle.type_terms.specs.Promised.Worlds.{World, Reference}
use Rattle.type_terms.specs.Promised.Rules.{rules, strict_supertraits}
use Rattle.type_terms.specs.Promised.Proofs.{HasProof}
use Rattle.type_terms.specs.Promised.Walks.{is_known_in}
use Rattle.type_terms.specs.Promised.Answers.{short_chains, is_possible, SingleWay}
use Rattle.solver_completeness.specs.Ways.{HasShortChains, IsPossible, HasOneWayWithin, HoldsByWays}

-- with where-clauses, one for each rule
abbrev pub ways_under : World → List Reference → Reference → List (List Reference)
ways_under W E r = map (λ u. u.premises) (rules W E r)

-- for crate c, one more if the trait reference is not knowable for it
abbrev pub ways_for : World → ℕ → Reference → List (List Reference)
ways_for V c r = map (λ u. u.premises) (rules V [] r) ++ (if is_known_in V c r then [] else strict_supertraits V r ∷ [])

abbrev pub ProofsAreByWays : Type 0
ProofsAreByWays = (W : World) (E : List Reference) → HoldsByWays (ways_under W E) (HasProof W E)

abbrev pub SingleWayIsDecided : Type 0
SingleWayIsDecided = (W : World) (E : List Reference) (n : ℕ) (r : Reference) → SingleWay n W E r → HasOneWayWithin (ways_under W E) (HasProof W E) n r

pub record PossibleIsByWays : Type 0 where
  pub to : (V : World) (c n : ℕ) (r : Reference) → is_possible n V c r ≡ true → IsPossible (ways_for V c) n r
  pub from : (V : World) (c n : ℕ) (r : Reference) → IsPossible (ways_for V c) n r → is_possible n V c r ≡ true

abbrev pub ShortIsByWays : Type 0
ShortIsByWays = (V : World) (c n : ℕ) (r : Reference) → short_chains n V c r ≡ true → HasShortChains (ways_for V c) n r
