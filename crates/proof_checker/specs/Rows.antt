-- What built-in rules require of types, without lifetimes.
use Rattle.std.specs.Prelude.{◌≡◌, ℕ, true, List}
use Rattle.type_terms.specs.Promised.Proofs.{In}
use Rattle.type_terms.specs.Promised.Rules.{Rule, BuiltIn, built_in, asked, built_in_rules, is_auto, auto_rules, auto_rules_plain}
use Rattle.type_terms.specs.Promised.Trees.{Trees}
use Rattle.type_terms.specs.Promised.Worlds.{World, Reference}

-- A built-in rule concludes the trait of the type from the premises.
abbrev pub HasRow : World → ℕ → Trees → List Reference → Type 0
HasRow V t s ps = (b : BuiltIn) × In (let u : Rule = record { way = built_in b; premises = ps } in u) (built_in_rules V (asked t s))

-- The trait is an auto trait without an impl for the type, so that its own rule applies.
abbrev pub HasOwnRule : World → ℕ → Trees → Type 0
HasOwnRule V t s = (is_auto V t ≡ true) × (auto_rules V t s ≡ auto_rules_plain V t s)
