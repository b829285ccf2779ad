-- Two laws of functions that the rules compute with: `same`, the equality test of terms, and `impl_rules`, the rule
-- instance of an impl. Functions of module `laws` prove them. With them, you can read the rules without these
-- functions' definitions.
use Rattle.std.specs.Prelude.{◌≡◌, ℕ, true, List, [], ◌⊎◌, ◌<◌, ◌∷◌}
use Rattle.type_terms.specs.Codes.{same}
use Rattle.type_terms.specs.Promised.Trees.{Trees, Fits, shift}
use Rattle.type_terms.specs.Promised.Worlds.{Reference, ImplDecl, with_args, all_with_args}
use Rattle.type_terms.specs.Promised.Rules.{Rule, by_impl, impl_rules}
use Rattle.type_terms.specs.Promised.Proofs.{Every}
use Rattle.type_terms.specs.Promised.Supers.{mentions_as}
use Rattle.type_terms.specs.Promised.Label.{Sort}

-- `same` is true exactly if the terms are equal. So `same_reference` is the equality of trait references.
abbrev pub SameIsEqual : Type 0
SameIsEqual = (x y : Trees) → (same x y ≡ true → x ≡ y) × (x ≡ y → same x y ≡ true)

-- The rule instance of an impl for r is what its declaration means:
-- - Either there is none, or arguments fit the header's parameters and turn the header into r, and the premises are the
--   where-clauses with these arguments.
-- - Whatever arguments fit and turn the header into r, the one rule instance is the one with these arguments. This
--   needs that each parameter of the impl is below their number and is in the header with the same kind, and that r has
--   no bound variable of a binder outside of it. Texts ensure both, without lifetimes.
-- For example, with `impl<T> Show for V<T> where T: Show`, `V<u8>: Show` has the rule with the premise `u8: Show`, and
-- `u8: Show` has none. Ruled out by the condition: `impl<T> Show for u8 where T: Show`, whose T no trait reference
-- determines.
abbrev pub ImplRulesAreInstances : Type 0
ImplRulesAreInstances =
    (r : Reference) (i : ImplDecl) → let its_rule : Trees → List Rule = λ A. record { way = by_impl i.name; premises = all_with_args A i.clauses } ∷ [] in
    ((impl_rules r i ≡ []) ⊎ ((A : Trees) × Fits A i.header.args × (with_args A i.header ≡ r) × (impl_rules r i ≡ its_rule A)))
    × (((s : Sort) (n : ℕ) → Every (λ k. mentions_as s n k.args ≡ true → (n < i.params) × (mentions_as s n i.header.args ≡ true)) (i.header ∷ i.clauses))
    → shift 0 1 r.args ≡ r.args → (A : Trees) → Fits A i.header.args → with_args A i.header ≡ r → impl_rules r i ≡ its_rule A)
