-- Rules and orders of arrangements of auto traits.
use Rattle.std.specs.Prelude.{◌≡◌, ℕ, ◌<◌, List, [], ◌∷◌, map}
use Rattle.type_terms.specs.Promised.Rules.{Rule}
use Rattle.type_terms.specs.Promised.Proofs.{Every}
use Rattle.type_terms.specs.Promised.Renumbering.{SameMembers}
use Rattle.type_terms.specs.Promised.Arranging.{Arrangement, arranged_reference}

-- The inverse arrangement.
abbrev pub turned_back : Arrangement → Arrangement
turned_back a = record {
  to = a.back;
  back = a.to;
  back_to = a.to_back;
  to_back = a.back_to;
  as_long = a.as_long_back;
  as_long_back = a.as_long;
  same_traits = a.same_traits_back;
  same_traits_back = a.same_traits;
}

-- v is the rule instance u after the arrangement, with premises in any order. For example, `u8: Unsize<dyn A + B>` has
-- the premises `u8: A` and `u8: B`, in this order.
pub record IsArrangedRule (a : Arrangement) (u v : Rule) : Type 0 where
  pub same_way : v.way ≡ u.way
  pub same_premises : SameMembers (map (arranged_reference a) u.premises) v.premises

-- The numbers rise by the order κ: each is below all that follow it.
abbrev pub RisesBy : (ℕ → ℕ) → List ℕ → Type 0
RisesBy κ [] = Unit {0}
RisesBy κ (n ∷ ns) = Every (λ m. κ n < κ m) ns × RisesBy κ ns

-- For any two orders, some arrangement maps each list that rises by the first to its members as they rise by the
-- second.
abbrev pub AnyTwoOrdersAreArranged : Type 0
AnyTwoOrdersAreArranged =
    (κ μ : ℕ → ℕ) → ((m n : ℕ) → κ m ≡ κ n → m ≡ n) → ((m n : ℕ) → μ m ≡ μ n → m ≡ n)
    → (α : Arrangement) × ((ns : List ℕ) → RisesBy κ ns → RisesBy μ (α.to ns))
