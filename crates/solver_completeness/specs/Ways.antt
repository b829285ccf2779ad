-- The rule instances of trait references, as lists of premises, and what is possible, unambiguous and bounded by them.
use Rattle.std.specs.Prelude.{◌≡◌, ◌⊎◌, ℕ, zero, suc, List, [], ◌∷◌, Option, Some, None}
use Rattle.goal_evaluator.specs.Lists.{Every, SomeOf}
use Rattle.goal_evaluator.specs.Table.{Tables}
use Rattle.goal_evaluator.specs.Law.{IsYes}

-- P holds of at most one
abbrev pub AtMostOneHolds : {A : Type 0} → (A → Type 0) → List A → Type 0
AtMostOneHolds P [] = Unit {0}
AtMostOneHolds P (x ∷ xs) = (P x → SomeOf P xs → ⊥) × AtMostOneHolds P xs

-- The first rule instances are the second ones up to order and duplicates, of rule instances as well as of their premises. Two
-- rule instances are compared by the set of their premises.
pub record IsSelection {Fact : Type 0} (found all : List (List Fact)) : Type 1 where
  pub every : (P : Fact → Type 0) → Every (Every P) all → Every (Every P) found
  pub some : (P : Fact → Type 0) → SomeOf (Every P) all → SomeOf (Every P) found
  pub back : (P : Fact → Type 0) → SomeOf (Every P) found → SomeOf (Every P) all
  pub one : (P : Fact → Type 0) → AtMostOneHolds (Every P) all → AtMostOneHolds (Every P) found

module _ {Fact : Type 0} (ways : Fact → List (List Fact)) where
  -- each chain of premises has fewer than n steps
  abbrev pub HasShortChains : ℕ → Fact → Type 0
  HasShortChains zero f = ⊥
  HasShortChains (suc n) f = Every (Every (HasShortChains n)) (ways f)

  -- some rule instance has premises that are possible in fewer steps
  abbrev pub IsPossible : ℕ → Fact → Type 0
  IsPossible zero f = ⊥
  IsPossible (suc n) f = SomeOf (Every (IsPossible n)) (ways f)

  -- in chains of fewer than n steps, each trait reference has at most one rule instance whose premises all hold
  abbrev pub HasOneWayWithin : (Fact → Type 0) → ℕ → Fact → Type 0
  HasOneWayWithin Holds zero f = ⊥
  HasOneWayWithin Holds (suc n) f = AtMostOneHolds (Every Holds) (ways f) × Every (Every (HasOneWayWithin Holds n)) (ways f)

  -- a trait reference holds exactly if the premises of some rule instance do
  pub record HoldsByWays (Holds : Fact → Type 0) : Type 0 where
    pub by_way : (f : Fact) → SomeOf (Every Holds) (ways f) → Holds f
    pub has_way : (f : Fact) → Holds f → SomeOf (Every Holds) (ways f)

  -- refuted exactly if it is not possible
  abbrev pub IsExactFor : {Response : Type 0} → ℕ → Fact → Option Response → Type 0
  IsExactFor n f None = (m : ℕ) → IsPossible m f → ⊥
  IsExactFor n f (Some r) = IsPossible n f

-- a definite yes if it holds, and refuted if it does not
abbrev pub IsRightFor : {Question Response : Type 0} (t : Tables Question Response) → (t.Fact → Type 0) → t.Fact → Option Response → Type 0
IsRightFor t Holds f a = (Holds f × IsYes t a) ⊎ ((Holds f → ⊥) × (a ≡ None))
