-- Lists of rules over terms, and what they prove.
use Rattle.std.specs.Prelude.{◌≡◌, ℕ, Bool, true, false, List, map, Option, Some, None}
use Rattle.type_terms.specs.Promised.Label.{Sort, param, placeholder, canonical, of_trait, predicate}
use Rattle.type_terms.specs.Promised.Trees.{Trees, none, tree}
use Rattle.type_terms.specs.Made.{terms, is_made}
use Rattle.infer_table.specs.Canonical.{GoalTrees}
use Rattle.infer_table.specs.declared.canonical.CanonicalVarKind.{CanonicalVarKind}
use Rattle.infer_table.specs.declared.canonical.CanonicalVarKind.TheVariants.{Ty, PlaceholderTy, Const, PlaceholderConst, Region}
use Rattle.goal_evaluator.specs.Lists.{Every, SomeOf}
use Rattle.goal_evaluator.specs.Proof.{FactHasProof}
use Rattle.goal_evaluator.specs.Instances.{goal_read}
use Rattle.goal_evaluator.specs.Content.{given, Fact}
use Rattle.goal_evaluator.specs.Variables.{is_variable_over, LabelStandsIn}

-- ---- rules
-- a trait with its arguments, the self type first: `?0: Show<u8>`
pub record TraitBound : Type 0 where
  pub trait : ℕ
  pub arguments : Trees

-- without where-clauses
abbrev pub goal_of : TraitBound → GoalTrees
goal_of b = record { environment = none; predicate = tree (predicate (of_trait b.trait)) b.arguments none }

-- The head holds if the premises do, for all values of the rule's variables, which are of these kinds and occur as the canonical
-- variables 0, 1 and so on. For example, `impl<T: Show> Show for Vec<T>` has one variable, the head `Vec<^0>: Show`, and the
-- premise `^0: Show`.
pub record FrameRule : Type 0 where
  pub kinds : List CanonicalVarKind
  pub head : TraitBound
  pub premises : List TraitBound

pub record RuleBook : Type 0 where
  pub rules : List FrameRule
  -- by the trait's number
  pub coinductive : ℕ → Bool

-- ---- well-formed rules
-- a rule's own variable is a type or a constant
abbrev pub IsUnknown : CanonicalVarKind → Type 0
IsUnknown Ty = Unit {0}
IsUnknown Const = Unit {0}
IsUnknown PlaceholderTy = ⊥
IsUnknown PlaceholderConst = ⊥
IsUnknown Region = ⊥

-- the arguments are terms over variables of these kinds
abbrev pub BoundIsOver : List CanonicalVarKind → TraitBound → Type 0
BoundIsOver kinds b = is_made (is_variable_over kinds) terms b.arguments ≡ true

-- each variable of a premise occurs in the head
abbrev pub IsDeterminedBy : TraitBound → TraitBound → Type 0
IsDeterminedBy head premise = (k : Sort) (i : ℕ) → LabelStandsIn (canonical k i) premise.arguments → LabelStandsIn (canonical k i) head.arguments

pub record IsRule (r : FrameRule) : Type 0 where
  pub kinds : Every IsUnknown r.kinds
  pub head : BoundIsOver r.kinds r.head
  pub premises : Every (BoundIsOver r.kinds) r.premises
  pub determined : Every (IsDeterminedBy r.head) r.premises

abbrev pub AreRules : RuleBook → Type 0
AreRules book = Every IsRule book.rules

-- ---- what is proved
abbrev pub instance_of : Bool → List Trees → TraitBound → Fact
instance_of proper values b = record { trait = Some b.trait; goal = goal_read (given values) (goal_of b); proper = proper }

-- the trait reference is the head, with terms in place of the rule's variables, and the premises are the rule's with the same
-- terms
pub record IsBy (f : Fact) (premises : List Fact) (r : FrameRule) : Type 0 where
  pub values : List Trees
  pub concludes : f.goal ≡ goal_read (given values) (goal_of r.head)
  pub needs : map (instance_of f.proper values) r.premises ≡ premises

-- no parameter and no placeholder occurs in the terms
abbrev pub HasNoPlace : Trees → Type 0
HasNoPlace none = Unit {0}
HasNoPlace (tree (param k i) c o) = ⊥
HasNoPlace (tree (placeholder k i) c o) = ⊥
HasNoPlace (tree l c o) = HasNoPlace c × HasNoPlace o

pub record IsClosedFact (f : Fact) : Type 0 where
  pub proper : f.proper ≡ true
  pub predicate : HasNoPlace f.goal.predicate

module _ (book : RuleBook) where
  -- terms that are no trait reference are not coinductive
  abbrev pub is_coinductive_trait : Option ℕ → Bool
  is_coinductive_trait None = false
  is_coinductive_trait (Some i) = book.coinductive i

  abbrev pub fact_is_coinductive : Fact → Bool
  fact_is_coinductive f = is_coinductive_trait f.trait

  -- only for proper trait references
  abbrev pub FollowsByRule : Fact → List Fact → Type 0
  FollowsByRule f premises = f.proper ≡ true → SomeOf (IsBy f premises) book.rules

  abbrev pub FollowsClosed : Fact → List Fact → Type 0
  FollowsClosed f premises = IsClosedFact f × SomeOf (IsBy f premises) book.rules

  -- solutions are sought among concrete trait references
  abbrev pub HasProofByBook : Fact → Type 0
  HasProofByBook f = FactHasProof Fact FollowsClosed fact_is_coinductive f
