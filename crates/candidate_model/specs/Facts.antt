-- The facts of frames as trait references with where-clauses, and what follows from them by the rules of a view.
use Rattle.std.specs.Prelude.{◌≡◌, ℕ, zero, suc, Bool, true, false, not, List, [], ◌∷◌, Option, Some, None}
use Rattle.type_terms.specs.Promised.Label.{Label, of_lifetime, param, placeholder, infer, canonical, bound, fn_ptr, principal, of_trait, predicate}
use Rattle.type_terms.specs.Promised.Trees.{Trees, none, tree, some_node}
use Rattle.type_terms.specs.Promised.Worlds.{World, Reference}
use Rattle.type_terms.specs.Promised.Rules.{Way, rules, is_coinductive}
use Rattle.type_terms.specs.Promised.Proofs.{In}
use Rattle.type_terms.specs.Promised.Proofs as Model
use Rattle.goal_evaluator.specs.Lists.{Every, IsAmong}
use Rattle.goal_evaluator.specs.Proof.{FactHasProof}
use Rattle.goal_evaluator.specs.Content.{Fact}

-- ---- trait references and where-clauses as terms, and back
abbrev pub tree_of_reference : Reference → Trees → Trees
tree_of_reference r others = tree (predicate (of_trait r.trait)) r.args others

abbrev pub trees_of_clauses : List Reference → Trees
trees_of_clauses [] = none
trees_of_clauses (r ∷ rs) = tree_of_reference r (trees_of_clauses rs)

-- The where-clauses of a list that are trait references. Those about lifetimes are left out.
abbrev pub clauses_of : Trees → List Reference
clauses_of none = []
clauses_of (tree (predicate (of_trait t)) c o) = record { trait = t; args = c } ∷ clauses_of o
clauses_of (tree l c o) = clauses_of o

abbrev pub children_of : Trees → Trees
children_of none = none
children_of (tree l c o) = c

abbrev pub trait_or_first : Option ℕ → ℕ
trait_or_first None = 0
trait_or_first (Some t) = t

-- The trait reference of a fact.
abbrev pub reference_in : Fact → Reference
reference_in f = record { trait = trait_or_first f.trait; args = children_of f.goal.predicate }

-- The fact of another trait reference, with the where-clauses of this fact.
abbrev pub beside : Fact → Reference → Fact
beside f r = record { trait = Some r.trait; goal = record { environment = f.goal.environment; predicate = tree_of_reference r none }; proper = f.proper }

-- ---- terms without lifetimes
-- The label has lifetimes, or is a bound variable.
abbrev pub is_unerased : Label → Bool
is_unerased (fn_ptr zero) = false
is_unerased (fn_ptr (suc n)) = true
is_unerased (principal zero t) = false
is_unerased (principal (suc n) t) = true
is_unerased (param of_lifetime i) = true
is_unerased (placeholder of_lifetime i) = true
is_unerased (infer of_lifetime i) = true
is_unerased (canonical of_lifetime i) = true
is_unerased (bound s k i) = true
is_unerased l = false

abbrev pub is_plain : Fact → Bool
is_plain f = not (some_node is_unerased f.goal.predicate)

-- ---- what follows
-- The fact is that of its trait reference. It follows by a rule of V or by one of its where-clauses, and the rule's premises are among the
-- given facts.
pub record FactFollows (V : World) (f : Fact) (premises : List Fact) : Type 0 where
  pub asks : beside f (reference_in f) ≡ f
  pub way : Way
  pub references : List Reference
  pub rule : In (record { way = way; premises = references }) (rules V (clauses_of f.goal.environment) (reference_in f))
  pub among : Every (λ r. IsAmong (beside f r) premises) references
  pub plain : Every (λ p. is_plain p ≡ true) premises

-- Nothing is required of a fact that is improper or has lifetimes.
abbrev pub FollowsByView : World → Fact → List Fact → Type 0
FollowsByView V f premises = f.proper ≡ true → is_plain f ≡ true → FactFollows V f premises

abbrev pub is_coinductive_trait : World → Option ℕ → Bool
is_coinductive_trait V None = false
is_coinductive_trait V (Some t) = is_coinductive V t

abbrev pub is_coinductive_fact : World → Fact → Bool
is_coinductive_fact V f = is_coinductive_trait V f.trait

-- A proof of facts gives a proof of the trait reference by the rules.
abbrev pub ProofsOfFactsAreProofs : Type 0
ProofsOfFactsAreProofs =
    (V : World) (f : Fact) → f.proper ≡ true → is_plain f ≡ true → FactHasProof Fact (FollowsByView V) (is_coinductive_fact V) f
    → Model.HasProof V (clauses_of f.goal.environment) (reference_in f)

-- A trait reference and where-clauses can be read back from the terms that they are written as.
abbrev pub ReferencesComeBack : Type 0
ReferencesComeBack = (E : List Reference) → clauses_of (trees_of_clauses E) ≡ E
