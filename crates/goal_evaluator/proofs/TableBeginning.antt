-- The table with which a frame begins: an inference variable for each one of the goal, all of them free.
use Rattle.std.proofs.Common.{◌≡◌, ℕ, zero, suc, ◌+◌, ◌<◌, ◌≤◌, arith, Bool, true, false, ◌&&◌, List, [], ◌∷◌, map, refl, sym, ◌∙◌, ap, Some, if◌then◌else◌}
use Rattle.std.proofs.lemmas.Bool.Decides.{nat_tests}
use Rattle.std.specs.Prelude.{ltb}
use Rattle.type_terms.specs.Promised.Label.{Label, Sort, of_type, of_const, of_lifetime, infer, placeholder, static, never}
use Rattle.type_terms.specs.Promised.Trees.{Trees, none, tree, leaf, sort_of, is_sort}
use Rattle.type_terms.specs.Trees.{is_a}
use Rattle.infer_table.specs.Solutions.{Assignment, tree_of}
use Rattle.infer_table.specs.declared.canonical.CanonicalVarKind.{CanonicalVarKind}
use Rattle.infer_table.specs.declared.canonical.CanonicalVarKind.TheVariants.{Ty, PlaceholderTy, Const, PlaceholderConst, Region}
use Rattle.infer_table.proofs.SolutionLaws.{is_sort-equal as is-sort}
use Rattle.goal_evaluator.specs.Lists.{Every}
use Rattle.goal_evaluator.specs.Instances.{default_label, of_sort, first_term, other_terms}
use Rattle.type_terms.specs.Made.{terms, is_made}
use Rattle.goal_evaluator.specs.Content.{Values, ChosenTerms, fits, reading_of}
use Rattle.goal_evaluator.specs.FrameTables.{kind_at, is_good, is_placeholder_of, AreOwn, IsMadeFrame, HaveValues, consts_in, labels_from, types_in}
use Rattle.type_terms.proofs.Made.{false-true, left}
use Rattle.goal_evaluator.specs.TableOperations.{begin}
use Rattle.goal_evaluator.proofs.Reading.{append-none}
use Rattle.goal_evaluator.proofs.Equating.{single-of}

-- ---- labels
own-labels : (a b c i : ℕ) (ks : List CanonicalVarKind) → AreOwn i ks (labels_from a b c i ks)
own-labels a b c i [] = tt
own-labels a b c i (Ty ∷ ks) = ((a, refl), own-labels (suc a) b c (suc i) ks)
own-labels a b c i (Const ∷ ks) = ((b, refl), own-labels a (suc b) c (suc i) ks)
own-labels a b c i (Region ∷ ks) = (refl, own-labels a b (suc c) (suc i) ks)
own-labels a b c i (PlaceholderTy ∷ ks) = (refl, own-labels a b c (suc i) ks)
own-labels a b c i (PlaceholderConst ∷ ks) = (refl, own-labels a b c (suc i) ks)

pub below : (v n : ℕ) → v < n → ltb v n ≡ true
below v n h = grind (arith, nat_tests, h)

pub below-is : (v n : ℕ) → ltb v n ≡ true → v < n
below-is v n h = grind (arith, nat_tests, h)

-- the rest of the kinds stands at these places
abbrev IsRest : List CanonicalVarKind → ℕ → List CanonicalVarKind → Type 0
IsRest kinds i ks = (j : ℕ) → kind_at kinds (i + j) ≡ kind_at ks j

rest-on : (kinds : List CanonicalVarKind) (i : ℕ) (k : CanonicalVarKind) (ks : List CanonicalVarKind) → IsRest kinds i (k ∷ ks) → IsRest kinds (suc i) ks
rest-on kinds i k ks h j = ap (kind_at kinds) (place i j) ∙ h (suc j)
  where
    place : (i j : ℕ) → suc i + j ≡ i + suc j
    place i j = omega arith

rest-here : (kinds : List CanonicalVarKind) (i : ℕ) (k : CanonicalVarKind) (ks : List CanonicalVarKind) → IsRest kinds i (k ∷ ks) → kind_at kinds i ≡ Some k
rest-here kinds i k ks h = ap (kind_at kinds) (place i) ∙ h zero
  where
    place : (i : ℕ) → i ≡ i + zero
    place i = omega arith

module _ (kinds : List CanonicalVarKind) (types consts : ℕ) where
  abbrev AreLeaves : List Label → Type 0
  AreLeaves ls = Every (λ l. is_made (is_good kinds types consts) terms (leaf l) ≡ true) ls

  type-leaf : (a : ℕ) → a < types → is_made (is_good kinds types consts) terms (leaf (infer of_type a)) ≡ true
  type-leaf a h = ap (λ b. b && true) (below a types h)

  const-leaf : (b : ℕ) → b < consts → is_made (is_good kinds types consts) terms (leaf (infer of_const b)) ≡ true
  const-leaf b h = ap (λ c. c && true) (below b consts h)

  place-leaf : (k : Sort) (i : ℕ) → is_placeholder_of k (kind_at kinds i) ≡ true → is_made (is_good kinds types consts) terms (leaf (placeholder k i)) ≡ true
  place-leaf k i h = ap (λ b. b && true) h

  leaves-made : (a b c i : ℕ) (ks : List CanonicalVarKind) → a + types_in ks ≤ types → b + consts_in ks ≤ consts → IsRest kinds i ks → AreLeaves (labels_from a b c i ks)
  leaves-made a b c i [] p q r = tt
  leaves-made a b c i (Ty ∷ ks) p q r = (type-leaf a (omega (arith, p)), leaves-made (suc a) b c (suc i) ks (omega (arith, p)) q (rest-on kinds i Ty ks r))
  leaves-made a b c i (Const ∷ ks) p q r = (const-leaf b (omega (arith, q)), leaves-made a (suc b) c (suc i) ks p (omega (arith, q)) (rest-on kinds i Const ks r))
  leaves-made a b c i (Region ∷ ks) p q r = (refl, leaves-made a b (suc c) (suc i) ks p q (rest-on kinds i Region ks r))
  leaves-made a b c i (PlaceholderTy ∷ ks) p q r =
      (place-leaf of_type i (ap (is_placeholder_of of_type) (rest-here kinds i PlaceholderTy ks r)), leaves-made a b c (suc i) ks p q (rest-on kinds i PlaceholderTy ks r))
  leaves-made a b c i (PlaceholderConst ∷ ks) p q r =
      (place-leaf of_const i (ap (is_placeholder_of of_const) (rest-here kinds i PlaceholderConst ks r)), leaves-made a b c (suc i) ks p q (rest-on kinds i PlaceholderConst ks r))

pub zero-plus : (j : ℕ) → 0 + j ≡ j
zero-plus j = omega arith

-- ---- the table
pub begin-made : (kinds : List CanonicalVarKind) → IsMadeFrame (begin kinds)
begin-made kinds = record {
  table = record { acyclic = tt; values = tt; counted = record { types = λ v h. below-is v (types_in kinds) h; consts = λ v h. below-is v (consts_in kinds) h } };
  leaves = leaves-made kinds (types_in kinds) (consts_in kinds) 0 0 0 0 kinds (omega arith) (omega arith) (λ j. ap (kind_at kinds) (zero-plus j));
  own = own-labels 0 0 0 0 kinds;
}

-- ---- all values are allowed
abbrev pub node_of : Sort → Trees → Label × Trees
node_of k none = (default_label k, none)
node_of k (tree l c o) = (l, c)

-- the value of the unknown with this number
abbrev type_value : List CanonicalVarKind → List Trees → ℕ → Label × Trees
type_value [] ts n = (never, none)
type_value (Ty ∷ ks) ts zero = node_of of_type (of_sort of_type (first_term ts))
type_value (Ty ∷ ks) ts (suc n) = type_value ks (other_terms ts) n
type_value (k ∷ ks) ts n = type_value ks (other_terms ts) n

abbrev const_value : List CanonicalVarKind → List Trees → ℕ → Label × Trees
const_value [] ts n = (default_label of_const, none)
const_value (Const ∷ ks) ts zero = node_of of_const (of_sort of_const (first_term ts))
const_value (Const ∷ ks) ts (suc n) = const_value ks (other_terms ts) n
const_value (k ∷ ks) ts n = const_value ks (other_terms ts) n

abbrev values_from : List CanonicalVarKind → List Trees → Assignment
values_from ks ts of_type n = type_value ks ts n
values_from ks ts of_const n = const_value ks ts n
values_from ks ts of_lifetime n = (static, none)

-- a term of a sort is the tree of its node
pub record IsNodeOf (k : Sort) (t : Trees) : Type 0 where
  pub whole : tree_of (node_of k t) ≡ t
  pub sort : sort_of (node_of k t).0 ≡ k

default-node : (k : Sort) → IsNodeOf k (leaf (default_label k))
default-node of_type = record { whole = refl; sort = refl }
default-node of_const = record { whole = refl; sort = refl }
default-node of_lifetime = record { whole = refl; sort = refl }

pub sort-is : (k : Sort) (l : Label) (c o : Trees) → is_a k (tree l c o) ≡ true → sort_of l ≡ k
sort-is of_type l c o h = is-sort (sort_of l) of_type (left (is_sort (sort_of l) of_type) _ h)
sort-is of_const l c o h = is-sort (sort_of l) of_const (left (is_sort (sort_of l) of_const) _ h)
sort-is of_lifetime l c o h = is-sort (sort_of l) of_lifetime (left (is_sort (sort_of l) of_lifetime) _ h)

no-term : (k : Sort) → is_a k none ≡ true → ⊥
no-term of_type h = false-true h
no-term of_const h = false-true h
no-term of_lifetime h = false-true h

pub node-is : (k : Sort) (t : Trees) → IsNodeOf k (of_sort k t)
node-is k t = by t (is_a k t) refl
  where
    by : (t : Trees) (b : Bool) → is_a k t ≡ b → IsNodeOf k (if b then t else leaf (default_label k))
    by t false e = default-node k
    by none true e = absurd (no-term k e)
    by (tree l c o) true e = record { whole = ap (tree l c) (sym (single-of k (tree l c o) e)); sort = sort-is k l c o e }

type-sorted : (ks : List CanonicalVarKind) (ts : List Trees) (n : ℕ) → sort_of (type_value ks ts n).0 ≡ of_type
type-sorted [] ts n = refl
type-sorted (Ty ∷ ks) ts zero = (node-is of_type (first_term ts)).sort
type-sorted (Ty ∷ ks) ts (suc n) = type-sorted ks (other_terms ts) n
type-sorted (k ∷ ks) ts n = type-sorted ks (other_terms ts) n

const-sorted : (ks : List CanonicalVarKind) (ts : List Trees) (n : ℕ) → sort_of (const_value ks ts n).0 ≡ of_const
const-sorted [] ts n = refl
const-sorted (Const ∷ ks) ts zero = (node-is of_const (first_term ts)).sort
const-sorted (Const ∷ ks) ts (suc n) = const-sorted ks (other_terms ts) n
const-sorted (k ∷ ks) ts n = const-sorted ks (other_terms ts) n

pub values-sorted : (ks : List CanonicalVarKind) (ts : List Trees) (k : Sort) (v : ℕ) → sort_of (values_from ks ts k v).0 ≡ k
values-sorted ks ts of_type v = type-sorted ks ts v
values-sorted ks ts of_const v = const-sorted ks ts v
values-sorted ks ts of_lifetime v = refl

-- the terms that give the goal's variables these values
abbrev pub terms_for : List CanonicalVarKind → Values → ChosenTerms
terms_for kinds v = record {
  own = v;
  slots = map (reading_of (record { own = v; slots = []; unknowns = values_from kinds v.terms; proper = true })) (labels_from 0 0 0 0 kinds);
  unknowns = values_from kinds v.terms;
  proper = v.proper && fits (map Some kinds) v.terms;
}

-- what the unknowns from a and b on stand for is what the rest of the terms says
record GivesRest (kinds : List CanonicalVarKind) (all : List Trees) (a b : ℕ) (ks : List CanonicalVarKind) (ts : List Trees) : Type 0 where
  pub types : (n : ℕ) → type_value kinds all (a + n) ≡ type_value ks ts n
  pub consts : (n : ℕ) → const_value kinds all (b + n) ≡ const_value ks ts n

plus-zero : (a : ℕ) → a ≡ a + 0
plus-zero a = omega arith

plus-suc : (a n : ℕ) → suc a + n ≡ a + suc n
plus-suc a n = omega arith

have-values : (kinds : List CanonicalVarKind) (s : ChosenTerms) (all : List Trees) → s.unknowns ≡ values_from kinds all → (a b c i : ℕ) (ks : List CanonicalVarKind) (ts : List Trees)
    → GivesRest kinds all a b ks ts → HaveValues ks ts (map (reading_of s) (labels_from a b c i ks))
have-values kinds s all e a b c i [] ts g = tt
have-values kinds s all e a b c i (Ty ∷ ks) ts g = (
  sym (append-none (tree_of (s.unknowns of_type a)) ∙ ap (λ (f : Assignment). tree_of (f of_type a)) e
      ∙ ap (λ n. tree_of (type_value kinds all n)) (plus-zero a) ∙ ap tree_of (g.types 0) ∙ (node-is of_type (first_term ts)).whole),
  have-values kinds s all e (suc a) b c (suc i) ks (other_terms ts) (record { types = λ n. ap (type_value kinds all) (plus-suc a n) ∙ g.types (suc n); consts = g.consts }),
)
have-values kinds s all e a b c i (Const ∷ ks) ts g = (
  sym (append-none (tree_of (s.unknowns of_const b)) ∙ ap (λ (f : Assignment). tree_of (f of_const b)) e
      ∙ ap (λ n. tree_of (const_value kinds all n)) (plus-zero b) ∙ ap tree_of (g.consts 0) ∙ (node-is of_const (first_term ts)).whole),
  have-values kinds s all e a (suc b) c (suc i) ks (other_terms ts) (record { types = g.types; consts = λ n. ap (const_value kinds all) (plus-suc b n) ∙ g.consts (suc n) }),
)
have-values kinds s all e a b c i (Region ∷ ks) ts g = have-values kinds s all e a b (suc c) (suc i) ks (other_terms ts) (record { types = g.types; consts = g.consts })
have-values kinds s all e a b c i (PlaceholderTy ∷ ks) ts g = have-values kinds s all e a b c (suc i) ks (other_terms ts) (record { types = g.types; consts = g.consts })
have-values kinds s all e a b c i (PlaceholderConst ∷ ks) ts g = have-values kinds s all e a b c (suc i) ks (other_terms ts) (record { types = g.types; consts = g.consts })

pub given-values : (kinds : List CanonicalVarKind) (v : Values) → HaveValues kinds v.terms (terms_for kinds v).slots
given-values kinds v =
    have-values kinds (record { own = v; slots = []; unknowns = values_from kinds v.terms; proper = true }) v.terms refl 0 0 0 0 kinds v.terms
    (record { types = λ n. ap (type_value kinds v.terms) (zero-plus n); consts = λ n. ap (const_value kinds v.terms) (zero-plus n) })
