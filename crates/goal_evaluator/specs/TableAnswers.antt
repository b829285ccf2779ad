-- Responses over the tables of frames.
use Rattle.std.specs.Prelude.{◌≡◌, ℕ, suc, ◌==◌, Bool, true, false, ◌&&◌, not, if◌then◌else◌, List, [], ◌∷◌, map, Option, Some, None}
use Rattle.type_terms.specs.Promised.Label.{Label, Sort, of_type, of_const, of_lifetime, infer, param, placeholder, canonical, bound, static}
use Rattle.type_terms.specs.Promised.Trees.{Trees, none, tree, leaf, ◌+++◌, sort_of, is_sort}
use Rattle.type_terms.specs.Trees.{is_a}
use Rattle.infer_table.specs.Unification.{TableTrees}
use Rattle.infer_table.specs.Canonical.{goal_leaves, kind_of_leaf, canonical_label, relabeled, leaves}
use Rattle.infer_table.specs.Solutions.{Assignment, IsSorted, tree_of, resolved}
use Rattle.infer_table.specs.declared.canonical.CanonicalVarKind.{CanonicalVarKind}
use Rattle.infer_table.specs.declared.certainty.Certainty.{Certainty}
use Rattle.infer_table.specs.declared.certainty.Certainty.TheVariants.{Maybe}
use Rattle.infer_table.specs.declared.certainty.MaybeCause.TheVariants.{Overflow}
use Rattle.infer_table.specs.Values.{Value}
use Rattle.infer_table.specs.Raw.{sort_of_kind, variables_from}
use Rattle.infer_table.specs.Responses.{AnswerTrees}
use Rattle.infer_table.specs.Answers.{is_answer_to}
use Rattle.infer_table.specs.Applied.{applied}
use Rattle.goal_evaluator.specs.Lists.{Every}
use Rattle.goal_evaluator.specs.Instances.{read_with, of_sort, first_term, other_terms}
use Rattle.goal_evaluator.specs.Content.{Values}
use Rattle.type_terms.specs.Made.{terms, is_made}
use Rattle.goal_evaluator.specs.FrameTables.{kind_at, FrameTable, Nested, goal_in, is_open_label}

-- ---- whether a response has values
-- the value is this canonical variable
abbrev pub is_variable_itself : ℕ → Sort → Trees → Bool
is_variable_itself i k (tree (canonical s j) none none) = is_sort k s && (i == j)
is_variable_itself i k t = false

-- Each value of a type or constant is the next canonical variable, starting with this number. A lifetime may have any value.
abbrev pub are_variables : ℕ → List Value → Bool
are_variables i [] = true
are_variables i (v ∷ vs) = if is_variable_itself i v.sort v.trees then are_variables (suc i) vs else (is_sort v.sort of_lifetime && are_variables i vs)

abbrev pub has_values : AnswerTrees → Bool
has_values a = not (are_variables 0 a.values)

-- ---- instances of a response
-- terms for the variables of a response
abbrev pub picked : Assignment → Label → Option Trees
picked q (canonical of_type i) = Some (tree_of (q of_type i))
picked q (canonical of_const i) = Some (tree_of (q of_const i))
picked q (canonical of_lifetime i) = Some (leaf static)
picked q (infer of_lifetime v) = Some (leaf static)
picked q (param of_lifetime v) = Some (leaf static)
picked q (placeholder of_lifetime v) = Some (leaf static)
picked q (bound of_lifetime i j) = Some (leaf static)
picked q static = Some (leaf static)
picked q l = None

-- the type or constant has this value
abbrev pub IsPicked : Assignment → Sort → Trees → Trees → Type 0
IsPicked q of_lifetime t x = Unit {0}
IsPicked q k t x = read_with (picked q) t ≡ of_sort k x

abbrev pub ArePicked : Assignment → List Value → List Trees → Type 0
ArePicked q [] ts = Unit {0}
ArePicked q (v ∷ vs) ts = IsPicked q v.sort v.trees (first_term ts) × ArePicked q vs (other_terms ts)

-- the values are an instance of the response's
abbrev pub IsInstanceOfAnswer : AnswerTrees → Values → Type 0
IsInstanceOfAnswer a v = (q : Assignment) × IsSorted q × ArePicked q a.values v.terms

-- ---- the response of a table
-- the labels of the goal's variables
abbrev pub own_labels : List CanonicalVarKind → List Label → List Label
own_labels [] ls = []
own_labels (k ∷ ks) [] = []
own_labels (k ∷ ks) (l ∷ ls) = l ∷ own_labels ks ls

-- the values of the goal's variables
abbrev pub own_values : FrameTable → List Trees
own_values t = map (λ l. resolved t.content.bindings (leaf l)) (own_labels t.kinds t.labels)

abbrev pub joined : List Trees → Trees
joined [] = none
joined (t ∷ ts) = t +++ joined ts

-- the open leaves of the response, without duplicates, by first occurrence
abbrev pub answer_leaves : FrameTable → List Label
answer_leaves t = leaves kind_of_leaf [] (joined (own_values t) +++ resolved t.content.bindings t.content.constraints)

abbrev pub numbered : FrameTable → Trees → Trees
numbered t x = relabeled kind_of_leaf (canonical_label (answer_leaves t)) x

abbrev pub value_numbered : FrameTable → Label → Value
value_numbered t l = record { sort = sort_of l; trees = numbered t (resolved t.content.bindings (leaf l)) }

-- the kinds of these leaves
abbrev pub with_kind : Option CanonicalVarKind → List CanonicalVarKind → List CanonicalVarKind
with_kind None ks = ks
with_kind (Some k) ks = k ∷ ks

abbrev pub kinds_of_labels : List Label → List CanonicalVarKind
kinds_of_labels [] = []
kinds_of_labels (l ∷ ls) = with_kind (kind_of_leaf l) (kinds_of_labels ls)

-- each variable is its own value, and there are no region constraints
abbrev pub without_values : List CanonicalVarKind → Certainty → AnswerTrees
without_values kinds c = record { kinds = kinds; certainty = c; values = variables_from 0 kinds; constraints = none }

-- an overflow has no values
abbrev pub respond : FrameTable → Certainty → AnswerTrees
respond t (Maybe Overflow) = without_values t.kinds (Maybe Overflow)
respond t c = record {
  kinds = kinds_of_labels (answer_leaves t);
  certainty = c;
  values = map (value_numbered t) (own_labels t.kinds t.labels);
  constraints = numbered t (resolved t.content.bindings t.content.constraints);
}

-- ---- a response applied to a table
abbrev pub is_kind_of : Sort → Option CanonicalVarKind → Bool
is_kind_of s None = false
is_kind_of s (Some k) = is_sort (sort_of_kind k) s

-- the open leaves in the values of a response: only its own variables
abbrev pub is_variable_of : List CanonicalVarKind → Label → Bool
is_variable_of ks (canonical s i) = is_kind_of s (kind_at ks i)
is_variable_of ks l = is_open_label l

-- the value is a term of its kind
abbrev pub is_fitting : List CanonicalVarKind → Value → Bool
is_fitting ks v = is_a v.sort v.trees && is_made (is_variable_of ks) terms v.trees

-- each value is a term of its kind
abbrev pub are_fitting : List CanonicalVarKind → List Value → Bool
are_fitting ks [] = true
are_fitting ks (v ∷ vs) = is_fitting ks v && are_fitting ks vs

-- each value of the response is a term of its kind over the response's own variables, whatever its goal
abbrev pub IsWellFormed : AnswerTrees → Type 0
IsWellFormed a = Every (λ v. is_fitting a.kinds v ≡ true) a.values

-- the response fits a goal whose variables have these values, and is well-formed
abbrev pub is_fitting_answer : List Value → AnswerTrees → Bool
is_fitting_answer originals a = is_answer_to originals a && are_fitting a.kinds a.values

-- A response to a goal with these values applied to the table, or `None` if that fails. A response that does not fit changes
-- nothing.
abbrev pub put_into : TableTrees → List Value → AnswerTrees → Option TableTrees
put_into t originals a = if is_fitting_answer originals a then applied t originals a else Some t

-- an open leaf as a value
abbrev pub leaf_value : Label → Value
leaf_value l = record { sort = sort_of l; trees = leaf l }

-- the values of the variables of the nested goal's canonical form
abbrev pub originals_of : FrameTable → Nested → List Value
originals_of t n = map leaf_value (goal_leaves (goal_in t n))
