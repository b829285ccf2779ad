-- The tables of frames: their content as terms, the values that they allow, and their operations.
use Rattle.std.specs.Prelude.{◌≡◌, ℕ, zero, suc, ltb, Bool, true, false, ◌&&◌, List, [], ◌∷◌, map, Option, Some, None, if◌then◌else◌}
use Rattle.type_terms.specs.Promised.Label.{Label, Sort, of_type, of_const, of_lifetime, param, placeholder, infer, canonical, bound, static}
use Rattle.type_terms.specs.Promised.Trees.{Trees, leaf, sort_of, is_sort, none}
use Rattle.type_terms.specs.Trees.{is_a}
use Rattle.infer_table.specs.Canonical.{GoalTrees, canonical_form, goal_leaves}
use Rattle.infer_table.specs.Solutions.{IsSorted}
use Rattle.infer_table.specs.Unification.{TableTrees, Worklist, unified}
use Rattle.infer_table.specs.declared.canonical.CanonicalVarKind.{CanonicalVarKind}
use Rattle.infer_table.specs.declared.canonical.CanonicalVarKind.TheVariants.{Ty, PlaceholderTy, Const, PlaceholderConst, Region}
use Rattle.infer_table.specs.Goals.{goal_resolved}
use Rattle.infer_table.specs.Values.{Value}
use Rattle.goal_evaluator.specs.Lists.{Every}
use Rattle.goal_evaluator.specs.Instances.{read_with, goal_read, put_in, goal_put_in, default_label, of_sort, is_place, as_place, first_term, other_terms, term_at}
use Rattle.type_terms.specs.Made.{terms, is_made}
use Rattle.goal_evaluator.specs.Content.{Values, fits, given, trait_of, Fact, NestedQuestion, fact_of, ChosenTerms, reading_of}
use Rattle.goal_evaluator.specs.Equations.{Hold, IsMadeTable}
use Rattle.infer_table.specs.Leaves.{root_label}
use Rattle.infer_table.specs.Applying.{values_for}
use Rattle.infer_table.specs.Applied.{with_constraints}

-- ---- labels
abbrev pub kind_at : List CanonicalVarKind → ℕ → Option CanonicalVarKind
kind_at [] i = None
kind_at (k ∷ ks) zero = Some k
kind_at (k ∷ ks) (suc i) = kind_at ks i

-- the kinds that are known
abbrev pub kinds_known : List (Option CanonicalVarKind) → List CanonicalVarKind
kinds_known [] = []
kinds_known (None ∷ ks) = kinds_known ks
kinds_known (Some k ∷ ks) = k ∷ kinds_known ks

abbrev pub is_placeholder_of : Sort → Option CanonicalVarKind → Bool
is_placeholder_of of_type (Some PlaceholderTy) = true
is_placeholder_of of_const (Some PlaceholderConst) = true
is_placeholder_of of_lifetime k = true
is_placeholder_of s k = false

-- the open leaves of a table's terms: its own inference variables, and the placeholders of its goal
abbrev pub is_good : List CanonicalVarKind → ℕ → ℕ → Label → Bool
is_good kinds types consts (infer of_type v) = ltb v types
is_good kinds types consts (infer of_const v) = ltb v consts
is_good kinds types consts (placeholder k i) = is_placeholder_of k (kind_at kinds i)
is_good kinds types consts (param of_type i) = false
is_good kinds types consts (param of_const i) = false
is_good kinds types consts (canonical k i) = false
is_good kinds types consts l = true

abbrev pub label_at : List Label → ℕ → Label
label_at [] i = static
label_at (l ∷ ls) zero = l
label_at (l ∷ ls) (suc i) = label_at ls i

-- the value of a variable of the goal: an inference variable, or the placeholder with the variable's index
abbrev pub IsOwn : ℕ → CanonicalVarKind → Label → Type 0
IsOwn place Ty l = (v : ℕ) × (l ≡ infer of_type v)
IsOwn place Const l = (v : ℕ) × (l ≡ infer of_const v)
IsOwn place PlaceholderTy l = l ≡ placeholder of_type place
IsOwn place PlaceholderConst l = l ≡ placeholder of_const place
IsOwn place Region l = sort_of l ≡ of_lifetime

abbrev pub AreOwn : ℕ → List CanonicalVarKind → List Label → Type 0
AreOwn place [] ls = Unit {0}
AreOwn place (k ∷ ks) [] = ⊥
AreOwn place (k ∷ ks) (l ∷ ls) = IsOwn place k l × AreOwn (suc place) ks ls

-- ---- tables
-- the kinds of the goal's variables, the values of the canonical variables of goal and candidate, and the inference variables
pub record FrameTable : Type 0 where
  pub kinds : List CanonicalVarKind
  pub labels : List Label
  pub content : TableTrees

abbrev pub good_in : FrameTable → Label → Bool
good_in t l = is_good t.kinds t.content.ty_vars t.content.const_vars l

-- its terms are well-formed
pub record IsMadeFrame (t : FrameTable) : Type 0 where
  pub table : IsMadeTable (good_in t) t.content
  pub leaves : Every (λ l. is_made (good_in t) terms (leaf l) ≡ true) t.labels
  pub own : AreOwn zero t.kinds t.labels

-- the inference variables of the goal have these values
abbrev pub HaveValues : List CanonicalVarKind → List Trees → List Trees → Type 0
HaveValues [] ts slots = Unit {0}
HaveValues (Ty ∷ ks) ts slots = (of_sort of_type (first_term ts) ≡ first_term slots) × HaveValues ks (other_terms ts) (other_terms slots)
HaveValues (Const ∷ ks) ts slots = (of_sort of_const (first_term ts) ≡ first_term slots) × HaveValues ks (other_terms ts) (other_terms slots)
HaveValues (k ∷ ks) ts slots = HaveValues ks (other_terms ts) (other_terms slots)

pub record Allows (t : FrameTable) (s : ChosenTerms) : Type 0 where
  pub made : IsMadeFrame t
  pub sorted : IsSorted s.unknowns
  pub hold : Hold s t.content
  pub slots : s.slots ≡ map (reading_of s) t.labels
  pub own : HaveValues t.kinds s.own.terms s.slots
  pub proper : s.proper ≡ (s.own.proper && fits (map Some t.kinds) s.own.terms)

-- different placeholders of the goal have different values
abbrev pub TellsApart : FrameTable → ChosenTerms → Type 0
TellsApart t s =
    (k : Sort) (i j : ℕ) → is_placeholder_of k (kind_at t.kinds i) ≡ true → is_placeholder_of k (kind_at t.kinds j) ≡ true
    → as_place k (term_at s.own.terms i) ≡ as_place k (term_at s.own.terms j) → (is_sort k of_lifetime ≡ false) → i ≡ j

-- the value of each placeholder of the goal is a parameter or placeholder
abbrev pub FitPlaceholders : List CanonicalVarKind → List Trees → Type 0
FitPlaceholders [] ts = Unit {0}
FitPlaceholders (PlaceholderTy ∷ ks) ts = (is_place of_type (first_term ts) ≡ true) × FitPlaceholders ks (other_terms ts)
FitPlaceholders (PlaceholderConst ∷ ks) ts = (is_place of_const (first_term ts) ≡ true) × FitPlaceholders ks (other_terms ts)
FitPlaceholders (k ∷ ks) ts = FitPlaceholders ks (other_terms ts)

pub record AllowsApart (t : FrameTable) (s : ChosenTerms) : Type 0 where
  pub allowed : Allows t s
  pub apart : TellsApart t s
  pub fit : FitPlaceholders t.kinds s.own.terms

-- ---- nested goals
pub record Nested : Type 0 where
  pub goal : GoalTrees
  pub coinductive : Bool

-- the label, if it is of this kind
abbrev pub label_of_sort : Sort → Label → Label
label_of_sort s l = if is_sort (sort_of l) s then l else default_label s

abbrev pub slot_at : List Label → Label → Option Trees
slot_at ls (canonical s i) = Some (leaf (label_of_sort s (label_at ls i)))
slot_at ls (infer k v) = Some (leaf (default_label k))
slot_at ls (param k v) = Some (leaf (default_label k))
slot_at ls (placeholder k v) = Some (leaf (default_label k))
slot_at ls static = Some (leaf static)
slot_at ls (bound of_lifetime k i) = Some (leaf (bound of_lifetime k i))
slot_at ls l = None

-- the nested goal with the values of its variables in this table
abbrev pub goal_in : FrameTable → Nested → GoalTrees
goal_in t n = goal_resolved t.content.bindings (goal_put_in (slot_at t.labels) n.goal)

abbrev pub question : FrameTable → Nested → NestedQuestion
question t n = record { form = canonical_form (goal_in t n); coinductive = n.coinductive }

abbrev pub fact : Nested → ChosenTerms → Fact
fact n s = record { trait = trait_of n.goal.predicate; goal = goal_read (given s.slots) n.goal; proper = s.proper }

-- the values of the variables of the canonical goal
abbrev pub values_at : FrameTable → Nested → ChosenTerms → Values
values_at t n s = record { proper = s.proper; terms = map (reading_of s) (goal_leaves (goal_in t n)) }

-- an instance of the canonical goal is an instance of the nested goal
abbrev pub InstanceOfQuestion : Type 0
InstanceOfQuestion = (t : FrameTable) (n : Nested) (s : ChosenTerms) → Allows t s → fact_of (question t n) (values_at t n s) ≡ fact n s

-- ---- equations
-- two values over the canonical variables that must be equal
pub record Equation : Type 0 where
  pub left : Value
  pub right : Value

-- the labels of terms over canonical variables
abbrev pub is_open_label : Label → Bool
is_open_label (infer k v) = false
is_open_label (param of_type i) = false
is_open_label (param of_const i) = false
is_open_label (placeholder of_type i) = false
is_open_label (placeholder of_const i) = false
is_open_label l = true

-- the value's term, or a default if the value is not of its kind
abbrev pub term_of : Value → Trees
term_of v = if is_a v.sort v.trees && is_made is_open_label terms v.trees then v.trees else leaf (default_label v.sort)

abbrev pub EquationIsMet : Equation → ChosenTerms → Type 0
EquationIsMet e s = read_with (given s.slots) (term_of e.left) ≡ read_with (given s.slots) (term_of e.right)

abbrev pub pair_in : FrameTable → Equation → Trees × Trees
pair_in t e = (put_in (slot_at t.labels) (term_of e.left), put_in (slot_at t.labels) (term_of e.right))

abbrev pub and_then : {A B : Type 0} → (A → Option B) → Option A → Option B
and_then f None = None
and_then f (Some x) = f x

-- one equation after another
abbrev pub in_turn : Worklist → TableTrees → Option TableTrees
in_turn [] t = Some t
in_turn (e ∷ todo) t = and_then (in_turn todo) (unified t (e ∷ []))

-- ---- labels and content after operations
-- the number of variables of a kind
abbrev pub types_in : List CanonicalVarKind → ℕ
types_in [] = 0
types_in (Ty ∷ ks) = suc (types_in ks)
types_in (k ∷ ks) = types_in ks

abbrev pub consts_in : List CanonicalVarKind → ℕ
consts_in [] = 0
consts_in (Const ∷ ks) = suc (consts_in ks)
consts_in (k ∷ ks) = consts_in ks

abbrev pub regions_in : List CanonicalVarKind → ℕ
regions_in [] = 0
regions_in (Region ∷ ks) = suc (regions_in ks)
regions_in (k ∷ ks) = regions_in ks

-- for each variable the next inference variable, or the placeholder with the variable's index
abbrev pub labels_from : ℕ → ℕ → ℕ → ℕ → List CanonicalVarKind → List Label
labels_from a b c i [] = []
labels_from a b c i (Ty ∷ ks) = infer of_type a ∷ labels_from (suc a) b c (suc i) ks
labels_from a b c i (Const ∷ ks) = infer of_const b ∷ labels_from a (suc b) c (suc i) ks
labels_from a b c i (Region ∷ ks) = infer of_lifetime c ∷ labels_from a b (suc c) (suc i) ks
labels_from a b c i (PlaceholderTy ∷ ks) = placeholder of_type i ∷ labels_from a b c (suc i) ks
labels_from a b c i (PlaceholderConst ∷ ks) = placeholder of_const i ∷ labels_from a b c (suc i) ks

-- the content of a new table: its inference variables, without values
abbrev pub first_content : List CanonicalVarKind → TableTrees
first_content kinds = record { ty_vars = types_in kinds; const_vars = consts_in kinds; region_vars = regions_in kinds; bindings = []; constraints = none }

abbrev pub unknown : ℕ → Option Value
unknown i = None

-- the labels of new inference variables of these kinds, in order
abbrev pub labels_for : TableTrees → ℕ → List CanonicalVarKind → List Label
labels_for t i ks = map (λ (v : Value). root_label v.trees) (values_for unknown t i ks)

-- the constraints over the table's inference variables, after those that are recorded
abbrev pub recorded_content : FrameTable → Trees → TableTrees
recorded_content t c = with_constraints (put_in (slot_at t.labels) c) t.content

-- the pairs of terms that the equations make equal
abbrev pub pairs_in : FrameTable → List Equation → Worklist
pairs_in t es = map (pair_in t) es
