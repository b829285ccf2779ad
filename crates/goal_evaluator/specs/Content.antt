-- Values of the variables of canonical goals, and of the inference variables of a table.
use Rattle.std.specs.Prelude.{◌≡◌, ℕ, Bool, true, ◌&&◌, List, [], ◌∷◌, Option, Some, None}
use Rattle.type_terms.specs.Promised.Label.{Label, of_type, of_const, of_lifetime, param, placeholder, infer, canonical, bound, static, of_trait, predicate}
use Rattle.type_terms.specs.Promised.Trees.{Trees, none, tree, leaf}
use Rattle.type_terms.specs.Trees.{is_a}
use Rattle.infer_table.specs.Canonical.{GoalTrees, CanonicalForm}
use Rattle.infer_table.specs.Solutions.{Assignment, Binding, tree_of}
use Rattle.infer_table.specs.declared.canonical.CanonicalVarKind.{CanonicalVarKind}
use Rattle.infer_table.specs.declared.canonical.CanonicalVarKind.TheVariants.{Ty, PlaceholderTy, Const, PlaceholderConst, Region}
use Rattle.goal_evaluator.specs.Instances.{read_with, goal_read, default_label, of_sort, is_place, as_place, first_term, other_terms, term_at}

-- ---- values
-- Terms for the variables of a canonical goal. If they are not proper, they are values of no goal.
pub record Values : Type 0 where
  pub proper : Bool
  pub terms : List Trees

-- for an inference variable a term of its kind, and for a placeholder a parameter or placeholder
abbrev pub fits_kind : Option CanonicalVarKind → Trees → Bool
fits_kind (Some Ty) t = is_a of_type t
fits_kind (Some Const) t = is_a of_const t
fits_kind (Some PlaceholderTy) t = is_place of_type t
fits_kind (Some PlaceholderConst) t = is_place of_const t
fits_kind (Some Region) t = true
fits_kind None t = true

abbrev pub fits : List (Option CanonicalVarKind) → List Trees → Bool
fits [] ts = true
fits (k ∷ ks) ts = fits_kind k (first_term ts) && fits ks (other_terms ts)

-- The value of a canonical variable. Other open leaves do not occur in terms over such variables, so they get a default.
abbrev pub given : List Trees → Label → Option Trees
given ts (canonical of_type i) = Some (of_sort of_type (term_at ts i))
given ts (canonical of_const i) = Some (of_sort of_const (term_at ts i))
given ts (canonical of_lifetime i) = Some (leaf static)
given ts (infer k v) = Some (leaf (default_label k))
given ts (param k v) = Some (leaf (default_label k))
given ts (placeholder k v) = Some (leaf (default_label k))
given ts static = Some (leaf static)
given ts (bound of_lifetime k i) = Some (leaf static)
given ts l = None

-- ---- trait references and nested goals
-- The trait of a trait reference. An open leaf has none, whatever its value.
abbrev pub trait_at : Label → Option ℕ
trait_at (predicate (of_trait i)) = Some i
trait_at l = None

abbrev pub trait_of : Trees → Option ℕ
trait_of none = None
trait_of (tree l c o) = trait_at l

-- A trait reference with its where-clauses. It holds only if it is proper. `trait` is that of the goal of which it is an
-- instance, so all instances of a goal have the same one.
pub record Fact : Type 0 where
  pub trait : Option ℕ
  pub goal : GoalTrees
  pub proper : Bool

-- a canonical goal, and whether the step to it is coinductive
pub record NestedQuestion : Type 0 where
  pub form : CanonicalForm
  pub coinductive : Bool

abbrev pub fact_of : NestedQuestion → Values → Fact
fact_of q v = record { trait = trait_of q.form.goal.predicate; goal = goal_read (given v.terms) q.form.goal; proper = v.proper && fits q.form.kinds v.terms }

-- ---- values of all inference variables
-- Terms for all inference variables of a table. `own` are the values of the goal's variables, and `slots` the values of all
-- canonical variables.
pub record ChosenTerms : Type 0 where
  pub own : Values
  pub slots : List Trees
  pub unknowns : Assignment
  pub proper : Bool

-- the value of an open leaf in a table's terms
abbrev pub standing : ChosenTerms → Label → Option Trees
standing s (infer of_type v) = Some (tree_of (s.unknowns of_type v))
standing s (infer of_const v) = Some (tree_of (s.unknowns of_const v))
standing s (placeholder of_type i) = Some (as_place of_type (term_at s.own.terms i))
standing s (placeholder of_const i) = Some (as_place of_const (term_at s.own.terms i))
standing s (param of_type i) = Some (leaf (param of_type i))
standing s (param of_const i) = Some (leaf (param of_const i))
standing s (infer of_lifetime v) = Some (leaf static)
standing s (placeholder of_lifetime i) = Some (leaf static)
standing s (param of_lifetime i) = Some (leaf static)
standing s static = Some (leaf static)
standing s (canonical of_lifetime i) = Some (leaf static)
standing s (bound of_lifetime k i) = Some (leaf static)
standing s l = None

abbrev pub reading_of : ChosenTerms → Label → Trees
reading_of s l = read_with (standing s) (leaf l)

-- the inference variable's value is that of its binding
abbrev pub UnknownStands : ChosenTerms → Binding → Type 0
UnknownStands s b = tree_of (s.unknowns b.sort b.var) ≡ read_with (standing s) b.value
