-- Equations over the tables of frames: when they hold, and what unification does to a table.
use Rattle.std.specs.Prelude.{◌≡◌, ◌<◌, ℕ, Bool, true, Some}
use Rattle.type_terms.specs.Promised.Label.{Label, Sort, of_type, of_const, of_lifetime, infer, param, placeholder}
use Rattle.type_terms.specs.Promised.Trees.{Trees, sort_of}
use Rattle.type_terms.specs.Trees.{Single}
use Rattle.infer_table.specs.Solutions.{Binding, HasValues, Acyclic}
use Rattle.infer_table.specs.Unification.{TableTrees, Worklist, term_sort, unified}
use Rattle.goal_evaluator.specs.Lists.{Every}
use Rattle.goal_evaluator.specs.Instances.{read_with, as_place, term_at}
use Rattle.type_terms.specs.Made.{terms, is_made}
use Rattle.goal_evaluator.specs.Content.{ChosenTerms, standing, UnknownStands}

-- both terms have the same value
abbrev pub AreOne : ChosenTerms → Trees × Trees → Type 0
AreOne s e = read_with (standing s) e.0 ≡ read_with (standing s) e.1

-- each binding of the table holds
abbrev pub Hold : ChosenTerms → TableTrees → Type 0
Hold s t = Every (UnknownStands s) t.bindings

-- a single term, well-formed over good labels
pub record IsTermOf (good : Label → Bool) (t : Trees) : Type 0 where
  pub single : Single t
  pub made : is_made good terms t ≡ true

-- What a binding may be. Its inference variable is a good label too.
pub record IsValue (good : Label → Bool) (b : Binding) : Type 0 where
  pub sort : HasValues b.sort
  pub known : good (infer b.sort b.var) ≡ true
  pub single : Single b.value
  pub same_sort : term_sort b.value ≡ b.sort
  pub made : is_made good terms b.value ≡ true

abbrev pub IsTermPair : (Label → Bool) → Trees × Trees → Type 0
IsTermPair good e = IsTermOf good e.0 × IsTermOf good e.1

-- variables of lifetimes are good labels, since opened binders have them
abbrev pub HasLifetimes : (Label → Bool) → Type 0
HasLifetimes good = (v : ℕ) → good (infer of_lifetime v) ≡ true

-- each inference variable among the good labels is one of the table's
pub record AreCounted (good : Label → Bool) (t : TableTrees) : Type 0 where
  pub types : (v : ℕ) → good (infer of_type v) ≡ true → v < t.ty_vars
  pub consts : (v : ℕ) → good (infer of_const v) ≡ true → v < t.const_vars

-- a table whose values are terms, without cycles
pub record IsMadeTable (good : Label → Bool) (t : TableTrees) : Type 0 where
  pub acyclic : Acyclic t.bindings
  pub values : Every (IsValue good) t.bindings
  pub counted : AreCounted good t

-- The values that equations must not lose: the value of each inference variable is of its kind, there are no parameters, and
-- different placeholders have different values.
pub record IsApart (good : Label → Bool) (s : ChosenTerms) : Type 0 where
  pub sorted : (k : Sort) (v : ℕ) → sort_of (s.unknowns k v).0 ≡ k
  pub no_parameter : (k : Sort) (i : ℕ) → HasValues k → good (param k i) ≡ true → ⊥
  pub apart : (k : Sort) (i j : ℕ) → HasValues k → good (placeholder k i) ≡ true → good (placeholder k j) ≡ true
      → as_place k (term_at s.own.terms i) ≡ as_place k (term_at s.own.terms j) → i ≡ j

-- if the table with the equations holds, the table and all equations hold
abbrev pub EquationsNarrow : Type 0
EquationsNarrow =
    (good : Label → Bool) (t : TableTrees) (todo : Worklist) (u : TableTrees) → HasLifetimes good → IsMadeTable good t → Every (IsTermPair good) todo
    → unified t todo ≡ Some u → (s : ChosenTerms) → Hold s u → Hold s t × Every (AreOne s) todo

-- if the table and all equations hold, the equations have a solution, and the resulting table holds
abbrev pub EquationsKeep : Type 0
EquationsKeep =
    (good : Label → Bool) (t : TableTrees) (todo : Worklist) (s : ChosenTerms) → HasLifetimes good → IsMadeTable good t → Every (IsTermPair good) todo
    → IsApart good s → Hold s t → Every (AreOne s) todo → (u : TableTrees) × (unified t todo ≡ Some u) × Hold s u

-- the resulting table has the same inference variables
pub record IsAfter (good : Label → Bool) (t u : TableTrees) : Type 0 where
  pub made : IsMadeTable good u
  pub ty_vars : u.ty_vars ≡ t.ty_vars
  pub const_vars : u.const_vars ≡ t.const_vars

abbrev pub EquationsStayMade : Type 0
EquationsStayMade =
    (good : Label → Bool) (t : TableTrees) (todo : Worklist) (u : TableTrees) → HasLifetimes good → IsMadeTable good t → Every (IsTermPair good) todo
    → unified t todo ≡ Some u → IsAfter good t u
