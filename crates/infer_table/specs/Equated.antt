-- Equations over a table, in terms of an interner's handles.
use Rattle.std.specs.Prelude.{◌≡◌, ℕ, Bool, List, [], ◌∷◌}
use Rattle.type_terms.specs.Promised.Trees.{Trees, erase}
use Rattle.type_terms.specs.Promised.Handles.{Entry, trees_at}
use Rattle.type_terms.specs.Promised.Handles.{arg_trees}
use Rattle.type_terms.specs.declared.kinds.Ty.{Ty}
use Rattle.type_terms.specs.declared.kinds.GenericArgKind.{GenericArgKind}
use Rattle.infer_table.specs.Solutions.{Assignment, IsSorted, IsCompletion, resolved, Equates, OlderStays, AreEquivalent}
use Rattle.infer_table.specs.Content.{Table, content, Ready}
use Rattle.infer_table.specs.Equations.{weight}
use Rattle.infer_table.specs.Unification.{table_trees, Worklist, Outcome, onward, step, by_parts}
use Rattle.infer_table.specs.Worklists.{equation_trees, worklist}
use Rattle.infer_table.specs.declared.terms.Equation.{Equation}

-- ---- the steps
-- a step on an equation, where `rest` are the equations after it
abbrev pub step_of : List Entry → Table → Equation → Worklist → Outcome
step_of es t e rest = step (table_trees es t) (equation_trees es e) rest

-- the same for two types that are not variables
abbrev pub step_by_parts : List Entry → Table → Ty → Ty → Worklist → Outcome
step_by_parts es t a b rest = by_parts (table_trees es t) (trees_at es a.0) (trees_at es b.0) rest

-- the outcome of a step that leads to this table and these equations
abbrev pub onward_to : Bool → List Entry → Table → List Equation → Outcome
onward_to found es t left = onward found (table_trees es t) (worklist es left)

-- the number of nodes that the equations have to compare
abbrev pub weight_over : List Entry → Table → List Equation → ℕ
weight_over es t todo = weight (content es t.values) es todo

-- a single equation, as trees
abbrev pub only_equation : List Entry → GenericArgKind → GenericArgKind → Worklist
only_equation es a b = (arg_trees es a, arg_trees es b) ∷ []

-- ---- the tables before and after
-- the solutions of the second table are those of the first that make the two terms equal
abbrev pub MakesEqual : List Entry → Table → List Entry → Table → Trees → Trees → Type 0
MakesEqual old t new u a b = Equates (content old t.values) (content new u.values) a b

-- if both terms are variables without value, the younger has the older as its value in the second table
abbrev pub LeavesTheOlder : List Entry → Table → List Entry → Table → Trees → Trees → Type 0
LeavesTheOlder old t new u a b = OlderStays (content old t.values) (content new u.values) a b

-- tables with the same solutions resolve each term to the same term, up to lifetimes
abbrev pub SolutionsFixTerms : Type 0
SolutionsFixTerms =
    (old new : List Entry) (t u : Table) (x : Trees) → Ready old t → Ready new u → AreEquivalent (content old t.values) (content new u.values)
    → erase (resolved (content old t.values) x) ≡ erase (resolved (content new u.values) x)

-- a table that calls made has a solution for any terms of its variables without value
abbrev pub TablesHaveSolutions : Type 0
TablesHaveSolutions = (es : List Entry) (t : Table) (r : Assignment) → Ready es t → IsSorted r → (s : Assignment) × IsCompletion (content es t.values) r s
