-- Visitors that look for names that are not declared, and for parameters and variables that are no variables of a goal.
use Rattle.std.specs.Prelude.{Bool, true, false, ◌||◌, not, List}
use Rattle.type_terms.specs.Promised.Label.{Label, adt, dynamic, principal, auto_trait}
use Rattle.type_terms.specs.Promised.Trees.{Trees, none, tree}
use Rattle.type_terms.specs.Promised.Worlds.{World}
use Rattle.type_terms.specs.Promised.Answers.{is_undeclared}
use Rattle.type_terms.specs.Visits.{IsBound}
use Rattle.type_terms.specs.declared.visit.Seen.{Seen}
use Rattle.type_terms.specs.declared.visit.Seen.TheVariants.{Break, Enter}
use Rattle.infer_table.specs.declared.canonical.CanonicalVarKind.{CanonicalVarKind}
use Rattle.goal_evaluator.specs.Variables.{is_variable_over}

-- A visitor breaks if this is true, and enters every other node.
abbrev pub BreaksAt : {B : Type 0} → Bool → Seen B → Type 0
BreaksAt true (Break b) = Unit {0}
BreaksAt false Enter = Unit {0}
BreaksAt _ _ = ⊥

-- The label of the first term passes the test.
abbrev pub at_root : (Label → Bool) → Trees → Bool
at_root p none = false
at_root p (tree l c o) = p l

-- The label of one of the terms passes the test. What is below them is not looked at.
abbrev pub some_root : (Label → Bool) → Trees → Bool
some_root p none = false
some_root p (tree l c o) = p l || some_root p o

-- A parameter, placeholder or variable that is no variable of these kinds.
abbrev pub is_foreign_tree : List CanonicalVarKind → Trees → Bool
is_foreign_tree kinds t = at_root (λ l. not (is_variable_over kinds l)) t

-- The first type names a struct, or among its bounds a trait, that is not declared.
abbrev pub names_undeclared : World → Trees → Bool
names_undeclared V (tree (adt s) c o) = is_undeclared V (adt s)
names_undeclared V (tree dynamic b o) = some_root (is_undeclared V) b
names_undeclared V t = false

-- The bounds of a `dyn` are no variables.
pub bounds-are-own : (B : Type 0) (kinds : List CanonicalVarKind) (t : Trees) → IsBound t → BreaksAt {B = B} (is_foreign_tree kinds t) Enter
bounds-are-own B kinds (tree (principal m i) c o) h = tt
bounds-are-own B kinds (tree (auto_trait i) c o) h = tt
bounds-are-own B kinds none h = tt
bounds-are-own B kinds (tree l c o) h = absurd h

-- The bounds of a `dyn` are looked at together with it.
pub bounds-are-seen : (B : Type 0) (V : World) (t : Trees) → IsBound t → BreaksAt {B = B} (names_undeclared V t) Enter
bounds-are-seen B V (tree (principal m i) c o) h = tt
bounds-are-seen B V (tree (auto_trait i) c o) h = tt
bounds-are-seen B V none h = tt
bounds-are-seen B V (tree l c o) h = absurd h
