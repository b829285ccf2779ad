-- Open leaves as handles, their collection and their numbering.
use Rattle.std.specs.Prelude.{◌≡◌, ℕ, Bool, true, false, List, [], ◌∷◌, map, is_some, IsSome, if◌then◌else◌, ◌==◌, ◌&&◌, bit_and}
use Rattle.type_terms.specs.Promised.Label.{Label, of_type, never, principal, auto_trait, predicate}
use Rattle.type_terms.specs.Promised.Trees.{Trees, none, tree, leaf, sort_of, is_sort}
use Rattle.type_terms.specs.Trees.{flags}
use Rattle.type_terms.specs.Promised.Handles.{Entry}
use Rattle.type_terms.specs.Promised.Handles.{ArgHeld, arg_trees}
use Rattle.type_terms.specs.declared.Fault.{Fault}
use Rattle.type_terms.specs.declared.Fault.TheVariants.{Memory}
use Rattle.type_terms.specs.declared.kinds.GenericArgKind.{GenericArgKind}
use Rattle.type_terms.specs.declared.visit.Seen.{Seen}
use Rattle.type_terms.specs.declared.visit.Seen.TheVariants.{Break, Enter, Pass}
use Rattle.term_folds.specs.Folds.{Does, enters, puts}
use Rattle.infer_table.specs.Canonical.{GoalTrees, OpenKinds, kind_of_leaf, kind_in_clause, with_label, leaves, canonical_label, relabeled}
use Rattle.infer_table.specs.declared.canonicalizer.TheConstants.{CLAUSE_FLAGS, OPEN_FLAGS}

-- the open kinds in a where-clause, and outside
abbrev pub open_kinds : Bool → OpenKinds
open_kinds true = kind_in_clause
open_kinds false = kind_of_leaf

abbrev pub root_label : Trees → Label
root_label none = never
root_label (tree l c o) = l

abbrev pub leaf_label : List Entry → GenericArgKind → Label
leaf_label es a = root_label (arg_trees es a)

abbrev pub labels : List Entry → List GenericArgKind → List Label
labels es xs = map (leaf_label es) xs

-- the argument is one leaf of the interner
abbrev pub IsLeaf : List Entry → GenericArgKind → Type 0
IsLeaf es a = ArgHeld es a × (arg_trees es a ≡ leaf (leaf_label es a))

abbrev pub AreLeaves : List Entry → List GenericArgKind → Type 0
AreLeaves es [] = Unit {0}
AreLeaves es (a ∷ rest) = IsLeaf es a × AreLeaves es rest

-- a leaf is listed, or memory is refused and the list does not change
abbrev pub Adds : List Label → Label → List Label → Seen Fault → Type 0
Adds before l after Enter = after ≡ with_label l before
Adds before l after (Break f) = (f ≡ Memory) × (after ≡ before)
Adds before l after Pass = ⊥

-- each label is open
abbrev pub AreOpen : List Label → Type 0
AreOpen [] = Unit {0}
AreOpen (l ∷ ls) = IsSome (kind_of_leaf l) × AreOpen ls

-- the labels `seen`, and the root's label if it is open
abbrev pub with_root : OpenKinds → List Label → Trees → List Label
with_root kind seen none = seen
with_root kind seen (tree l c o) = if is_some (kind l) then with_label l seen else seen

-- each open node is a leaf
abbrev pub OpenAreLeaves : OpenKinds → Trees → Type 0
OpenAreLeaves kind none = Unit {0}
OpenAreLeaves kind (tree l c o) = (IsSome (kind l) → c ≡ none) × OpenAreLeaves kind c × OpenAreLeaves kind o

pub record OpenAreLeavesOf (g : GoalTrees) : Type 0 where
  pub environment : OpenAreLeaves kind_in_clause g.environment
  pub predicate : OpenAreLeaves kind_of_leaf g.predicate

-- the root is a leaf, if it is open
abbrev pub RootIsLeaf : OpenKinds → Trees → Type 0
RootIsLeaf kind none = Unit {0}
RootIsLeaf kind (tree l c o) = IsSome (kind l) → c ≡ none

-- the response of a collector at a node, if its leaves change from `before` to `after`. It breaks only if memory is refused
abbrev pub Collects : OpenKinds → Trees → List Label → List Label → Seen Fault → Type 0
Collects kind t before after (Break f) = (f ≡ Memory) × (after ≡ before)
Collects kind t before after Enter = (after ≡ with_root kind before t) × RootIsLeaf kind t
Collects kind t before after Pass = (after ≡ leaves kind before t) × OpenAreLeaves kind t

-- the flags of terms with open leaves in a where-clause, and outside
abbrev pub open_flags : Bool → ℕ
open_flags true = CLAUSE_FLAGS
open_flags false = OPEN_FLAGS

abbrev pub are_closed_flags : Bool → ℕ → Bool
are_closed_flags b f = bit_and f (open_flags b) == 0

-- no open leaf occurs in the trees, by their flags
abbrev pub is_closed_by : Bool → Trees → Bool
is_closed_by b t = are_closed_flags b (flags t)

abbrev pub is_closed_goal : GoalTrees → Bool
is_closed_goal g = is_closed_by true g.environment && is_closed_by false g.predicate

-- the label of a type
abbrev pub is_type_label : Label → Bool
is_type_label (principal n i) = false
is_type_label (auto_trait i) = false
is_type_label (predicate k) = false
is_type_label l = is_sort (sort_of l) of_type

-- what the folder of numbers does at a node. It replaces a leaf by its canonical variable, and a type without open leaves by itself
abbrev pub numbering : Bool → List Label → List ℕ → Trees → Does
numbering b ls bs none = enters
numbering b ls bs (tree l c o) =
    if is_some (open_kinds b l) then puts (tree (canonical_label ls l) (relabeled (open_kinds b) (canonical_label ls) c) none)
    else (if is_type_label l && is_closed_by b (tree l c none) then puts (tree l c none) else enters)
