-- The goals that are decided: trait references with where-clauses, over canonical variables.
use Rattle.std.specs.Prelude.{Bool, true, false, ◌&&◌, ◌||◌, ◌==◌, not, List, [], ◌∷◌, Option, Some, None}
use Rattle.type_terms.specs.Promised.Label.{Label, of_type, of_trait, predicate, canonical}
use Rattle.type_terms.specs.Promised.Trees.{Trees, none, tree, erase_label, is_sort, sort_of}
use Rattle.type_terms.specs.Promised.Worlds.{World, Reference}
use Rattle.type_terms.specs.Promised.Answers.{written_in, is_open}
use Rattle.type_terms.specs.Promised.Rules.{unsize}
use Rattle.type_terms.specs.Made.{terms}
use Rattle.type_terms.specs.Made.{is_made}
use Rattle.infer_table.specs.Canonical.{CanonicalForm}
use Rattle.infer_table.specs.declared.canonical.CanonicalVarKind.{CanonicalVarKind}
use Rattle.infer_table.specs.declared.canonical.CanonicalVarKind.TheVariants.{Ty}
use Rattle.goal_evaluator.specs.FrameTables.{kind_at}
use Rattle.goal_evaluator.specs.Variables.{is_variable_over}
use Rattle.candidate_model.specs.Facts.{clauses_of}

-- A goal over variables of these kinds.
pub record GoalOverKinds : Type 0 where
  pub kinds : List CanonicalVarKind
  pub environment : Trees
  pub reference : Reference

-- The where-clauses that are trait references.
abbrev pub clauses : GoalOverKinds → List Reference
clauses a = clauses_of a.environment

-- The list of the kinds, if each of them is given.
abbrev pub with_first : Option CanonicalVarKind → Option (List CanonicalVarKind) → Option (List CanonicalVarKind)
with_first (Some k) (Some ks) = Some (k ∷ ks)
with_first (Some k) None = None
with_first None ks = None

abbrev pub all_known : List (Option CanonicalVarKind) → Option (List CanonicalVarKind)
all_known [] = Some []
all_known (o ∷ os) = with_first o (all_known os)

-- The terms of each where-clause are over these variables. No where-clause is itself a variable.
abbrev pub are_clauses : List CanonicalVarKind → Trees → Bool
are_clauses kinds none = true
are_clauses kinds (tree l c o) = not (is_open l) && (is_made (is_variable_over kinds) terms c && are_clauses kinds o)

-- The label is of a type, and is neither a parameter nor a variable nor a placeholder.
abbrev pub is_rigid : Label → Bool
is_rigid l = is_sort (sort_of l) of_type && not (is_open l)

-- The first term is a type: a canonical variable, or a type with a rigid head.
abbrev pub begins_with_type : Trees → Bool
begins_with_type none = false
begins_with_type (tree (canonical of_type i) c o) = true
begins_with_type (tree l c o) = is_rigid l

abbrev pub next_of : Trees → Trees
next_of none = none
next_of (tree l c o) = o

abbrev pub asked_if : Bool → GoalOverKinds → Option GoalOverKinds
asked_if true a = Some a
asked_if false a = None

abbrev pub asked_with : World → Trees → Trees → Option (List CanonicalVarKind) → Option GoalOverKinds
asked_with V environment (tree (predicate (of_trait t)) args none) (Some kinds) =
    let a : GoalOverKinds = record { kinds = kinds; environment = environment; reference = record { trait = t; args = args } } in
    asked_if (written_in V a.reference && (is_made (is_variable_over kinds) terms args && ((begins_with_type args && (not (t == unsize) || begins_with_type (next_of args))) && are_clauses kinds environment))) a
asked_with V environment asks kinds = None

-- The goal of a canonical form, if it is well-formed: the view declares all names, and its terms are over the form's variables.
abbrev pub goal_over_kinds : World → CanonicalForm → Option GoalOverKinds
goal_over_kinds V f = asked_with V f.goal.environment f.goal.predicate (all_known f.kinds)

-- ---- the self type, and the type after it
-- The arguments, with the head of the first without lifetimes: the binder of a `fn` pointer has no number of lifetimes.
abbrev pub with_plain_head : Trees → Trees
with_plain_head none = none
with_plain_head (tree l c o) = tree (erase_label l) c o

abbrev pub self_of : GoalOverKinds → Trees
self_of a = with_plain_head a.reference.args

-- The first term is an inference variable of a type.
abbrev pub is_unknown_kind : Option CanonicalVarKind → Bool
is_unknown_kind (Some Ty) = true
is_unknown_kind k = false

abbrev pub begins_unknown : List CanonicalVarKind → Trees → Bool
begins_unknown kinds (tree (canonical of_type i) c o) = is_unknown_kind (kind_at kinds i)
begins_unknown kinds t = false
