-- The response that a context gives.
use Rattle.std.specs.Prelude.{◌≡◌, List, [], ◌∷◌, Option, Some, None}
use Rattle.type_terms.specs.Promised.Trees.{Trees, none, tree, ◌+++◌, sort_of}
use Rattle.type_terms.specs.Promised.Handles.{Entry, ArgsHeld}
use Rattle.type_terms.specs.Kinds.{args_trees}
use Rattle.infer_table.specs.declared.certainty.Certainty.{Certainty}
use Rattle.infer_table.specs.declared.certainty.Certainty.TheVariants.{Yes, Maybe}
use Rattle.infer_table.specs.declared.certainty.MaybeCause.TheVariants.{Ambiguity, Overflow}
use Rattle.infer_table.specs.Canonical.{canonical_form, HasNoCanonical}
use Rattle.infer_table.specs.declared.canonical.CanonicalVarKind.{CanonicalVarKind}
use Rattle.infer_table.specs.Unification.{TableTrees}
use Rattle.infer_table.specs.Solutions.{Assignment, Solves, instance, resolved}
use Rattle.infer_table.specs.Content.{content}
use Rattle.infer_table.specs.Constraints.{constraints_trees}
use Rattle.infer_table.specs.Values.{Value, values_of}
use Rattle.infer_table.specs.declared.response.CanonicalResponse.{CanonicalResponse}
use Rattle.infer_table.specs.Applied.{trees_of}
use Rattle.infer_table.specs.Responses.{AnswerTrees, as_goal, response_form, answer_leaves, numbered_by, ResponseHeld}
use Rattle.infer_table.specs.Covers.{Agrees, AreNumbered}
use Rattle.infer_table.specs.Raw.{variables_from}
use Rattle.goal_evaluator.specs.Context.{Context}

-- what a context over the interner `old` knows of the input's variables and of lifetimes
module _ (old : List Entry) (c : Context) where
  abbrev pub known_values : Trees
  known_values = resolved (content old c.table.values) (args_trees old c.values)

  abbrev pub known_constraints : Trees
  known_constraints = resolved (content old c.table.values) (constraints_trees old c.table.constraints)

  abbrev pub known_trees : Trees
  known_trees = resolved (content old c.table.values) (args_trees old c.values +++ constraints_trees old c.table.constraints)

-- The response, over the interner `new`, is the canonical form of what the context knows of the input's variables and of
-- lifetimes. It agrees with each solution of the table.
pub record SaysWhatIsKnown (old new : List Entry) (c : Context) (r : CanonicalResponse) : Type 0 where
  pub held : ResponseHeld new r
  pub form : response_form new r ≡ canonical_form (as_goal (known_trees old c))
  pub values : args_trees new r.var_values.items ≡ numbered_by (answer_leaves (known_trees old c)) (known_values old c)
  pub constraints : constraints_trees new r.region_constraints.items ≡ numbered_by (answer_leaves (known_trees old c)) (known_constraints old c)
  pub agrees : HasNoCanonical (known_values old c) → (s : Assignment) → Solves s (content old c.table.values) → Agrees (args_trees new r.var_values.items) (instance s (args_trees old c.values))
  pub numbered : HasNoCanonical (known_values old c) → AreNumbered r.variables.items (args_trees new r.var_values.items)

-- the response has no values: each of the input's variables is its own value
pub record OwnAnswerSaysNothing (new : List Entry) (c : Context) (r : CanonicalResponse) : Type 0 where
  pub held : ArgsHeld new r.var_values.items
  pub variables : r.variables.items ≡ c.variables
  pub values : values_of new r.var_values.items ≡ variables_from 0 c.variables
  pub constraints : r.region_constraints.items ≡ []

-- what a response with this certainty states: nothing after an overflow
abbrev pub OwnAnswerSays : List Entry → List Entry → Context → CanonicalResponse → Certainty → Type 0
OwnAnswerSays old new c r Yes = SaysWhatIsKnown old new c r
OwnAnswerSays old new c r (Maybe Ambiguity) = SaysWhatIsKnown old new c r
OwnAnswerSays old new c r (Maybe Overflow) = OwnAnswerSaysNothing new c r

-- ---- over terms
-- the kinds that are there
abbrev pub kinds_in : List (Option CanonicalVarKind) → List CanonicalVarKind
kinds_in [] = []
kinds_in (None ∷ ks) = kinds_in ks
kinds_in (Some k ∷ ks) = k ∷ kinds_in ks

-- the terms of a list, each with its kind
abbrev pub values_in : Trees → List Value
values_in none = []
values_in (tree l c o) = record { sort = sort_of l; trees = tree l c none } ∷ values_in o

-- the response that is the canonical form of what a table knows of these values and of lifetimes
abbrev pub known_answer : List Value → TableTrees → Certainty → AnswerTrees
known_answer own t c =
    let ls = answer_leaves (resolved t.bindings (trees_of own +++ t.constraints)) in
    record {
      kinds = kinds_in (canonical_form (as_goal (resolved t.bindings (trees_of own +++ t.constraints)))).kinds;
      certainty = c;
      values = values_in (numbered_by ls (resolved t.bindings (trees_of own)));
      constraints = numbered_by ls (resolved t.bindings t.constraints);
    }

-- the response of a table, for a goal whose variables are of these kinds and have these values
abbrev pub answer_of : List CanonicalVarKind → List Value → TableTrees → Certainty → AnswerTrees
answer_of kinds own t Yes = known_answer own t Yes
answer_of kinds own t (Maybe Ambiguity) = known_answer own t (Maybe Ambiguity)
answer_of kinds own t (Maybe Overflow) = record { kinds = kinds; certainty = Maybe Overflow; values = variables_from 0 kinds; constraints = none }
