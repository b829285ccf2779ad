-- The table in which a candidate is evaluated, over terms: its start and its operations.
use Rattle.std.specs.Prelude.{List, [], ◌∷◌, ◌++◌, map, Option, Some, option_map, option_and_then}
use Rattle.type_terms.specs.Promised.Trees.{Trees, none}
use Rattle.infer_table.specs.Content.{Table}
use Rattle.infer_table.specs.Unification.{TableTrees, unified}
use Rattle.infer_table.specs.declared.canonical.CanonicalVarKind.{CanonicalVarKind}
use Rattle.infer_table.specs.declared.certainty.Certainty.{Certainty}
use Rattle.infer_table.specs.Unknowns.{next_labels, with_each}
use Rattle.infer_table.specs.Values.{Value, filled_values, goal_filled}
use Rattle.infer_table.specs.Applied.{with_constraints}
use Rattle.infer_table.specs.Applying.{next_unknown, with_unknown}
use Rattle.infer_table.specs.Responses.{AnswerTrees}
use Rattle.goal_evaluator.specs.Evaluating.{NestedTrees, leaf_value}
use Rattle.goal_evaluator.specs.OwnAnswers.{answer_of}

pub record FrameTrees : Type 0 where
  -- the kinds and the values of the goal's variables
  pub kinds : List CanonicalVarKind
  pub own : List Value
  -- the values of the variables in a candidate's terms: those of the goal, then the candidate's own
  pub values : List Value
  pub table : TableTrees

abbrev pub empty : Table
empty = record { ty_vars = 0; const_vars = 0; region_vars = 0; values = []; constraints = [] }

-- the values of the goal's variables: a new inference variable, or the placeholder with the variable's index
abbrev pub own_values : List CanonicalVarKind → List Value
own_values kinds = map leaf_value (next_labels empty 0 kinds)

-- the table that has only these inference variables
abbrev pub own_table : List CanonicalVarKind → TableTrees
own_table kinds =
    let t = with_each empty kinds in
    record {
      ty_vars = t.ty_vars;
      const_vars = t.const_vars;
      region_vars = t.region_vars;
      bindings = [];
      constraints = none;
    }

abbrev pub begun : List CanonicalVarKind → FrameTrees
begun kinds = record { kinds = kinds; own = own_values kinds; values = own_values kinds; table = own_table kinds }

-- ---- new inference variables
abbrev pub unknowns : TableTrees → List CanonicalVarKind → List Value
unknowns t [] = []
unknowns t (k ∷ ks) = next_unknown t k ∷ unknowns (with_unknown t k) ks

abbrev pub with_unknowns : TableTrees → List CanonicalVarKind → TableTrees
with_unknowns t [] = t
with_unknowns t (k ∷ ks) = with_unknowns (with_unknown t k) ks

-- with a new inference variable for each of the candidate's own variables
abbrev pub fresh : FrameTrees → List CanonicalVarKind → FrameTrees
fresh t kinds = record t { values = t.values ++ unknowns t.table kinds; table = with_unknowns t.table kinds }

-- ---- equations
-- both sides, with the values in place of canonical variables
abbrev pub pair_filled : List Value → Trees × Trees → Trees × Trees
pair_filled vs e = (filled_values vs e.0, filled_values vs e.1)

-- one equation after another, each in the table that the preceding ones left, or `None` if one fails
abbrev pub solved : TableTrees → List (Trees × Trees) → Option TableTrees
solved t [] = Some t
solved t (e ∷ es) = option_and_then (λ u. solved u es) (unified t (e ∷ []))

abbrev pub equate : FrameTrees → List (Trees × Trees) → Option FrameTrees
equate t es = option_map (λ u. record t { table = u }) (solved t.table (map (pair_filled t.values) es))

-- ---- constraints, nested goals and answers
-- region constraints, after those that are recorded
abbrev pub recorded : FrameTrees → Trees → FrameTrees
recorded t cs = record t { table = with_constraints (filled_values t.values cs) t.table }

abbrev pub nested_filled : List Value → NestedTrees → NestedTrees
nested_filled vs n = record n { goal = goal_filled vs n.goal }

-- the table's response: what is known of the goal's variables and of lifetimes
abbrev pub respond : FrameTrees → Certainty → AnswerTrees
respond t c = answer_of t.kinds t.own t.table c
