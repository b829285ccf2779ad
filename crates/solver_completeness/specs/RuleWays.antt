-- The rule instances of trait references by a list of rules over terms: the rules whose head matches, with their premises.
use Rattle.std.specs.Prelude.{◌≡◌, ℕ, suc, ◌==◌, Bool, ◌&&◌, if◌then◌else◌, List, [], ◌∷◌, map, Option, Some, None}
use Rattle.type_terms.specs.Promised.Label.{Sort, canonical}
use Rattle.type_terms.specs.Promised.Trees.{Trees, none, tree, is_sort}
use Rattle.type_terms.specs.Codes.{same}
use Rattle.infer_table.specs.declared.canonical.CanonicalVarKind.{CanonicalVarKind}
use Rattle.infer_table.specs.Raw.{sort_of_kind}
use Rattle.goal_evaluator.specs.Merge.{or_else}
use Rattle.goal_evaluator.specs.Instances.{goal_read}
use Rattle.goal_evaluator.specs.Content.{given, Fact, NestedQuestion}
use Rattle.goal_frames.specs.Rules.{goal_of, FrameRule, instance_of}
use Rattle.goal_frames.specs.Handlers.{BareGoal, bare_goal}

-- the part of the second terms at the position where the variable occurs first in the first terms
abbrev pub value_at : Sort → ℕ → Trees → Trees → Option Trees
value_at k i none x = None
value_at k i (tree l c o) none = None
value_at k i (tree (canonical j m) c o) (tree x d p) = if is_sort j k && (m == i) then Some (tree x d none) else value_at k i o p
value_at k i (tree l c o) (tree x d p) = or_else (value_at k i c d) (value_at k i o p)

abbrev pub or_none : Option Trees → Trees
or_none (Some x) = x
or_none None = none

-- for each variable, starting with this number
abbrev pub matched : ℕ → List CanonicalVarKind → Trees → Trees → List Trees
matched i [] pattern x = []
matched i (k ∷ ks) pattern x = or_none (value_at (sort_of_kind k) i pattern x) ∷ matched (suc i) ks pattern x

abbrev pub arguments_of : Trees → Trees
arguments_of none = none
arguments_of (tree l c o) = c

abbrev pub values_for : FrameRule → Fact → List Trees
values_for r f = matched 0 r.kinds r.head.arguments (arguments_of f.goal.predicate)

abbrev pub concludes : FrameRule → Fact → Bool
concludes r f = same f.goal.environment none && same f.goal.predicate (goal_read (given (values_for r f)) (goal_of r.head)).predicate

abbrev pub rule_ways : List FrameRule → Fact → List (List Fact)
rule_ways [] f = []
rule_ways (r ∷ rules) f = if concludes r f then map (instance_of f.proper (values_for r f)) r.premises ∷ rule_ways rules f else rule_ways rules f

-- the goals that a list of rules decides
abbrev pub IsAskedForm : NestedQuestion → Type 0
IsAskedForm q = (a : BareGoal) × (bare_goal q.form ≡ Some a)
