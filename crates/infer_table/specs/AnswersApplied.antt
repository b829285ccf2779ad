-- A response applied to a table, in terms of an interner's handles: its values, the new table, and the solutions.
use Rattle.std.specs.Prelude.{◌≡◌, List, map, Option, option_map}
use Rattle.type_terms.specs.Promised.Trees.{Trees}
use Rattle.type_terms.specs.Promised.Handles.{Entry, Keeps}
use Rattle.type_terms.specs.Terms.{Lawful}
use Rattle.type_terms.specs.Promised.Handles.{ArgsHeld}
use Rattle.type_terms.specs.Kinds.{args_trees}
use Rattle.type_terms.specs.declared.kinds.GenericArgKind.{GenericArgKind}
use Rattle.infer_table.specs.Solutions.{Assignment, Binding, IsSorted, Solves, Equates, HasNoSolution, instance}
use Rattle.infer_table.specs.Content.{Table, content, variables_of, Ready}
use Rattle.infer_table.specs.Constraints.{constraints_trees}
use Rattle.infer_table.specs.Unification.{TableTrees, table_trees}
use Rattle.infer_table.specs.Values.{Value, sort_of_arg, value_of, values_of, filled_values}
use Rattle.infer_table.specs.Raw.{sort_of_kind}
use Rattle.infer_table.specs.Responses.{answer_trees}
use Rattle.infer_table.specs.Applying.{applied_values, applied_table}
use Rattle.infer_table.specs.Applied.{solved_in_turn, applied}
use Rattle.infer_table.specs.Covers.{Agrees, AreNumbered, AreKnown, Continues, IsOfKnown, HaveSameSolutions, IsWellPosed}
use Rattle.infer_table.specs.declared.canonical.CanonicalVarKind.{CanonicalVarKind}
use Rattle.infer_table.specs.declared.response.CanonicalResponse.{CanonicalResponse}

-- ---- the values of the response's variables, and the new table
-- an argument as a value, if there is one
abbrev pub known_in : List Entry → Option GenericArgKind → Option Value
known_in es known = option_map (value_of es) known

-- the values of the response's variables
abbrev pub values_put_in : List Entry → Table → List GenericArgKind → CanonicalResponse → List Value
values_put_in es t originals r = applied_values (table_trees es t) (values_of es originals) (answer_trees es r)

-- the table with the new variables among these values
abbrev pub with_unknowns_put_in : List Entry → Table → List GenericArgKind → CanonicalResponse → TableTrees
with_unknowns_put_in es t originals r = applied_table (table_trees es t) (values_of es originals) (answer_trees es r)

-- the values of the response, over these values of its variables
abbrev pub answered_values : List Entry → Table → List GenericArgKind → CanonicalResponse → Trees
answered_values es t originals r = filled_values (values_put_in es t originals r) (args_trees es r.var_values.items)

-- the constraints of the response, over these values of its variables
abbrev pub answered_constraints : List Entry → Table → List GenericArgKind → CanonicalResponse → Trees
answered_constraints es t originals r = filled_values (values_put_in es t originals r) (constraints_trees es r.region_constraints.items)

-- the table after two lists of values are equated, pair by pair from the first on, or none if a pair is refused
abbrev pub equated_in_turn : List Entry → Table → List GenericArgKind → List GenericArgKind → Option TableTrees
equated_in_turn es t left right = solved_in_turn (table_trees es t) (args_trees es left) (args_trees es right)

-- the table after the response is applied, or none if it is refused
abbrev pub left_by_answer : List Entry → Table → List GenericArgKind → CanonicalResponse → Option TableTrees
left_by_answer es t originals r = applied (table_trees es t) (values_of es originals) (answer_trees es r)

-- ---- solutions
-- the solutions of `new` are those of the table that make the goal's values equal to the response's
abbrev pub EquatesAnswer : List Entry → Table → List GenericArgKind → CanonicalResponse → List Binding → Type 0
EquatesAnswer es t originals r new = Equates (content es t.values) new (args_trees es originals) (answered_values es t originals r)

-- no solution of the table makes them equal
abbrev pub RulesOutAnswer : List Entry → Table → List GenericArgKind → CanonicalResponse → Type 0
RulesOutAnswer es t originals r = HasNoSolution (content es t.values) (args_trees es originals) (answered_values es t originals r)

-- the response agrees with each solution of a table at these values
abbrev pub AgreesWithAll : List Entry → Table → List GenericArgKind → List Entry → CanonicalResponse → Type 0
AgreesWithAll old t values es r =
    (s : Assignment) → Solves s (content old t.values) → Agrees (args_trees es r.var_values.items) (instance s (args_trees old values))

-- if goal and response are well posed, the response agrees with no solution
abbrev pub AgreesWithNone : List Entry → Table → List GenericArgKind → CanonicalResponse → Type 0
AgreesWithNone es t values r =
    IsWellPosed es t values r → (s : Assignment) → Solves s (content es t.values) → Agrees (args_trees es r.var_values.items) (instance s (args_trees es values)) → ⊥

-- if goal and response are well posed, each solution with which the response agrees extends to a solution of `new`
abbrev pub AgreedGoOn : List Entry → Table → List GenericArgKind → CanonicalResponse → List Binding → Type 0
AgreedGoOn es t values r new =
    IsWellPosed es t values r → (s : Assignment) → Solves s (content es t.values)
    → Agrees (args_trees es r.var_values.items) (instance s (args_trees es values)) → (u : Assignment) × Continues (variables_of t) s u × Solves u new

-- a response with these values agrees with all values of these kinds
abbrev pub AgreesWithAllOf : List CanonicalVarKind → Trees → Type 0
AgreesWithAllOf kinds a =
    (es : List Entry) (s : Assignment) (xs : List GenericArgKind) → Lawful es → ArgsHeld es xs → IsSorted s
    → map sort_of_arg xs ≡ map sort_of_kind kinds → Agrees a (instance s (args_trees es xs))

-- ---- laws
-- each solution with which a response agrees extends to a solution of the table after the response is applied
abbrev pub ApplyingKeepsSolutions : Type 0
ApplyingKeepsSolutions =
    (es : List Entry) (t : Table) (originals : List GenericArgKind) (r : CanonicalResponse) (new : List Binding) (s : Assignment)
    → Lawful es → ArgsHeld es originals → ArgsHeld es r.var_values.items → AreNumbered r.variables.items (args_trees es r.var_values.items)
    → AreKnown (variables_of t) (args_trees es originals) → IsOfKnown (variables_of t) (content es t.values) → EquatesAnswer es t originals r new
    → Solves s (content es t.values) → Agrees (args_trees es r.var_values.items) (instance s (args_trees es originals))
    → (u : Assignment) × Continues (variables_of t) s u × Solves u new

-- a response that no solution makes equal to the goal's values agrees with no solution
abbrev pub RuledOutAgreesWithNone : Type 0
RuledOutAgreesWithNone =
    (es : List Entry) (t : Table) (originals : List GenericArgKind) (r : CanonicalResponse) (s : Assignment)
    → Lawful es → ArgsHeld es originals → ArgsHeld es r.var_values.items → AreNumbered r.variables.items (args_trees es r.var_values.items)
    → AreKnown (variables_of t) (args_trees es originals) → IsOfKnown (variables_of t) (content es t.values) → RulesOutAnswer es t originals r
    → Solves s (content es t.values) → Agrees (args_trees es r.var_values.items) (instance s (args_trees es originals)) → ⊥

-- a response that agrees with each solution of the table it was made from does not change the solutions of that table
abbrev pub ReturningKeepsSolutions : Type 0
ReturningKeepsSolutions =
    (before es : List Entry) (t : Table) (values : List GenericArgKind) (r : CanonicalResponse) (new : List Binding)
    → Keeps before es → Lawful es → Ready before t → ArgsHeld before values → ArgsHeld es r.var_values.items
    → AreNumbered r.variables.items (args_trees es r.var_values.items) → AreKnown (variables_of t) (args_trees before values)
    → IsOfKnown (variables_of t) (content before t.values) → AgreesWithAll before t values es r → EquatesAnswer es t values r new
    → HaveSameSolutions (variables_of t) (content before t.values) new

-- some solution of the table makes such a response equal to the values
abbrev pub ReturningIsAccepted : Type 0
ReturningIsAccepted =
    (before es : List Entry) (t : Table) (values : List GenericArgKind) (r : CanonicalResponse)
    → Keeps before es → Lawful es → Ready before t → ArgsHeld before values → ArgsHeld es r.var_values.items
    → AreNumbered r.variables.items (args_trees es r.var_values.items) → AreKnown (variables_of t) (args_trees before values)
    → IsOfKnown (variables_of t) (content before t.values) → AgreesWithAll before t values es r → RulesOutAnswer es t values r → ⊥
