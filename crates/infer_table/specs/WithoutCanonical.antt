-- Tables and goals without canonical variables.
use Rattle.std.specs.Prelude.{◌≡◌, true, List, [], ◌∷◌, Some}
use Rattle.infer_table.specs.Solutions.{Binding}
use Rattle.infer_table.specs.Unification.{TableTrees, Worklist, term_sort, unified}
use Rattle.infer_table.specs.Canonical.{GoalTrees, HasNoCanonical}
use Rattle.infer_table.specs.Inputs.{IsWithoutCanonical}
use Rattle.infer_table.specs.Goals.{goal_resolved}
use Rattle.infer_table.specs.Values.{Value}
use Rattle.infer_table.specs.Responses.{AnswerTrees}
use Rattle.infer_table.specs.Answers.{is_answer_to}
use Rattle.infer_table.specs.Covers.{AreNumbered}
use Rattle.infer_table.specs.Applied.{trees_of, applied}

-- no canonical variable occurs in the values of a table
abbrev pub HaveNoCanonical : List Binding → Type 0
HaveNoCanonical [] = Unit {0}
HaveNoCanonical (b ∷ older) = HasNoCanonical b.value × HaveNoCanonical older

-- no canonical variable occurs in the equations
abbrev pub EquateNoCanonical : Worklist → Type 0
EquateNoCanonical [] = Unit {0}
EquateNoCanonical (e ∷ rest) = HasNoCanonical e.0 × HasNoCanonical e.1 × EquateNoCanonical rest

-- no canonical variable occurs in the values
abbrev pub AreWithoutCanonical : List Value → Type 0
AreWithoutCanonical [] = Unit {0}
AreWithoutCanonical (v ∷ vs) = HasNoCanonical v.trees × AreWithoutCanonical vs

abbrev pub AreOfTheirSorts : List Value → Type 0
AreOfTheirSorts [] = Unit {0}
AreOfTheirSorts (v ∷ vs) = (term_sort v.trees ≡ v.sort) × AreOfTheirSorts vs

-- the response has a value for each of the goal's values, which is a term of its kind over the response's variables
pub record IsNumberedAnswer (originals : List Value) (a : AnswerTrees) : Type 0 where
  pub answers : is_answer_to originals a ≡ true
  pub sorted : AreOfTheirSorts a.values
  pub numbered : AreNumbered a.kinds (trees_of a.values)

-- a goal without canonical variables, resolved by a table without them, has none
abbrev pub ResolvingKeepsOut : Type 0
ResolvingKeepsOut = (bs : List Binding) (g : GoalTrees) → HaveNoCanonical bs → IsWithoutCanonical g → IsWithoutCanonical (goal_resolved bs g)

-- a table without canonical variables has none after equations of terms without them
abbrev pub EquationsKeepOut : Type 0
EquationsKeepOut = (t u : TableTrees) (todo : Worklist) → HaveNoCanonical t.bindings → EquateNoCanonical todo → unified t todo ≡ Some u → HaveNoCanonical u.bindings

-- a table without canonical variables has none after a response is applied, since each of its variables is replaced
abbrev pub AnswersKeepOut : Type 0
AnswersKeepOut =
    (t u : TableTrees) (originals : List Value) (a : AnswerTrees) → HaveNoCanonical t.bindings → AreWithoutCanonical originals → IsNumberedAnswer originals a
    → applied t originals a ≡ Some u → HaveNoCanonical u.bindings
