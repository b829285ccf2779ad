-- Goals without inference variables: their tables, and their candidates.
use Rattle.std.specs.Prelude.{◌≡◌, false, List, [], ◌∷◌, map, Option, Some, None}
use Rattle.infer_table.specs.declared.certainty.Certainty.{Certainty}
use Rattle.goal_evaluator.specs.Lists.{Every}
use Rattle.goal_evaluator.specs.Table.{Tables, workings, IsFree, IsDetermined}
use Rattle.goal_evaluator.specs.Candidate.{Spec}

module _ {Question Response : Type 0} (t : Tables Question Response) where
  -- the variables of goals, and whether one of them is an inference variable
  pub record Closing : Type 1 where
    pub Shape : Type 0
    pub shape : t.Table → Shape
    pub shape_of : Question → Shape
    -- no variable is an inference variable
    pub IsClosed : Shape → Type 0
    -- the value of each placeholder is a parameter or placeholder, and different ones have different values
    pub IsApart : Shape → t.Values → Type 0

  -- the laws of tables of goals without inference variables
  pub record IsClosing (k : Closing) : Type 0 where
    -- operations on a table preserve the variables of its goal
    pub fresh : (T : t.Table) (kinds : t.Kinds) → k.shape (t.fresh T kinds) ≡ k.shape T
    pub equate : (T U : t.Table) (es : List t.Equation) → t.equate T es ≡ Some U → k.shape U ≡ k.shape T
    pub recorded : (T : t.Table) (c : t.Regions) → k.shape (t.recorded T c) ≡ k.shape T
    pub apply : (T U : t.Table) (n : t.Nested) (r : Response) → t.apply T n r ≡ Some U → k.shape U ≡ k.shape T
    -- there are values that give different placeholders different terms
    pub some : (x : k.Shape) → k.IsClosed x → (v : t.Values) × k.IsApart x v
    -- each well-formed table has solutions, for all values of the goal's placeholders
    pub free : (T : t.Table) → t.Made T → k.IsClosed (k.shape T) → IsFree t T
    -- each assignment that is allowed at such values gives different placeholders different terms
    pub tells : (T : t.Table) (s : t.Assignment) → k.IsApart (k.shape T) (t.own s) → t.Allows T s → t.AllowsApart T s
    -- a response has only a certainty
    pub silent : (T : t.Table) (c : Certainty) → t.Made T → k.IsClosed (k.shape T) → t.has_values (t.respond T c) ≡ false
    -- A nested goal that the goal determines has no inference variables. Its placeholders have different values too.
    pub closed : (T : t.Table) (n : t.Nested) → t.Made T → k.IsClosed (k.shape T) → IsDetermined t T n → k.IsClosed (k.shape_of (t.question T n))
    pub apart : (T : t.Table) (n : t.Nested) → k.IsClosed (k.shape T) → IsDetermined t T n
        → (s : t.Assignment) → t.Allows T s → k.IsApart (k.shape T) (t.own s) → k.IsApart (k.shape_of (t.question T n)) (t.at T n s)
    -- each table contains the inference variables of all nested goals
    pub knows : (T : t.Table) (n : t.Nested) → t.Knows T n

  -- ---- a candidate at values of the goal's placeholders
  -- its equations hold for some values of its own variables, with which its nested goals are these trait references
  pub record Applies (begin : t.Table) (v : t.Values) (c : Spec (workings t)) (premises : List t.Fact) : Type 0 where
    pub assignment : t.Assignment
    pub allowed : t.Allows (t.fresh begin c.kinds) assignment
    pub own : t.own assignment ≡ v
    pub meets : Every (λ e. t.Meets e assignment) c.equations
    pub needs : map (λ n. t.fact n assignment) c.nested ≡ premises

  -- its equations hold for no values
  abbrev pub EquationsRefuse : t.Table → t.Values → Spec (workings t) → Type 0
  EquationsRefuse begin v c =
      (s : t.Assignment) → t.Allows (t.fresh begin c.kinds) s → t.own s ≡ v → Every (λ e. t.Meets e s) c.equations → ⊥

  -- the candidates that apply are these rule instances, given by their premises, in order
  pub data AreWays (begin : t.Table) (v : t.Values) : List (Spec (workings t)) → List (List t.Fact) → Type 0 where
    no_more : AreWays begin v [] []
    refused : {c : Spec (workings t)} {cs : List (Spec (workings t))} {ways : List (List t.Fact)}
        → EquationsRefuse begin v c → AreWays begin v cs ways → AreWays begin v (c ∷ cs) ways
    applied : {c : Spec (workings t)} {cs : List (Spec (workings t))} {premises : List t.Fact} {ways : List (List t.Fact)}
        → Applies begin v c premises → AreWays begin v cs ways → AreWays begin v (c ∷ cs) (premises ∷ ways)

  -- if its equations hold, the goal determines its nested goals
  abbrev pub DeterminesNested : t.Table → Spec (workings t) → Type 0
  DeterminesNested begin c =
      (s r : t.Assignment) → t.Allows (t.fresh begin c.kinds) s → t.Allows (t.fresh begin c.kinds) r
      → Every (λ e. t.Meets e s) c.equations → Every (λ e. t.Meets e r) c.equations → t.own s ≡ t.own r
      → Every (λ n. t.fact n s ≡ t.fact n r) c.nested

  -- ---- the tables of a candidate's nested goals
  -- the tables that responses without values leave
  pub data TableReaches (T : t.Table) : t.Table → Type 0 where
    here : TableReaches T T
    answered : {U W : t.Table} {n : t.Nested} {r : Response} → TableReaches T U → t.apply U n r ≡ Some W → t.has_values r ≡ false → TableReaches T W

  -- a table in which the candidate's equations hold and its constraints are recorded, after responses without values
  pub record AsksFrom (begin : t.Table) (c : Spec (workings t)) (T : t.Table) : Type 0 where
    pub table : t.Table
    pub equal : t.equate (t.fresh begin c.kinds) c.equations ≡ Some table
    pub reached : TableReaches (t.recorded table c.regions) T

  -- if the candidate's equations hold, its nested goals are such goals, from each table without inference variables that
  -- determines them
  abbrev pub AsksSuch : Closing → (Question → t.Values → Type 0) → t.Table → t.Values → Spec (workings t) → Type 0
  AsksSuch k IsAsked begin v c =
      Every (λ n. (T : t.Table) (s : t.Assignment) → AsksFrom begin c T → t.Made T → k.IsClosed (k.shape T) → IsDetermined t T n → t.Allows T s → t.Allows (t.fresh begin c.kinds) s
      → Every (λ e. t.Meets e s) c.equations → t.own s ≡ v
      → IsAsked (t.question T n) (t.at T n s)) c.nested

-- the response has no values
abbrev pub IsBare : {Question Response : Type 0} (t : Tables Question Response) → Option Response → Type 0
IsBare t None = Unit {0}
IsBare t (Some r) = t.has_values r ≡ false
