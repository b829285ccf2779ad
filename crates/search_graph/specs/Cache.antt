-- What a caller sees of a cache.
use Rattle.std.specs.Prelude.{◌≡◌, ◌⊎◌, ◌++◌, ℕ, Bool, true, false, cond, List, [], ◌∷◌, Some, length, slice_get}
use Rattle.std.specs.List.{position}
use Rattle.search_paths.specs.declared.path_kind.PathKind.TheVariants.{Inductive}
use Rattle.search_graph.specs.declared.cache.CacheEntry.{CacheEntry}
use Rattle.search_graph.specs.declared.cache.Cached.{Cached}
use Rattle.search_graph.specs.declared.cache.Asked.{Asked}
use Rattle.search_paths.specs.declared.dependencies.EvaluationResult.{EvaluationResult}
use Rattle.search_paths.specs.declared.nested_goals.NestedGoals.{NestedGoals}
use Rattle.search_graph.specs.Chain.{IsWithinDepth}
use Rattle.search_graph.specs.Meaning.{Meaning}
use Rattle.search_graph.specs.Faithful.{IsKept}
use Rattle.search_graph.specs.Stack.{IsProvisional}

-- the result of a goal, and the depth that it needed, or after an overflow by depth the depth that it had
pub record KnownResult (I R : Type 0) : Type 0 where
  pub input : I
  pub result : R
  pub depth : ℕ
  pub overflowed : Bool

abbrev pub known_result : {I R : Type 0} → CacheEntry I R → KnownResult I R
known_result e = record { input = e.input; result = e.result; depth = e.depth; overflowed = e.encountered_overflow }

abbrev pub known_results : {I R : Type 0} → List (CacheEntry I R) → List (KnownResult I R)
known_results [] = []
known_results (e ∷ es) = known_result e ∷ known_results es

-- a result of the goal that is of one kind with another: both are successes, or both overflows by depth at this depth
pub record IsAlike {I R : Type 0} (input : I) (depth : ℕ) (overflowed : Bool) (k : KnownResult I R) : Type 0 where
  pub same : k.input ≡ input
  pub kind : k.overflowed ≡ overflowed
  pub at : overflowed ≡ true → k.depth ≡ depth

-- this result of the goal is among them, and a goal of this depth may use it
abbrev pub IsKnown : {I R : Type 0} → List (KnownResult I R) → I → ℕ → R → Type 0
IsKnown {I} {R} ks input depth r = (place : ℕ) × (k : KnownResult I R) × (slice_get ks place ≡ Some k) × (k.input ≡ input) × (k.result ≡ r) × IsWithinDepth k.overflowed k.depth depth

-- P holds if a result of the goal is among them that a goal of this depth may use
abbrev pub IfKnown : {I R : Type 0} → List (KnownResult I R) → I → ℕ → Type 0 → Type 0
IfKnown {I} {R} ks input depth P = (place : ℕ) (k : KnownResult I R) → slice_get ks place ≡ Some k → k.input ≡ input → IsWithinDepth k.overflowed k.depth depth → P

-- both have one result and rest on the same goals of the stack, and neither needs more depth
pub record SaysSame {R : Type 0} (o p : EvaluationResult R) : Type 0 where
  pub result : p.result ≡ o.result
  pub heads : p.dependencies.heads ≡ o.dependencies.heads
  pub overflow : p.dependencies.encountered_overflow ≡ o.dependencies.encountered_overflow
  pub depth : p.dependencies.required_depth ≡ o.dependencies.required_depth

module _ {I R : Type 0} where
  -- a cache holds this result of the goal, and a goal of this depth may use it
  abbrev pub HoldsResult : List (CacheEntry I R) → I → ℕ → R → Type 0
  HoldsResult es input depth r = (place : ℕ) × (e : CacheEntry I R) × (slice_get es place ≡ Some e) × (e.input ≡ input) × (e.result ≡ r) × IsWithinDepth e.encountered_overflow e.depth depth

  -- it holds one that differs, of the goal and of one kind with a result of this depth
  abbrev pub HoldsOther : (R → R → Bool) → List (CacheEntry I R) → I → ℕ → Bool → R → Type 0
  HoldsOther eq es input depth overflowed r = (place : ℕ) × (e : CacheEntry I R) × (slice_get es place ≡ Some e) × IsAlike input depth overflowed (known_result e) × (eq e.result r ≡ false)

  -- what is used of the result at the place
  abbrev pub IsUseOf : List (CacheEntry I R) → ℕ → Cached R → Type 0
  IsUseOf es place r = (e : CacheEntry I R) × (slice_get es place ≡ Some e) × (r.result ≡ e.result) × (r.depth ≡ e.depth) × (r.encountered_overflow ≡ e.encountered_overflow) × (r.asked ≡ e.asked)

  -- the reply to a question is this result
  abbrev pub IsReplyOf : CacheEntry I R → EvaluationResult R → Type 0
  IsReplyOf e o = (o.result ≡ e.result) × (o.dependencies.required_depth ≡ e.depth) × (o.dependencies.encountered_overflow ≡ e.encountered_overflow)

  -- the new results are the old ones and then this one of the goal. What was asked under it stands at the place
  abbrev pub AddsResult : List (CacheEntry I R) → List (CacheEntry I R) → I → R → ℕ → Bool → ℕ → ℕ → Type 0
  AddsResult old new input r depth overflowed number place =
      (e : CacheEntry I R) × (new ≡ old ++ e ∷ []) × (e.input ≡ input) × (e.result ≡ r) × (e.depth ≡ depth) × (e.encountered_overflow ≡ overflowed) × (e.number ≡ number) × (e.asked ≡ place)

  -- and then that of this evaluation of the goal at this depth. What was asked under it stands after what was asked before
  abbrev pub AddsEvaluation : List (CacheEntry I R) → List (CacheEntry I R) → List Asked → I → ℕ → ℕ → EvaluationResult R → Type 0
  AddsEvaluation old new asked input number depth o =
      AddsResult old new input o.result (cond o.dependencies.encountered_overflow depth o.dependencies.required_depth) o.dependencies.encountered_overflow number (length asked)

-- after the old ones the goal of this number is listed, with what was asked under it
abbrev pub AddsAsked : List Asked → List Asked → ℕ → NestedGoals → Type 0
AddsAsked old new number nested = new ≡ old ++ record { number = number; nested_goals = nested } ∷ []

-- no two results of one goal and one kind differ
abbrev pub AreConsistent : {I R : Type 0} → List (KnownResult I R) → Type 0
AreConsistent {I} {R} ks = (i j : ℕ) (k l : KnownResult I R) → slice_get ks i ≡ Some k → slice_get ks j ≡ Some l → IsAlike l.input l.depth l.overflowed k → k.result ≡ l.result

-- each result stays at its place
abbrev pub KeepsResults : {X : Type 0} → List X → List X → Type 0
KeepsResults {X} old new = (place : ℕ) (x : X) → slice_get old place ≡ Some x → slice_get new place ≡ Some x

module _ {I : Type 0} (eq : I → I → Bool) where
  -- a goal's number is its place among those that were asked
  abbrev pub IsNumberOf : List I → I → ℕ → Type 0
  IsNumberOf goals input number = position (eq input) goals ≡ Some number

  abbrev pub KeepsNumbers : List I → List I → Type 0
  KeepsNumbers old new = (input : I) (number : ℕ) → IsNumberOf old input number → IsNumberOf new input number

module _ {C I R F : Type 0} (m : Meaning C I R F) where
  -- a result that rests on no stack: it covers its goal, a yes has a proof, and it is that of plain recursion
  pub record IsJustified (c : C) (k : KnownResult I R) : Type 0 where
    pub known : m.IsInput c k.input
    pub result : IsProvisional m (m.world c) [] (m.goal_of c k.input, Inductive) [] c k.result
    pub kept : IsKept m (m.world c) (m.goal_of c k.input) (m.answer_of c k.result) k.depth k.overflowed

  abbrev pub AreJustified : C → List (KnownResult I R) → Type 0
  AreJustified c [] = Unit {0}
  AreJustified c (k ∷ ks) = IsJustified c k × AreJustified c ks

  -- the answers that a cache holds, each with its goal
  abbrev pub answers_in : C → List (KnownResult I R) → List (m.Goal × m.Answer)
  answers_in c [] = []
  answers_in c (k ∷ ks) = (m.goal_of c k.input, m.answer_of c k.result) ∷ answers_in c ks

  -- another result was found that rests on no stack, of the goal and the kind of a cached one, with another answer
  pub record IsContradicted (c : C) (k : KnownResult I R) : Type 0 where
    pub found : KnownResult I R
    pub justified : IsJustified c found
    pub alike : IsAlike found.input found.depth found.overflowed k
    pub other : m.answer_of c k.result ≡ m.answer_of c found.result → ⊥

  abbrev pub HasConflict : C → List (KnownResult I R) → Type 0
  HasConflict c [] = ⊥
  HasConflict c (k ∷ ks) = IsContradicted c k ⊎ HasConflict c ks
