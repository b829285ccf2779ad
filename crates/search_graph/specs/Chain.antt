-- How a cache finds the results of a goal, and their nested goals.
use Rattle.std.specs.Prelude.{◌≡◌, ◌≤◌, ◌<◌, ◌+◌, ◌&&◌, ℕ, Bool, true, false, cond, nat_eq, get_or, List, [], ◌∷◌, ◌⊎◌, Option, Some, None, All, length, slice_get, take}
use Rattle.indexmap.specs.IndexMap.{get}
use Rattle.search_paths.specs.declared.nested_goals.Span.{Span}
use Rattle.search_paths.specs.declared.nested_goals.NestedGoals.{NestedGoals}
use Rattle.search_paths.specs.Nested.{IsWithin, covered, one_goal}
use Rattle.search_graph.specs.declared.newest.Chain.{Chain}
use Rattle.search_graph.specs.declared.newest.Chain.TheVariants.{Successes, Overflows}
use Rattle.search_graph.specs.declared.newest.Newest.{Newest}
use Rattle.search_graph.specs.declared.cache.CacheEntry.{CacheEntry}
use Rattle.search_graph.specs.declared.cache.Asked.{Asked}
use Rattle.search_graph.specs.declared.stack.StackEntry.{StackEntry}

-- A goal of this depth may use a result that needed that depth. After an overflow by depth both depths are equal.
abbrev pub IsWithinDepth : Bool → ℕ → ℕ → Type 0
IsWithinDepth overflowed needed depth = (overflowed ≡ true → needed ≡ depth) × (overflowed ≡ false → needed ≤ depth)

-- the chain of a result of the goal with the number
abbrev pub chain_of : ℕ → ℕ → Bool → Chain
chain_of number depth overflowed = cond overflowed (Overflows number depth) (Successes number)

-- the number of the goal whose results are in the chain
abbrev pub number_of_chain : Chain → ℕ
number_of_chain (Successes number) = number
number_of_chain (Overflows number depth) = number

-- whether the numbers of the goals and the depths of the overflows are equal
abbrev pub is_overflow_of : ℕ × ℕ → ℕ × ℕ → Bool
is_overflow_of x y = nat_eq x.0 y.0 && nat_eq x.1 y.1

-- whether the chains are equal
abbrev pub is_chain : Chain → Chain → Bool
is_chain (Successes n) (Successes m) = nat_eq n m
is_chain (Successes n) (Overflows m e) = false
is_chain (Overflows n d) (Successes m) = false
is_chain (Overflows n d) (Overflows m e) = is_overflow_of (n, d) (m, e)

-- the index that is stored for the chain
abbrev pub newest_in : Newest → Chain → Option ℕ
newest_in newest (Successes number) = get_or newest.successes.items number None
newest_in newest (Overflows number depth) = get is_overflow_of newest.overflows (number, depth)

module _ {I R : Type 0} where
  abbrev pub chain_of_entry : CacheEntry I R → Chain
  chain_of_entry e = chain_of e.number e.depth e.encountered_overflow

  -- the index of the last entry of the chain, if the first of these entries has this index, or else the last that was found before
  abbrev pub newest_from : ℕ → List (CacheEntry I R) → Chain → Option ℕ → Option ℕ
  newest_from place [] chain last = last
  newest_from place (e ∷ es) chain last = newest_from (place + 1) es chain (cond (is_chain (chain_of_entry e) chain) (Some place) last)

  -- the index of the newest result of a chain
  abbrev pub newest_of : List (CacheEntry I R) → Chain → Option ℕ
  newest_of es chain = newest_from 0 es chain None

  -- each result leads to the one before it in its chain
  abbrev pub AreLinked : List (CacheEntry I R) → Type 0
  AreLinked es = (place : ℕ) (e : CacheEntry I R) → slice_get es place ≡ Some e → e.previous ≡ newest_of (take place es) (chain_of_entry e)

  -- the result at the index is of this input and in the chain
  abbrev pub IsInChainAt : Chain → List (CacheEntry I R) → I → ℕ → Type 0
  IsInChainAt chain es input place = (e : CacheEntry I R) × (slice_get es place ≡ Some e) × (e.input ≡ input) × (chain_of_entry e ≡ chain)

-- the numbers of the goals under which was asked
abbrev pub numbers_of : List Asked → List ℕ
numbers_of [] = []
numbers_of (a ∷ rest) = a.number ∷ numbers_of rest

-- What was asked under goals is listed, each goal with its own. What stands at the second place was used under that at the first
pub data IsUsedUnder (asked : List Asked) (place : ℕ) : ℕ → Type 0 where
  used : {e : Asked} {below : ℕ} (i : ℕ) → slice_get asked place ≡ Some e → slice_get e.nested_goals.cached.items i ≡ Some below → IsUsedUnder asked place below
  further : {e : Asked} {above below : ℕ} (i : ℕ) → IsUsedUnder asked place above → slice_get asked above ≡ Some e → slice_get e.nested_goals.cached.items i ≡ Some below → IsUsedUnder asked place below

-- the goal with the number was asked by this one, or by one that it asked, and wasn't answered by a result that was there
abbrev pub IsAsked : Asked → ℕ → Type 0
IsAsked e number = (i : ℕ) × (slice_get e.nested_goals.goals.items i ≡ Some number)

-- the goal with the number was asked under that at the place
abbrev pub IsAskedUnder : List Asked → ℕ → ℕ → Type 0
IsAskedUnder asked place number = ((e : Asked) × (slice_get asked place ≡ Some e) × IsAsked e number)
    ⊎ ((below : ℕ) × (e : Asked) × IsUsedUnder asked place below × (slice_get asked below ≡ Some e) × ((e.number ≡ number) ⊎ IsAsked e number))

-- no goal that was asked under that at the place is on the stack
abbrev pub IsClear : List Asked → (ℕ → Type 0) → ℕ → Type 0
IsClear asked IsOnStack place = (n : ℕ) → IsAskedUnder asked place n → IsOnStack n → ⊥

-- each goal that is noted for a place was asked under the goal there
abbrev pub AreBlockers : List (Option ℕ) → List Asked → Type 0
AreBlockers blockers asked = (place number : ℕ) → get_or blockers place None ≡ Some number → (IsAskedUnder asked place number → ⊥) → ⊥

module _ {I R : Type 0} where
  -- the goal with this number, input and depth may use the result: none of its nested goals is on the stack
  pub record IsUsable (asked : List Asked) (IsOnStack : ℕ → Type 0) (number : ℕ) (input : I) (depth : ℕ) (e : CacheEntry I R) : Type 0 where
    pub numbered : e.number ≡ number
    pub same : e.input ≡ input
    pub within : IsWithinDepth e.encountered_overflow e.depth depth
    pub clear : IsClear asked IsOnStack e.asked

  -- such a result is at the index
  abbrev pub IsUsableAt : List (CacheEntry I R) → List Asked → (ℕ → Type 0) → ℕ → I → ℕ → ℕ → Type 0
  IsUsableAt es asked IsOnStack number input depth place = (e : CacheEntry I R) × (slice_get es place ≡ Some e) × IsUsable asked IsOnStack number input depth e

  -- no result is usable
  abbrev pub NoneIsUsable : List (CacheEntry I R) → List Asked → (ℕ → Type 0) → ℕ → I → ℕ → Type 0
  NoneIsUsable es asked IsOnStack number input depth = (place : ℕ) (e : CacheEntry I R) → slice_get es place ≡ Some e → IsUsable asked IsOnStack number input depth e → ⊥

  -- no result of the chain is usable
  abbrev pub NoneIsUsableAlong : Chain → List (CacheEntry I R) → List Asked → (ℕ → Type 0) → I → ℕ → Type 0
  NoneIsUsableAlong chain es asked IsOnStack input depth =
      (place : ℕ) (e : CacheEntry I R) → slice_get es place ≡ Some e → chain_of_entry e ≡ chain → IsUsable asked IsOnStack (number_of_chain chain) input depth e → ⊥

  -- each result names what was asked under its goal
  abbrev pub AreRecorded : List (CacheEntry I R) → List Asked → Type 0
  AreRecorded es asked = (place : ℕ) (e : CacheEntry I R) → slice_get es place ≡ Some e → slice_get (numbers_of asked) e.asked ≡ Some e.number

-- each of these goals lies in the range
abbrev pub AllInRange : (ℕ → Type 0) → Span → Type 0
AllInRange P range = (number : ℕ) → P number → IsWithin range number

-- no goal lies in both ranges
abbrev pub AreApart : Span → Span → Type 0
AreApart one other = (number : ℕ) → IsWithin one number → IsWithin other number → ⊥

-- the goal and all that were asked under it lie in this range
abbrev pub range_of : Asked → Span
range_of e = covered e.nested_goals.span (one_goal e.number)

-- the place is among those reached, or no goal that was asked under the one there lies in the range
abbrev pub IsReachedOrApart : List Asked → List ℕ → Span → ℕ → Type 0
IsReachedOrApart asked reached range place = ((j : ℕ) × (slice_get reached j ≡ Some place)) ⊎ ((e : Asked) → slice_get asked place ≡ Some e → AreApart (range_of e) range)

-- The goals that were asked lie in their range. Where a result was used, so does the range of that result
abbrev pub AreInRange : List Asked → NestedGoals → Type 0
AreInRange asked nested = All (IsWithin nested.span) nested.goals.items
    × All (λ place. (place < length asked) × ((e : Asked) → slice_get asked place ≡ Some e → AllInRange (IsWithin (range_of e)) nested.span)) nested.cached.items

-- so do those that were asked under each goal, and older ones alone were used under it
abbrev pub AreCovered : List Asked → Type 0
AreCovered asked = (place : ℕ) (e : Asked) → slice_get asked place ≡ Some e → AreInRange (take place asked) e.nested_goals

-- The first place at which each goal is listed is noted by its number. This one's is there, and is the place or an older one
abbrev pub IsNotedBy : List ℕ → ℕ → ℕ → Type 0
IsNotedBy first place number = (number < length first) × (get_or first number 0 ≤ place)

-- what was noted stays so
abbrev pub KeepsNoted : List ℕ → List ℕ → Type 0
KeepsNoted old new = (place number : ℕ) → IsNotedBy old place number → IsNotedBy new place number

-- each goal under which was asked is noted, and each that it asked
abbrev pub AreNoted : List ℕ → List Asked → Type 0
AreNoted first asked = (place : ℕ) (e : Asked) → slice_get asked place ≡ Some e → IsNotedBy first place e.number × All (IsNotedBy first place) e.nested_goals.goals.items

-- the range of each goal of a stack has it and all below it
abbrev pub AreInRanges : {I R : Type 0} → List (StackEntry I R) → Type 0
AreInRanges {I} {R} es = (low high : ℕ) (d e : StackEntry I R) → slice_get es low ≡ Some d → slice_get es high ≡ Some e → low ≤ high → IsWithin e.span d.number
