-- The numbers of goals.
use Rattle.std.proofs.Common.{◌≡◌, ◌+◌, ℕ, Bool, true, false, cond, List, [], ◌∷◌, ◌++◌, if◌then◌else◌, Some, sym, ◌∙◌, Result, Ok, Err, IfOk, OnErr}
use Rattle.std.proofs.lemmas.Option.{none-some, same_Some}
use Rattle.std.proofs.lemmas.Iterator.Adapters.{position_from-zero}
use Rattle.std.specs.List.{list_any, position_from}
use Rattle.indexmap.specs.IndexSet.{insert_key}
use Rattle.search_graph.specs.Cache.{IsNumberOf, KeepsNumbers}

module _ {X : Type 0} (p : X → Bool) where
  from_append : (xs ys : List X) (i n : ℕ) → position_from p i xs ≡ Some n → position_from p i (xs ++ ys) ≡ Some n
  from_append [] ys i n h = absurd (none-some n h)
  from_append (x ∷ xs) ys i n h = by (p x) h (from_append xs ys (i + 1) n)
    where
      by : (b : Bool) → cond b (Some i) (position_from p (i + 1) xs) ≡ Some n → (position_from p (i + 1) xs ≡ Some n → position_from p (i + 1) (xs ++ ys) ≡ Some n) → cond b (Some i) (position_from p (i + 1) (xs ++ ys)) ≡ Some n
      by true is rest = is
      by false is rest = rest is

module _ {I : Type 0} (eq : I → I → Bool) where
  numbers_kept : (goals : List I) (input : I) → KeepsNumbers eq goals (insert_key eq goals input)
  numbers_kept goals input other number is = by (list_any (eq input) goals)
    where
      by : (b : Bool) → IsNumberOf eq (if b then goals else goals ++ input ∷ []) other number
      by true = is
      by false = position_from-zero (eq other) (goals ++ input ∷ []) ∙ from_append (eq other) goals (input ∷ []) 0 number (sym (position_from-zero (eq other) goals) ∙ is)

  -- after an insertion that may fail
  pub numbers_after : {A E : Type 0} (r : Result A E) (old new : List I) (input : I) → IfOk r (λ a. new ≡ insert_key eq old input) → OnErr r (new ≡ old) → KeepsNumbers eq old new
  numbers_after (Ok a) old new input added same other number is = rw added (numbers_kept old input other number is)
  numbers_after (Err e) old new input added same other number is = rw same is

  -- a goal has one number
  pub one_number : (goals : List I) (input : I) (m n : ℕ) → IsNumberOf eq goals input m → IsNumberOf eq goals input n → m ≡ n
  one_number goals input m n is also = same_Some m n (sym is ∙ also)
