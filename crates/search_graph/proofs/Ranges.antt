-- The ranges of cached results and of the stack contain the numbers of their goals.
use Rattle.std.proofs.Common.{◌≡◌, ℕ, zero, suc, ◌+◌, ◌-◌, ◌<◌, ◌≤◌, sym, ap, refl, ◌∙◌, subst, Bool, true, false, nat_eq, List, [], ◌∷◌, ◌++◌, length, get_or, slice_get, take, Some, None, if◌then◌else◌, All, ◌⊎◌, inl, inr, arith, IsSome, IsTrue}
use Rattle.std.proofs.lemmas.Bool.{eqb-true, eq-eqb}
use Rattle.std.proofs.lemmas.Option.{none-some, same_Some, slice_get_within, get_or_from_slice_get, slice_get-get_or}
use Rattle.std.proofs.lemmas.List.Elements.{All-nil, All-append, All-push}
use Rattle.std.proofs.lemmas.List.Sorted.{All-permutation}
use Rattle.std.specs.List.Sorted.{IsPermutation}
use Rattle.std.proofs.lemmas.Map.Steps.{length-le_from_distinct_below}
use Rattle.std.specs.List.{list_any, IsDistinct}
use Rattle.indexmap.specs.IndexSet.{insert_key}
use Rattle.search_paths.specs.declared.nested_goals.Span.{Span}
use Rattle.search_paths.specs.declared.nested_goals.NestedGoals.{NestedGoals}
use Rattle.search_paths.specs.Nested.{IsWithin, covered, no_goal, one_goal}
use Rattle.search_graph.specs.declared.cache.CacheEntry.{CacheEntry}
use Rattle.search_graph.specs.declared.cache.Asked.{Asked}
use Rattle.search_graph.specs.declared.stack.StackEntry.{StackEntry}
use Rattle.search_graph.specs.Cache.{KeepsResults}
use Rattle.search_graph.specs.Chain.{IsUsedUnder, used, further, IsAsked, IsAskedUnder, AllInRange, AreApart, range_of, AreInRange, AreCovered, AreInRanges, numbers_of, AreRecorded}
use Rattle.search_graph.specs.Stack.{place_from, place_of, span_of_newest}
use Rattle.search_graph.proofs.Chains.{IsReached, slice_get_take, take_left, take_whole, push_cases}
use Rattle.search_graph.proofs.Caches.{KeepsResults-push}
use Rattle.search_graph.proofs.Places.{newest_at}
use Rattle.type_terms.proofs.BooleanBasics.{true-false as true_not_false}

pub all_at : {X : Type 0} (P : X → Type 0) (xs : List X) (i : ℕ) (x : X) → All P xs → slice_get xs i ≡ Some x → P x
all_at P xs i x h at = subst P (get_or_from_slice_get xs i x x at) (h i x (slice_get_within xs i x at))

pub all_from : {X : Type 0} (P : X → Type 0) (xs : List X) → ((i : ℕ) (x : X) → slice_get xs i ≡ Some x → P x) → All P xs
all_from P xs h i d within = h i (get_or xs i d) (slice_get-get_or xs i d within)

taken : {X : Type 0} (xs : List X) (k : ℕ) → (length (take k xs) ≤ k) × (length (take k xs) ≤ length xs)
taken xs zero = (omega arith, omega arith)
taken [] (suc k) = (omega arith, omega arith)
taken (x ∷ xs) (suc k) = let rest = taken xs k in (omega (arith, rest.0), omega (arith, rest.1))

found_key : (ks : List ℕ) (q : ℕ) → list_any (nat_eq q) ks ≡ true → (j : ℕ) × (slice_get ks j ≡ Some q)
found_key [] q h = absurd (true_not_false (sym h))
found_key (k ∷ ks) q h = by (nat_eq q k) refl (found_key ks q)
  where
    by : (b : Bool) → nat_eq q k ≡ b → (list_any (nat_eq q) ks ≡ true → (j : ℕ) × (slice_get ks j ≡ Some q)) → (j : ℕ) × (slice_get (k ∷ ks) j ≡ Some q)
    by true is rest = (0, ap Some (sym (eqb-true q k is)))
    by false is rest = let more = rest (rw is at h) in (suc more.0, more.1)

pub at_end : {X : Type 0} (xs : List X) (x : X) → slice_get (xs ++ x ∷ []) (length xs) ≡ Some x
at_end [] x = refl
at_end (y ∷ xs) x = at_end xs x

-- one more place is reached
pub reach_insert : (old keys places : List ℕ) (i p : ℕ) → KeepsResults old keys → ((j place : ℕ) → slice_get keys j ≡ Some place → (slice_get old j ≡ Some place) ⊎ ((k : ℕ) × (slice_get places k ≡ Some place))) → slice_get places i ≡ Some p
    → KeepsResults old (insert_key nat_eq keys p) × ((j place : ℕ) → slice_get (insert_key nat_eq keys p) j ≡ Some place → (slice_get old j ≡ Some place) ⊎ ((k : ℕ) × (slice_get places k ≡ Some place)))
    × KeepsResults keys (insert_key nat_eq keys p) × ((j : ℕ) × (slice_get (insert_key nat_eq keys p) j ≡ Some p))
reach_insert old keys places i p stay among at = by (list_any (nat_eq p) keys) refl
  where
    by : (b : Bool) → list_any (nat_eq p) keys ≡ b → KeepsResults old (if b then keys else keys ++ p ∷ []) × ((j place : ℕ) → slice_get (if b then keys else keys ++ p ∷ []) j ≡ Some place → (slice_get old j ≡ Some place) ⊎ ((k : ℕ) × (slice_get places k ≡ Some place)))
        × KeepsResults keys (if b then keys else keys ++ p ∷ []) × ((j : ℕ) × (slice_get (if b then keys else keys ++ p ∷ []) j ≡ Some p))
    by true is = (stay, among, (λ q x h. h), found_key keys p is)
    by false is = (
      (λ q x h. KeepsResults-push keys p q x (stay q x h)),
      (λ j place at-j. elim (push_cases keys p place j at-j) [ inl h ↦ among j place h.1 | inr h ↦ inr (i, at ∙ ap Some h.1) ]),
      KeepsResults-push keys p,
      (length keys, at_end keys p),
    )

covers_left : (a b : Span) (n : ℕ) → IsWithin a n → IsWithin (covered a b) n
covers_left a b n h = (omega (arith, h.0), omega (arith, h.1))

covers_right : (a b : Span) (n : ℕ) → IsWithin b n → IsWithin (covered a b) n
covers_right a b n h = (omega (arith, h.0), omega (arith, h.1))

covers_one : (a : Span) (n : ℕ) → IsWithin (covered a (one_goal n)) n
covers_one a n = (omega arith, omega arith)

-- what does not overlap lies apart
pub apart_of : (b : Bool) (found on_stack range : Span) → found ≡ range → b ≡ false → ((number : ℕ) → IsWithin found number → IsWithin on_stack number → IsTrue b) → AreApart range on_stack
apart_of b found on_stack range same apart shares = λ n one other. true_not_false (sym (shares n (subst (λ z. IsWithin z n) (sym same) one) other) ∙ apart)

-- what a result used
cached_below : (es : List Asked) → AreCovered es → (place : ℕ) (e : Asked) → slice_get es place ≡ Some e → (i below : ℕ) → slice_get e.nested_goals.cached.items i ≡ Some below
    → (below < place) × (below < length es) × ((d : Asked) → slice_get es below ≡ Some d → AllInRange (IsWithin (range_of d)) e.nested_goals.span)
cached_below es covered place e at i below is =
    let one = all_at (λ p. (p < length (take place es)) × ((d : Asked) → slice_get (take place es) p ≡ Some d → AllInRange (IsWithin (range_of d)) e.nested_goals.span)) e.nested_goals.cached.items i below (covered place e at).1 is in
    let short = taken es place in
    let older : below < place = omega (arith, one.0, short.0) in
    (older, omega (arith, one.0, short.1), λ d there. one.1 d (slice_get_take es place below older ∙ there))

asked_in : (es : List Asked) → AreCovered es → (place : ℕ) (e : Asked) → slice_get es place ≡ Some e → (number : ℕ) → IsAsked e number → IsWithin e.nested_goals.span number
asked_in es covered place e at number asked = all_at (IsWithin e.nested_goals.span) e.nested_goals.goals.items asked.0 number (covered place e at).0 asked.1

-- what is used under a result is older
pub used_older : (es : List Asked) → AreCovered es → (place below : ℕ) → IsUsedUnder es place below → (below < place) × (below < length es)
used_older es covered place below (used {e = e} i at is) = let one = cached_below es covered place e at i below is in (one.0, one.1)
used_older es covered place below (further {e = e} {above = above} i under at is) =
    let one = cached_below es covered above e at i below is in
    let more = used_older es covered place above under in
    (omega (arith, one.0, more.0), one.1)

-- and its range lies in that of the result
pub used_within : (es : List Asked) → AreCovered es → (place below : ℕ) (e d : Asked) → slice_get es place ≡ Some e → IsUsedUnder es place below → slice_get es below ≡ Some d → AllInRange (IsWithin (range_of d)) e.nested_goals.span
used_within es covered place below e d at (used {e = f} i at-f is) there =
    let same : f ≡ e = same_Some f e (sym at-f ∙ at) in
    rw same at ((cached_below es covered place f at-f i below is).2 d there)
used_within es covered place below e d at (further {e = f} {above = above} i under at-f is) there = λ n within.
    used_within es covered place above e f at under at-f n (covers_left f.nested_goals.span (one_goal f.number) n ((cached_below es covered above f at-f i below is).2 d there n within))

-- all that was asked under a result lies in its range
pub asked_within : (es : List Asked) → AreCovered es → (place : ℕ) (e : Asked) → slice_get es place ≡ Some e → AllInRange (IsAskedUnder es place) e.nested_goals.span
asked_within es covered place e at n (inl (d, there, asked)) =
    let same : d ≡ e = same_Some d e (sym there ∙ at) in
    rw same at (asked_in es covered place d there n asked)
asked_within es covered place e at n (inr (below, d, under, there, inl is)) =
    used_within es covered place below e d at under there n (subst (IsWithin (range_of d)) is (covers_one d.nested_goals.span d.number))
asked_within es covered place e at n (inr (below, d, under, there, inr asked)) =
    used_within es covered place below e d at under there n (covers_left d.nested_goals.span (one_goal d.number) n (asked_in es covered below d there n asked))

-- where no goal of the stack lies in the range, none was asked under the result
pub apart_clear : (es : List Asked) → AreCovered es → (IsOnStack : ℕ → Type 0) (on_stack : Span) → AllInRange IsOnStack on_stack → (place : ℕ) (e : Asked) → slice_get es place ≡ Some e → AreApart e.nested_goals.span on_stack
    → (asked : ℕ) → IsAskedUnder es place asked → IsOnStack asked → ⊥
apart_clear es covered IsOnStack on_stack all place e at apart asked under on = apart asked (asked_within es covered place e at asked under) (all asked on)

-- nothing was asked under a result that isn't there
pub absent_clear : (es : List Asked) → AreCovered es → (place : ℕ) → slice_get es place ≡ None → (asked : ℕ) → IsAskedUnder es place asked → ⊥
absent_clear es covered place none asked (inl (e, at, is)) = none-some e (sym none ∙ at)
absent_clear es covered place none asked (inr (below, d, under, there, is)) = first place below under none
  where
    first : (p q : ℕ) → IsUsedUnder es p q → slice_get es p ≡ None → ⊥
    first p q (used {e = e} i at is) gone = none-some e (sym gone ∙ at)
    first p q (further {above = above} i above_under at is) gone = first p above above_under gone

-- a result is reached, or lies apart from the stack
abbrev pub IsSettled : List Asked → Span → List ℕ → ℕ → Type 0
IsSettled es on_stack keys place = ((j : ℕ) × (slice_get keys j ≡ Some place)) ⊎ ((e : Asked) → slice_get es place ≡ Some e → AreApart (range_of e) on_stack)

-- a reached result was looked through
pub record IsSeen (es : List Asked) (IsOnStack : ℕ → Type 0) (on_stack : Span) (keys : List ℕ) (j : ℕ) (e : Asked) : Type 0 where
  pub own : 0 < j → IsOnStack e.number → ⊥
  pub goals : All (λ asked. IsOnStack asked → ⊥) e.nested_goals.goals.items
  pub cached : All (IsSettled es on_stack keys) e.nested_goals.cached.items

abbrev pub AreSeen : List Asked → (ℕ → Type 0) → Span → List ℕ → ℕ → Type 0
AreSeen es IsOnStack on_stack keys rounds = (j place : ℕ) (e : Asked) → j < rounds → slice_get keys j ≡ Some place → slice_get es place ≡ Some e → IsSeen es IsOnStack on_stack keys j e

-- what was looked through stays so where more is reached
pub settled_more : (es : List Asked) (on_stack : Span) (keys more : List ℕ) → KeepsResults keys more → (place : ℕ) → IsSettled es on_stack keys place → IsSettled es on_stack more place
settled_more es on_stack keys more stay place (inl (j, at)) = inl (j, stay j place at)
settled_more es on_stack keys more stay place (inr apart) = inr apart

pub settled_next : (es : List Asked) (on_stack : Span) (keys more places : List ℕ) (i p : ℕ) → KeepsResults keys more → ((k place : ℕ) → k < i → slice_get places k ≡ Some place → IsSettled es on_stack keys place)
    → slice_get places i ≡ Some p → IsSettled es on_stack more p → (k place : ℕ) → k < i + 1 → slice_get places k ≡ Some place → IsSettled es on_stack more place
settled_next es on_stack keys more places i p stay before at now k place within at-k = by (nat_eq k i) refl
  where
    by : (b : Bool) → nat_eq k i ≡ b → IsSettled es on_stack more place
    by true is = subst (IsSettled es on_stack more) (same_Some p place (sym at ∙ ap (slice_get places) (sym (eqb-true k i is)) ∙ at-k)) now
    by false is =
        let other : k ≡ i → ⊥ = λ s. true_not_false (sym (eq-eqb k i s) ∙ is) in
        settled_more es on_stack keys more stay place (before k place (omega (arith, other, within)) at-k)

pub seen_next : (es : List Asked) (IsOnStack : ℕ → Type 0) (on_stack : Span) (keys more : List ℕ) (round below : ℕ) (e : Asked) → AreSeen es IsOnStack on_stack keys round → KeepsResults keys more
    → slice_get keys round ≡ Some below → slice_get es below ≡ Some e
    → (0 < round → IsOnStack e.number → ⊥) → All (λ asked. IsOnStack asked → ⊥) e.nested_goals.goals.items → All (IsSettled es on_stack more) e.nested_goals.cached.items
    → AreSeen es IsOnStack on_stack more (round + 1)
seen_next es IsOnStack on_stack keys more round below e seen stay at there own goals cached j place d within at-j there-d = by (nat_eq j round) refl
  where
    earlier : (k p : ℕ) (f : Asked) → k < round → slice_get more k ≡ Some p → slice_get es p ≡ Some f → (q : ℕ) → slice_get keys k ≡ Some q → IsSeen es IsOnStack on_stack more k f
    earlier k p f lt at-k there-f q was =
        let same : q ≡ p = same_Some q p (sym (stay k q was) ∙ at-k) in
        let old = seen k q f lt was (ap (slice_get es) same ∙ there-f) in
        record {
          own = old.own;
          goals = old.goals;
          cached = all_from (IsSettled es on_stack more) f.nested_goals.cached.items (λ i x is. settled_more es on_stack keys more stay x (all_at (IsSettled es on_stack keys) f.nested_goals.cached.items i x old.cached is));
        }

    inside : (k n : ℕ) (ks : List ℕ) → k < n → n < length ks → (q : ℕ) × (slice_get ks k ≡ Some q)
    inside k n [] lt long = absurd (omega arith)
    inside zero n (x ∷ ks) lt long = (x, refl)
    inside (suc k) zero (x ∷ ks) lt long = absurd (omega arith)
    inside (suc k) (suc n) (x ∷ ks) lt long = inside k n ks (omega arith) (omega arith)

    by : (b : Bool) → nat_eq j round ≡ b → IsSeen es IsOnStack on_stack more j d
    by true is =
        let here : j ≡ round = eqb-true j round is in
        let same : below ≡ place = same_Some below place (sym (stay round below at) ∙ ap (slice_get more) (sym here) ∙ at-j) in
        let entry : e ≡ d = same_Some e d (sym there ∙ ap (slice_get es) same ∙ there-d) in
        subst (IsSeen es IsOnStack on_stack more j) entry (record { own = λ later. own (subst (λ k. 0 < k) here later); goals = goals; cached = cached })
    by false is =
        let other : j ≡ round → ⊥ = λ s. true_not_false (sym (eq-eqb j round s) ∙ is) in
        let lt : j < round = omega (arith, other, within) in
        let was = inside j round keys lt (slice_get_within keys round below at) in
        earlier j place d lt at-j there-d was.0 was.1

-- where all that was reached was looked through, nothing that was asked under the first is on the stack
module _ (es : List Asked) (covered : AreCovered es) (IsOnStack : ℕ → Type 0) (on_stack : Span) (all : AllInRange IsOnStack on_stack) (place : ℕ) (keys : List ℕ) (first : slice_get keys 0 ≡ Some place) where
  settled_cached : (rounds : ℕ) → length keys ≤ rounds → AreSeen es IsOnStack on_stack keys rounds → (above : ℕ) (e : Asked) → slice_get es above ≡ Some e → IsSettled es on_stack keys above → (i below : ℕ) → slice_get e.nested_goals.cached.items i ≡ Some below → IsSettled es on_stack keys below
  settled_cached rounds whole seen above e at (inl (j, reached)) i below is =
      let inside = slice_get_within keys j above reached in
      all_at (IsSettled es on_stack keys) e.nested_goals.cached.items i below (seen j above e (omega (arith, inside, whole)) reached at).cached is
  settled_cached rounds whole seen above e at (inr apart) i below is = inr (λ d there n within. apart e at n (covers_left e.nested_goals.span (one_goal e.number) n ((cached_below es covered above e at i below is).2 d there n within)))

  settled_used : (rounds : ℕ) → length keys ≤ rounds → AreSeen es IsOnStack on_stack keys rounds → (below : ℕ) → IsUsedUnder es place below → IsSettled es on_stack keys below
  settled_used rounds whole seen below (used {e = e} i at is) = settled_cached rounds whole seen place e at (inl (0, first)) i below is
  settled_used rounds whole seen below (further {e = e} {above = above} i under at is) = settled_cached rounds whole seen above e at (settled_used rounds whole seen above under) i below is

  pub seen_clear : (rounds : ℕ) → length keys ≤ rounds → AreSeen es IsOnStack on_stack keys rounds → (asked : ℕ) → IsAskedUnder es place asked → IsOnStack asked → ⊥
  seen_clear rounds whole seen asked (inl (e, at, (i, is))) on =
      let inside = slice_get_within keys 0 place first in
      all_at (λ n. IsOnStack n → ⊥) e.nested_goals.goals.items i asked (seen 0 place e (omega (arith, inside, whole)) first at).goals is on
  seen_clear rounds whole seen asked (inr (below, d, under, there, how)) on = by (settled_used rounds whole seen below under) how
    where
      later : (j : ℕ) → slice_get keys j ≡ Some below → 0 < j
      later zero at =
          let same : place ≡ below = same_Some place below (sym first ∙ at) in
          let older = (used_older es covered place below under).0 in
          absurd (omega (arith, same, older))
      later (suc j) at = omega arith

      by : IsSettled es on_stack keys below → (d.number ≡ asked) ⊎ IsAsked d asked → ⊥
      by (inl (j, reached)) (inl is) =
          let inside = slice_get_within keys j below reached in
          (seen j below d (omega (arith, inside, whole)) reached there).own (later j reached) (subst IsOnStack (sym is) on)
      by (inl (j, reached)) (inr (i, is)) =
          let inside = slice_get_within keys j below reached in
          all_at (λ n. IsOnStack n → ⊥) d.nested_goals.goals.items i asked (seen j below d (omega (arith, inside, whole)) reached there).goals is on
      by (inr apart) (inl is) = apart d there asked (subst (IsWithin (range_of d)) is (covers_one d.nested_goals.span d.number)) (all asked on)
      by (inr apart) (inr is) = apart d there asked (covers_left d.nested_goals.span (one_goal d.number) asked (asked_in es covered below d there asked is)) (all asked on)

-- each reached place is one of the cache
pub reached_inside : (es : List Asked) → AreCovered es → (place : ℕ) → place < length es → (keys : List ℕ) → IsReached es place keys → (j q : ℕ) → slice_get keys j ≡ Some q → q < length es
reached_inside es covered place within keys reached j q at = by (reached j q at)
  where
    by : ((j ≡ 0) × (q ≡ place)) ⊎ IsUsedUnder es place q → q < length es
    by (inl (first, same)) = omega (arith, same, within)
    by (inr under) = (used_older es covered place q under).1

-- so no more of them are reached than there are
pub reached_count : (es : List Asked) → AreCovered es → (place : ℕ) → place < length es → (keys : List ℕ) → IsReached es place keys → IsDistinct nat_eq keys → length keys ≤ length es
reached_count es covered place within keys reached distinct = length-le_from_distinct_below keys (length es) distinct (λ q is. let at = found_key keys q is in reached_inside es covered place within keys reached at.0 q at.1)

-- what a stretch of the list of reached places adds was used under the first one
pub reached_more : (es : List Asked) (place j below : ℕ) (e : Asked) (keys more : List ℕ) → IsReached es place keys → slice_get keys j ≡ Some below → slice_get es below ≡ Some e
    → ((k q : ℕ) → slice_get more k ≡ Some q → (slice_get keys k ≡ Some q) ⊎ ((i : ℕ) × (slice_get e.nested_goals.cached.items i ≡ Some q))) → IsReached es place more
reached_more es place j below e keys more reached at there among k q at-k = by (among k q at-k)
  where
    under : (i : ℕ) → slice_get e.nested_goals.cached.items i ≡ Some q → ((j ≡ 0) × (below ≡ place)) ⊎ IsUsedUnder es place below → IsUsedUnder es place q
    under i is (inl (first, same)) = used i (subst (λ p. slice_get es p ≡ Some e) same there) is
    under i is (inr deeper) = further i deeper there is

    by : (slice_get keys k ≡ Some q) ⊎ ((i : ℕ) × (slice_get e.nested_goals.cached.items i ≡ Some q)) → ((k ≡ 0) × (q ≡ place)) ⊎ IsUsedUnder es place q
    by (inl was) = reached k q was
    by (inr (i, is)) = inr (under i is (reached j below at))

-- the goals lie in their range after more results are kept
pub in_range_later : (es later : List Asked) (nested : NestedGoals) → KeepsResults es later → AreInRange es nested → AreInRange later nested
in_range_later es later nested stay h = (
  h.0,
  all_from (λ place. (place < length later) × ((e : Asked) → slice_get later place ≡ Some e → AllInRange (IsWithin (range_of e)) nested.span)) nested.cached.items (λ i place is.
      let one = all_at (λ p. (p < length es) × ((e : Asked) → slice_get es p ≡ Some e → AllInRange (IsWithin (range_of e)) nested.span)) nested.cached.items i place h.1 is in
      by place one.0 one.1),
)
  where
    there : (xs : List Asked) (k : ℕ) → k < length xs → (d : Asked) × (slice_get xs k ≡ Some d)
    there [] k lt = absurd (omega arith)
    there (x ∷ xs) zero lt = (x, refl)
    there (x ∷ xs) (suc k) lt = there xs k (omega arith)

    by : (place : ℕ) → place < length es → ((e : Asked) → slice_get es place ≡ Some e → AllInRange (IsWithin (range_of e)) nested.span) → (place < length later) × ((e : Asked) → slice_get later place ≡ Some e → AllInRange (IsWithin (range_of e)) nested.span)
    by place lt ranges =
        let d = there es place lt in
        let kept = stay place d.0 d.1 in
        (slice_get_within later place d.0 kept, λ e at. rw (same_Some d.0 e (sym kept ∙ at)) at (ranges d.0 d.1))

-- each result used older ones after one more is kept
pub covered_push : (es : List Asked) (x : Asked) → AreCovered es → AreInRange es x.nested_goals → AreCovered (es ++ x ∷ [])
covered_push es x covered nested place e at = by (push_cases es x e place at)
  where
    by : ((place < length es) × (slice_get es place ≡ Some e)) ⊎ ((place ≡ length es) × (x ≡ e)) → AreInRange (take place (es ++ x ∷ [])) e.nested_goals
    by (inl (within, is)) = rw (take_left es x place (omega arith)) (covered place e is)
    by (inr (end, is)) = rw (← is, end, take_left es x (length es) (omega arith), take_whole es) nested

wider : (es : List Asked) (old new : Span) (cached : List ℕ) → AllInRange (IsWithin old) new
    → All (λ place. (place < length es) × ((e : Asked) → slice_get es place ≡ Some e → AllInRange (IsWithin (range_of e)) old)) cached
    → All (λ place. (place < length es) × ((e : Asked) → slice_get es place ≡ Some e → AllInRange (IsWithin (range_of e)) new)) cached
wider es old new cached grows h = all_from (λ place. (place < length es) × ((e : Asked) → slice_get es place ≡ Some e → AllInRange (IsWithin (range_of e)) new)) cached (λ i place is.
    let one = all_at (λ p. (p < length es) × ((e : Asked) → slice_get es p ≡ Some e → AllInRange (IsWithin (range_of e)) old)) cached i place h is in
    (one.0, λ e at n within. grows n (one.1 e at n within)))

-- of no goal
pub in_range_none : (es : List Asked) (nested : NestedGoals) → nested.goals.items ≡ [] → nested.cached.items ≡ [] → AreInRange es nested
in_range_none es nested goals cached = (
  all_from (IsWithin nested.span) nested.goals.items (λ i x is. absurd (none-some x (rw goals at is))),
  all_from (λ place. (place < length es) × ((e : Asked) → slice_get es place ≡ Some e → AllInRange (IsWithin (range_of e)) nested.span)) nested.cached.items (λ i x is. absurd (none-some x (rw cached at is))),
)

-- after one more goal
pub in_range_goal : (es : List Asked) (old new : NestedGoals) (number : ℕ) → new.goals.items ≡ old.goals.items ++ number ∷ [] → new.cached.items ≡ old.cached.items → new.span ≡ covered old.span (one_goal number) → AreInRange es old → AreInRange es new
in_range_goal es old new number goals cached span h = (
  rw (goals, span) (All-push (IsWithin (covered old.span (one_goal number))) old.goals.items number (all_from (IsWithin (covered old.span (one_goal number))) old.goals.items (λ i x is. covers_left old.span (one_goal number) x (all_at (IsWithin old.span) old.goals.items i x h.0 is))) (covers_one old.span number)),
  rw (cached, span) (wider es old.span (covered old.span (one_goal number)) old.cached.items (covers_left old.span (one_goal number)) h.1),
)

-- of one goal
pub in_range_one : (es : List Asked) (nested : NestedGoals) (number : ℕ) → nested.goals.items ≡ number ∷ [] → nested.cached.items ≡ [] → nested.span ≡ covered no_goal (one_goal number) → AreInRange es nested
in_range_one es nested number goals cached span = (
  rw (goals, span) (All-push (IsWithin (covered no_goal (one_goal number))) [] number (All-nil (IsWithin (covered no_goal (one_goal number)))) (covers_one no_goal number)),
  all_from (λ place. (place < length es) × ((e : Asked) → slice_get es place ≡ Some e → AllInRange (IsWithin (range_of e)) nested.span)) nested.cached.items (λ i x is. absurd (none-some x (rw cached at is))),
)

-- of one cached result
pub in_range_cached : (es : List Asked) (nested : NestedGoals) (place : ℕ) (e : Asked) → slice_get es place ≡ Some e → nested.goals.items ≡ [] → nested.cached.items ≡ place ∷ [] → nested.span ≡ covered no_goal (range_of e) → AreInRange es nested
in_range_cached es nested place e at goals cached span = (
  all_from (IsWithin nested.span) nested.goals.items (λ i x is. absurd (none-some x (rw goals at is))),
  rw (cached, span) (All-push (λ p. (p < length es) × ((d : Asked) → slice_get es p ≡ Some d → AllInRange (IsWithin (range_of d)) (covered no_goal (range_of e)))) [] place
      (All-nil (λ p. (p < length es) × ((d : Asked) → slice_get es p ≡ Some d → AllInRange (IsWithin (range_of d)) (covered no_goal (range_of e)))))
      (slice_get_within es place e at, λ d there n within. covers_right no_goal (range_of e) n (subst (λ z. IsWithin (range_of z) n) (same_Some d e (sym there ∙ at)) within))),
)

-- after those of another list
pub in_range_gather : (es : List Asked) (old more new : NestedGoals) → IsPermutation (old.goals.items ++ more.goals.items) new.goals.items → IsPermutation (old.cached.items ++ more.cached.items) new.cached.items → new.span ≡ covered old.span more.span
    → AreInRange es old → AreInRange es more → AreInRange es new
in_range_gather es old more new goals cached span h k = (
  rw span (All-permutation (IsWithin (covered old.span more.span)) (old.goals.items ++ more.goals.items) new.goals.items goals (All-append (IsWithin (covered old.span more.span)) old.goals.items more.goals.items
      (all_from (IsWithin (covered old.span more.span)) old.goals.items (λ i x is. covers_left old.span more.span x (all_at (IsWithin old.span) old.goals.items i x h.0 is)))
      (all_from (IsWithin (covered old.span more.span)) more.goals.items (λ i x is. covers_right old.span more.span x (all_at (IsWithin more.span) more.goals.items i x k.0 is))))),
  rw span (All-permutation (λ place. (place < length es) × ((e : Asked) → slice_get es place ≡ Some e → AllInRange (IsWithin (range_of e)) (covered old.span more.span))) (old.cached.items ++ more.cached.items) new.cached.items cached
      (All-append (λ place. (place < length es) × ((e : Asked) → slice_get es place ≡ Some e → AllInRange (IsWithin (range_of e)) (covered old.span more.span))) old.cached.items more.cached.items
      (wider es old.span (covered old.span more.span) old.cached.items (covers_left old.span more.span) h.1)
      (wider es more.span (covered old.span more.span) more.cached.items (covers_right old.span more.span) k.1))),
)

module _ {I R : Type 0} where
  newest_in : (es : List (StackEntry I R)) → AreInRanges es → (low : ℕ) (d : StackEntry I R) → slice_get es low ≡ Some d → IsWithin (span_of_newest es) d.number
  newest_in es h low d at =
      let within = slice_get_within es low d at in
      let last : length es - 1 < length es = omega (arith, within) in
      let top = there es (length es - 1) last in
      rw (newest_at es top.0 top.1) at (h low (length es - 1) d top.0 at top.1 (omega (arith, within)))
    where
      there : (xs : List (StackEntry I R)) (k : ℕ) → k < length xs → (e : StackEntry I R) × (slice_get xs k ≡ Some e)
      there [] k lt = absurd (omega arith)
      there (x ∷ xs) zero lt = (x, refl)
      there (x ∷ xs) (suc k) lt = there xs k (omega arith)

  placed_at : (first : ℕ) (ds : List (StackEntry I R)) (number : ℕ) → IsSome (place_from first ds number) → (i : ℕ) × (d : StackEntry I R) × (slice_get ds i ≡ Some d) × (d.number ≡ number)
  placed_at first [] number h = absurd (true_not_false (sym h))
  placed_at first (d ∷ ds) number h = by (nat_eq number d.number) refl (placed_at (first + 1) ds number)
    where
      by : (b : Bool) → nat_eq number d.number ≡ b → (IsSome (place_from (first + 1) ds number) → (i : ℕ) × (e : StackEntry I R) × (slice_get ds i ≡ Some e) × (e.number ≡ number)) → (i : ℕ) × (e : StackEntry I R) × (slice_get (d ∷ ds) i ≡ Some e) × (e.number ≡ number)
      by true is rest = (0, d, refl, sym (eqb-true number d.number is))
      by false is rest = let more = rest (rw is at h) in (suc more.0, more.1, more.2, more.3)

  -- the goals of a stack lie in the newest one's range
  pub stack_in_range : (es : List (StackEntry I R)) → AreInRanges es → AllInRange (λ number. IsSome (place_of es number)) (span_of_newest es)
  stack_in_range es h number on =
      let found = placed_at 0 es number on in
      subst (IsWithin (span_of_newest es)) found.3 (newest_in es h found.0 found.1 found.2)

  -- and do so after one more is put there
  pub ranges_push : (es : List (StackEntry I R)) (x : StackEntry I R) → AreInRanges es → x.span ≡ covered (span_of_newest es) (one_goal x.number) → AreInRanges (es ++ x ∷ [])
  ranges_push es x h span low high d e at-d at-e le = by (push_cases es x d low at-d) (push_cases es x e high at-e)
    where
      by : ((low < length es) × (slice_get es low ≡ Some d)) ⊎ ((low ≡ length es) × (x ≡ d)) → ((high < length es) × (slice_get es high ≡ Some e)) ⊎ ((high ≡ length es) × (x ≡ e)) → IsWithin e.span d.number
      by (inl a) (inl b) = h low high d e a.1 b.1 le
      by (inl a) (inr b) = rw (← b.1, span) (covers_left (span_of_newest es) (one_goal x.number) d.number (newest_in es h low d a.1))
      by (inr a) (inl b) = absurd (omega (arith, a.0, b.0, le))
      by (inr a) (inr b) = rw (← b.1, ← a.1, span) (covers_one (span_of_newest es) x.number)

  pub ranges_pop : (es : List (StackEntry I R)) (x : StackEntry I R) → AreInRanges (es ++ x ∷ []) → AreInRanges es
  ranges_pop es x h low high d e at-d at-e le = h low high d e (KeepsResults-push es x low d at-d) (KeepsResults-push es x high e at-e) le

-- a goal of this number is listed there
pub listed_at : (asked : List Asked) (place number : ℕ) → slice_get (numbers_of asked) place ≡ Some number → (a : Asked) × (slice_get asked place ≡ Some a) × (a.number ≡ number)
listed_at [] place number at = absurd (none-some number at)
listed_at (a ∷ asked) zero number at = (a, refl, same_Some a.number number at)
listed_at (a ∷ asked) (suc place) number at = listed_at asked place number at

number_at : (asked : List Asked) (place : ℕ) (a : Asked) → slice_get asked place ≡ Some a → slice_get (numbers_of asked) place ≡ Some a.number
number_at [] place a at = absurd (none-some a at)
number_at (b ∷ asked) zero a at = ap (λ z. Some z.number) (same_Some b a at)
number_at (b ∷ asked) (suc place) a at = number_at asked place a at

-- each result names what was asked under its goal
module _ {I R : Type 0} where
  -- after more was asked
  pub recorded_later : (es : List (CacheEntry I R)) (asked later : List Asked) → KeepsResults asked later → AreRecorded es asked → AreRecorded es later
  recorded_later es asked later stay h place e at =
      let a = listed_at asked e.asked e.number (h place e at) in
      number_at later e.asked a.0 (stay e.asked a.0 a.1) ∙ ap Some a.2

  -- and after the result is kept whose goal was listed last
  pub recorded_push : (es : List (CacheEntry I R)) (x : CacheEntry I R) (asked : List Asked) (a : Asked) → AreRecorded es asked → x.asked ≡ length asked → a.number ≡ x.number → AreRecorded (es ++ x ∷ []) (asked ++ a ∷ [])
  recorded_push es x asked a h place_is number place e at = by (push_cases es x e place at)
    where
      by : ((place < length es) × (slice_get es place ≡ Some e)) ⊎ ((place ≡ length es) × (x ≡ e)) → slice_get (numbers_of (asked ++ a ∷ [])) e.asked ≡ Some e.number
      by (inl (within, is)) = recorded_later es asked (asked ++ a ∷ []) (KeepsResults-push asked a) h place e is
      by (inr (end, is)) = rw (← is) (rw place_is (number_at (asked ++ a ∷ []) (length asked) a (at_end asked a) ∙ ap Some number))
