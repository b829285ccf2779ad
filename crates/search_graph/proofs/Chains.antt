-- The traversal of the results of a goal visits each of them.
use Rattle.std.proofs.Common.{◌≡◌, ℕ, zero, suc, ◌+◌, ◌<◌, ◌≤◌, sym, ap, refl, ◌∙◌, Bool, true, false, cond, nat_eq, List, [], ◌∷◌, ◌++◌, length, get_or, slice_get, take, set, subst, Option, Some, None, is_some, Result, Ok, Err, IfOk, IfSome, IfNone, ◌⊎◌, inl, inr, arith}
use Rattle.std.proofs.lemmas.Bool.{eqb-true, eq-eqb}
use Rattle.std.proofs.lemmas.Option.{none-some, same_Some, slice_get_within}
use Rattle.indexmap.specs.IndexMap.{get}
use Rattle.search_graph.specs.declared.cache.CacheEntry.{CacheEntry}
use Rattle.search_graph.specs.declared.cache.Asked.{Asked}
use Rattle.search_graph.specs.declared.newest.Chain.{Chain}
use Rattle.search_graph.specs.declared.newest.Chain.TheVariants.{Successes, Overflows}
use Rattle.search_graph.specs.declared.newest.Newest.{Newest}
use Rattle.search_graph.specs.Chain.{newest_from, newest_of, newest_in, chain_of, chain_of_entry, is_chain, is_overflow_of, number_of_chain, AreLinked, IsUsedUnder, IsAskedUnder, IsUsable, NoneIsUsable, NoneIsUsableAlong}
use Rattle.type_terms.proofs.BooleanBasics.{true-false as true_not_false}

module _ {X : Type 0} where
  pub slice_get_take : (xs : List X) (k i : ℕ) → i < k → slice_get (take k xs) i ≡ slice_get xs i
  slice_get_take xs zero i h = absurd (omega arith)
  slice_get_take [] (suc k) i h = refl
  slice_get_take (x ∷ xs) (suc k) zero h = refl
  slice_get_take (x ∷ xs) (suc k) (suc i) h = slice_get_take xs k i (omega arith)

  pub slice_get_taken : (xs : List X) (k i : ℕ) (x : X) → slice_get (take k xs) i ≡ Some x → (i < k) × (slice_get xs i ≡ Some x)
  slice_get_taken xs zero i x h = absurd (none-some x h)
  slice_get_taken [] (suc k) i x h = absurd (none-some x h)
  slice_get_taken (y ∷ xs) (suc k) zero x h = (omega arith, h)
  slice_get_taken (y ∷ xs) (suc k) (suc i) x h = let rest = slice_get_taken xs k i x h in (omega (arith, rest.0), rest.1)

  pub take_whole : (xs : List X) → take (length xs) xs ≡ xs
  take_whole [] = refl
  take_whole (x ∷ xs) = ap (◌∷◌ x) (take_whole xs)

  pub take_left : (xs : List X) (x : X) (k : ℕ) → k ≤ length xs → take k (xs ++ x ∷ []) ≡ take k xs
  take_left xs x zero h = refl
  take_left [] x (suc k) h = absurd (omega arith)
  take_left (y ∷ xs) x (suc k) h = ap (◌∷◌ y) (take_left xs x k (omega arith))

  -- an element after one more is put at the end
  pub push_cases : (xs : List X) (x y : X) (i : ℕ) → slice_get (xs ++ x ∷ []) i ≡ Some y → ((i < length xs) × (slice_get xs i ≡ Some y)) ⊎ ((i ≡ length xs) × (x ≡ y))
  push_cases [] x y zero h = inr (refl, same_Some x y h)
  push_cases [] x y (suc i) h = absurd (none-some y h)
  push_cases (z ∷ xs) x y zero h = inl (omega arith, h)
  push_cases (z ∷ xs) x y (suc i) h = by (push_cases xs x y i h)
    where
      by : ((i < length xs) × (slice_get xs i ≡ Some y)) ⊎ ((i ≡ length xs) × (x ≡ y)) → ((suc i < suc (length xs)) × (slice_get xs i ≡ Some y)) ⊎ ((suc i ≡ suc (length xs)) × (x ≡ y))
      by (inl (within, is)) = inl (omega arith, is)
      by (inr (end, is)) = inr (ap suc end, is)

-- whether two chains are one
chain_true : (a b : Chain) → is_chain a b ≡ true → a ≡ b
chain_true (Successes n) (Successes m) h = ap Successes (eqb-true n m h)
chain_true (Successes n) (Overflows m e) h = cc
chain_true (Overflows n d) (Successes m) h = cc
chain_true (Overflows n d) (Overflows m e) h = by (nat_eq n m) (nat_eq d e) refl refl
  where
    by : (x y : Bool) → nat_eq n m ≡ x → nat_eq d e ≡ y → Overflows n d ≡ Overflows m e
    by true true is same = rw (eqb-true n m is, eqb-true d e same) refl
    by true false is same = absurd (true_not_false (sym h ∙ rw (is, same) refl))
    by false y is same = absurd (true_not_false (sym h ∙ rw is refl))

chain_equal : (a b : Chain) → a ≡ b → is_chain a b ≡ true
chain_equal a b same = subst (λ c. is_chain a c ≡ true) same (own a)
  where
    own : (c : Chain) → is_chain c c ≡ true
    own (Successes n) = eq-eqb n n refl
    own (Overflows n d) = rw (eq-eqb n n refl, eq-eqb d d refl) refl

module _ {I R : Type 0} where
  -- the newest result of a goal after one more is kept
  pub newest_push : (first : ℕ) (es : List (CacheEntry I R)) (x : CacheEntry I R) (chain : Chain) (last : Option ℕ) → newest_from first (es ++ x ∷ []) chain last ≡ cond (is_chain (chain_of_entry x) chain) (Some (first + length es)) (newest_from first es chain last)
  newest_push first [] x chain last = let here : first ≡ first + 0 = omega arith in ap (λ p. cond (is_chain (chain_of_entry x) chain) (Some p) last) here
  newest_push first (e ∷ es) x chain last =
      let there : first + 1 + length es ≡ first + suc (length es) = omega arith in
      newest_push (first + 1) es x chain (cond (is_chain (chain_of_entry e) chain) (Some first) last) ∙ ap (λ p. cond (is_chain (chain_of_entry x) chain) (Some p) (newest_from (first + 1) es chain (cond (is_chain (chain_of_entry e) chain) (Some first) last))) there

  -- what is found as the newest result: what was met before, or a result of the chain after which there is no other
  newest_cases : (first : ℕ) (es : List (CacheEntry I R)) (chain : Chain) (last : Option ℕ)
      → ((newest_from first es chain last ≡ last) × ((i : ℕ) (e : CacheEntry I R) → slice_get es i ≡ Some e → chain_of_entry e ≡ chain → ⊥))
      ⊎ ((i : ℕ) × (e : CacheEntry I R) × (newest_from first es chain last ≡ Some (first + i)) × (slice_get es i ≡ Some e) × (chain_of_entry e ≡ chain) × ((j : ℕ) (d : CacheEntry I R) → slice_get es j ≡ Some d → chain_of_entry d ≡ chain → j ≤ i))
  newest_cases first [] chain last = inl (refl, λ i e at is. none-some e at)
  newest_cases first (x ∷ es) chain last = by (is_chain (chain_of_entry x) chain) refl (newest_cases (first + 1) es chain (cond (is_chain (chain_of_entry x) chain) (Some first) last))
    where
      none_in : ((i : ℕ) (e : CacheEntry I R) → slice_get es i ≡ Some e → chain_of_entry e ≡ chain → ⊥) → (chain_of_entry x ≡ chain → ⊥) → (i : ℕ) (e : CacheEntry I R) → slice_get (x ∷ es) i ≡ Some e → chain_of_entry e ≡ chain → ⊥
      none_in rest other zero e at is = other (ap chain_of_entry (same_Some x e at) ∙ is)
      none_in rest other (suc i) e at is = rest i e at is

      none_after : ((i : ℕ) (e : CacheEntry I R) → slice_get es i ≡ Some e → chain_of_entry e ≡ chain → ⊥) → (j : ℕ) (d : CacheEntry I R) → slice_get (x ∷ es) j ≡ Some d → chain_of_entry d ≡ chain → j ≤ 0
      none_after rest zero d at is = omega arith
      none_after rest (suc j) d at is = absurd (rest j d at is)

      last_in : (i : ℕ) → ((j : ℕ) (d : CacheEntry I R) → slice_get es j ≡ Some d → chain_of_entry d ≡ chain → j ≤ i) → (j : ℕ) (d : CacheEntry I R) → slice_get (x ∷ es) j ≡ Some d → chain_of_entry d ≡ chain → j ≤ suc i
      last_in i rest zero d at is = omega arith
      last_in i rest (suc j) d at is = omega (arith, rest j d at is)

      by : (b : Bool) → is_chain (chain_of_entry x) chain ≡ b
          → ((newest_from (first + 1) es chain (cond (is_chain (chain_of_entry x) chain) (Some first) last) ≡ cond (is_chain (chain_of_entry x) chain) (Some first) last) × ((i : ℕ) (e : CacheEntry I R) → slice_get es i ≡ Some e → chain_of_entry e ≡ chain → ⊥))
          ⊎ ((i : ℕ) × (e : CacheEntry I R) × (newest_from (first + 1) es chain (cond (is_chain (chain_of_entry x) chain) (Some first) last) ≡ Some (first + 1 + i)) × (slice_get es i ≡ Some e) × (chain_of_entry e ≡ chain) × ((j : ℕ) (d : CacheEntry I R) → slice_get es j ≡ Some d → chain_of_entry d ≡ chain → j ≤ i))
          → ((newest_from (first + 1) es chain (cond (is_chain (chain_of_entry x) chain) (Some first) last) ≡ last) × ((i : ℕ) (e : CacheEntry I R) → slice_get (x ∷ es) i ≡ Some e → chain_of_entry e ≡ chain → ⊥))
          ⊎ ((i : ℕ) × (e : CacheEntry I R) × (newest_from (first + 1) es chain (cond (is_chain (chain_of_entry x) chain) (Some first) last) ≡ Some (first + i)) × (slice_get (x ∷ es) i ≡ Some e) × (chain_of_entry e ≡ chain) × ((j : ℕ) (d : CacheEntry I R) → slice_get (x ∷ es) j ≡ Some d → chain_of_entry d ≡ chain → j ≤ i))
      by true eq (inl (is, none)) = let here : first ≡ first + 0 = omega arith in inr (0, x, is ∙ ap (λ b. cond b (Some first) last) eq ∙ ap Some here, refl, chain_true (chain_of_entry x) chain eq, none_after none)
      by false eq (inl (is, none)) = inl (is ∙ ap (λ b. cond b (Some first) last) eq, none_in none (λ same. true_not_false (sym (chain_equal (chain_of_entry x) chain same) ∙ eq)))
      by b eq (inr (i, e, is, at, chain_is, none)) = let there : first + 1 + i ≡ first + suc i = omega arith in inr (suc i, e, is ∙ ap Some there, at, chain_is, last_in i none)

  -- the links stay where one more result is kept that leads to the newest one of its goal
  pub AreLinked-push : (es : List (CacheEntry I R)) (x : CacheEntry I R) → AreLinked es → x.previous ≡ newest_of es (chain_of_entry x) → AreLinked (es ++ x ∷ [])
  AreLinked-push es x linked link place e at = by (push_cases es x e place at)
    where
      by : ((place < length es) × (slice_get es place ≡ Some e)) ⊎ ((place ≡ length es) × (x ≡ e)) → e.previous ≡ newest_of (take place (es ++ x ∷ [])) (chain_of_entry e)
      by (inl (within, is)) = linked place e is ∙ ap (λ ds. newest_of ds (chain_of_entry e)) (sym (take_left es x place (omega arith)))
      by (inr (end, is)) =
          ap (λ z. z.previous) (sym is) ∙ link ∙ ap (λ z. newest_of es (chain_of_entry z)) is
          ∙ ap (λ ds. newest_of ds (chain_of_entry e)) (sym (ap (λ k. take k (es ++ x ∷ [])) end ∙ take_left es x (length es) (omega arith) ∙ take_whole es))

  -- after so many steps of the walk, each result that fits lies below the last place that was seen
  pub record IsAhead (es : List (CacheEntry I R)) (chain : Chain) (Fits : ℕ → CacheEntry I R → Type 0) (steps : ℕ) (next : Option ℕ) : Type 0 where
    pub seen : ℕ
    pub room : seen + steps ≤ length es
    pub newest : next ≡ newest_of (take seen es) chain
    pub rest : (place : ℕ) (e : CacheEntry I R) → slice_get es place ≡ Some e → Fits place e → (chain_of_entry e ≡ chain) × (place < seen)

  module _ (es : List (CacheEntry I R)) (chain : Chain) (Fits : ℕ → CacheEntry I R → Type 0) where
    pub ahead_start : (next : Option ℕ) → next ≡ newest_of es chain → ((place : ℕ) (e : CacheEntry I R) → Fits place e → chain_of_entry e ≡ chain) → IsAhead es chain Fits 0 next
    ahead_start next is numbered = record {
      seen = length es;
      room = omega arith;
      newest = is ∙ ap (λ ds. newest_of ds chain) (sym (take_whole es));
      rest = λ place e at fits. (numbered place e fits, slice_get_within es place e at);
    }

    -- where the walk ends, nothing fits
    pub ahead_none : (steps : ℕ) (next : Option ℕ) → next ≡ None → IsAhead es chain Fits steps next → (place : ℕ) (e : CacheEntry I R) → slice_get es place ≡ Some e → Fits place e → ⊥
    ahead_none steps next end a place e at fits = by (newest_cases 0 (take a.seen es) chain None)
      where
        by : ((newest_from 0 (take a.seen es) chain None ≡ None) × ((i : ℕ) (d : CacheEntry I R) → slice_get (take a.seen es) i ≡ Some d → chain_of_entry d ≡ chain → ⊥))
            ⊎ ((i : ℕ) × (d : CacheEntry I R) × (newest_from 0 (take a.seen es) chain None ≡ Some (0 + i)) × (slice_get (take a.seen es) i ≡ Some d) × (chain_of_entry d ≡ chain) × ((j : ℕ) (f : CacheEntry I R) → slice_get (take a.seen es) j ≡ Some f → chain_of_entry f ≡ chain → j ≤ i)) → ⊥
        by (inl (is, none)) = none place e (slice_get_take es a.seen place (a.rest place e at fits).1 ∙ at) (a.rest place e at fits).0
        by (inr (i, d, is, there, chain_is, rest)) = none-some (0 + i) (sym end ∙ a.newest ∙ is)

    -- the next place, and what is there
    pub ahead_at : (steps place : ℕ) (next : Option ℕ) → next ≡ Some place → (a : IsAhead es chain Fits steps next)
        → (e : CacheEntry I R) × (slice_get es place ≡ Some e) × (chain_of_entry e ≡ chain) × (place < a.seen) × ((j : ℕ) (d : CacheEntry I R) → slice_get es j ≡ Some d → chain_of_entry d ≡ chain → j < a.seen → j ≤ place)
    ahead_at steps place next here a = by (newest_cases 0 (take a.seen es) chain None)
      where
        by : ((newest_from 0 (take a.seen es) chain None ≡ None) × ((i : ℕ) (d : CacheEntry I R) → slice_get (take a.seen es) i ≡ Some d → chain_of_entry d ≡ chain → ⊥))
            ⊎ ((i : ℕ) × (d : CacheEntry I R) × (newest_from 0 (take a.seen es) chain None ≡ Some (0 + i)) × (slice_get (take a.seen es) i ≡ Some d) × (chain_of_entry d ≡ chain) × ((j : ℕ) (f : CacheEntry I R) → slice_get (take a.seen es) j ≡ Some f → chain_of_entry f ≡ chain → j ≤ i))
            → (e : CacheEntry I R) × (slice_get es place ≡ Some e) × (chain_of_entry e ≡ chain) × (place < a.seen) × ((j : ℕ) (d : CacheEntry I R) → slice_get es j ≡ Some d → chain_of_entry d ≡ chain → j < a.seen → j ≤ place)
        by (inl (is, none)) = absurd (none-some place (sym is ∙ sym a.newest ∙ here))
        by (inr (i, d, is, at, chain_is, rest)) =
            let first : 0 + i ≡ i = omega arith in
            let same : place ≡ i = same_Some place (0 + i) (sym here ∙ a.newest ∙ is) ∙ first in
            let there = slice_get_taken es a.seen i d at in
            (d, ap (slice_get es) same ∙ there.1, chain_is, omega (arith, there.0), λ j f at-j is-j below. omega (arith, rest j f (slice_get_take es a.seen j below ∙ at-j) is-j))

    -- a result that doesn't fit is passed
    pub ahead_step : (steps place : ℕ) (next : Option ℕ) (e : CacheEntry I R) → AreLinked es → next ≡ Some place → IsAhead es chain Fits steps next → slice_get es place ≡ Some e → (Fits place e → ⊥) → IsAhead es chain Fits (steps + 1) e.previous
    ahead_step steps place next e linked is a at unfit =
        let here = ahead_at steps place next is a in
        let same : here.0 ≡ e = same_Some here.0 e (sym here.1 ∙ at) in
        let chain_is : chain_of_entry e ≡ chain = ap chain_of_entry (sym same) ∙ here.2 in
        record {
          seen = place;
          room = omega (arith, here.3, a.room);
          newest = linked place e at ∙ ap (newest_of (take place es)) chain_is;
          rest = below here.3 here.4;
        }
      where
        apart : (p : ℕ) (d : CacheEntry I R) → slice_get es p ≡ Some d → Fits p d → p ≡ place → ⊥
        apart p d at-p fits is = unfit (rw (← is, same_Some e d (sym at ∙ ap (slice_get es) (sym is) ∙ at-p)) fits)

        below : place < a.seen → ((j : ℕ) (d : CacheEntry I R) → slice_get es j ≡ Some d → chain_of_entry d ≡ chain → j < a.seen → j ≤ place) → (p : ℕ) (d : CacheEntry I R) → slice_get es p ≡ Some d → Fits p d → (chain_of_entry d ≡ chain) × (p < place)
        below h last p d at-p fits =
            let r = a.rest p d at-p fits in
            let reach : p ≤ place = last p d at-p r.0 r.1 in
            (r.0, less p place reach (apart p d at-p fits))
          where
            less : (m n : ℕ) → m ≤ n → (m ≡ n → ⊥) → m < n
            less m n le ne = omega (arith, ne, le)

    -- after as many steps as there are results, none is left
    pub ahead_end : (steps : ℕ) (next : Option ℕ) → length es ≤ steps → IsAhead es chain Fits steps next → (place : ℕ) (e : CacheEntry I R) → slice_get es place ≡ Some e → Fits place e → ⊥
    ahead_end steps next all a place e at fits = let r = a.rest place e at fits in absurd (omega (arith, r.1, a.room, all))

  pub number_in_chain : (e : CacheEntry I R) (chain : Chain) → chain_of_entry e ≡ chain → e.number ≡ number_of_chain chain
  number_in_chain e chain is = sym (own e.number e.depth e.encountered_overflow) ∙ ap number_of_chain is
    where
      own : (number depth : ℕ) (overflowed : Bool) → number_of_chain (chain_of number depth overflowed) ≡ number
      own number depth true = refl
      own number depth false = refl

  -- a result of the chain that is usable
  abbrev pub IsUsableIn : Chain → List Asked → (ℕ → Type 0) → I → ℕ → ℕ → CacheEntry I R → Type 0
  IsUsableIn chain asked IsOnStack input depth place e = (chain_of_entry e ≡ chain) × IsUsable asked IsOnStack (number_of_chain chain) input depth e

  -- what is usable is a success of the goal, or an overflow at its depth
  pub usable_in : (es : List (CacheEntry I R)) (asked : List Asked) (IsOnStack : ℕ → Type 0) (number : ℕ) (input : I) (depth : ℕ)
      → NoneIsUsableAlong (Successes number) es asked IsOnStack input depth → NoneIsUsableAlong (Overflows number depth) es asked IsOnStack input depth → NoneIsUsable es asked IsOnStack number input depth
  usable_in es asked IsOnStack number input depth success overflow place e at usable = by e.encountered_overflow refl
    where
      by : (b : Bool) → e.encountered_overflow ≡ b → ⊥
      by false is = success place e at (ap (chain_of e.number e.depth) is ∙ ap Successes usable.numbered) usable
      by true is = overflow place e at (ap (chain_of e.number e.depth) is ∙ ap (λ n. Overflows n e.depth) usable.numbered ∙ ap (Overflows number) (usable.within.0 is)) usable

  pub none_usable : {E : Type 0} (first : Option ℕ) (r : Result (Option ℕ) E) (es : List (CacheEntry I R)) (asked : List Asked) (IsOnStack : ℕ → Type 0) (number : ℕ) (input : I) (depth : ℕ)
      → is_some first ≡ false → IfNone first (NoneIsUsableAlong (Successes number) es asked IsOnStack input depth)
      → IfOk r (λ found. IfNone found (NoneIsUsableAlong (Overflows number depth) es asked IsOnStack input depth)) → IfOk r (λ found. IfNone found (NoneIsUsable es asked IsOnStack number input depth))
  none_usable (Some place) r es asked IsOnStack number input depth is success overflow = absurd (true_not_false is)
  none_usable None (Err x) es asked IsOnStack number input depth is success overflow = tt
  none_usable None (Ok (Some place)) es asked IsOnStack number input depth is success overflow = tt
  none_usable None (Ok None) es asked IsOnStack number input depth is success overflow = usable_in es asked IsOnStack number input depth success overflow

  -- where the goals of one stack are among those of another, what is not usable over the first isn't over the second
  pub unusable_over : {E : Type 0} (r : Result (Option ℕ) E) (es : List (CacheEntry I R)) (listed : List Asked) (P Q : ℕ → Type 0) (number : ℕ) (input : I) (depth : ℕ) → ((n : ℕ) → P n → Q n)
      → IfOk r (λ found. IfNone found ((place : ℕ) (e : CacheEntry I R) → slice_get es place ≡ Some e → IsUsable listed P number input depth e → ⊥))
      → IfOk r (λ found. IfNone found ((place : ℕ) (e : CacheEntry I R) → slice_get es place ≡ Some e → IsUsable listed Q number input depth e → ⊥))
  unusable_over (Err x) es listed P Q number input depth among h = tt
  unusable_over (Ok (Some place)) es listed P Q number input depth among h = tt
  unusable_over (Ok None) es listed P Q number input depth among h = λ place e at usable. h place e at (record { numbered = usable.numbered; same = usable.same; within = usable.within; clear = λ asked under on. usable.clear asked under (among asked on) })

  -- and where they are among them, what is usable over the second is usable over the first
  pub usable_over : {E : Type 0} (r : Result (Option ℕ) E) (es : List (CacheEntry I R)) (listed : List Asked) (P Q : ℕ → Type 0) (number : ℕ) (input : I) (depth : ℕ) → ((n : ℕ) → Q n → P n)
      → IfOk r (λ found. IfSome found (λ place. (e : CacheEntry I R) × (slice_get es place ≡ Some e) × IsUsable listed P number input depth e))
      → IfOk r (λ found. IfSome found (λ place. (e : CacheEntry I R) × (slice_get es place ≡ Some e) × IsUsable listed Q number input depth e))
  usable_over (Err x) es listed P Q number input depth among h = tt
  usable_over (Ok None) es listed P Q number input depth among h = tt
  usable_over (Ok (Some place)) es listed P Q number input depth among h =
      (h.0, h.1, record { numbered = h.2.numbered; same = h.2.same; within = h.2.within; clear = λ asked under on. h.2.clear asked under (among asked on) })

-- each of these places is the first one, or that of a result that was used under it
abbrev pub IsReached : List Asked → ℕ → List ℕ → Type 0
IsReached es place keys = (j q : ℕ) → slice_get keys j ≡ Some q → ((j ≡ 0) × (q ≡ place)) ⊎ IsUsedUnder es place q

-- and so is what it asked
pub reached_asked : (es : List Asked) (place j q : ℕ) (e : Asked) (keys : List ℕ) → IsReached es place keys → slice_get keys j ≡ Some q → slice_get es q ≡ Some e
    → (i asked : ℕ) → slice_get e.nested_goals.goals.items i ≡ Some asked → IsAskedUnder es place asked
reached_asked es place j q e keys reached at entry i asked is = by (reached j q at)
  where
    by : ((j ≡ 0) × (q ≡ place)) ⊎ IsUsedUnder es place q → IsAskedUnder es place asked
    by (inl (first, same)) = inl (e, subst (λ p. slice_get es p ≡ Some e) same entry, (i, is))
    by (inr under) = inr (q, e, under, entry, inr (i, is))

-- the goal of a further result was asked under the first one
pub reached_goal : (es : List Asked) (place j q : ℕ) (e : Asked) (keys : List ℕ) → IsReached es place keys → slice_get keys j ≡ Some q → slice_get es q ≡ Some e → 0 < j → IsAskedUnder es place e.number
reached_goal es place j q e keys reached at entry later = by (reached j q at)
  where
    by : ((j ≡ 0) × (q ≡ place)) ⊎ IsUsedUnder es place q → IsAskedUnder es place e.number
    by (inl (first, same)) = absurd (omega arith)
    by (inr under) = inr (q, e, under, entry, inl refl)

-- a goal without a result is put at the end, and nothing is found there
pub get_or_none_push : {X : Type 0} (xs : List (Option X)) (n : ℕ) → get_or (xs ++ None ∷ []) n None ≡ get_or xs n None
get_or_none_push [] zero = refl
get_or_none_push [] (suc n) = refl
get_or_none_push (x ∷ xs) zero = refl
get_or_none_push (x ∷ xs) (suc n) = get_or_none_push xs n

-- the newest positions after one of them is written
pub get_or_set : {X : Type 0} (xs : List X) (i n : ℕ) (y d : X) → i < length xs → get_or (set xs i y) n d ≡ cond (nat_eq n i) y (get_or xs n d)
get_or_set {X} xs i n y d within = by (nat_eq n i) refl
  where
    same : (zs : List X) (k : ℕ) → k < length zs → get_or (set zs k y) k d ≡ y
    same [] k h = absurd (omega arith)
    same (z ∷ zs) zero h = refl
    same (z ∷ zs) (suc k) h = same zs k (omega arith)

    other : (zs : List X) (k m : ℕ) → (m ≡ k → ⊥) → get_or (set zs k y) m d ≡ get_or zs m d
    other [] k m h = refl
    other (z ∷ zs) zero zero h = absurd (h refl)
    other (z ∷ zs) zero (suc m) h = refl
    other (z ∷ zs) (suc k) zero h = refl
    other (z ∷ zs) (suc k) (suc m) h = other zs k m (λ e. h (ap suc e))

    by : (b : Bool) → nat_eq n i ≡ b → get_or (set xs i y) n d ≡ cond b y (get_or xs n d)
    by true e = ap (λ m. get_or (set xs i y) m d) (eqb-true n i e) ∙ same xs i within
    by false e = other xs i n (λ s. true_not_false (sym (eq-eqb n i s) ∙ e))

-- the newest positions after one more overflow is noted
pub newest_overflow : (old new : Newest) (number depth place : ℕ) → new.successes ≡ old.successes
    → ((k : ℕ × ℕ) → get is_overflow_of new.overflows k ≡ cond (is_overflow_of (number, depth) k) (Some place) (get is_overflow_of old.overflows k))
    → (chain : Chain) → newest_in new chain ≡ cond (is_chain (Overflows number depth) chain) (Some place) (newest_in old chain)
newest_overflow old new number depth place same updates (Successes n) = ap (λ s. get_or s.items n None) same
newest_overflow old new number depth place same updates (Overflows n d) = updates (n, d)

-- the newest positions after one more result is cached
pub listed_push : {I R : Type 0} (es : List (CacheEntry I R)) (x : CacheEntry I R) (old new : Newest) → ((chain : Chain) → newest_in old chain ≡ newest_of es chain)
    → ((chain : Chain) → newest_in new chain ≡ cond (is_chain (chain_of_entry x) chain) (Some (length es)) (newest_in old chain))
    → (chain : Chain) → newest_in new chain ≡ newest_of (es ++ x ∷ []) chain
listed_push es x old new listed put chain =
    let here : 0 + length es ≡ length es = omega arith in
    put chain ∙ ap (cond (is_chain (chain_of_entry x) chain) (Some (length es))) (listed chain)
    ∙ sym (newest_push 0 es x chain None ∙ ap (λ p. cond (is_chain (chain_of_entry x) chain) (Some p) (newest_of es chain)) here)
