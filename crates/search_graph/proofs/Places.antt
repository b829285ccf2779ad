-- The indices of the goals of a stack.
use Rattle.std.proofs.Common.{◌≡◌, ℕ, suc, ◌+◌, ◌-◌, ◌<◌, sym, ap, refl, ◌∙◌, Bool, true, false, cond, nat_eq, find, List, [], ◌∷◌, ◌++◌, length, slice_get, Option, Some, None, Result, Ok, Err, IsOk, is_ok, IfSome, IfNone, if◌then◌else◌, ◌⊎◌, inl, inr, arith}
use Rattle.std.proofs.lemmas.Bool.{eqb-true, eq-eqb}
use Rattle.std.proofs.lemmas.Option.{none-some, same_Some}
use Rattle.search_graph.specs.declared.stack.StackEntry.{StackEntry}
use Rattle.search_graph.specs.Stack.{place_from, place_of, oldest_of, span_of_newest}
use Rattle.type_terms.proofs.BooleanBasics.{true-false as true_not_false}

nat_eq_sym : (a b : ℕ) → nat_eq a b ≡ nat_eq b a
nat_eq_sym a b = by (nat_eq a b) refl (nat_eq b a) refl
  where
    by : (x : Bool) → nat_eq a b ≡ x → (y : Bool) → nat_eq b a ≡ y → nat_eq a b ≡ nat_eq b a
    by true ab true ba = ab ∙ sym ba
    by true ab false ba = absurd (true_not_false (sym (eq-eqb b a (sym (eqb-true a b ab))) ∙ ba))
    by false ab true ba = absurd (true_not_false (sym (eq-eqb a b (sym (eqb-true b a ba))) ∙ ab))
    by false ab false ba = ab ∙ sym ba

module _ {I R : Type 0} where
  -- no entry has the number, or the oldest one is at its place
  place_cases : (first : ℕ) (es : List (StackEntry I R)) (number : ℕ)
      → ((place_from first es number ≡ None) × (find (λ e. nat_eq number e.number) es ≡ None))
      ⊎ ((i : ℕ) × (e : StackEntry I R) × (place_from first es number ≡ Some (first + i)) × (find (λ e. nat_eq number e.number) es ≡ Some e) × (slice_get es i ≡ Some e) × (i < length es))
  place_cases first [] number = inl (refl, refl)
  place_cases first (x ∷ es) number = by (nat_eq number x.number) (place_cases (first + 1) es number)
    where
      by : (b : Bool)
          → ((place_from (first + 1) es number ≡ None) × (find (λ e. nat_eq number e.number) es ≡ None))
          ⊎ ((i : ℕ) × (e : StackEntry I R) × (place_from (first + 1) es number ≡ Some (first + 1 + i)) × (find (λ e. nat_eq number e.number) es ≡ Some e) × (slice_get es i ≡ Some e) × (i < length es))
          → ((cond b (Some first) (place_from (first + 1) es number) ≡ None) × (cond b (Some x) (find (λ e. nat_eq number e.number) es) ≡ None))
          ⊎ ((i : ℕ) × (e : StackEntry I R) × (cond b (Some first) (place_from (first + 1) es number) ≡ Some (first + i)) × (cond b (Some x) (find (λ e. nat_eq number e.number) es) ≡ Some e) × (slice_get (x ∷ es) i ≡ Some e) × (i < suc (length es)))
      by true rest = let here : first ≡ first + 0 = omega arith in inr (0, x, ap Some here, refl, refl, omega arith)
      by false (inl none) = inl none
      by false (inr (i, e, place, found, at, within)) = let there : first + 1 + i ≡ first + suc i = omega arith in inr (suc i, e, place ∙ ap Some there, found, at, omega arith)

  -- an older entry with the number stays the oldest, and else the new one is
  place_push : (first : ℕ) (es : List (StackEntry I R)) (x : StackEntry I R) (number : ℕ)
      → ((p : ℕ) → place_from first es number ≡ Some p → place_from first (es ++ x ∷ []) number ≡ Some p)
      × (place_from first es number ≡ None → place_from first (es ++ x ∷ []) number ≡ cond (nat_eq number x.number) (Some (first + length es)) None)
  place_push first [] x number = let here : first ≡ first + 0 = omega arith in (λ p none. absurd (none-some p none), λ none. ap (λ q. cond (nat_eq number x.number) (Some q) None) here)
  place_push first (e ∷ es) x number = by (nat_eq number e.number) (place_push (first + 1) es x number)
    where
      by : (b : Bool)
          → (((p : ℕ) → place_from (first + 1) es number ≡ Some p → place_from (first + 1) (es ++ x ∷ []) number ≡ Some p)
          × (place_from (first + 1) es number ≡ None → place_from (first + 1) (es ++ x ∷ []) number ≡ cond (nat_eq number x.number) (Some (first + 1 + length es)) None))
          → ((p : ℕ) → cond b (Some first) (place_from (first + 1) es number) ≡ Some p → cond b (Some first) (place_from (first + 1) (es ++ x ∷ []) number) ≡ Some p)
          × (cond b (Some first) (place_from (first + 1) es number) ≡ None → cond b (Some first) (place_from (first + 1) (es ++ x ∷ []) number) ≡ cond (nat_eq number x.number) (Some (first + suc (length es))) None)
      by true rest = (λ p is. is, λ some. absurd (none-some first (sym some)))
      by false rest = let there : first + 1 + length es ≡ first + suc (length es) = omega arith in (rest.0, λ none. rest.1 none ∙ ap (λ q. cond (nat_eq number x.number) (Some q) None) there)

  end_of : (es : List (StackEntry I R)) (x : StackEntry I R) (number : ℕ) → place_of es number ≡ None → place_of (es ++ x ∷ []) number ≡ cond (nat_eq number x.number) (Some (length es)) None
  end_of es x number none = let here : 0 + length es ≡ length es = omega arith in (place_push 0 es x number).1 none ∙ ap (λ p. cond (nat_eq number x.number) (Some p) None) here

  -- the newest goal is the last one
  pub newest_at : (es : List (StackEntry I R)) (e : StackEntry I R) → slice_get es (length es - 1) ≡ Some e → e.span ≡ span_of_newest es
  newest_at [] e at = absurd (none-some e at)
  newest_at (x ∷ []) e at = ap (λ z. z.span) (sym (same_Some x e at))
  newest_at (x ∷ y ∷ es) e at = let below : suc (suc (length es)) - 1 ≡ suc (suc (length es) - 1) = omega arith in newest_at (y ∷ es) e (rw below at at)

  -- the place of a number lies on the stack
  pub place_within : (es : List (StackEntry I R)) (number p : ℕ) → place_of es number ≡ Some p → p < length es
  place_within es number p is = by (place_cases 0 es number)
    where
      by : ((place_of es number ≡ None) × (oldest_of es number ≡ None))
          ⊎ ((i : ℕ) × (e : StackEntry I R) × (place_of es number ≡ Some (0 + i)) × (oldest_of es number ≡ Some e) × (slice_get es i ≡ Some e) × (i < length es)) → p < length es
      by (inl none) = absurd (none-some p (sym none.0 ∙ is))
      by (inr (i, e, place, found, at, within)) = let same : 0 + i ≡ p = same_Some (0 + i) p (sym place ∙ is) in omega arith

  -- the oldest entry with the number is at its place
  pub oldest_at : (es : List (StackEntry I R)) (number : ℕ) (e : StackEntry I R) → oldest_of es number ≡ Some e → (p : ℕ) × (place_of es number ≡ Some p) × (slice_get es p ≡ Some e)
  oldest_at es number e is = by (place_cases 0 es number)
    where
      by : ((place_of es number ≡ None) × (oldest_of es number ≡ None))
          ⊎ ((i : ℕ) × (d : StackEntry I R) × (place_of es number ≡ Some (0 + i)) × (oldest_of es number ≡ Some d) × (slice_get es i ≡ Some d) × (i < length es)) → (p : ℕ) × (place_of es number ≡ Some p) × (slice_get es p ≡ Some e)
      by (inl none) = absurd (none-some e (sym none.1 ∙ is))
      by (inr (i, d, place, found, at, within)) = let here : 0 + i ≡ i = omega arith in (i, place ∙ ap Some here, at ∙ sym found ∙ is)

  -- a new entry whose number is there changes no place
  pub place_push_again : (es : List (StackEntry I R)) (x : StackEntry I R) (p : ℕ) → place_of es x.number ≡ Some p → (number : ℕ) → place_of (es ++ x ∷ []) number ≡ place_of es number
  place_push_again es x p is number = by (place_of es number) refl (nat_eq number x.number) refl
    where
      by : (o : Option ℕ) → place_of es number ≡ o → (b : Bool) → nat_eq number x.number ≡ b → place_of (es ++ x ∷ []) number ≡ place_of es number
      by (Some q) o b eq = (place_push 0 es x number).0 q o ∙ sym o
      by None o true eq = absurd (none-some p (sym o ∙ ap (place_of es) (eqb-true number x.number eq) ∙ is))
      by None o false eq = end_of es x number o ∙ ap (λ b. cond b (Some (length es)) None) eq ∙ sym o

  -- and one whose number is new has the newest place
  pub place_push_new : (es : List (StackEntry I R)) (x : StackEntry I R) → place_of es x.number ≡ None → (number : ℕ) → place_of (es ++ x ∷ []) number ≡ cond (nat_eq x.number number) (Some (length es)) (place_of es number)
  place_push_new es x none number = by (place_of es number) refl (nat_eq number x.number) refl
    where
      by : (o : Option ℕ) → place_of es number ≡ o → (b : Bool) → nat_eq number x.number ≡ b → place_of (es ++ x ∷ []) number ≡ cond (nat_eq x.number number) (Some (length es)) (place_of es number)
      by (Some q) o true eq = absurd (none-some q (sym none ∙ sym (ap (place_of es) (eqb-true number x.number eq)) ∙ o))
      by (Some q) o false eq = (place_push 0 es x number).0 q o ∙ sym o ∙ sym (ap (λ b. cond b (Some (length es)) (place_of es number)) (nat_eq_sym x.number number ∙ eq))
      by None o b eq = end_of es x number o ∙ ap (λ c. cond c (Some (length es)) None) (nat_eq_sym number x.number) ∙ ap (cond (nat_eq x.number number) (Some (length es))) (sym o)

  -- the newest entry leaves: if its place is that of its number, the number has none then
  pub place_pop_newest : (es : List (StackEntry I R)) (x : StackEntry I R) → place_of (es ++ x ∷ []) x.number ≡ Some (length es) → (number : ℕ) → place_of es number ≡ cond (nat_eq x.number number) None (place_of (es ++ x ∷ []) number)
  place_pop_newest es x is number = by (place_of es x.number) refl (nat_eq x.number number) refl
    where
      by : (o : Option ℕ) → place_of es x.number ≡ o → (b : Bool) → nat_eq x.number number ≡ b → place_of es number ≡ cond b None (place_of (es ++ x ∷ []) number)
      by (Some q) o b eq =
          let far : q < length es = place_within es x.number q o in
          let same : q ≡ length es = same_Some q (length es) (sym ((place_push 0 es x x.number).0 q o) ∙ is) in
          absurd (omega arith)
      by None o true eq = sym (ap (place_of es) (eqb-true x.number number eq)) ∙ o
      by None o false eq = sym (place_push_new es x o number ∙ ap (λ b. cond b (Some (length es)) (place_of es number)) eq)

  -- what holds of the places after one more goal is put on the stack
  pub placed_push : (es : List (StackEntry I R)) (x : StackEntry I R) (old new : ℕ → Option ℕ) → ((n : ℕ) → old n ≡ place_of es n)
      → ((older : ℕ) → old x.number ≡ Some older → (n : ℕ) → new n ≡ old n)
      → (old x.number ≡ None → (n : ℕ) → new n ≡ cond (nat_eq x.number n) (Some (length es)) (old n))
      → (n : ℕ) → new n ≡ place_of (es ++ x ∷ []) n
  placed_push es x old new placed again added n = by (old x.number) refl
    where
      by : (o : Option ℕ) → old x.number ≡ o → new n ≡ place_of (es ++ x ∷ []) n
      by (Some p) o = again p o n ∙ placed n ∙ sym (place_push_again es x p (sym (placed x.number) ∙ o) n)
      by None o = added o n ∙ ap (cond (nat_eq x.number n) (Some (length es))) (placed n) ∙ sym (place_push_new es x (sym (placed x.number) ∙ o) n)

  -- and after the newest one is taken off
  pub placed_pop : (es : List (StackEntry I R)) (x : StackEntry I R) (old new : ℕ → Option ℕ) → ((n : ℕ) → old n ≡ place_of (es ++ x ∷ []) n)
      → (old x.number ≡ Some (length es) → (n : ℕ) → new n ≡ cond (nat_eq x.number n) None (old n))
      → ((old x.number ≡ Some (length es) → ⊥) → (n : ℕ) → new n ≡ old n)
      → (n : ℕ) → new n ≡ place_of es n
  placed_pop es x old new placed removed kept n = by (place_of es x.number) refl
    where
      by : (o : Option ℕ) → place_of es x.number ≡ o → new n ≡ place_of es n
      by None o =
          let here : place_of (es ++ x ∷ []) x.number ≡ Some (length es) = place_push_new es x o x.number ∙ ap (λ b. cond b (Some (length es)) (place_of es x.number)) (eq-eqb x.number x.number refl) in
          removed (placed x.number ∙ here) n ∙ ap (cond (nat_eq x.number n) None) (placed n) ∙ sym (place_pop_newest es x here n)
      by (Some p) o =
          let far : p < length es = place_within es x.number p o in
          let there : place_of (es ++ x ∷ []) x.number ≡ Some p = place_push_again es x p o x.number ∙ o in
          kept (λ here. let same : p ≡ length es = same_Some p (length es) (sym there ∙ sym (placed x.number) ∙ here) in omega arith) n ∙ placed n ∙ place_push_again es x p o n

-- what a successful push gives
pub pushed : {E : Type 0} {X : Type 0} (r : Result (Unit {0}) E) (x y : X) → IsOk r → (if is_ok r then x else y) ≡ x
pushed (Ok u) x y h = refl
pushed (Err e) x y h = cc

-- no cycle is found where the oldest goal with the number is another one
pub oldest_none : {I R X : Type 0} (r : Option X) (es : List (StackEntry I R)) (number : ℕ) (input : I) (old : ℕ → Option ℕ) → ((n : ℕ) → old n ≡ place_of es n)
    → IfNone r ((place : ℕ) (e : StackEntry I R) → old number ≡ Some place → slice_get es place ≡ Some e → e.input ≡ input → ⊥) → IfNone r (IfSome (oldest_of es number) (λ e. e.input ≡ input → ⊥))
oldest_none (Some x) es number input old placed h = tt
oldest_none {I} {R} None es number input old placed h = by (oldest_of es number) refl
  where
    by : (o : Option (StackEntry I R)) → oldest_of es number ≡ o → IfSome o (λ e. e.input ≡ input → ⊥)
    by None o = tt
    by (Some e) o = λ same. let p = oldest_at es number e o in h p.0 e (placed number ∙ p.1) p.2 same
