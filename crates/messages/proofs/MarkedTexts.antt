-- A sentence that is marked says so in its text, whatever its parts are.
use Rattle.std.proofs.Common.{◌≡◌, ℕ, Bool, true, false, List, [], ◌∷◌, ◌++◌, ◌&&◌, ◌||◌, ◌==◌, if◌then◌else◌, refl, ap, sym, ◌∙◌, nat_eq, drop}
use Rattle.std.proofs.lemmas.Bool.{eqb-true}
use Rattle.std.specs.Prelude.{not, codes, ◌⊎◌}
use Rattle.std.specs.List.{list_all, starts_with}
use Rattle.std.proofs.Common.{inl, inr}
use Rattle.type_terms.proofs.BooleanBasics.{and-both, or-right, if-false}
use Rattle.explain_diagnostics.specs.Shown.{shown}
use Rattle.messages.specs.Marked.{says, says_unchecked}
use Rattle.messages.specs.Written.{first_text, filled_in}

-- A byte that is written as it is.
abbrev is_plain : ℕ → Bool
is_plain c = not (c == 123) && not (c == 125) && (shown c == c)

not-true : (b : Bool) → not b ≡ true → b ≡ false
not-true true h = sym h
not-true false h = refl

plain-written : (c : ℕ) (cs : List ℕ) (parts : List (List ℕ)) → is_plain c ≡ true → filled_in (c ∷ cs) parts ≡ c ∷ filled_in cs parts
plain-written c cs parts h =
    let both = and-both (not (c == 123) && not (c == 125)) (shown c == c) h in
    let tests = and-both (not (c == 123)) (not (c == 125)) both.0 in
    if-false (c == 123) _ _ (not-true _ tests.0) ∙ if-false (c == 125) _ _ (not-true _ tests.1) ∙ ap (λ n. n ∷ filled_in cs parts) (eqb-true (shown c) c both.1)

-- Plain words at the front stay there.
starts-written : (ws xs : List ℕ) (parts : List (List ℕ)) → list_all is_plain ws ≡ true → starts_with nat_eq xs ws ≡ true → starts_with nat_eq (filled_in xs parts) ws ≡ true
starts-written [] xs parts p h = refl
starts-written (w ∷ ws) [] parts p h = h
starts-written (w ∷ ws) (x ∷ xs) parts p h =
    let plain = and-both (is_plain w) (list_all is_plain ws) p in
    let here = and-both (nat_eq w x) _ h in
    let same = eqb-true w x here.0 in
    let is : filled_in (x ∷ xs) parts ≡ x ∷ filled_in xs parts = plain-written x xs parts (rw (← same) plain.0) in
    rw is (rw here.0 (starts-written ws xs parts plain.1 here.1))

says-front : (w : ℕ) (ws xs : List ℕ) → starts_with nat_eq xs (w ∷ ws) ≡ true → says (w ∷ ws) xs ≡ true
says-front w ws [] h = h
says-front w ws (x ∷ xs) h = rw h refl

says-behind : (ws front xs : List ℕ) → says ws xs ≡ true → says ws (front ++ xs) ≡ true
says-behind ws [] xs h = h
says-behind ws (f ∷ front) xs h = or-right _ _ (says-behind ws front xs h)

if-both : {A : Type 0} (P : A → Type 0) (b : Bool) (x y : A) → P x → P y → P (if b then x else y)
if-both P true x y p q = p
if-both P false x y p q = q

or-cases : (a b : Bool) → (a || b) ≡ true → (a ≡ true) ⊎ (b ≡ true)
or-cases true b h = inl refl
or-cases false b h = inr h

says-written : (w : ℕ) (ws xs : List ℕ) (parts : List (List ℕ)) → list_all is_plain (w ∷ ws) ≡ true → says (w ∷ ws) xs ≡ true → says (w ∷ ws) (filled_in xs parts) ≡ true
says-written w ws [] parts p h = h
says-written w ws (x ∷ xs) parts p h =
    elim (or-cases (starts_with nat_eq (x ∷ xs) (w ∷ ws)) (says (w ∷ ws) xs) h) [
      | inl here ↦ says-front w ws (filled_in (x ∷ xs) parts) (starts-written (w ∷ ws) (x ∷ xs) parts p here)
      | inr later ↦
          let there : (ps : List (List ℕ)) → says (w ∷ ws) (filled_in xs ps) ≡ true = λ ps. says-written w ws xs ps p later in
          if-both (λ t. says (w ∷ ws) t ≡ true) (x == 123) _ _
          (says-behind (w ∷ ws) (first_text parts) _ (there (drop 1 parts)))
          (if-both (λ t. says (w ∷ ws) t ≡ true) (x == 125) _ _ (there parts) (or-right _ _ (there parts)))
    ]

pub marked_written : (xs : List ℕ) (parts : List (List ℕ)) → says_unchecked xs ≡ true → says_unchecked (filled_in xs parts) ≡ true
marked_written xs parts h = says-written 110 (codes "ot checked") xs parts refl h
