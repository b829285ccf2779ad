-- The variables of a query, each once, in the order in which they first occur, and the indexes of their names.
use Rattle.std.proofs.Common.{◌≡◌, ℕ, suc, ◌+◌, Bool, true, false, not, ◌||◌, ◌&&◌, List, [], ◌∷◌, ◌++◌, map, append-nil, append_assoc, refl, sym, ap, ◌∙◌, arith, cond}
use Rattle.std.proofs.lemmas.List.Folds.{list_any-append}
use Rattle.std.proofs.lemmas.Slice.Eq.{bytes_eq-Decides}
use Rattle.std.specs.Prelude.{if◌then◌else◌, filter, fold}
use Rattle.std.specs.List.{list_any, position_or_len}
use Rattle.std.specs.Str.{bytes_eq}
use Rattle.type_terms.specs.Promised.Label.{Sort}
use Rattle.type_terms.specs.Promised.Trees.{is_sort}
use Rattle.text_language.specs.Promised.Declarations.{Variable}
use Rattle.text_language.specs.Faults.{once}
use Rattle.text_language.specs.Lowering.{place_among}

-- ---- the place of a variable
abbrev pub as-variables : List (List ℕ × Sort) → List Variable
as-variables ws = map (λ v. record { text = v.0; kind = v.1 }) ws

module _ (p : Sort) (n : List ℕ) where
  abbrev of-kind : List (List ℕ × Sort) → List (List ℕ × Sort)
  of-kind ws = filter (λ v. is_sort v.1 p) ws

  abbrev place-of : List Variable → ℕ
  place-of us = position_or_len (λ v. bytes_eq v.text n) us

  pub variable-placed : (ws : List (List ℕ × Sort)) → place-of (filter (λ v. is_sort v.kind p) (as-variables ws)) ≡ place_among n (map (λ v. v.0) (of-kind ws))
  variable-placed [] = refl
  variable-placed (w ∷ ws) = by (is_sort w.1 p) (bytes_eq w.0 n) refl (filter (λ v. is_sort v.kind p) (as-variables ws)) (variable-placed ws)
    where
      by : (b c : Bool) → bytes_eq w.0 n ≡ c → (us : List Variable) → place-of us ≡ place_among n (map (λ v. v.0) (of-kind ws))
          → place-of (cond b (record { text = w.0; kind = w.1 } ∷ us) us) ≡ place_among n (map (λ v. v.0) (cond b (w ∷ of-kind ws) (of-kind ws)))
      by false c e us r = r
      by true true e us r =
          ap (λ z. cond (not z) (1 + place-of us) 0) e ∙ sym (ap (λ z. if z then 0 else suc (place_among n (map (λ v. v.0) (of-kind ws)))) e)
      by true false e us r =
          let q : 1 + place-of us ≡ suc (place_among n (map (λ v. v.0) (of-kind ws))) = omega (arith, r) in
          ap (λ z. cond (not z) (1 + place-of us) 0) e ∙ q ∙ sym (ap (λ z. if z then 0 else suc (place_among n (map (λ v. v.0) (of-kind ws)))) e)

-- ---- each once
-- what passes both tests
filter-both : {X : Type 0} (p q s : X → Bool) → ((x : X) → s x ≡ (q x && p x)) → (xs : List X) → filter s xs ≡ filter p (filter q xs)
filter-both p q s h [] = refl
filter-both p q s h (x ∷ xs) = ap (λ b. cond b (x ∷ filter s xs) (filter s xs)) (h x) ∙ by (q x) (filter-both p q s h xs)
  where
    by : (b : Bool) → filter s xs ≡ filter p (filter q xs) → cond (b && p x) (x ∷ filter s xs) (filter s xs) ≡ filter p (cond b (x ∷ filter q xs) (filter q xs))
    by true e = ap (λ ys. cond (p x) (x ∷ ys) ys) e
    by false e = e

filter-all : {X : Type 0} (xs : List X) → filter (λ _. true) xs ≡ xs
filter-all [] = refl
filter-all (x ∷ xs) = ap (λ ys. x ∷ ys) (filter-all xs)

abbrev is_new : List Variable → List ℕ × Sort → Bool
is_new r v = not (list_any (λ w. bytes_eq v.0 w.text) r)

abbrev is_other : List ℕ × Sort → List ℕ × Sort → Bool
is_other v w = not (bytes_eq w.0 v.0)

abbrev with_one : List Variable → List ℕ × Sort → List Variable
with_one r v = if list_any (λ w. bytes_eq v.0 w.text) r then r else r ++ record { text = v.0; kind = v.1 } ∷ []

-- one that is there already takes no other away
already : (r : List Variable) (v : List ℕ × Sort) → list_any (λ w. bytes_eq v.0 w.text) r ≡ true → (x : List ℕ × Sort) → is_new r x ≡ (is_other v x && is_new r x)
already r v h x = by (bytes_eq x.0 v.0) refl
  where
    by : (b : Bool) → bytes_eq x.0 v.0 ≡ b → is_new r x ≡ (not b && is_new r x)
    by true e = ap (λ n. not (list_any (λ w. bytes_eq n w.text) r)) ((bytes_eq-Decides x.0 v.0).0 e) ∙ ap not h
    by false e = refl

-- one more takes away those of its name
one-more : (r : List Variable) (v x : List ℕ × Sort) → is_new (r ++ record { text = v.0; kind = v.1 } ∷ []) x ≡ (is_other v x && is_new r x)
one-more r v x = ap not (list_any-append (λ w. bytes_eq x.0 w.text) r (record { text = v.0; kind = v.1 } ∷ [])) ∙ by (list_any (λ w. bytes_eq x.0 w.text) r) (bytes_eq x.0 v.0)
  where
    by : (a b : Bool) → not (a || (b || false)) ≡ (not b && not a)
    by true true = refl
    by true false = refl
    by false true = refl
    by false false = refl

put-on : (vs : List (List ℕ × Sort)) (r : List Variable) → fold with_one r vs ≡ r ++ as-variables (filter (is_new r) (once vs))
put-on [] r = sym (append-nil r)
put-on (v ∷ vs) r = by (list_any (λ w. bytes_eq v.0 w.text) r) refl (put-on vs)
  where
    by : (b : Bool) → list_any (λ w. bytes_eq v.0 w.text) r ≡ b → ((s : List Variable) → fold with_one s vs ≡ s ++ as-variables (filter (is_new s) (once vs)))
        → fold with_one (if b then r else r ++ record { text = v.0; kind = v.1 } ∷ []) vs
        ≡ r ++ as-variables (cond (not b) (v ∷ filter (is_new r) (filter (is_other v) (once vs))) (filter (is_new r) (filter (is_other v) (once vs))))
    by true e g = g r ∙ ap (λ ws. r ++ as-variables ws) (filter-both (is_new r) (is_other v) (is_new r) (already r v e) (once vs))
    by false e g =
        g (r ++ record { text = v.0; kind = v.1 } ∷ [])
        ∙ ap (λ ws. (r ++ record { text = v.0; kind = v.1 } ∷ []) ++ as-variables ws) (filter-both (is_new r) (is_other v) (is_new (r ++ record { text = v.0; kind = v.1 } ∷ [])) (one-more r v) (once vs))
        ∙ append_assoc r (record { text = v.0; kind = v.1 } ∷ []) (as-variables (filter (is_new r) (filter (is_other v) (once vs))))

pub each-once : (vs : List (List ℕ × Sort)) → fold (λ r v. if list_any (λ w. bytes_eq v.0 w.text) r then r else r ++ record { text = v.0; kind = v.1 } ∷ []) [] vs ≡ as-variables (once vs)
each-once vs = put-on vs [] ∙ ap as-variables (filter-all (once vs))
