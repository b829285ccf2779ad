-- What a map finds by number, and the items of that number.
use Rattle.std.proofs.Common.{◌≡◌, ℕ, Bool, true, false, cond, List, [], ◌∷◌, Option, Some, None, refl, sym, ap, ◌∙◌, arith}
use Rattle.std.proofs.lemmas.Bool.Decides.{nat_tests}
use Rattle.std.proofs.lemmas.Option.{same_Some}
use Rattle.std.specs.Prelude.{◌==◌, map, filter}
use Rattle.std.specs.Option.{option_map}
use Rattle.std.specs.List.{IsDistinct, AllByRecursion}
use Rattle.std.specs.Map.{lookup, keys_of}
use Rattle.declarations.specs.Items.{IsOnly}

pub lookup-agree : {K X : Type 0} (p q : K → Bool) (es : List (K × X)) → ((k : K) → p k ≡ q k) → lookup p es ≡ lookup q es
lookup-agree p q [] h = refl
lookup-agree p q (e ∷ es) h = ap (λ t. cond t (Some e.1) (lookup p es)) (h e.0) ∙ ap (cond (q e.0) (Some e.1)) (lookup-agree p q es h)

pub map-map : {A B C : Type 0} (g : B → C) (f : A → B) (xs : List A) → map g (map f xs) ≡ map (λ x. g (f x)) xs
map-map g f [] = refl
map-map g f (x ∷ xs) = ap (λ r. g (f x) ∷ r) (map-map g f xs)

pub turned : (j k : ℕ) → (j == k) ≡ (k == j)
turned j k = grind (arith, nat_tests)

pub one-number : (j k : ℕ) → (j == k) ≡ true → j ≡ k
one-number j k h = grind (arith, nat_tests)

-- items that a map holds under keys with numbers
module _ {K X D : Type 0} (eq : K → K → Bool) (number : K → ℕ) (tells : (j k : K) → eq j k ≡ (number j == number k))
    (f : K × X → D) (name : D → ℕ) (names : (e : K × X) → name (f e) ≡ number e.0) (same : (j k : K) (x : X) → number j ≡ number k → f (j, x) ≡ f (k, x)) where
  abbrev named : ℕ → List (K × X) → List D
  named n es = filter (λ d. name d == n) (map f es)

  test-is : (i : K) (e : K × X) → (name (f e) == number i) ≡ eq i e.0
  test-is i e = ap (λ n. n == number i) (names e) ∙ turned (number e.0) (number i) ∙ sym (tells i e.0)

  pub none-named : (i : K) (es : List (K × X)) → lookup (eq i) es ≡ None → named (number i) es ≡ []
  none-named i [] h = refl
  none-named i (e ∷ es) h = by (eq i e.0) (test-is i e) h (none-named i es)
    where
      by : (b : Bool) → (name (f e) == number i) ≡ b → cond b (Some e.1) (lookup (eq i) es) ≡ None → (lookup (eq i) es ≡ None → named (number i) es ≡ []) → named (number i) (e ∷ es) ≡ []
      by true t h rest = absurd cc
      by false t h rest = ap (λ b. cond b (f e ∷ named (number i) es) (named (number i) es)) t ∙ rest h

  pub absent-named : (i : K) (es : List (K × X)) → named (number i) es ≡ [] → lookup (eq i) es ≡ None
  absent-named i [] h = refl
  absent-named i (e ∷ es) h = by (eq i e.0) (test-is i e) (absent-named i es)
    where
      by : (b : Bool) → (name (f e) == number i) ≡ b → (named (number i) es ≡ [] → lookup (eq i) es ≡ None) → cond b (Some e.1) (lookup (eq i) es) ≡ None
      by true t rest = let bad : f e ∷ named (number i) es ≡ [] = sym (ap (λ b. cond b (f e ∷ named (number i) es) (named (number i) es)) t) ∙ h in absurd cc
      by false t rest = rest (sym (ap (λ b. cond b (f e ∷ named (number i) es) (named (number i) es)) t) ∙ h)

  others : (i j : K) (es : List (K × X)) → number i ≡ number j → AllByRecursion (λ y. eq j y ≡ false) (keys_of es) → named (number i) es ≡ []
  others i j [] e h = refl
  others i j (d ∷ es) e h =
      ap (λ b. cond b (f d ∷ named (number i) es) (named (number i) es)) (test-is i d ∙ tells i d.0 ∙ ap (λ n. n == number d.0) e ∙ sym (tells j d.0) ∙ h.0) ∙ others i j es e h.1

  pub one-named : (i : K) (x : X) (es : List (K × X)) → IsDistinct eq (keys_of es) → lookup (eq i) es ≡ Some x → named (number i) es ≡ f (i, x) ∷ []
  unfolding IsDistinct
  one-named i x [] d h = absurd cc
  one-named i x (e ∷ es) d h = by (eq i e.0) refl (one-named i x es d.1) h
    where
      by : (b : Bool) → eq i e.0 ≡ b → (lookup (eq i) es ≡ Some x → named (number i) es ≡ f (i, x) ∷ []) → cond b (Some e.1) (lookup (eq i) es) ≡ Some x → named (number i) (e ∷ es) ≡ f (i, x) ∷ []
      by true t rest h =
          let value : e.1 ≡ x = same_Some e.1 x h in
          let key : number i ≡ number e.0 = one-number (number i) (number e.0) (sym (tells i e.0) ∙ t) in
          ap (λ b. cond b (f e ∷ named (number i) es) (named (number i) es)) (test-is i e ∙ t)
          ∙ ap (λ r. f e ∷ r) (others i e.0 es key d.0) ∙ ap (λ y. y ∷ []) (sym (same i e.0 e.1 key) ∙ ap (λ v. f (i, v)) value)
      by false t rest h = ap (λ b. cond b (f e ∷ named (number i) es) (named (number i) es)) (test-is i e ∙ t) ∙ rest h

  -- what `get` answers, through a reference or by value
  pub got-named : {R : Type 0} (now : R → X) (i : K) (es : List (K × X)) (r : Option R) → IsDistinct eq (keys_of es) → option_map now r ≡ lookup (eq i) es
      → IsOnly (λ v. f (i, now v)) r (named (number i) es)
  got-named now i es None d h = none-named i es (sym h)
  got-named now i es (Some v) d h = one-named i (now v) es d (sym h)
