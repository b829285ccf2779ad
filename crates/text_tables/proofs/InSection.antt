-- The added impls of one section stand together, where sections rise.
use Rattle.std.proofs.Common.{◌≡◌, ℕ, zero, suc, ◌<◌, ◌≤◌, leb, ltb, Bool, true, false, cond, List, [], ◌∷◌, length, take, drop, get_or, refl, sym, ap, ◌∙◌, arith, subst}
use Rattle.std.proofs.lemmas.Bool.Decides.{nat_tests}
use Rattle.std.specs.Prelude.{◌==◌, filter}
use Rattle.std.specs.List.Sorted.{IsPartitionPoint}

-- P holds of each element from place i to before place j
abbrev Between : {A : Type 0} → (A → Type 0) → List A → ℕ → ℕ → Type 0
Between {A} P xs i j = (k : ℕ) (d : A) → i ≤ k → k < j → P (get_or xs k d)

module _ {A : Type 0} (number : A → ℕ) (n : ℕ) where
  abbrev numbered : A → Bool
  numbered x = number x == n

  self-equal : (m : ℕ) → m ≡ n → (m == n) ≡ true
  self-equal m e = grind (arith, nat_tests, e)

  -- behind those of the number are no more of it
  none-greater : (xs : List A) → ((k : ℕ) (d : A) → k < length xs → n < number (get_or xs k d)) → filter numbered xs ≡ []
  none-greater [] h = refl
  none-greater (x ∷ xs) h = ap (λ b. cond b (x ∷ filter numbered xs) (filter numbered xs)) other ∙ none-greater xs (λ k d l. h (suc k) d (omega (arith, l)))
    where
      above : n < number x
      above = h 0 x (omega arith)

      other : (number x == n) ≡ false
      other = grind (arith, nat_tests, above)

  -- of those of at least the number, the ones of the number stand first
  first-ones : (xs : List A) (count : ℕ) → count ≤ length xs → ((k : ℕ) (d : A) → k < length xs → n ≤ number (get_or xs k d))
      → Between (λ x. leb (number x) n ≡ true) xs 0 count → Between (λ x. leb (number x) n ≡ false) xs count (length xs) → take count xs ≡ filter numbered xs
  first-ones xs zero l h a b = sym (none-greater xs (λ k d u. below (number (get_or xs k d)) (b k d (omega arith) u)))
    where
      below : (m : ℕ) → leb m n ≡ false → n < m
      below m e = grind (arith, nat_tests, e)
  first-ones [] (suc count) l h a b = refl
  first-ones (x ∷ xs) (suc count) l h a b =
      ap (λ r. x ∷ r) (first-ones xs count (omega (arith, l)) (λ k d u. h (suc k) d (omega (arith, u))) (λ k d u v. a (suc k) d (omega arith) (omega (arith, v))) (λ k d u v. b (suc k) d (omega (arith, u)) (omega (arith, v))))
      ∙ ap (λ t. cond t (x ∷ filter numbered xs) (filter numbered xs)) (sym (self-equal (number x) (both (number x) (h 0 x (omega arith)) (a 0 x (omega arith) (omega arith)))))
    where
      both : (m : ℕ) → n ≤ m → leb m n ≡ true → m ≡ n
      both m g e = grind (arith, nat_tests, g, e)

  -- those of a smaller number are left out
  smaller-dropped : (xs : List A) (first : ℕ) → first ≤ length xs → Between (λ x. ltb (number x) n ≡ true) xs 0 first → filter numbered (drop first xs) ≡ filter numbered xs
  smaller-dropped xs zero l a = refl
  smaller-dropped [] (suc first) l a = absurd (omega (arith, l))
  smaller-dropped (x ∷ xs) (suc first) l a =
      smaller-dropped xs first (omega (arith, l)) (λ k d u v. a (suc k) d (omega arith) (omega (arith, v)))
      ∙ ap (λ t. cond t (x ∷ filter numbered xs) (filter numbered xs)) (sym (other (number x) (a 0 x (omega arith) (omega arith))))
    where
      other : (m : ℕ) → ltb m n ≡ true → (m == n) ≡ false
      other m e = grind (arith, nat_tests, e)

  -- behind them none is smaller
  not-smaller : (xs : List A) (first : ℕ) → first ≤ length xs → Between (λ x. ltb (number x) n ≡ false) xs first (length xs) → (k : ℕ) (d : A) → k < length (drop first xs) → n ≤ number (get_or (drop first xs) k d)
  not-smaller xs zero l b k d u = at-least (number (get_or xs k d)) (b k d (omega arith) u)
    where
      at-least : (m : ℕ) → ltb m n ≡ false → n ≤ m
      at-least m e = grind (arith, nat_tests, e)
  not-smaller [] (suc first) l b k d u = absurd (omega (arith, l))
  not-smaller (x ∷ xs) (suc first) l b k d u = not-smaller xs first (omega (arith, l)) (λ j e g v. b (suc j) e (omega (arith, g)) (omega (arith, v))) k d u

  -- ys is what is left without those of a smaller number; of it the first are those of the number
  pub stand-together : (xs ys : List A) (first count : ℕ) → ys ≡ drop first xs → first ≤ length xs → IsPartitionPoint (λ x. ltb (number x) n ≡ true) (λ x. ltb (number x) n ≡ false) xs first
      → count ≤ length ys → IsPartitionPoint (λ y. leb (number y) n ≡ true) (λ y. leb (number y) n ≡ false) ys count → take count ys ≡ filter numbered xs
  stand-together xs ys first count e l p m q =
      subst (λ zs. count ≤ length zs → IsPartitionPoint (λ y. leb (number y) n ≡ true) (λ y. leb (number y) n ≡ false) zs count → take count zs ≡ filter numbered xs) (sym e)
      (λ u v. first-ones (drop first xs) count u (not-smaller xs first l p.1) v.0 v.1 ∙ smaller-dropped xs first l p.0) m q
