-- Merges of rising lists.
use Rattle.std.proofs.Common.{◌≡◌, ℕ, ◌+◌, ◌<◌, ◌≤◌, Bool, true, false, cond, ◌||◌, List, [], ◌∷◌, ◌++◌, length, refl, sym, ap, ◌∙◌, arith, inl, inr, ◌⊎◌, subst}
use Rattle.std.specs.List.{IsFirstAndRest, FoldsTo}
use Rattle.std.specs.Prelude.{map, filter}
use Rattle.type_terms.specs.declared.ImplId.{ImplId}
use Rattle.declarations.specs.Promised.Elaboration.{Each}
use Rattle.declarations.specs.Merges.{Rises, IsMerge, IsNext}

pub empty-is : (xs : List ImplId) → length xs ≡ 0 → xs ≡ []
empty-is [] h = refl
empty-is (x ∷ xs) h = absurd (omega arith)

pub first-and-rest : (xs : List ImplId) (x : ImplId) (rest : List ImplId) → IsFirstAndRest xs x rest → xs ≡ x ∷ rest
first-and-rest xs x rest h = h.0

pub shorter : (a b x y : ℕ) → a + b + 1 ≡ x + y → a + b < x + y
shorter a b x y h = omega arith

pub folds-none : {P A : Type 0} (R : P → A → P → Type 0) (p : P) (xs : List A) → xs ≡ [] → FoldsTo R p xs p
folds-none R p xs e = subst (λ l. FoldsTo R p l p) (sym e) refl

pub folds-more : {P A : Type 0} (R : P → A → P → Type 0) (p j last : P) (x : A) (xs rest : List A) → xs ≡ x ∷ rest → R p x j → FoldsTo R j rest last → FoldsTo R p xs last
folds-more R p j last x xs rest e r f = subst (λ l. FoldsTo R p l last) (sym e) (j, r, f)

pub merge-alone : (xs : List ImplId) → IsMerge xs [] xs
merge-alone [] = (refl, refl)
merge-alone (x ∷ xs) = inl (xs, refl, merge-alone xs)

head-is : (x y : ImplId) (xs ys : List ImplId) → x ∷ xs ≡ y ∷ ys → x ≡ y
head-is x y xs ys e = cc

tail-is : (x y : ImplId) (xs ys : List ImplId) → x ∷ xs ≡ y ∷ ys → xs ≡ ys
tail-is x y xs ys e = cc

first-in : (P : ImplId → Type 0) (x : ImplId) (xs ys zs : List ImplId) → IsMerge (x ∷ xs) ys zs → Each P zs → P x
first-in P x xs ys [] m h = let e : x ∷ xs ≡ [] = m.0 in absurd cc
first-in P x xs ys (z ∷ zs) (inl m) h = subst P (sym (head-is x z xs m.0 m.1)) h.0
first-in P x xs ys (z ∷ zs) (inr m) h = first-in P x xs m.0 zs m.2 h.1

second-in : (P : ImplId → Type 0) (y : ImplId) (xs ys zs : List ImplId) → IsMerge xs (y ∷ ys) zs → Each P zs → P y
second-in P y xs ys [] m h = let e : y ∷ ys ≡ [] = m.1 in absurd cc
second-in P y xs ys (z ∷ zs) (inl m) h = second-in P y m.0 ys zs m.2 h.1
second-in P y xs ys (z ∷ zs) (inr m) h = subst P (sym (head-is y z ys m.0 m.1)) h.0

pub merge-none : (zs : List ImplId) → IsMerge [] [] zs → zs ≡ []
merge-none [] m = refl
merge-none (z ∷ zs) (inl m) = let e : [] ≡ z ∷ m.0 = m.1 in absurd cc
merge-none (z ∷ zs) (inr m) = let e : [] ≡ z ∷ m.0 = m.1 in absurd cc

pub merge-first : (x : ImplId) (xs ys zs : List ImplId) → IsMerge (x ∷ xs) ys zs → Rises zs → (ys ≡ []) ⊎ ((y : ImplId) × (r : List ImplId) × (ys ≡ y ∷ r) × (x.index < y.index)) → IsNext x xs ys zs
merge-first x xs ys [] m r h = let e : x ∷ xs ≡ [] = m.0 in absurd cc
merge-first x xs ys (z ∷ zs) (inl m) r h =
    (zs, ap (λ w. w ∷ zs) (sym (head-is x z xs m.0 m.1)), subst (λ l. IsMerge l ys zs) (sym (tail-is x z xs m.0 m.1)) m.2)
merge-first x xs ys (z ∷ zs) (inr m) r (inl h) = let e : [] ≡ z ∷ m.0 = sym h ∙ m.1 in absurd cc
merge-first x xs ys (z ∷ zs) (inr m) r (inr h) =
    let same : h.0 ≡ z = head-is h.0 z h.1 m.0 (sym h.2 ∙ m.1) in
    let above : z.index < x.index = first-in (λ w. z.index < w.index) x xs m.0 zs m.2 r.0 in
    let below : h.0.index < x.index = subst (λ w. w.index < x.index) (sym same) above in
    let less : x.index < h.0.index = h.3 in
    absurd (omega arith)

pub merge-second : (y : ImplId) (xs ys zs : List ImplId) → IsMerge xs (y ∷ ys) zs → Rises zs → (xs ≡ []) ⊎ ((x : ImplId) × (r : List ImplId) × (xs ≡ x ∷ r) × (y.index ≤ x.index)) → IsNext y xs ys zs
merge-second y xs ys [] m r h = let e : y ∷ ys ≡ [] = m.1 in absurd cc
merge-second y xs ys (z ∷ zs) (inr m) r h =
    (zs, ap (λ w. w ∷ zs) (sym (head-is y z ys m.0 m.1)), subst (λ l. IsMerge xs l zs) (sym (tail-is y z ys m.0 m.1)) m.2)
merge-second y xs ys (z ∷ zs) (inl m) r (inl h) = let e : [] ≡ z ∷ m.0 = sym h ∙ m.1 in absurd cc
merge-second y xs ys (z ∷ zs) (inl m) r (inr h) =
    let same : h.0 ≡ z = head-is h.0 z h.1 m.0 (sym h.2 ∙ m.1) in
    let above : z.index < y.index = second-in (λ w. z.index < w.index) y m.0 ys zs m.2 r.0 in
    let below : h.0.index < y.index = subst (λ w. w.index < y.index) (sym same) above in
    let least : y.index ≤ h.0.index = h.3 in
    absurd (omega arith)

-- ---- merges of what is filtered
module _ {A : Type 0} (id : A → ImplId) (p q r : A → Bool) (all : (x : A) → r x ≡ (p x || q x)) (apart : (x : A) → p x ≡ true → q x ≡ false) where
  abbrev those : (A → Bool) → List A → List ImplId
  those t xs = map id (filter t xs)

  pub merge-filtered : (xs : List A) → IsMerge (those p xs) (those q xs) (those r xs)
  merge-filtered [] = (refl, refl)
  merge-filtered (x ∷ xs) = by (p x) (q x) (r x) refl refl refl (all x) (apart x) (merge-filtered xs)
    where
      kept : (t : A → Bool) (b : Bool) → t x ≡ b → those t (x ∷ xs) ≡ cond b (id x ∷ those t xs) (those t xs)
      kept t true e = ap (λ b. map id (cond b (x ∷ filter t xs) (filter t xs))) e
      kept t false e = ap (λ b. map id (cond b (x ∷ filter t xs) (filter t xs))) e

      by : (a b c : Bool) → p x ≡ a → q x ≡ b → r x ≡ c → r x ≡ (p x || q x) → (p x ≡ true → q x ≡ false) → IsMerge (those p xs) (those q xs) (those r xs)
          → IsMerge (those p (x ∷ xs)) (those q (x ∷ xs)) (those r (x ∷ xs))
      by true b true ep eq er al ap' rest =
          let eq' : q x ≡ false = ap' ep in
          rw (kept p true ep, kept q false eq', kept r true er) (inl (those p xs, refl, rest))
      by true b false ep eq er al ap' rest = let e : true ≡ false = sym (ap (λ z. z || q x) ep) ∙ sym al ∙ er in absurd cc
      by false true true ep eq er al ap' rest = rw (kept p false ep, kept q true eq, kept r true er) (inr (those q xs, refl, rest))
      by false true false ep eq er al ap' rest = let e : true ≡ false = sym (ap (λ z. z || q x) ep ∙ eq) ∙ sym al ∙ er in absurd cc
      by false false true ep eq er al ap' rest = let e : true ≡ false = sym er ∙ al ∙ ap (λ z. z || q x) ep ∙ eq in absurd cc
      by false false false ep eq er al ap' rest = rw (kept p false ep, kept q false eq, kept r false er) rest

-- ---- what is filtered rises
each-kept : (P : ImplId → Type 0) {A : Type 0} (id : A → ImplId) (t : A → Bool) (xs : List A) → Each P (map id xs) → Each P (map id (filter t xs))
each-kept P id t [] h = tt
each-kept P id t (x ∷ xs) h = by (t x) (each-kept P id t xs h.1)
  where
    by : (b : Bool) → Each P (map id (filter t xs)) → Each P (map id (cond b (x ∷ filter t xs) (filter t xs)))
    by true rest = (h.0, rest)
    by false rest = rest

pub rises-filtered : {A : Type 0} (id : A → ImplId) (t : A → Bool) (xs : List A) → Rises (map id xs) → Rises (map id (filter t xs))
rises-filtered id t [] h = tt
rises-filtered id t (x ∷ xs) h = by (t x) (rises-filtered id t xs h.1)
  where
    by : (b : Bool) → Rises (map id (filter t xs)) → Rises (map id (cond b (x ∷ filter t xs) (filter t xs)))
    by true rest = (each-kept (λ y. (id x).index < y.index) id t xs h.0, rest)
    by false rest = rest

each-pushed : (P : ImplId → Type 0) (xs : List ImplId) (y : ImplId) → Each P xs → P y → Each P (xs ++ y ∷ [])
each-pushed P [] y h p = (p, tt)
each-pushed P (x ∷ xs) y h p = (h.0, each-pushed P xs y h.1 p)

pub rises-pushed : {A : Type 0} (id : A → ImplId) (xs : List A) (y : ImplId) → Rises (map id xs) → Each (λ x. (id x).index < y.index) xs → Rises (map id xs ++ y ∷ [])
rises-pushed id [] y h b = (tt, tt)
rises-pushed id (x ∷ xs) y h b = (each-pushed (λ z. (id x).index < z.index) (map id xs) y h.0 b.0, rises-pushed id xs y h.1 b.1)

-- ---- what is left without the last one rises
each-fewer : (x : ImplId) (xs : List ImplId) (y : ImplId) → Each (λ z. x.index < z.index) (xs ++ y ∷ []) → Each (λ z. x.index < z.index) xs
each-fewer x [] y h = tt
each-fewer x (z ∷ zs) y h = (h.0, each-fewer x zs y h.1)

pub rises-fewer : (xs : List ImplId) (y : ImplId) → Rises (xs ++ y ∷ []) → Rises xs
rises-fewer [] y h = tt
rises-fewer (x ∷ xs) y h = (each-fewer x xs y h.0, rises-fewer xs y h.1)
