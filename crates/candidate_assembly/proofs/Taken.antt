-- Lists of which a part was taken from the front, in sections.
use Rattle.std.proofs.Common.{◌≡◌, ℕ, suc, ◌+◌, arith, Bool, true, false, cond, not, List, [], ◌∷◌, ◌++◌, length, refl, sym, ◌∙◌, ap, subst, Option, Some, None}
use Rattle.std.specs.Prelude.{filter}
use Rattle.std.specs.List.{slice_get}
use Rattle.goal_evaluator.specs.Lists.{Every}
use Rattle.goal_evaluator.specs.Merge.{or_else}
use Rattle.type_terms.proofs.ListBasics.{first-same, rest-same}
use Rattle.std.proofs.Math.Nat.{suc-add}

pub or-none : {A : Type 0} (o : Option A) → or_else o None ≡ o
or-none None = refl
or-none (Some x) = refl

pub or-assoc : {A : Type 0} (a b c : Option A) → or_else a (or_else b c) ≡ or_else (or_else a b) c
or-assoc None b c = refl
or-assoc (Some x) b c = refl

module _ {A : Type 0} where
  abbrev pub count : (A → Bool) → List A → ℕ
  count p xs = length (filter p xs)

  abbrev pub rest_of : (A → Bool) → List A → List A
  rest_of p xs = filter (λ x. not (p x)) xs

  abbrev pub AreIn : (A → Bool) → List A → Type 0
  AreIn p xs = Every (λ x. p x ≡ true) xs

  abbrev pub AreOut : (A → Bool) → List A → Type 0
  AreOut p xs = Every (λ x. p x ≡ false) xs

  pub all-left : (p : A → Bool) (t : List A) → AreOut p t → rest_of p t ≡ t
  all-left p [] h = refl
  all-left p (x ∷ t) h = ap (λ b. cond (not b) (x ∷ rest_of p t) (rest_of p t)) h.0 ∙ ap (λ l. x ∷ l) (all-left p t h.1)

  pub front : (P : A → Type 0) (t rest : List A) → Every P (t ++ rest) → Every P t
  front P [] rest h = tt
  front P (x ∷ t) rest h = (h.0, front P t rest h.1)

  -- the first section: what is next is its candidate at the place that is counted, or else what is next of the others
  pub record IsPast (p : A → Bool) (xs ys t rest : List A) : Type 0 where
    pub left : List A
    pub others : rest_of p t ++ left ≡ ys
    pub next : slice_get rest 0 ≡ or_else (slice_get xs (count p t)) (slice_get left 0)

  pub past : (p : A → Bool) (xs ys : List A) → AreIn p xs → AreOut p ys → (t rest : List A) → t ++ rest ≡ xs ++ ys → IsPast p xs ys t rest
  past p [] ys i o t rest e =
      let out : AreOut p t = front (λ x. p x ≡ false) t rest (subst (AreOut p) (sym e) o) in
      record { left = rest; others = ap (λ l. l ++ rest) (all-left p t out) ∙ e; next = refl }
  past p (x ∷ xs) ys i o [] rest e = record { left = ys; others = refl; next = ap (λ l. slice_get l 0) e }
  past p (x ∷ xs) ys i o (u ∷ t) rest e =
      let same : u ≡ x = first-same u x (t ++ rest) (xs ++ ys) e in
      let h = past p xs ys i.1 o t rest (rest-same u x (t ++ rest) (xs ++ ys) e) in
      let is : p u ≡ true = ap p same ∙ i.0 in
      record {
        left = h.left;
        others = ap (λ b. cond (not b) (u ∷ rest_of p t) (rest_of p t) ++ h.left) is ∙ h.others;
        next = h.next ∙ ap (λ b. or_else (slice_get (x ∷ xs) (length (cond b (u ∷ filter p t) (filter p t)))) (slice_get h.left 0)) (sym is);
      }

  -- what was counted out does not count in another section
  pub still-counted : (p q : A → Bool) → ((x : A) → q x ≡ true → p x ≡ false) → (t : List A) → count q (rest_of p t) ≡ count q t
  still-counted p q d [] = refl
  still-counted p q d (x ∷ t) = by (q x) (p x) refl refl (still-counted p q d t)
    where
      clash : q x ≡ true → p x ≡ true → true ≡ false
      clash e f = sym f ∙ d x e

      by : (b c : Bool) → q x ≡ b → p x ≡ c → count q (rest_of p t) ≡ count q t → count q (cond (not c) (x ∷ rest_of p t) (rest_of p t)) ≡ length (cond b (x ∷ filter q t) (filter q t))
      by true true e f h = let bad = clash e f in absurd cc
      by true false e f h = ap (λ b. length (cond b (x ∷ filter q (rest_of p t)) (filter q (rest_of p t)))) e ∙ ap suc h
      by false true e f h = h
      by false false e f h = ap (λ b. length (cond b (x ∷ filter q (rest_of p t)) (filter q (rest_of p t)))) e ∙ h

  -- a section that was passed has no candidate there
  pub none-behind : (xs : List A) (n : ℕ) → slice_get xs (length xs + n) ≡ None
  none-behind [] n = refl
  none-behind (x ∷ xs) n = ap (slice_get (x ∷ xs)) (suc-add (length xs) n) ∙ none-behind xs n

  pub counted-all : (p : A → Bool) (xs ys : List A) → AreIn p xs → count p (xs ++ ys) ≡ length xs + count p ys
  counted-all p [] ys i = nothing (count p ys)
    where
      nothing : (m : ℕ) → m ≡ length {A = A} [] + m
      nothing m = omega arith
  counted-all p (x ∷ xs) ys i = ap (λ b. length (cond b (x ∷ filter p (xs ++ ys)) (filter p (xs ++ ys)))) i.0 ∙ ap suc (counted-all p xs ys i.1) ∙ sym (suc-add (length xs) (count p ys))

  pub passed : (p : A → Bool) (xs ys : List A) → AreIn p xs → slice_get xs (count p (xs ++ ys)) ≡ None
  passed p xs ys i = ap (slice_get xs) (counted-all p xs ys i) ∙ none-behind xs (count p ys)
