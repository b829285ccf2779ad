-- What is preserved from rule instances of one kind to those of another.
use Rattle.std.proofs.Common.{◌≡◌, ℕ, zero, suc, List, [], ◌∷◌, map, sym, subst, inl, inr}
use Rattle.goal_evaluator.specs.Lists.{Every, SomeOf}
use Rattle.goal_evaluator.proofs.ListLaws.{Every-mono, Every-both, SomeOf-mono}
use Rattle.solver_completeness.specs.Ways.{AtMostOneHolds, HasShortChains, IsPossible, HasOneWayWithin, HoldsByWays}

module _ {A B : Type 0} (read : A → B) (ways : A → List (List A)) (others : B → List (List B)) where
  -- the ways of what is read are what the ways are read as
  abbrev pub AreMoved : Type 0
  AreMoved = (a : A) → map (map read) (ways a) ≡ others (read a)

  -- then what is possible, decided, bounded and true of the one is so of the other
  pub record Moves : Type 1 where
    pub possible_to : (n : ℕ) (a : A) → IsPossible others n (read a) → IsPossible ways n a
    pub possible_from : (n : ℕ) (a : A) → IsPossible ways n a → IsPossible others n (read a)
    pub short : (n : ℕ) (a : A) → HasShortChains others n (read a) → HasShortChains ways n a
    pub decided : (Holds : B → Type 0) (n : ℕ) (a : A) → HasOneWayWithin others Holds n (read a) → HasOneWayWithin ways (λ b. Holds (read b)) n a
    pub holds : (Holds : B → Type 0) → HoldsByWays others Holds → HoldsByWays ways (λ b. Holds (read b))

pub every-from : {A B : Type 0} (f : A → B) (P : B → Type 0) (S : A → Type 0) → ((x : A) → P (f x) → S x) → (xs : List A) → Every P (map f xs) → Every S xs
every-from f P S g [] h = tt
every-from f P S g (x ∷ xs) h = (g x h.0, every-from f P S g xs h.1)

pub every-to : {A B : Type 0} (f : A → B) (P : B → Type 0) (S : A → Type 0) → ((x : A) → S x → P (f x)) → (xs : List A) → Every S xs → Every P (map f xs)
every-to f P S g [] h = tt
every-to f P S g (x ∷ xs) h = (g x h.0, every-to f P S g xs h.1)

pub some-from : {A B : Type 0} (f : A → B) (P : B → Type 0) (S : A → Type 0) → ((x : A) → P (f x) → S x) → (xs : List A) → SomeOf P (map f xs) → SomeOf S xs
some-from f P S g [] s = absurd s
some-from f P S g (x ∷ xs) (inl p) = inl (g x p)
some-from f P S g (x ∷ xs) (inr s) = inr (some-from f P S g xs s)

pub some-to : {A B : Type 0} (f : A → B) (P : B → Type 0) (S : A → Type 0) → ((x : A) → S x → P (f x)) → (xs : List A) → SomeOf S xs → SomeOf P (map f xs)
some-to f P S g [] s = absurd s
some-to f P S g (x ∷ xs) (inl p) = inl (g x p)
some-to f P S g (x ∷ xs) (inr s) = inr (some-to f P S g xs s)

one-from : {A B : Type 0} (f : A → B) (P : B → Type 0) (S : A → Type 0) → ((x : A) → S x → P (f x)) → (xs : List A) → AtMostOneHolds P (map f xs) → AtMostOneHolds S xs
one-from f P S g [] h = tt
one-from f P S g (x ∷ xs) h = (λ p s. h.0 (g x p) (some-to f P S g xs s), one-from f P S g xs h.1)

pub one-to : {A B : Type 0} (f : A → B) (P : B → Type 0) (S : A → Type 0) → ((x : A) → P (f x) → S x) → (xs : List A) → AtMostOneHolds S xs → AtMostOneHolds P (map f xs)
one-to f P S g [] h = tt
one-to f P S g (x ∷ xs) h = (λ p s. h.0 (g x p) (some-from f P S g xs s), one-to f P S g xs h.1)

module _ {A B : Type 0} (read : A → B) (ways : A → List (List A)) (others : B → List (List B)) (are : AreMoved read ways others) where
  short : (n : ℕ) (a : A) → HasShortChains others n (read a) → HasShortChains ways n a
  short zero a h = h
  short (suc n) a h =
      every-from (map read) (Every (HasShortChains others n)) (Every (HasShortChains ways n)) (λ ps i. every-from read (HasShortChains others n) (HasShortChains ways n) (λ b j. short n b j) ps i) (ways a)
      (subst (Every (Every (HasShortChains others n))) (sym (are a)) h)

  module _ (Holds : B → Type 0) where
    abbrev Held : A → Type 0
    Held a = Holds (read a)

    decided : (n : ℕ) (a : A) → HasOneWayWithin others Holds n (read a) → HasOneWayWithin ways Held n a
    decided zero a h = h
    decided (suc n) a h = (
      one-from (map read) (Every Holds) (Every Held) (λ ps i. every-to read Holds Held (λ b j. j) ps i) (ways a) (subst (AtMostOneHolds (Every Holds)) (sym (are a)) h.0),
      every-from (map read) (Every (HasOneWayWithin others Holds n)) (Every (HasOneWayWithin ways Held n)) (λ ps i. every-from read (HasOneWayWithin others Holds n) (HasOneWayWithin ways Held n) (λ b j. decided n b j) ps i) (ways a)
          (subst (Every (Every (HasOneWayWithin others Holds n))) (sym (are a)) h.1),
    )

    holds : HoldsByWays others Holds → HoldsByWays ways Held
    holds h = record {
      by_way = λ a s. h.by_way (read a) (subst (SomeOf (Every Holds)) (are a) (some-to (map read) (Every Holds) (Every Held) (λ ps i. every-to read Holds Held (λ b j. j) ps i) (ways a) s));
      has_way = λ a p. some-from (map read) (Every Holds) (Every Held) (λ ps i. every-from read Holds Held (λ b j. j) ps i) (ways a) (subst (SomeOf (Every Holds)) (sym (are a)) (h.has_way (read a) p));
    }

-- ---- what holds is what is possible, if chains are short
module _ {Fact : Type 0} (ways : Fact → List (List Fact)) (Holds : Fact → Type 0) (by : HoldsByWays ways Holds) where
  pub possible_holds : (n : ℕ) (f : Fact) → IsPossible ways n f → Holds f
  possible_holds zero f s = absurd s
  possible_holds (suc n) f s =
      by.by_way f (SomeOf-mono (Every (IsPossible ways n)) (Every Holds) (λ ps i. Every-mono (IsPossible ways n) Holds (λ g j. possible_holds n g j) ps i) (ways f) s)

  pub holds_possible : (n : ℕ) (f : Fact) → HasShortChains ways n f → Holds f → IsPossible ways n f
  holds_possible zero f h p = absurd h
  holds_possible (suc n) f h p =
      some-both (Every (HasShortChains ways n)) (Every Holds) (Every (IsPossible ways n))
      (λ ps i j. Every-both (HasShortChains ways n) Holds (IsPossible ways n) (λ g x y. holds_possible n g x y) ps i j) (ways f) h (by.has_way f p)
    where
      some-both : {A : Type 0} (P Q R : A → Type 0) → ((x : A) → P x → Q x → R x) → (xs : List A) → Every P xs → SomeOf Q xs → SomeOf R xs
      some-both P Q R f [] h s = absurd s
      some-both P Q R f (x ∷ xs) h (inl q) = inl (f x h.0 q)
      some-both P Q R f (x ∷ xs) h (inr s) = inr (some-both P Q R f xs h.1 s)
