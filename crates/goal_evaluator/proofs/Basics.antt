-- Small facts that several files use.
use Rattle.std.proofs.Common.{[], ◌≡◌, refl, List, ◌++◌, ◌∷◌, ℕ, zero, suc, ◌⊎◌, inl, inr, map}
use Rattle.goal_evaluator.specs.Instances.{term_at}
use Rattle.goal_evaluator.specs.Lists.{Every, SomeOf}
use Rattle.goal_evaluator.specs.Replayed.{after}
use Rattle.goal_evaluator.specs.Script.{Script, done, ask}
use Rattle.type_terms.specs.Promised.Trees.{none}

pub after-none : {Q A X : Type 0} (s : Script Q A X) → after s [] ≡ s
after-none (done x) = refl
after-none (ask q k) = refl

pub every-append : {A : Type 0} (P : A → Type 0) (xs ys : List A) → Every P xs → Every P ys → Every P (xs ++ ys)
every-append P [] ys a b = b
every-append P (x ∷ xs) ys a b = (a.0, every-append P xs ys a.1 b)

pub nothing-at : (i : ℕ) → term_at [] i ≡ none
nothing-at zero = refl
nothing-at (suc i) = nothing-at i

pub some-append : {A : Type 0} (P : A → Type 0) (xs ys : List A) → SomeOf P xs ⊎ SomeOf P ys → SomeOf P (xs ++ ys)
some-append P [] ys (inl s) = absurd s
some-append P [] ys (inr s) = s
some-append P (x ∷ xs) ys (inl (inl p)) = inl p
some-append P (x ∷ xs) ys (inl (inr s)) = inr (some-append P xs ys (inl s))
some-append P (x ∷ xs) ys (inr s) = inr (some-append P xs ys (inr s))

pub some-parts : {A : Type 0} (P : A → Type 0) (xs ys : List A) → SomeOf P (xs ++ ys) → SomeOf P xs ⊎ SomeOf P ys
some-parts P [] ys s = inr s
some-parts P (x ∷ xs) ys (inl p) = inl (inl p)
some-parts P (x ∷ xs) ys (inr s) = elim (some-parts P xs ys s) [ inl a ↦ inl (inr a) | inr b ↦ inr b ]

pub unmap : {A B : Type 0} (P : B → Type 0) (f : A → B) (xs : List A) → Every P (map f xs) → Every (λ x. P (f x)) xs
unmap P f [] h = tt
unmap P f (x ∷ xs) h = (h.0, unmap P f xs h.1)

pub both-lists : {A : Type 0} (P : A → Type 0) (xs ys : List A) → Every P xs → Every P ys → Every P (xs ++ ys)
both-lists P [] ys h g = g
both-lists P (x ∷ xs) ys h g = (h.0, both-lists P xs ys h.1 g)

pub every-of : {A : Type 0} {Q : A → Type 0} → ((x : A) → Q x) → (xs : List A) → Every Q xs
every-of f [] = tt
every-of f (x ∷ xs) = (f x, every-of f xs)

pub every-unit : {A : Type 0} (xs : List A) → Every (λ x. Unit {0}) xs
every-unit [] = tt
every-unit (x ∷ xs) = (tt, every-unit xs)
