-- Laws of an operation.
use Rattle.std.specs.Prelude.{◌≡◌}

-- of three in a row, the first two or the last two may be combined first
abbrev pub IsAssociative : {A : Type 0} → (A → A → A) → Type 0
IsAssociative {A} f = (a b c : A) → f (f a b) c ≡ f a (f b c)

-- the order of two does not matter
abbrev pub IsCommutative : {A : Type 0} → (A → A → A) → Type 0
IsCommutative {A} f = (a b : A) → f a b ≡ f b a

-- one twice is that one
abbrev pub IsIdempotent : {A : Type 0} → (A → A → A) → Type 0
IsIdempotent {A} f = (a : A) → f a a ≡ a

-- e changes nothing on either side
abbrev pub IsNeutral : {A : Type 0} → A → (A → A → A) → Type 0
IsNeutral {A} e f = ((a : A) → f e a ≡ a) × ((a : A) → f a e ≡ a)

-- e with anything on either side is e
abbrev pub IsAbsorbing : {A : Type 0} → A → (A → A → A) → Type 0
IsAbsorbing {A} e f = ((a : A) → f e a ≡ e) × ((a : A) → f a e ≡ e)
