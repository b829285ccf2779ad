-- Orphan walks as lists.
use Rattle.std.specs.Prelude.{ℕ, Bool, true, false, ◌||◌, ◌&&◌, ◌==◌, List, [], ◌∷◌}
use Rattle.type_terms.specs.Promised.Worlds.{World}
use Rattle.type_terms.specs.Promised.Walks.{Met, local, struct_leaf, dyn_leaf, entered, other_leaf, open_place, struct_is, trait_is}

-- A walk meets no local type and no open place.
abbrev pub clean : List Met → Bool
clean [] = true
clean (local ∷ ms) = false
clean (open_place ∷ ms) = false
clean (m ∷ ms) = clean ms

-- The item that a walk meets is of crate d.
abbrev pub of_home : World → ℕ → Met → Bool
of_home W d (struct_leaf s) = struct_is (λ x. d == x.home) W s
of_home W d (entered s) = struct_is (λ x. d == x.home) W s
of_home W d (dyn_leaf t) = trait_is (λ x. d == x.home) W t
of_home W d _ = false

-- The item that a walk meets has a name that passes, and is no open place.
abbrev pub allowed : (ℕ → Bool) → (ℕ → Bool) → Met → Bool
allowed S P (struct_leaf s) = S s
allowed S P (entered s) = S s
allowed S P (dyn_leaf t) = P t
allowed S P other_leaf = true
allowed S P open_place = false
allowed S P local = false

-- Some item passes p, and all up to the first that does pass q.
abbrev pub before : (Met → Bool) → (Met → Bool) → List Met → Bool
before p q [] = false
before p q (m ∷ ms) = q m && (p m || before p q ms)
