-- Numbers that bound a view: how large its declarations are, and how many nested goals a goal has.
use Rattle.std.specs.Prelude.{ℕ, zero, ◌+◌, ◌*◌, max, List, map, length, fold}
use Rattle.type_terms.specs.Promised.Trees.{none}
use Rattle.type_terms.specs.Promised.Worlds.{World, Reference, StructDecl, TraitDecl, ImplDecl}
use Rattle.type_terms.specs.Promised.Rules.{strict_supertraits, together}
use Rattle.goal_evaluator.specs.Promised.Widths.{width, count}

-- The greatest value of f on the list, or zero if the list is empty.
abbrev pub greatest : {A : Type 0} → (A → ℕ) → List A → ℕ
greatest f xs = fold max zero (map f xs)

-- The greater of the number of the arguments and their width.
abbrev pub width_of : Reference → ℕ
width_of r = max (count r.args) (width r.args)

-- How many strict supertraits the trait has.
abbrev pub supers_of : World → TraitDecl → ℕ
supers_of V x = length (strict_supertraits V (record { trait = x.name; args = none }))

-- The greatest width of a declaration of the view: of a struct's fields, of a trait's bounds, or of an impl's header or where-clauses. The
-- number of a trait's bounds, and that of its supertraits, count too.
abbrev pub declared_width : World → ℕ
declared_width V =
    max (greatest (λ (x : StructDecl). max (count (together x.fields)) (greatest width x.fields)) V.structs)
    (max (greatest (λ (x : TraitDecl). max (supers_of V x) (max (length x.bounds) (greatest width_of x.bounds))) V.traits)
    (greatest (λ (i : ImplDecl). max (width_of i.header) (greatest width_of i.clauses)) V.impls))

-- The number of where-clauses of all impls of the world.
abbrev pub clauses_in : World → ℕ
clauses_in V = fold ◌+◌ zero (map (λ (i : ImplDecl). length i.clauses) V.impls)

-- The greatest number of strict supertraits of a trait of the view.
abbrev pub supertraits_in : World → ℕ
supertraits_in V = greatest (supers_of V) V.traits

-- The nested goals by built-in rules, where m bounds the widths of the view and of the goal: for an auto trait one for each field or item,
-- and for a trait of `core` one for each item of a tuple, or those of `Unsize`: each bound of a `dyn`, `Sized`, and a last field.
abbrev pub built_in_rows : ℕ → ℕ
built_in_rows m = m + (m + 2)

-- The nested goals by the bounds of a `dyn`. By its principal and that one's supertraits there are together no more than a trait has
-- supertraits, and by each of its auto traits as many.
abbrev pub dyn_bounds : World → ℕ → ℕ
dyn_bounds V m = supertraits_in V + m * supertraits_in V

-- A bound of the number of nested goals of a goal, where m bounds the widths of the view and of the goal. It counts the where-clauses of
-- all impls, the goal's supertraits, which an unknown impl has, and the nested goals of built-in rules and of the bounds of a `dyn`.
abbrev pub number_at : World → ℕ → ℕ
number_at V m = clauses_in V + (supertraits_in V + (built_in_rows m + dyn_bounds V m))
