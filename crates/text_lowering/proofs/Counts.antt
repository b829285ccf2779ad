-- How many terms plain types are made, and lists of references.
use Rattle.std.proofs.Common.{◌≡◌, ℕ, ◌+◌, ◌<◌, ◌≤◌, Bool, List, [], ◌∷◌, length, map, take, get_or, refl, sym, ap, ◌∙◌, arith}
use Rattle.std.specs.Prelude.{sum_by}
use Rattle.std.proofs.lemmas.List.Sums.{sum_by-cons, sum_by_more, sum_by-take-le}
use Rattle.type_terms.specs.Promised.Trees.{Trees, none, tree}
use Rattle.type_terms.specs.Promised.Worlds.{Reference}
use Rattle.text_tables.specs.TermCounts.{parts, reference_terms}
use Rattle.text_lowering.specs.Promised.SeenWorlds.{plain, plain_reference}

parts-plain : (k : ℕ → Bool) (t : Trees) → parts (plain k t) ≡ parts t
parts-plain k none = refl
parts-plain k (tree l c o) = let p = parts-plain k c in let q = parts-plain k o in omega (arith, p, q)

pub all-parts-plain : (k : ℕ → Bool) (ts : List Trees) → sum_by parts (map (plain k) ts) ≡ sum_by parts ts
all-parts-plain k [] = refl
all-parts-plain k (t ∷ ts) =
    let p = parts-plain k t in
    let q = all-parts-plain k ts in
    let c = sum_by-cons parts (plain k t) (map (plain k) ts) in
    let d = sum_by-cons parts t ts in
    omega (arith, p, q, c, d)

pub plain-terms : (k : ℕ → Bool) (r : Reference) → reference_terms (plain_reference k r) ≡ reference_terms r
plain-terms k r = let p = parts-plain k r.args in omega (arith, p)

-- ---- of what the elements of a list are, up to one of them
sum-mapped : {A B : Type 0} (f : B → ℕ) (g : A → B) (xs : List A) → sum_by (λ x. f (g x)) xs ≡ sum_by f (map g xs)
sum-mapped f g [] = refl
sum-mapped f g (x ∷ xs) =
    let q = sum-mapped f g xs in
    let c = sum_by-cons (λ y. f (g y)) x xs in
    let d = sum_by-cons f (g x) (map g xs) in
    omega (arith, q, c, d)

pub one-more : {A B : Type 0} (f : B → ℕ) (g : A → B) (xs : List A) (i : ℕ) (x : A) → i < length xs → x ≡ get_or xs i x → sum_by f (map g (take (i + 1) xs)) ≡ sum_by f (map g (take i xs)) + f (g x)
one-more f g xs i x h e =
    let a = sum-mapped f g (take (i + 1) xs) in
    let b = sum-mapped f g (take i xs) in
    let c = sum_by_more (λ y. f (g y)) xs i x h ∙ ap (λ y. sum_by (λ z. f (g z)) (take i xs) + f (g y)) (sym e) in
    omega (arith, a, b, c)

pub no-more : {A B : Type 0} (f : B → ℕ) (g : A → B) (xs : List A) (i : ℕ) → sum_by f (map g (take i xs)) ≤ sum_by f (map g xs)
no-more f g xs i =
    let a = sum-mapped f g (take i xs) in
    let b = sum-mapped f g xs in
    let c = sum_by-take-le (λ y. f (g y)) xs i in
    omega (arith, a, b, c)
