-- Arguments that are no misfits fit, where terms are made as an interner makes them.
use Rattle.std.proofs.Common.{◌≡◌, ℕ, zero, suc, Bool, true, false, not, refl, sym, ap, subst, Option, Some, None, ◌&&◌, ◌||◌, cond}
use Rattle.std.specs.Option.{option_or}
use Rattle.type_terms.specs.Promised.Label.{Label, Sort, of_type, of_const, of_lifetime, param, placeholder, infer, canonical, bound, static, dynamic, principal, auto_trait, predicate}
use Rattle.type_terms.specs.Promised.Trees.{Trees, none, tree, nth, sort_of, is_sort, IsA, Fits}
use Rattle.type_terms.specs.Trees.{is_no_tree}
use Rattle.type_terms.proofs.Walking.{left, right}
use Rattle.type_terms.specs.Made.{terms, bounds, traits, is_made, is_leaf_label, is_in_range}
use Rattle.term_folds.specs.Arguments.{sort_at, misfit, first_misfit}
use Rattle.term_folds.specs.declared.instantiate.InstantiateError.TheVariants.{ParamKind}
use Rattle.type_terms.proofs.TermBasics.{none-sound, same-sorts as same-sort}
use Rattle.term_folds.proofs.TypeBasics.{left-none as first-none, right-none as rest-none}

fit-sort : (s : Sort) (o : Option Sort) → misfit s o ≡ None → o ≡ Some s
fit-sort s None h = absurd cc
fit-sort s (Some r) h = by (is_sort s r) refl h
  where
    by : (b : Bool) → is_sort s r ≡ b → cond b None (Some ParamKind) ≡ None → Some r ≡ Some s
    by true e h = ap Some (same-sort s r e)
    by false e h = absurd cc

made-parts : (g n x y : Bool) → g && (n && (x && y)) ≡ true → (n ≡ true) × (x ≡ true) × (y ≡ true)
made-parts g n x y m =
    let r = right g (n && (x && y)) m in
    let q = right n (x && y) r in (left n (x && y) r, left x y q, right x y q)

abbrev IsMade : Trees → Type 0
IsMade t = is_made is_in_range terms t ≡ true

parts : (l : Label) (c o : Trees) → is_in_range l && ((not (is_leaf_label l) || is_no_tree c) && (is_made is_in_range terms c && is_made is_in_range terms o)) ≡ true
    → (not (is_leaf_label l) || is_no_tree c ≡ true) × IsMade c × IsMade o
parts l c o m = made-parts (is_in_range l) (not (is_leaf_label l) || is_no_tree c) (is_made is_in_range terms c) (is_made is_in_range terms o) m

made-rest : (l : Label) (c o : Trees) → IsMade (tree l c o) → IsMade o
made-rest dynamic c o m = right (is_made is_in_range bounds c) (is_made is_in_range terms o) m
made-rest (principal n t) c o m = absurd cc
made-rest (auto_trait t) c o m = absurd cc
made-rest (predicate k) c o m = absurd cc
made-rest l c o m = (parts l c o m).2

lifetime-bare : (l : Label) (c o : Trees) → IsMade (tree l c o) → sort_of l ≡ of_lifetime → c ≡ none
lifetime-bare static c o m e = none-sound c (parts static c o m).0
lifetime-bare (param s i) c o m e = none-sound c (parts (param s i) c o m).0
lifetime-bare (placeholder s i) c o m e = none-sound c (parts (placeholder s i) c o m).0
lifetime-bare (infer s i) c o m e = none-sound c (parts (infer s i) c o m).0
lifetime-bare (canonical s i) c o m e = none-sound c (parts (canonical s i) c o m).0
lifetime-bare (bound s k i) c o m e = none-sound c (parts (bound s k i) c o m).0
lifetime-bare l c o m e = absurd cc

arg-is : (A : Trees) (i : ℕ) (s : Sort) → IsMade A → sort_at A i ≡ Some s → IsA s (nth A i)
arg-is none i s m e = absurd cc
arg-is (tree l c o) zero of_lifetime m e = let q : sort_of l ≡ of_lifetime = cc in (q, lifetime-bare l c o m q, refl)
arg-is (tree l c o) zero of_type m e = let q : sort_of l ≡ of_type = cc in (q, refl)
arg-is (tree l c o) zero of_const m e = let q : sort_of l ≡ of_const = cc in (q, refl)
arg-is (tree l c o) (suc i) s m e = arg-is o i s (made-rest l c o m) e

module _ (A : Trees) (made : IsMade A) where
  abbrev Fit : Trees → Type 0
  Fit t = first_misfit A t ≡ None

  at-none : (t : Trees) → is_no_tree t ≡ true → Fits A t
  at-none t h = subst (Fits A) (sym (none-sound t h)) tt

  put : (s : Sort) (i : ℕ) (o : Trees) → option_or (misfit s (sort_at A i)) (first_misfit A o) ≡ None → IsA s (nth A i)
  put s i o f = arg-is A i s made (fit-sort s (sort_at A i) (first-none (misfit s (sort_at A i)) (first_misfit A o) f))

  mutual
    pub fits-of : (t : Trees) → IsMade t → Fit t → Fits A t
    fits-of none m f = tt
    fits-of (tree dynamic c o) m f = (
      at-bounds c (left (is_made is_in_range bounds c) (is_made is_in_range terms o) m) (first-none (first_misfit A c) (first_misfit A o) f),
      fits-of o (right (is_made is_in_range bounds c) (is_made is_in_range terms o) m) (rest-none (first_misfit A c) (first_misfit A o) f),
    )
    fits-of (tree (principal n t) c o) m f = absurd cc
    fits-of (tree (auto_trait t) c o) m f = absurd cc
    fits-of (tree (predicate k) c o) m f = absurd cc
    fits-of (tree (param s i) c o) m f =
        let p = parts (param s i) c o m in (put s i o f, none-sound c p.0, fits-of o p.2 (rest-none (misfit s (sort_at A i)) (first_misfit A o) f))
    fits-of (tree l c o) m f =
        let p = parts l c o m in (fits-of c p.1 (first-none (first_misfit A c) (first_misfit A o) f), fits-of o p.2 (rest-none (first_misfit A c) (first_misfit A o) f))

    at-bounds : (t : Trees) → is_made is_in_range bounds t ≡ true → Fit t → Fits A t
    at-bounds none m f = tt
    at-bounds (tree (principal n t) c o) m f = (
      fits-of c (left (is_made is_in_range terms c) (is_made is_in_range traits o) m) (first-none (first_misfit A c) (first_misfit A o) f),
      at-traits o (right (is_made is_in_range terms c) (is_made is_in_range traits o) m) (rest-none (first_misfit A c) (first_misfit A o) f),
    )
    at-bounds (tree (auto_trait t) c o) m f = (
      at-none c (left (is_no_tree c) (is_made is_in_range traits o) m),
      at-traits o (right (is_no_tree c) (is_made is_in_range traits o) m) (rest-none (first_misfit A c) (first_misfit A o) f),
    )
    at-bounds (tree (predicate k) c o) m f = absurd cc
    at-bounds (tree (param s i) c o) m f =
        let p = made-parts (is_in_range (param s i)) (is_sort s of_lifetime) (is_no_tree c) (is_no_tree o) m in (put s i o f, none-sound c p.1, at-none o p.2)
    at-bounds (tree l c o) m f =
        let p = made-parts (is_in_range l) (is_sort (sort_of l) of_lifetime) (is_no_tree c) (is_no_tree o) m in (at-none c p.1, at-none o p.2)

    at-traits : (t : Trees) → is_made is_in_range traits t ≡ true → Fit t → Fits A t
    at-traits none m f = tt
    at-traits (tree (auto_trait t) c o) m f = (
      at-none c (left (is_no_tree c) (is_made is_in_range traits o) m),
      at-traits o (right (is_no_tree c) (is_made is_in_range traits o) m) (rest-none (first_misfit A c) (first_misfit A o) f),
    )
    at-traits (tree (predicate k) c o) m f = absurd cc
    at-traits (tree (param s i) c o) m f =
        let p = made-parts (is_in_range (param s i)) (is_sort s of_lifetime) (is_no_tree c) (is_no_tree o) m in (put s i o f, none-sound c p.1, at-none o p.2)
    at-traits (tree l c o) m f =
        let p = made-parts (is_in_range l) (is_sort (sort_of l) of_lifetime) (is_no_tree c) (is_no_tree o) m in (at-none c p.1, at-none o p.2)
