-- The parameters of an impl that its header uses stand there.
use Rattle.std.proofs.Common.{◌≡◌, ℕ, suc, ◌+◌, Bool, true, false, ◌||◌, List, [], ◌∷◌, ◌++◌, map, length, append-nil, append_assoc, length-append, refl, sym, ap, ◌∙◌, subst, arith}
use Rattle.std.specs.Prelude.{if◌then◌else◌}
use Rattle.std.specs.List.{list_any}
use Rattle.std.specs.Option.{option_map_or}
use Rattle.std.specs.Str.{bytes_eq}
use Rattle.std.proofs.lemmas.Slice.Eq.{bytes_eq-Decides}
use Rattle.type_terms.specs.Promised.Label.{Sort, of_lifetime, of_type, of_const}
use Rattle.type_terms.specs.Promised.Trees.{Trees, some_node}
use Rattle.text_language.specs.Promised.Syntax.{Params, Line}
use Rattle.text_language.specs.Promised.Declarations.{Declarations, known, kinds_of}
use Rattle.text_language.specs.Uses.{Use, crate_use, name_use, trait_use, lifetime_use, binder_use, variable_use, misfit_use, dyn_use, items_use, number_use, params_of}
use Rattle.text_language.specs.Promised.Faults.{with_own, is_among, repeats}
use Rattle.text_language.specs.Faults.{is_line_param, is_param_of, is_type_of, is_name_use}
use Rattle.text_language.specs.Lowering.{place_among}
use Rattle.text_lines.specs.Faultless.{UseFits}
use Rattle.candidate_model.specs.Candidates.{is_this_param as is_label_of}
use Rattle.text_lowering.proofs.Tests.{all_stand}
use Rattle.text_lowering.proofs.Trees.{and, and-left, or-left, or-right}
use Rattle.text_lowering.proofs.Types.{AllFit}
use Rattle.text_lowering.proofs.Standing.{is_use_as}
use Rattle.type_terms.proofs.ListBasics.{same-name as same-names}
use Rattle.text_language.proofs.Basics.{among-first}

-- ---- names
pub name-self : (n : List ℕ) → bytes_eq n n ≡ true
name-self n = (bytes_eq-Decides n n).1 refl

pub turned : (m n : List ℕ) → bytes_eq n m ≡ false → bytes_eq m n ≡ false
turned m n h = by (bytes_eq m n) refl
  where
    by : (b : Bool) → bytes_eq m n ≡ b → b ≡ false
    by false e = refl
    by true e = absurd (not-both (subst (λ x. bytes_eq x m ≡ false) (sym (same-names m n e)) h) (name-self m))
      where
        not-both : {b : Bool} → b ≡ false → b ≡ true → ⊥
        not-both {b = true} f g = absurd cc
        not-both {b = false} f g = absurd cc

-- a name that stands behind others of which none is it
place-at : (n : List ℕ) (xs ys : List (List ℕ)) → repeats (xs ++ n ∷ ys) ≡ false → place_among n (xs ++ n ∷ ys) ≡ length xs
place-at n [] ys h = ap (λ b. if b then 0 else suc (place_among n ys)) (name-self n)
place-at n (m ∷ xs) ys h =
    ap (λ b. if b then 0 else suc (place_among n (xs ++ n ∷ ys))) (turned m n (apart xs (or-left (is_among m (xs ++ n ∷ ys)) _ h))) ∙ ap suc (place-at n xs ys (or-right (is_among m (xs ++ n ∷ ys)) _ h))
  where
    apart : (zs : List (List ℕ)) → is_among m (zs ++ n ∷ ys) ≡ false → bytes_eq n m ≡ false
    apart [] g = or-left (bytes_eq n m) _ g
    apart (z ∷ zs) g = apart zs (or-right (bytes_eq z m) _ g)

is-there : (n : List ℕ) (xs ys : List (List ℕ)) → is_among n (xs ++ n ∷ ys) ≡ true
is-there n [] ys = ap (λ b. b || is_among n ys) (name-self n)
is-there n (x ∷ xs) ys = by (bytes_eq x n) (is-there n xs ys)
  where
    by : (b : Bool) → is_among n (xs ++ n ∷ ys) ≡ true → b || is_among n (xs ++ n ∷ ys) ≡ true
    by true h = refl
    by false h = h

-- ---- all of one sort stand, and others behind them
abbrev of-sort : Sort → List (List ℕ) → List Sort
of-sort s ns = map (λ _. s) ns

module _ (t : Trees) (s : Sort) (is_told : (i : ℕ) (rest : List Sort) → some_node (is_label_of s i) t ≡ true → all_stand t (suc i) rest ≡ true → all_stand t i (s ∷ rest) ≡ true) where
  stand-from : (first : ℕ) (all xs ys : List (List ℕ)) (rest : List Sort) → all ≡ xs ++ ys → repeats all ≡ false
      → ((n : List ℕ) → is_among n all ≡ true → some_node (is_label_of s (first + place_among n all)) t ≡ true) → all_stand t (first + length all) rest ≡ true
      → all_stand t (first + length xs) (of-sort s ys ++ rest) ≡ true
  stand-from first all xs [] rest e r h g = subst (λ z. all_stand t (first + length z) rest ≡ true) (e ∙ append-nil xs) g
  stand-from first all xs (n ∷ ys) rest e r h g =
      is_told (first + length xs) (of-sort s ys ++ rest)
      (subst (λ k. some_node (is_label_of s (first + k)) t ≡ true) (ap (place_among n) e ∙ place-at n xs ys (subst (λ z. repeats z ≡ false) e r)) (h n (subst (λ z. is_among n z ≡ true) (sym e) (is-there n xs ys))))
      (subst (λ k. all_stand t k (of-sort s ys ++ rest) ≡ true) (longer (length xs) (length (xs ++ n ∷ [])) (length-append xs (n ∷ [])))
      (stand-from first all (xs ++ n ∷ []) ys rest (e ∙ sym (append_assoc xs (n ∷ []) ys)) r h g))
    where
      longer : (a b : ℕ) → b ≡ a + 1 → first + b ≡ suc (first + a)
      longer a b q = omega (arith, q)

told-type : (t : Trees) (i : ℕ) (rest : List Sort) → some_node (is_label_of of_type i) t ≡ true → all_stand t (suc i) rest ≡ true → all_stand t i (of_type ∷ rest) ≡ true
told-type t i rest h g = and _ _ h g

told-const : (t : Trees) (i : ℕ) (rest : List Sort) → some_node (is_label_of of_const i) t ≡ true → all_stand t (suc i) rest ≡ true → all_stand t i (of_const ∷ rest) ≡ true
told-const t i rest h g = and _ _ h g

-- lifetimes are passed over
passed : (t : Trees) (i : ℕ) (ns : List (List ℕ)) (rest : List Sort) → all_stand t (i + length ns) rest ≡ true → all_stand t i (of-sort of_lifetime ns ++ rest) ≡ true
passed t i [] rest h = subst (λ k. all_stand t k rest ≡ true) (zero-more i) h
  where
    zero-more : (k : ℕ) → k + 0 ≡ k
    zero-more k = omega arith
passed t i (n ∷ ns) rest h = passed t (suc i) ns rest (subst (λ k. all_stand t k rest ≡ true) (one-more (length ns)) h)
  where
    one-more : (k : ℕ) → i + suc k ≡ suc i + k
    one-more k = omega arith

repeats-first : (xs ys : List (List ℕ)) → repeats (xs ++ ys) ≡ false → repeats xs ≡ false
repeats-first [] ys h = refl
repeats-first (x ∷ xs) ys h = by (is_among x xs) refl (repeats-first xs ys (or-right (is_among x (xs ++ ys)) _ h))
  where
    fewer : (zs : List (List ℕ)) → is_among x (zs ++ ys) ≡ false → is_among x zs ≡ false
    fewer [] g = refl
    fewer (z ∷ zs) g = join (bytes_eq z x) (is_among x zs) (or-left (bytes_eq z x) _ g) (fewer zs (or-right (bytes_eq z x) _ g))
      where
        join : (a b : Bool) → a ≡ false → b ≡ false → a || b ≡ false
        join false b p q = q
        join true b p q = absurd cc

    by : (b : Bool) → is_among x xs ≡ b → repeats xs ≡ false → b || repeats xs ≡ false
    by false e g = g
    by true e g = absurd (clash (is_among x xs) e (fewer xs (or-left (is_among x (xs ++ ys)) _ h)))
      where
        clash : (b : Bool) → b ≡ true → b ≡ false → ⊥
        clash true p q = absurd cc
        clash false p q = absurd cc

repeats-rest : (xs ys : List (List ℕ)) → repeats (xs ++ ys) ≡ false → repeats ys ≡ false
repeats-rest [] ys h = h
repeats-rest (x ∷ xs) ys h = repeats-rest xs ys (or-right (is_among x (xs ++ ys)) _ h)

-- all type and const parameters stand, where each name's does
pub params-stand : (t : Trees) (p : Params) → repeats (p.types ++ p.consts) ≡ false
    → ((n : List ℕ) → is_among n p.types ≡ true → some_node (is_label_of of_type (0 + length p.lifetimes + place_among n p.types)) t ≡ true)
    → ((n : List ℕ) → is_among n p.consts ≡ true → some_node (is_label_of of_const (0 + length p.lifetimes + length p.types + place_among n p.consts)) t ≡ true) → all_stand t 0 (kinds_of p) ≡ true
params-stand t p r h g =
    subst (λ z. all_stand t 0 z ≡ true) (sym (append_assoc (of-sort of_lifetime p.lifetimes) (of-sort of_type p.types) (of-sort of_const p.consts)))
    (passed t 0 p.lifetimes (of-sort of_type p.types ++ of-sort of_const p.consts)
    (subst (λ k. all_stand t k (of-sort of_type p.types ++ of-sort of_const p.consts) ≡ true) (no-more (0 + length p.lifetimes))
    (stand-from t of_type (told-type t) (0 + length p.lifetimes) p.types [] p.types (of-sort of_const p.consts) refl (repeats-first p.types p.consts r) h
    (subst (λ z. all_stand t (0 + length p.lifetimes + length p.types) z ≡ true) (append-nil (of-sort of_const p.consts))
    (subst (λ k. all_stand t k (of-sort of_const p.consts ++ []) ≡ true) (no-more (0 + length p.lifetimes + length p.types))
    (stand-from t of_const (told-const t) (0 + length p.lifetimes + length p.types) p.consts [] p.consts [] refl (repeats-rest p.types p.consts r) g refl))))))
  where
    no-more : (k : ℕ) → k + 0 ≡ k
    no-more k = omega arith

pub among-second : (n : List ℕ) (xs ys : List (List ℕ)) → is_among n ys ≡ true → is_among n (xs ++ ys) ≡ true
among-second n [] ys h = h
among-second n (x ∷ xs) ys h = by (bytes_eq x n) (among-second n xs ys h)
  where
    by : (b : Bool) → is_among n (xs ++ ys) ≡ true → b || is_among n (xs ++ ys) ≡ true
    by true g = refl
    by false g = g

-- ---- a name that is used is used as its sort
module _ (d : Declarations) (l : Line) (apart : repeats ((params_of l).types ++ (params_of l).consts) ≡ false) where
  twice : (n : List ℕ) (xs ys : List (List ℕ)) → repeats (xs ++ ys) ≡ false → is_among n xs ≡ true → is_among n ys ≡ true → ⊥
  twice n [] ys r h g = absurd cc
  twice n (x ∷ xs) ys r h g = by (bytes_eq x n) refl h (λ q. twice n xs ys (or-right (is_among x (xs ++ ys)) _ r) q g)
    where
      shown : (zs : List (List ℕ)) → is_among n ys ≡ true → is_among n (zs ++ ys) ≡ true
      shown [] q = q
      shown (z ∷ zs) q = some (bytes_eq z n) (shown zs q)
        where
          some : (b : Bool) {c : Bool} → c ≡ true → b || c ≡ true
          some true e = refl
          some false e = e

      clash : (b : Bool) → b ≡ true → b ≡ false → ⊥
      clash true p q = absurd cc
      clash false p q = absurd cc

      by : (b : Bool) → bytes_eq x n ≡ b → b || is_among n xs ≡ true → (is_among n xs ≡ true → ⊥) → ⊥
      by true e q w = clash (is_among n (xs ++ ys)) (shown xs g) (subst (λ z. is_among z (xs ++ ys) ≡ false) (same-names x n e) (or-left (is_among x (xs ++ ys)) _ r))
      by false e q w = w q

  -- whose uses are as the sort: of a parameter
  told : (p s : Sort) (n m : List ℕ) (k : ℕ) → is_line_param l n ≡ true → bytes_eq m n ≡ true → UseFits d l (name_use s m k) → is_param_of l s n k ≡ true
  told p s n m k h e f = subst (λ x. is_param_of l s x k ≡ true) (same-names m n e) (by (is_line_param l m) (subst (λ x. is_line_param l x ≡ true) (sym (same-names m n e)) h) f)
    where
      by : (b : Bool) → b ≡ true → (if b then is_param_of l s m k else option_map_or (is_type_of s k) (known (with_own d l) m) false) ≡ true → is_param_of l s m k ≡ true
      by true q g = g
      by false q g = absurd cc

  type-use : (n : List ℕ) → is_among n (params_of l).types ≡ true → (u : Use) → UseFits d l u → is_name_use n u ≡ true → is_use_as of_type n u ≡ true
  type-use n h (name_use of_type m k) f e = e
  type-use n h (name_use of_const m k) f e = absurd (twice n (params_of l).types (params_of l).consts apart h (and-left _ _ (told of_type of_const n m k (among-first n (params_of l).types (params_of l).consts h) e f)))
  type-use n h (name_use of_lifetime m k) f e = absurd (false-is (told of_type of_lifetime n m k (among-first n (params_of l).types (params_of l).consts h) e f))
    where
      false-is : false ≡ true → ⊥
      false-is q = absurd cc
  type-use n h (crate_use a) f e = absurd cc
  type-use n h (trait_use a b) f e = absurd cc
  type-use n h (lifetime_use a b) f e = absurd cc
  type-use n h (binder_use a b) f e = absurd cc
  type-use n h (variable_use a b) f e = absurd cc
  type-use n h misfit_use f e = absurd cc
  type-use n h (dyn_use a) f e = absurd cc
  type-use n h (items_use a) f e = absurd cc
  type-use n h (number_use a) f e = absurd cc

  const-use : (n : List ℕ) → is_among n (params_of l).consts ≡ true → (u : Use) → UseFits d l u → is_name_use n u ≡ true → is_use_as of_const n u ≡ true
  const-use n h (name_use of_const m k) f e = e
  const-use n h (name_use of_type m k) f e = absurd (twice n (params_of l).types (params_of l).consts apart (and-left _ _ (told of_const of_type n m k (among-second n (params_of l).types (params_of l).consts h) e f)) h)
  const-use n h (name_use of_lifetime m k) f e = absurd (false-is (told of_const of_lifetime n m k (among-second n (params_of l).types (params_of l).consts h) e f))
    where
      false-is : false ≡ true → ⊥
      false-is q = absurd cc
  const-use n h (crate_use a) f e = absurd cc
  const-use n h (trait_use a b) f e = absurd cc
  const-use n h (lifetime_use a b) f e = absurd cc
  const-use n h (binder_use a b) f e = absurd cc
  const-use n h (variable_use a b) f e = absurd cc
  const-use n h misfit_use f e = absurd cc
  const-use n h (dyn_use a) f e = absurd cc
  const-use n h (items_use a) f e = absurd cc
  const-use n h (number_use a) f e = absurd cc

  used : (s : Sort) (n : List ℕ) → ((u : Use) → UseFits d l u → is_name_use n u ≡ true → is_use_as s n u ≡ true) → (us : List Use) → AllFit d l us → list_any (is_name_use n) us ≡ true → list_any (is_use_as s n) us ≡ true
  used s n each [] f h = absurd cc
  used s n each (u ∷ us) f h = by (is_name_use n u) (is_use_as s n u) (each u f.0.0) h (used s n each us f.1)
    where
      by : (a b : Bool) → (a ≡ true → b ≡ true) → a || list_any (is_name_use n) us ≡ true → (list_any (is_name_use n) us ≡ true → list_any (is_use_as s n) us ≡ true) → b || list_any (is_use_as s n) us ≡ true
      by true true q g r = refl
      by true false q g r = absurd (false-is (q refl))
        where
          false-is : false ≡ true → ⊥
          false-is z = absurd cc
      by false true q g r = refl
      by false false q g r = r g

  pub types-used : (n : List ℕ) → is_among n (params_of l).types ≡ true → (us : List Use) → AllFit d l us → list_any (is_name_use n) us ≡ true → list_any (is_use_as of_type n) us ≡ true
  types-used n h us f e = used of_type n (type-use n h) us f e

  pub consts-used : (n : List ℕ) → is_among n (params_of l).consts ≡ true → (us : List Use) → AllFit d l us → list_any (is_name_use n) us ≡ true → list_any (is_use_as of_const n) us ≡ true
  consts-used n h us f e = used of_const n (const-use n h) us f e
