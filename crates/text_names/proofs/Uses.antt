-- What is found, in parts: findings of lists of uses, room, and cells that are kept.
use Rattle.std.proofs.Common.{◌≡◌, ℕ, zero, suc, ◌-◌, ◌<◌, Bool, true, false, List, [], ◌∷◌, ◌++◌, Option, Some, None, refl, sym, ap, ◌∙◌, arith, append_assoc}
use Rattle.std.specs.Prelude.{max, nat_lt, ◌==◌, not, ◌||◌}
use Rattle.std.specs.List.{list_any}
use Rattle.std.specs.Option.{option_map_or}
use Rattle.std.proofs.lemmas.Bool.Decides.{nat_tests}
use Rattle.type_terms.specs.Promised.Label.{Sort, of_type, of_const, of_lifetime}
use Rattle.text_language.specs.Uses.{Use, crate_use, name_use, trait_use, lifetime_use, binder_use, variable_use, misfit_use, dyn_use, items_use, number_use, at_place}
use Rattle.text_language.specs.Faults.{is_taken_binder, is_unknown_use, is_hidden_use, looking_crate, is_other_sort, is_use_of, is_bad_dyn, passes_in, variables_in}
use Rattle.text_language.specs.Uses.{declared_name}
use Rattle.text_names.specs.declared.findings.Findings.{Findings}
use Rattle.text_names.specs.Machine.{Sight, seen_items, findings, either, Found, using, has_room, deep_in, sinking, deepening, deeper, room_at}
use Rattle.type_terms.proofs.BooleanBasics.{or-assoc}
use Rattle.type_terms.proofs.NumberBasics.{lt-max}

or-comm : (a b : Bool) → a || b ≡ b || a
or-comm true true = refl
or-comm true false = refl
or-comm false true = refl
or-comm false false = refl

any-append : {A : Type 0} (p : A → Bool) (xs ys : List A) → list_any p (xs ++ ys) ≡ list_any p xs || list_any p ys
any-append p [] ys = refl
any-append p (x ∷ xs) ys = ap (λ b. p x || b) (any-append p xs ys) ∙ sym (or-assoc (p x) (list_any p xs) (list_any p ys))

option-any : {A : Type 0} (o : Option A) (p : A → Use → Bool) (xs ys : List Use)
    → option_map_or (λ c. list_any (p c) (xs ++ ys)) o false ≡ option_map_or (λ c. list_any (p c) xs) o false || option_map_or (λ c. list_any (p c) ys) o false
option-any None p xs ys = refl
option-any (Some c) p xs ys = any-append (p c) xs ys

option-none : {A : Type 0} (o : Option A) (p : A → Use → Bool) → option_map_or (λ c. list_any (p c) []) o false ≡ false
option-none None p = refl
option-none (Some c) p = refl

-- ---- findings
abbrev all-of : Bool → Bool → Bool → Bool → Bool → Bool → Bool → Findings
all-of a b c d e f g = record { takes_names = a; uses_unknown = b; uses_hidden = c; uses_other_sort = d; uses_own = e; has_bad_dyn = f; passes_limit = g }

findings-are : (x y : Findings) → x.takes_names ≡ y.takes_names → x.uses_unknown ≡ y.uses_unknown → x.uses_hidden ≡ y.uses_hidden → x.uses_other_sort ≡ y.uses_other_sort → x.uses_own ≡ y.uses_own
    → x.has_bad_dyn ≡ y.has_bad_dyn → x.passes_limit ≡ y.passes_limit → x ≡ y
findings-are x y p q r s t u w =
    ap (λ z. all-of z x.uses_unknown x.uses_hidden x.uses_other_sort x.uses_own x.has_bad_dyn x.passes_limit) p
    ∙ ap (λ z. all-of y.takes_names z x.uses_hidden x.uses_other_sort x.uses_own x.has_bad_dyn x.passes_limit) q
    ∙ ap (λ z. all-of y.takes_names y.uses_unknown z x.uses_other_sort x.uses_own x.has_bad_dyn x.passes_limit) r
    ∙ ap (λ z. all-of y.takes_names y.uses_unknown y.uses_hidden z x.uses_own x.has_bad_dyn x.passes_limit) s
    ∙ ap (λ z. all-of y.takes_names y.uses_unknown y.uses_hidden y.uses_other_sort z x.has_bad_dyn x.passes_limit) t
    ∙ ap (λ z. all-of y.takes_names y.uses_unknown y.uses_hidden y.uses_other_sort y.uses_own z x.passes_limit) u
    ∙ ap (λ z. all-of y.takes_names y.uses_unknown y.uses_hidden y.uses_other_sort y.uses_own y.has_bad_dyn z) w

pub findings-append : (v : Sight) (xs ys : List Use) → findings v (xs ++ ys) ≡ either (findings v xs) (findings v ys)
findings-append v xs ys =
    findings-are (findings v (xs ++ ys)) (either (findings v xs) (findings v ys)) (any-append (is_taken_binder v.line) xs ys) (any-append (is_unknown_use v.before v.line) xs ys)
    (option-any (looking_crate v.before v.line) (is_hidden_use v.before v.line) xs ys) (any-append (is_other_sort v.before v.line) xs ys)
    (option-any (declared_name v.line) is_use_of xs ys) (any-append (is_bad_dyn (seen_items v)) xs ys) (any-append passes_in xs ys)

either-assoc : (x y z : Findings) → either (either x y) z ≡ either x (either y z)
either-assoc x y z =
    findings-are (either (either x y) z) (either x (either y z)) (or-assoc x.takes_names y.takes_names z.takes_names) (or-assoc x.uses_unknown y.uses_unknown z.uses_unknown) (or-assoc x.uses_hidden y.uses_hidden z.uses_hidden)
    (or-assoc x.uses_other_sort y.uses_other_sort z.uses_other_sort) (or-assoc x.uses_own y.uses_own z.uses_own) (or-assoc x.has_bad_dyn y.has_bad_dyn z.has_bad_dyn) (or-assoc x.passes_limit y.passes_limit z.passes_limit)

either-comm : (x y : Findings) → either x y ≡ either y x
either-comm x y =
    findings-are (either x y) (either y x) (or-comm x.takes_names y.takes_names) (or-comm x.uses_unknown y.uses_unknown) (or-comm x.uses_hidden y.uses_hidden)
    (or-comm x.uses_other_sort y.uses_other_sort) (or-comm x.uses_own y.uses_own) (or-comm x.has_bad_dyn y.has_bad_dyn) (or-comm x.passes_limit y.passes_limit)

pub either-nothing : (x : Findings) → either x (all-of false false false false false false false) ≡ x
either-nothing x =
    findings-are (either x (all-of false false false false false false false)) x (or-comm x.takes_names false) (or-comm x.uses_unknown false) (or-comm x.uses_hidden false) (or-comm x.uses_other_sort false)
    (or-comm x.uses_own false) (or-comm x.has_bad_dyn false) (or-comm x.passes_limit false)

either-none : (v : Sight) (x : Findings) → either (findings v []) x ≡ x
either-none v x =
    findings-are (either (findings v []) x) x refl refl (ap (λ b. b || x.uses_hidden) (option-none (looking_crate v.before v.line) (is_hidden_use v.before v.line))) refl
    (ap (λ b. b || x.uses_own) (option-none (declared_name v.line) is_use_of)) refl refl

-- ---- uses
pub variables-append : (xs ys : List Use) → variables_in (xs ++ ys) ≡ variables_in xs ++ variables_in ys
variables-append [] ys = refl
variables-append (variable_use p n ∷ xs) ys = ap (λ vs. (n, p) ∷ vs) (variables-append xs ys)
variables-append (crate_use n ∷ xs) ys = variables-append xs ys
variables-append (name_use p n k ∷ xs) ys = variables-append xs ys
variables-append (trait_use n k ∷ xs) ys = variables-append xs ys
variables-append (lifetime_use s n ∷ xs) ys = variables-append xs ys
variables-append (binder_use s ns ∷ xs) ys = variables-append xs ys
variables-append (misfit_use ∷ xs) ys = variables-append xs ys
variables-append (dyn_use is ∷ xs) ys = variables-append xs ys
variables-append (items_use k ∷ xs) ys = variables-append xs ys
variables-append (number_use n ∷ xs) ys = variables-append xs ys

abbrev noted : Findings → List (List ℕ × Sort) → Found → Found
noted f vs a = record a { faults = f; variables = vs }

pub using-append : (v : Sight) (xs ys : List Use) (a : Found) → using v (xs ++ ys) a ≡ using v xs (using v ys a)
using-append v xs ys a =
    ap (λ f. noted f (variables_in (xs ++ ys) ++ a.variables) a) (ap (λ f. either f a.faults) (findings-append v xs ys) ∙ either-assoc (findings v xs) (findings v ys) a.faults)
    ∙ ap (λ vs. noted (either (findings v xs) (either (findings v ys) a.faults)) vs a) (ap (λ vs. vs ++ a.variables) (variables-append xs ys) ∙ append_assoc (variables_in xs) (variables_in ys) a.variables)

pub using-none : (v : Sight) (a : Found) → using v [] a ≡ a
using-none v a = ap (λ f. noted f a.variables a) (either-none v a.faults)

-- uses without a variable may come in another order
pub using-swap : (v : Sight) (xs ys : List Use) (a : Found) → variables_in xs ≡ [] → using v xs (using v ys a) ≡ using v ys (using v xs a)
using-swap v xs ys a h =
    ap (λ f. noted f (variables_in xs ++ (variables_in ys ++ a.variables)) a)
    (sym (either-assoc (findings v xs) (findings v ys) a.faults) ∙ ap (λ f. either f a.faults) (either-comm (findings v xs) (findings v ys)) ∙ either-assoc (findings v ys) (findings v xs) a.faults)
    ∙ ap (λ vs. noted (either (findings v ys) (either (findings v xs) a.faults)) vs a)
    (ap (λ n. n ++ (variables_in ys ++ a.variables)) h ∙ sym (ap (λ n. variables_in ys ++ (n ++ a.variables)) h))

-- what a cell uses itself, before or behind what stands inside it
pub using-first : (v : Sight) (own inside us : List Use) (a : Found) → variables_in own ≡ [] → us ≡ own ++ inside → using v inside (using v own a) ≡ using v us a
using-first v own inside us a h e = sym (using-swap v own inside a h) ∙ sym (using-append v own inside a) ∙ ap (λ x. using v x a) (sym e)

-- ---- room
one-less : (n k : ℕ) → not (not (n == 0)) || nat_lt (n - 1) k ≡ nat_lt n (suc k)
one-less zero k = let h : zero < suc k = omega arith in sym (is-lt zero (suc k) h)
  where
    is-lt : (a b : ℕ) → a < b → nat_lt a b ≡ true
    is-lt a b h = grind (arith, nat_tests)
one-less (suc n) k = let e : suc n - 1 ≡ n = omega arith in ap (λ b. not (not b) || nat_lt (suc n - 1) k) (more n) ∙ ap (λ m. nat_lt m k) e ∙ down n k
  where
    more : (n : ℕ) → (suc n == 0) ≡ false
    more n = grind (arith, nat_tests)

    down : (n k : ℕ) → nat_lt n k ≡ nat_lt (suc n) (suc k)
    down n k = grind (arith, nat_tests)

deep-suc : (r : Option ℕ) (k : ℕ) → not (has_room r) || deep_in (deeper r) k ≡ deep_in r (suc k)
deep-suc None k = refl
deep-suc (Some n) k = one-less n k

deep-max : (r : Option ℕ) (a b : ℕ) → deep_in r (max a b) ≡ deep_in r a || deep_in r b
deep-max None a b = refl
deep-max (Some n) a b = lt-max n a b

deep-zero : (r : Option ℕ) → deep_in r 0 ≡ false
deep-zero None = refl
deep-zero (Some n) = never n
  where
    never : (n : ℕ) → nat_lt n 0 ≡ false
    never n = grind (arith, nat_tests)

deep-at : (p : Sort) (r : Option ℕ) (k : ℕ) → deep_in (room_at p r) k ≡ deep_in r (at_place p k)
deep-at of_type r k = refl
deep-at of_const r k = sym (deep-zero r)
deep-at of_lifetime r k = sym (deep-zero r)

abbrev sunk : Bool → Found → Found
sunk b a = record a { is_deep = b }

pub sink-suc : (r : Option ℕ) (k : ℕ) (a : Found) → sinking (deeper r) k (deepening r a) ≡ sinking r (suc k) a
sink-suc r k a = ap (λ b. sunk b a) (or-assoc a.is_deep (not (has_room r)) (deep_in (deeper r) k) ∙ ap (λ b. a.is_deep || b) (deep-suc r k))

pub sink-one : (r : Option ℕ) (a : Found) → deepening r a ≡ sinking r 1 a
sink-one r a = ap (λ b. sunk b a) (ap (λ b. a.is_deep || b) (or-false (not (has_room r)) ∙ ap (λ b. not (has_room r) || b) (sym (deep-zero (deeper r))) ∙ deep-suc r 0))
  where
    or-false : (b : Bool) → b ≡ b || false
    or-false true = refl
    or-false false = refl

pub sink-max : (r : Option ℕ) (m n : ℕ) (a : Found) → sinking r m (sinking r n a) ≡ sinking r (max m n) a
sink-max r m n a = ap (λ b. sunk b a) (or-assoc a.is_deep (deep_in r n) (deep_in r m) ∙ ap (λ b. a.is_deep || b) (or-comm (deep_in r n) (deep_in r m) ∙ sym (deep-max r m n)))

pub sink-none : (r : Option ℕ) (a : Found) → sinking r 0 a ≡ a
sink-none r a = ap (λ b. sunk b a) (ap (λ b. a.is_deep || b) (deep-zero r) ∙ or-false a.is_deep)
  where
    or-false : (b : Bool) → b || false ≡ b
    or-false true = refl
    or-false false = refl

pub sink-at : (p : Sort) (r : Option ℕ) (k : ℕ) (a : Found) → sinking (room_at p r) k a ≡ sinking r (at_place p k) a
sink-at p r k a = ap (λ b. sunk (a.is_deep || b) a) (deep-at p r k)
