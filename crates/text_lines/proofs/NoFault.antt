-- A line without a fault fails no test.
use Rattle.std.proofs.Common.{◌≡◌, ℕ, ◌<◌, Bool, true, false, not, List, [], ◌∷◌, length, map, Option, Some, None, refl, sym, ap, ◌∙◌, if◌then◌else◌}
use Rattle.std.specs.Prelude.{◌||◌, ◌&&◌, nat_le, is_some}
use Rattle.std.specs.List.{list_any, list_all}
use Rattle.std.specs.Option.{option_map_or}
use Rattle.std.proofs.lemmas.Bool.{leb-false}
use Rattle.text_language.specs.Promised.Syntax.{Line, crate_line, struct_line, trait_line, impl_line, prove_line, refute_line, later_line, supers_line}
use Rattle.text_language.specs.Promised.Declarations.{Declarations, Known, known}
use Rattle.text_language.specs.Uses.{crate_use, declared_name}
use Rattle.text_language.specs.Faults.{first_of, tests, fault_of, declares_taken, is_other_sort, belongs_to_crate, is_impl}
use Rattle.text_lines.specs.Faultless.{PassesTests, names_crate, NamesCrates}
use Rattle.type_terms.proofs.BooleanBasics.{true-false as not-both}

-- none of these tests holds
abbrev NoneHolds : List (ℕ × Bool) → Type 0
NoneHolds [] = Unit {0}
NoneHolds ((n, b) ∷ ts) = (b ≡ false) × NoneHolds ts

never : {n : ℕ} → Some n ≡ None → ⊥
never e = cc

none-holds : (ts : List (ℕ × Bool)) → first_of ts ≡ None → NoneHolds ts
none-holds [] e = tt
none-holds ((n, true) ∷ ts) e = absurd (never e)
none-holds ((n, false) ∷ ts) e = (refl, none-holds ts e)

pub passes-tests : (d : Declarations) (l : Line) → fault_of d l ≡ None → PassesTests d l
passes-tests d l e =
    let p = none-holds (tests d l) e in
    record {
      is_placed = p.0;
      has_free_names = p.1.0;
      has_known_names = p.1.1.0;
      has_seen_names = p.1.1.1.0;
      has_fitting_sorts = p.1.1.1.1.0;
      has_bound_params = p.1.1.1.1.1.0;
      has_other_bounds = p.1.1.1.1.1.1.0;
      is_bare_auto = p.1.1.1.1.1.1.1.0;
      is_local_auto = p.1.1.1.1.1.1.1.1.0;
      implements_open = p.1.1.1.1.1.1.1.1.1.0;
      has_asked_variables = p.1.1.1.1.1.1.1.1.1.1.0;
      refutes_bare = p.1.1.1.1.1.1.1.1.1.1.1.0;
      has_good_dyn = p.1.1.1.1.1.1.1.1.1.1.1.1.0;
      keeps_limits = p.1.1.1.1.1.1.1.1.1.1.1.1.1.0;
    }

pub or-first : (a b : Bool) → a || b ≡ false → a ≡ false
or-first true b e = absurd (not-both e)
or-first false b e = refl

pub or-second : (a b : Bool) → a || b ≡ false → b ≡ false
or-second true b e = absurd (not-both e)
or-second false b e = e

pub not-false : (a : Bool) → not a ≡ false → a ≡ true
not-false true e = refl
not-false false e = absurd (not-both e)

is-none : (o : Option Known) → is_some o ≡ false → o ≡ None
is-none None e = refl
is-none (Some k) e = absurd (not-both e)

pub declares-new : (d : Declarations) (l : Line) (n : List ℕ) → fault_of d l ≡ None → declared_name l ≡ Some n → known d n ≡ None
declares-new d l n e h =
    let taken : declares_taken d l ≡ false = or-first (declares_taken d l) _ (passes-tests d l e).has_free_names in
    is-none (known d n) (sym (ap (λ o. option_map_or (λ m. is_some (known d m)) o false) h) ∙ taken)

all-crates : (d : Declarations) (l : Line) (us : List (List ℕ)) → list_any (is_other_sort d l) (map crate_use us) ≡ false → list_all (names_crate d) us ≡ true
all-crates d l [] e = refl
all-crates d l (u ∷ us) e =
    let first : names_crate d u ≡ true = not-false (names_crate d u) (or-first (not (names_crate d u)) (list_any (is_other_sort d l) (map crate_use us)) e) in
    ap (λ b. b && list_all (names_crate d) us) first ∙ all-crates d l us (or-second (not (names_crate d u)) (list_any (is_other_sort d l) (map crate_use us)) e)

pub uses-crates : (d : Declarations) (l : Line) → fault_of d l ≡ None → NamesCrates d l
uses-crates d (crate_line n us) e = all-crates d (crate_line n us) us (passes-tests d (crate_line n us) e).has_fitting_sorts
uses-crates d (struct_line f n ps fs) e = tt
uses-crates d (trait_line f a n ps bs) e = tt
uses-crates d (impl_line ps h ks) e = tt
uses-crates d (prove_line c ps a bs ks) e = not-false (names_crate d c) (or-first (not (names_crate d c)) _ (passes-tests d (prove_line c ps a bs ks) e).has_fitting_sorts)
uses-crates d (later_line n) e = not-false (names_crate d n) (or-first (not (names_crate d n)) _ (passes-tests d (later_line n) e).has_fitting_sorts)
uses-crates d (supers_line n) e = not-false (names_crate d n) (or-first (not (names_crate d n)) _ (passes-tests d (supers_line n) e).has_fitting_sorts)
uses-crates d (refute_line c ps a bs) e = not-false (names_crate d c) (or-first (not (names_crate d c)) _ (passes-tests d (refute_line c ps a bs) e).has_fitting_sorts)

pub belongs-to-crate : (d : Declarations) (l : Line) → fault_of d l ≡ None → belongs_to_crate l ≡ true → (d.in_section ≡ false → 1 < length d.crates) × (d.in_section ≡ true → is_impl l ≡ true)
belongs-to-crate d l e h = (
  (λ q. leb-false (length d.crates) 1 (sym (ap (λ b. if b then not (is_impl l) else nat_le (length d.crates) 1) q) ∙ placed)),
  (λ q. not-false (is_impl l) (sym (ap (λ b. if b then not (is_impl l) else nat_le (length d.crates) 1) q) ∙ placed)),
)
  where
    placed : (if d.in_section then not (is_impl l) else nat_le (length d.crates) 1) ≡ false
    placed = sym (ap (λ b. b && (if d.in_section then not (is_impl l) else nat_le (length d.crates) 1)) h) ∙ (passes-tests d l e).is_placed
