-- Further inference variables in the values of a query are numbered in the order in which they first occur.
use Rattle.std.proofs.Common.{◌≡◌, ℕ, zero, suc, ◌+◌, ◌≤◌, Bool, true, false, ◌&&◌, ◌||◌, List, [], ◌∷◌, ◌++◌, map, find, fold, flat_map, zip, length, slice_get, is_some, nat_lt, ◌==◌, if◌then◌else◌, refl, sym, ap, ap₂, ◌∙◌, append_assoc, length-append, arith, eq-eqb, eqb-true, le-ltb, lt-ltb, true≢false, inl, inr}
use Rattle.std.proofs.lemmas.List.{map-append}
use Rattle.std.proofs.lemmas.List.Sums.{fold-append}
use Rattle.std.proofs.lemmas.List.Folds.{list_any-append}
use Rattle.std.proofs.lemmas.Option.{slice_get_cases}
use Rattle.std.specs.List.{list_any, range_with_len, AllByRecursion}
use Rattle.std.specs.Option.{option_map_or}
use Rattle.std.specs.Prelude.{Some}
use Rattle.type_terms.specs.Promised.Label.{Label, Sort, of_type, of_const, of_lifetime, infer}
use Rattle.type_terms.specs.Promised.Trees.{Trees, none, tree, sort_of, is_sort}
use Rattle.type_terms.specs.Codes.{same_label, same_numbers, numbers}
use Rattle.text_language.specs.Promised.Declarations.{Question, Variable}
use Rattle.text_language.specs.Output.{is_in, with_unknown, place_in}
use Rattle.text_language.specs.Names.{variables_of_kind, with_free, free_unknowns}
use Rattle.text_language.specs.Promised.PrintedTypes.{counted_unknowns, unknowns_within}
use Rattle.text_language.proofs.SamePrintedTypes.{lookup}
use Rattle.text_language.proofs.SamePrintedNames.{stands-for}

-- ---- labels of unknowns
abbrev pub label_of : Sort × ℕ → Label
label_of u = infer u.0 u.1

pub and-true : (b : Bool) → b && true ≡ b
and-true true = refl
and-true false = refl

eqb-turned : (i j : ℕ) → (i == j) ≡ (j == i)
eqb-turned i j = by (i == j) refl (j == i) refl
  where
    by : (a : Bool) → (i == j) ≡ a → (b : Bool) → (j == i) ≡ b → (i == j) ≡ (j == i)
    by true h b g = h ∙ sym (eq-eqb j i (sym (eqb-true i j h)))
    by false h true g = eq-eqb i j (sym (eqb-true j i g)) ∙ sym g
    by false h false g = h ∙ sym g

test-same : (r s : Sort) (i j : ℕ) → same_label (infer r i) (infer s j) ≡ (is_sort r s && (i == j))
test-same of_type of_type i j = and-true (i == j)
test-same of_type of_const i j = refl
test-same of_type of_lifetime i j = refl
test-same of_const of_type i j = refl
test-same of_const of_const i j = and-true (i == j)
test-same of_const of_lifetime i j = refl
test-same of_lifetime of_type i j = refl
test-same of_lifetime of_const i j = refl
test-same of_lifetime of_lifetime i j = and-true (i == j)

test-turned : (r s : Sort) (i j : ℕ) → same_label (infer s j) (infer r i) ≡ (is_sort r s && (i == j))
test-turned of_type of_type i j = and-true (j == i) ∙ eqb-turned j i
test-turned of_type of_const i j = refl
test-turned of_type of_lifetime i j = refl
test-turned of_const of_type i j = refl
test-turned of_const of_const i j = and-true (j == i) ∙ eqb-turned j i
test-turned of_const of_lifetime i j = refl
test-turned of_lifetime of_type i j = refl
test-turned of_lifetime of_const i j = refl
test-turned of_lifetime of_lifetime i j = and-true (j == i) ∙ eqb-turned j i

four : (a b c d : Bool) → a ≡ true → b ≡ true → c ≡ true → d ≡ true → a && (b && (c && d)) ≡ true
four a b c d p q r s = rw (p, q, r, s) refl

label-self : (l : Label) → same_label l l ≡ true
label-self l = self (numbers l)
  where
    self : (n : ℕ × (ℕ × (ℕ × ℕ))) → same_numbers n n ≡ true
    self (a, (b, (c, d))) = four (a == a) (b == b) (c == c) (d == d) (eq-eqb a a refl) (eq-eqb b b refl) (eq-eqb c c refl) (eq-eqb d d refl)

-- ---- further unknowns, each once
abbrev pub added : List Label → Label → List Label
added us u = if is_sort (sort_of u) of_lifetime || list_any (same_label u) us then us else us ++ u ∷ []

listed-in : (s : Sort) (i : ℕ) (us : List (Sort × ℕ)) → list_any (same_label (infer s i)) (map label_of us) ≡ is_in s i us
listed-in s i [] = refl
listed-in s i (u ∷ us) = ap₂ (λ a b. a || b) (test-turned u.0 s u.1 i) (listed-in s i us)

-- what is listed stays listed
added-keeps : (l u : Label) (us : List Label) → list_any (same_label l) us ≡ true → list_any (same_label l) (added us u) ≡ true
added-keeps l u us h = by (is_sort (sort_of u) of_lifetime || list_any (same_label u) us)
  where
    by : (b : Bool) → list_any (same_label l) (if b then us else us ++ u ∷ []) ≡ true
    by true = h
    by false = list_any-append (same_label l) us (u ∷ []) ∙ ap (λ b. b || list_any (same_label l) (u ∷ [])) h

all-kept : (l : Label) (us ls : List Label) → list_any (same_label l) us ≡ true → list_any (same_label l) (fold added us ls) ≡ true
all-kept l us [] h = h
all-kept l us (u ∷ ls) h = all-kept l (added us u) ls (added-keeps l u us h)

or-true : (b : Bool) → b || (true || false) ≡ true
or-true true = refl
or-true false = refl

added-listed : (us : List Label) (l : Label) → is_sort (sort_of l) of_lifetime ≡ false → list_any (same_label l) (added us l) ≡ true
added-listed us l h = ap (λ b. list_any (same_label l) (if b || list_any (same_label l) us then us else us ++ l ∷ [])) h ∙ by (list_any (same_label l) us) refl
  where
    by : (b : Bool) → list_any (same_label l) us ≡ b → list_any (same_label l) (if b then us else us ++ l ∷ []) ≡ true
    by true g = g
    by false g = list_any-append (same_label l) us (l ∷ []) ∙ ap (λ b. list_any (same_label l) us || (b || false)) (label-self l) ∙ or-true (list_any (same_label l) us)

-- an unknown of a type or a const is listed
abbrev pub IsListed : List Label → Label → Type 0
IsListed us l = is_sort (sort_of l) of_lifetime ≡ false → list_any (same_label l) us ≡ true

pub all-listed : (us ls : List Label) → AllByRecursion (IsListed (fold added us ls)) ls
all-listed us [] = tt
all-listed us (l ∷ ls) = ((λ h. all-kept l (added us l) ls (added-listed us l h)), all-listed (added us l) ls)

length-added : (us : List Label) (l : Label) → length (added us l) ≤ suc (length us)
length-added us l = by (is_sort (sort_of l) of_lifetime || list_any (same_label l) us)
  where
    by : (b : Bool) → length (if b then us else us ++ l ∷ []) ≤ suc (length us)
    by true = omega arith
    by false = let e : length (us ++ l ∷ []) ≡ length us + 1 = length-append us (l ∷ []) in omega arith

pub length-listed : (us ls : List Label) → length (fold added us ls) ≤ length us + length ls
length-listed us [] = omega arith
length-listed us (l ∷ ls) = let e = length-added us l in let f = length-listed (added us l) ls in omega arith

-- ---- the same as they are listed by their first places
got-some : {A : Type 0} (xs : List A) (i : ℕ) → is_some (slice_get xs i) ≡ nat_lt i (length xs)
got-some xs i = elim (slice_get_cases xs i).1 [
  | inl h ↦ ap is_some h.2 ∙ sym (lt-ltb i (length xs) h.1)
  | inr h ↦ ap is_some h.1 ∙ sym (le-ltb i (length xs) h.0)
]

module _ (q : Question) where
  abbrev pub own_labels : List Label
  own_labels = counted_unknowns (map (λ v. v.kind) q.variables)

  abbrev pub all_labels : List (Sort × ℕ) → List Label
  all_labels us = own_labels ++ map label_of us

  pub listed-or : (s : Sort) (i : ℕ) (us : List (Sort × ℕ)) → is_sort s of_lifetime ≡ false → list_any (same_label (infer s i)) (all_labels us) ≡ (is_some (slice_get (variables_of_kind s q.variables) i) || is_in s i us)
  listed-or s i us h = list_any-append (same_label (infer s i)) own_labels (map label_of us) ∙ ap₂ (λ a b. a || b) (stands-for (λ v. v.text) (λ v. v.kind) s h q.variables i) (listed-in s i us)

  joined-labels : (u : Sort × ℕ) (us : List (Sort × ℕ)) → all_labels us ++ label_of u ∷ [] ≡ all_labels (us ++ u ∷ [])
  joined-labels u us = append_assoc own_labels (map label_of us) (label_of u ∷ []) ∙ ap (λ x. own_labels ++ x) (sym (map-append label_of us (u ∷ [])))

  one-listed : (s : Sort) (i : ℕ) (us : List (Sort × ℕ)) → (a b : Bool)
      → (if a || b then all_labels us else all_labels us ++ infer s i ∷ []) ≡ all_labels (if a then us else (if b then us else us ++ (s, i) ∷ []))
  one-listed s i us true b = refl
  one-listed s i us false true = refl
  one-listed s i us false false = joined-labels (s, i) us

  either : (b : Bool) (us : List (Sort × ℕ)) → all_labels us ≡ all_labels (if b then us else us)
  either true us = refl
  either false us = refl

  term-listed : (s : Sort) (i : ℕ) (us : List (Sort × ℕ)) → is_sort s of_lifetime ≡ false
      → (if list_any (same_label (infer s i)) (all_labels us) then all_labels us else all_labels us ++ infer s i ∷ []) ≡ all_labels (if nat_lt i (length (variables_of_kind s q.variables)) then us else (if is_in s i us then us else us ++ (s, i) ∷ []))
  term-listed s i us h =
      ap (λ b. if b then all_labels us else all_labels us ++ infer s i ∷ []) (listed-or s i us h ∙ ap (λ a. a || is_in s i us) (got-some (variables_of_kind s q.variables) i))
      ∙ one-listed s i us (nat_lt i (length (variables_of_kind s q.variables))) (is_in s i us)

  step-same : (s : Sort) (i : ℕ) (us : List (Sort × ℕ)) → added (all_labels us) (infer s i) ≡ all_labels (if nat_lt i (length (variables_of_kind s q.variables)) then us else with_unknown (infer s i) us)
  step-same of_type i us = term-listed of_type i us refl
  step-same of_const i us = term-listed of_const i us refl
  step-same of_lifetime i us = either (nat_lt i (length (variables_of_kind of_lifetime q.variables))) us

  with-free-same : (t : Trees) (us : List (Sort × ℕ)) → fold added (all_labels us) (unknowns_within t) ≡ all_labels (with_free q t us)
  with-free-same none us = refl
  with-free-same (tree (infer s i) c o) us =
      ap (λ x. fold added x (unknowns_within o)) (step-same s i us) ∙ with-free-same o (if nat_lt i (length (variables_of_kind s q.variables)) then us else with_unknown (infer s i) us)
  with-free-same (tree l c o) us =
      fold-append added (all_labels us) (unknowns_within c) (unknowns_within o)
      ∙ ap (λ x. fold added x (unknowns_within o)) (with-free-same c us) ∙ with-free-same o (with_free q c us)

  pub free-same : (vs : List ((Variable × Label) × Trees)) (us : List (Sort × ℕ))
      → fold added (all_labels us) (flat_map (λ v. unknowns_within v.1) vs) ≡ all_labels (free_unknowns q (map (λ v. (v.0.0, v.1)) vs) us)
  free-same [] us = refl
  free-same (v ∷ vs) us =
      fold-append added (all_labels us) (unknowns_within v.1) (flat_map (λ v. unknowns_within v.1) vs)
      ∙ ap (λ x. fold added x (flat_map (λ v. unknowns_within v.1) vs)) (with-free-same v.1 us) ∙ free-same vs (with_free q v.1 us)

-- ---- their texts
pub free-name : (g : ℕ → List ℕ) (s : Sort) (i n a : ℕ) (us : List (Sort × ℕ)) → is_in s i us ≡ true → length us ≤ n
    → lookup (zip (map g (range_with_len a n)) (map label_of us)) (infer s i) ≡ g (a + place_in s i us)
free-name g s i n a [] h k = absurd (true≢false (sym h))
free-name g s i zero a (u ∷ us) h k = absurd (omega (arith, k))
free-name g s i (suc n) a (u ∷ us) h k =
    ap (λ (b : Bool). option_map_or (λ m. m.0) (if b then Some (g a, label_of u) else find (λ m. same_label m.1 (infer s i)) (zip (map g (range_with_len (a + 1) n)) (map label_of us))) []) (test-same u.0 s u.1 i)
    ∙ by (is_sort u.0 s && (u.1 == i)) h (λ e. free-name g s i n (a + 1) us e (omega (arith, k)))
  where
    by : (b : Bool) → (b || is_in s i us) ≡ true → (is_in s i us ≡ true → lookup (zip (map g (range_with_len (a + 1) n)) (map label_of us)) (infer s i) ≡ g (a + 1 + place_in s i us))
        → option_map_or (λ m. m.0) (if b then Some (g a, label_of u) else find (λ m. same_label m.1 (infer s i)) (zip (map g (range_with_len (a + 1) n)) (map label_of us))) [] ≡ g (a + (if b then 0 else suc (place_in s i us)))
    by true e f = ap g (omega arith)
    by false e f = f e ∙ ap g (omega arith)
