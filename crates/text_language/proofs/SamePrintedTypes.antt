-- A term is printed in the same way if its inference variables have the same texts.
use Rattle.std.proofs.Common.{◌≡◌, ℕ, zero, suc, ◌-◌, min, Bool, true, false, ◌&&◌, ◌||◌, List, [], ◌∷◌, ◌++◌, find, fold, length, take, slice_get, unwrap_or, Option, Some, None, codes, ◌==◌, if◌then◌else◌, refl, sym, ap, ap₂, ◌∙◌, append_assoc, append-nil, arith, true≢false, ne_eqb}
use Rattle.std.specs.List.{join_by, flat_map, AllByRecursion}
use Rattle.std.specs.Option.{option_map_or}
use Rattle.type_terms.specs.Promised.Label.{Label, Sort, of_type, of_const, of_lifetime, array, slice, tuple, dynamic, static, int, uint, adt, fn_ptr, ref, raw_pointer, principal, param, placeholder, infer, canonical, bound, predicate}
use Rattle.type_terms.specs.Promised.Trees.{Trees, none, tree, leaf, sort_of, is_sort}
use Rattle.type_terms.specs.Codes.{same, same_label}
use Rattle.text_language.specs.Promised.Declarations.{Declarations}
use Rattle.text_language.specs.Output.{Names, between, angled, tuple_text, inputs, last_text, is_unit, ends_in_unit, int_name, node_text, texts, type_text}
use Rattle.text_language.specs.Names.{struct_text, trait_text, text_at}
use Rattle.text_language.specs.Promised.PrintedTypes.{label_text, angle_list, final_text, has_unit_last, printed_node, printed_trees, unknowns_within}
use Rattle.type_terms.proofs.BooleanBasics.{no-and, no-more as or-no}

-- ---- lists
pub joined : (c u : List ℕ) (ts : List (List ℕ)) → u ++ flat_map (λ t. c ++ t) ts ≡ between c (u ∷ ts)
joined c u [] = append-nil u
joined c u (t ∷ ts) = ap (λ x. u ++ x) (append_assoc c t (flat_map (λ t. c ++ t) ts) ∙ ap (λ x. c ++ x) (joined c t ts)) ∙ sym (append_assoc u c (between c (t ∷ ts)))

pub join-between : (c : List ℕ) (ts : List (List ℕ)) → join_by (λ t. t) c ts ≡ between c ts
join-between c [] = refl
join-between c (t ∷ ts) = joined c t ts

last-from : (a t : List ℕ) (ts : List (List ℕ)) → fold (λ _ u. u) a (t ∷ ts) ≡ last_text (t ∷ ts)
last-from a t [] = refl
last-from a t (u ∷ ts) = last-from t u ts

pub final-last : (ts : List (List ℕ)) → final_text ts ≡ last_text ts
final-last [] = refl
final-last (t ∷ ts) = last-from [] t ts

taken-inputs : (n : ℕ) (ts : List (List ℕ)) → n ≡ length ts - 1 → take n ts ≡ inputs ts
taken-inputs zero [] e = refl
taken-inputs (suc n) [] e = absurd (omega (arith, e))
taken-inputs zero (t ∷ []) e = refl
taken-inputs (suc n) (t ∷ []) e = absurd (omega (arith, e))
taken-inputs zero (t ∷ u ∷ ts) e = absurd (omega (arith, e))
taken-inputs (suc n) (t ∷ u ∷ ts) e = ap (λ x. t ∷ x) (taken-inputs n (u ∷ ts) (omega (arith, e)))

angle-same : (ts : List (List ℕ)) → angle_list ts ≡ angled ts
angle-same [] = refl
angle-same (t ∷ ts) =
    ap (λ (b : Bool). if b then [] else codes "<" ++ (t ++ flat_map (λ u. codes ", " ++ u) ts) ++ codes ">") (ne_eqb (suc (length ts)) 0 (λ e. absurd (omega (arith, e))))
    ∙ ap (λ x. codes "<" ++ x ++ codes ">") (joined (codes ", ") t ts)

tuple-same : (ts : List (List ℕ)) → codes "(" ++ join_by (λ t. t) (codes ", ") ts ++ (if length ts == 1 then codes ",)" else codes ")") ≡ tuple_text ts
tuple-same [] = refl
tuple-same (t ∷ []) = ap (λ x. codes "(" ++ x ++ codes ",)") (append-nil t)
tuple-same (t ∷ u ∷ ts) =
    ap (λ (b : Bool). codes "(" ++ (t ++ flat_map (λ v. codes ", " ++ v) (u ∷ ts)) ++ (if b then codes ",)" else codes ")")) (ne_eqb (suc (suc (length ts))) 1 (λ e. absurd (omega (arith, e))))
    ∙ ap (λ x. codes "(" ++ x ++ codes ")") (joined (codes ", ") t (u ∷ ts))

-- ---- the output of a fn
unit-label : (l : Label) (c : Trees) → same (tree l c none) (leaf tuple) ≡ is_unit l c
unit-label tuple none = refl
unit-label tuple (tree m d o) = refl
unit-label l c = refl

more-behind : (l m : Label) (c d o : Trees) → same (tree l c (tree m d o)) (leaf tuple) ≡ false
more-behind l m c d o = ap (λ b. same_label l tuple && b) (no-and (same c none)) ∙ no-and (same_label l tuple)

unit-same : (c : Trees) → has_unit_last c ≡ ends_in_unit c
unit-same none = refl
unit-same (tree l c none) = or-no (same (tree l c none) (leaf tuple)) ∙ unit-label l c
unit-same (tree l c (tree m d o)) = ap (λ b. b || has_unit_last (tree m d o)) (more-behind l m c d o) ∙ unit-same (tree m d o)

-- ---- integers
widest : (n : ℕ) → int_name (suc (suc (suc (suc (suc n))))) ≡ codes "size"
widest n =
    let k = suc (suc (suc (suc (suc n)))) in
    rw (ne_eqb k 0 (λ e. absurd (omega (arith, e))), ne_eqb k 1 (λ e. absurd (omega (arith, e))), ne_eqb k 2 (λ e. absurd (omega (arith, e))), ne_eqb k 3 (λ e. absurd (omega (arith, e))), ne_eqb k 4 (λ e. absurd (omega (arith, e)))) refl

five : (n : ℕ) → min (suc (suc (suc (suc (suc n))))) 5 ≡ 5
five n = omega arith

int-same : (names : List (List ℕ × Label)) (n : ℕ) → label_text names (int (min n 5)) ≡ codes "i" ++ int_name n
int-same names zero = refl
int-same names (suc zero) = refl
int-same names (suc (suc zero)) = refl
int-same names (suc (suc (suc zero))) = refl
int-same names (suc (suc (suc (suc zero)))) = refl
int-same names (suc (suc (suc (suc (suc n))))) = ap (λ k. label_text names (int k)) (five n) ∙ ap (λ x. codes "i" ++ x) (sym (widest n))

uint-same : (names : List (List ℕ × Label)) (n : ℕ) → label_text names (uint (min n 5)) ≡ codes "u" ++ int_name n
uint-same names zero = refl
uint-same names (suc zero) = refl
uint-same names (suc (suc zero)) = refl
uint-same names (suc (suc (suc zero))) = refl
uint-same names (suc (suc (suc (suc zero)))) = refl
uint-same names (suc (suc (suc (suc (suc n))))) = ap (λ k. label_text names (uint k)) (five n) ∙ ap (λ x. codes "u" ++ x) (sym (widest n))

-- ---- names
abbrev pub is_infer : Label → Bool
is_infer (infer s i) = true
is_infer l = false

-- the names are those of unknowns
abbrev pub OfUnknowns : List (List ℕ × Label) → Type 0
OfUnknowns names = AllByRecursion (λ n. is_infer n.1 ≡ true) names

abbrev pub lookup : List (List ℕ × Label) → Label → List ℕ
lookup names l = option_map_or (λ n. n.0) (find (λ n. same_label n.1 l) names) []

apart : (l m : Label) → is_infer l ≡ true → is_infer m ≡ false → same_label l m ≡ false
apart (infer s i) (infer r j) h g = absurd (true≢false g)
apart (infer s i) m h g = refl
apart l m h g = absurd (true≢false (sym h))

unnamed : (names : List (List ℕ × Label)) → OfUnknowns names → (l : Label) → is_infer l ≡ false → lookup names l ≡ []
unnamed [] h l g = refl
unnamed (n ∷ names) h l g = let e : same_label n.1 l ≡ false = apart n.1 l h.0 g in rw e (unnamed names h.1 l g)

text-or-none : (o : Option (List ℕ)) → unwrap_or o [] ≡ option_map_or (λ n. n) o []
text-or-none None = refl
text-or-none (Some n) = refl

-- ---- trees
-- the names that texts of types are made of
abbrev pub given_names : Declarations → List (List ℕ) → (Sort → ℕ → List ℕ) → Names
given_names d ps f = record { of_struct = struct_text d; of_trait = trait_text d; of_param = λ s i. []; of_placeholder = λ s i. text_at ps i; of_unknown = f }

-- an unknown that is printed has the same text
abbrev pub Agrees : (Sort → ℕ → List ℕ) → List (List ℕ × Label) → Label → Type 0
Agrees f names (infer of_lifetime i) = Unit {0}
Agrees f names (infer s i) = lookup names (infer s i) ≡ f s i
Agrees f names l = Unit {0}

pub all-left : {A : Type 0} (P : A → Type 0) (xs ys : List A) → AllByRecursion P (xs ++ ys) → AllByRecursion P xs
all-left P [] ys h = tt
all-left P (x ∷ xs) ys h = (h.0, all-left P xs ys h.1)

pub all-right : {A : Type 0} (P : A → Type 0) (xs ys : List A) → AllByRecursion P (xs ++ ys) → AllByRecursion P ys
all-right P [] ys h = h
all-right P (x ∷ xs) ys h = all-right P xs ys h.1

module _ (d : Declarations) (ps : List (List ℕ)) (f : Sort → ℕ → List ℕ) (names : List (List ℕ × Label)) (named : OfUnknowns names) where
  node-same : (l : Label) (c : Trees) (ts : List (List ℕ)) → is_sort (sort_of l) of_lifetime ≡ false → Agrees f names l → printed_node d ps names l c ts ≡ node_text (given_names d ps f) l c ts
  node-same (infer of_lifetime i) c ts h g = absurd (true≢false h)
  node-same (infer of_type i) c ts h g = g
  node-same (infer of_const i) c ts h g = g
  node-same (int n) c ts h g = int-same names n
  node-same (uint n) c ts h g = uint-same names n
  node-same (adt s) c ts h g = ap (λ x. struct_text d s ++ x) (angle-same ts)
  node-same (principal n t) c ts h g = ap (λ x. trait_text d t ++ x) (angle-same ts)
  node-same (ref false) c ts h g = ap (λ x. codes "&" ++ x) (final-last ts)
  node-same (ref true) c ts h g = ap (λ x. codes "&mut " ++ x) (final-last ts)
  node-same (raw_pointer false) c ts h g = ap (λ x. codes "*const " ++ x) (final-last ts)
  node-same (raw_pointer true) c ts h g = ap (λ x. codes "*mut " ++ x) (final-last ts)
  node-same slice c ts h g = ap (λ x. codes "[" ++ x ++ codes "]") (final-last ts)
  node-same array c ts h g = ap (λ x. codes "[" ++ x ++ codes "]") (join-between (codes "; ") ts)
  node-same tuple c ts h g = tuple-same ts
  node-same dynamic c ts h g = ap (λ x. codes "dyn " ++ x) (join-between (codes " + ") ts)
  node-same (fn_ptr n) c ts h g =
      ap₂ (λ x y. codes "fn(" ++ x ++ codes ")" ++ y)
      (ap (join_by (λ t. t) (codes ", ")) (taken-inputs (length ts - 1) ts refl) ∙ join-between (codes ", ") (inputs ts))
      (ap₂ (λ (b : Bool) (x : List ℕ). if b then [] else codes " -> " ++ x) (unit-same c) (final-last ts))
  node-same static c ts h g = absurd (true≢false h)
  node-same (placeholder s i) c ts h g = text-or-none (slice_get ps i)
  node-same (param s i) c ts h g = unnamed names named (param s i) refl
  node-same (canonical s i) c ts h g = unnamed names named (canonical s i) refl
  node-same (bound s k v) c ts h g = unnamed names named (bound s k v) refl
  node-same (predicate k) c ts h g = unnamed names named (predicate k) refl
  node-same l c ts h g = refl

  -- these unknowns agree
  abbrev pub AllAgree : List Label → Type 0
  AllAgree us = AllByRecursion (Agrees f names) us

  row-same : (l : Label) (c : Trees) (ts us : List (List ℕ)) (vs ws : List (List ℕ)) → ts ≡ us → vs ≡ ws → Agrees f names l
      → (if is_sort (sort_of l) of_lifetime then vs else printed_node d ps names l c ts ∷ vs) ≡ (if is_sort (sort_of l) of_lifetime then ws else node_text (given_names d ps f) l c us ∷ ws)
  row-same l c ts us vs ws e g a = by (is_sort (sort_of l) of_lifetime) refl
    where
      by : (b : Bool) → is_sort (sort_of l) of_lifetime ≡ b → (if b then vs else printed_node d ps names l c ts ∷ vs) ≡ (if b then ws else node_text (given_names d ps f) l c us ∷ ws)
      by true h = g
      by false h = ap₂ (λ x y. x ∷ y) (node-same l c ts h a ∙ ap (node_text (given_names d ps f) l c) e) g

  pub trees-same : (t : Trees) → AllAgree (unknowns_within t) → printed_trees d ps names t ≡ texts (given_names d ps f) t
  trees-same none h = refl
  trees-same (tree (infer s i) c o) h = row-same (infer s i) c (texts (given_names d ps f) c) (texts (given_names d ps f) c) _ _ refl (trees-same o h.1) h.0
  trees-same (tree l c o) h =
      row-same l c _ _ _ _ (trees-same c (all-left (Agrees f names) (unknowns_within c) (unknowns_within o) h)) (trees-same o (all-right (Agrees f names) (unknowns_within c) (unknowns_within o) h)) tt

  pub type-same : (t : Trees) → AllAgree (unknowns_within t) → final_text (printed_trees d ps names t) ≡ type_text (given_names d ps f) t
  type-same t h = final-last (printed_trees d ps names t) ∙ ap last_text (trees-same t h)
