-- Inference variables for parameters or variables have the names of these.
use Rattle.std.proofs.Common.{◌≡◌, ◌≢◌, ℕ, zero, suc, ◌+◌, true, false, cond, ◌&&◌, List, [], ◌∷◌, ◌++◌, map, filter, scan, zip, count_by, slice_get, is_some, if◌then◌else◌, refl, sym, ap, ◌∙◌, arith, eq-eqb, ne_eqb, true≢false}
use Rattle.std.proofs.lemmas.List.Sums.{sum_by-cons}
use Rattle.std.specs.List.{list_any}
use Rattle.std.specs.Option.{option_map_or}
use Rattle.type_terms.specs.Promised.Label.{Label, Sort, of_type, of_const, of_lifetime, infer}
use Rattle.type_terms.specs.Promised.Trees.{is_sort}
use Rattle.type_terms.specs.Codes.{same_label}
use Rattle.text_language.specs.Promised.PrintedTypes.{counted_unknowns}
use Rattle.text_language.proofs.SamePrintedTypes.{lookup}
use Rattle.type_terms.proofs.NumberBasics.{zero-more, one-up}

-- ---- numbers of unknowns
-- the number of the next unknown of a kind
abbrev pub number : Sort → ℕ → ℕ → ℕ
number of_type n m = n
number of_const n m = m
number of_lifetime n m = 0

-- the unknowns for these kinds, behind so many types and consts
abbrev pub labels_from : ℕ → ℕ → List Sort → List Label
labels_from n m [] = []
labels_from n m (of_type ∷ ss) = infer of_type n ∷ labels_from (suc n) m ss
labels_from n m (of_const ∷ ss) = infer of_const m ∷ labels_from n (suc m) ss
labels_from n m (of_lifetime ∷ ss) = infer of_lifetime 0 ∷ labels_from n m ss

one-more : (s r : Sort) (ss : List Sort) (n : ℕ) → n ≡ count_by (is_sort s) ss → cond (is_sort s r) 1 0 + n ≡ count_by (is_sort s) (r ∷ ss)
one-more s r ss n e = ap (λ k. cond (is_sort s r) 1 0 + k) e ∙ sym (sum_by-cons (λ x. cond (is_sort s x) 1 0) r ss)

abbrev scanned : List Sort → List Sort → List Label
scanned before ss = scan (λ before s. if is_sort s of_lifetime then before else s ∷ before) (λ before s. infer s (count_by (is_sort s) before)) before ss

scanned-from : (before ss : List Sort) (n m : ℕ) → n ≡ count_by (is_sort of_type) before → m ≡ count_by (is_sort of_const) before → 0 ≡ count_by (is_sort of_lifetime) before
    → scanned before ss ≡ labels_from n m ss
scanned-from before [] n m e f g = refl
scanned-from before (of_type ∷ ss) n m e f g =
    ap (λ k. infer of_type k ∷ scanned (of_type ∷ before) ss) (sym e)
    ∙ ap (λ us. infer of_type n ∷ us)
    (scanned-from (of_type ∷ before) ss (suc n) m (sym (one-up n) ∙ one-more of_type of_type before n e) (sym (zero-more m) ∙ one-more of_const of_type before m f) (one-more of_lifetime of_type before 0 g))
scanned-from before (of_const ∷ ss) n m e f g =
    ap (λ k. infer of_const k ∷ scanned (of_const ∷ before) ss) (sym f)
    ∙ ap (λ us. infer of_const m ∷ us)
    (scanned-from (of_const ∷ before) ss n (suc m) (sym (zero-more n) ∙ one-more of_type of_const before n e) (sym (one-up m) ∙ one-more of_const of_const before m f) (one-more of_lifetime of_const before 0 g))
scanned-from before (of_lifetime ∷ ss) n m e f g =
    ap (λ k. infer of_lifetime k ∷ scanned before ss) (sym g) ∙ ap (λ us. infer of_lifetime 0 ∷ us) (scanned-from before ss n m e f g)

pub counted-from : (ss : List Sort) → counted_unknowns ss ≡ labels_from 0 0 ss
counted-from ss = scanned-from [] ss 0 0 refl refl refl

-- ---- names
type-equal : (i j : ℕ) → i ≡ j → same_label (infer of_type i) (infer of_type j) ≡ true
type-equal i j e = ap (λ b. b && true) (eq-eqb i j e)

type-other : (i j : ℕ) → i ≢ j → same_label (infer of_type i) (infer of_type j) ≡ false
type-other i j e = ap (λ b. b && true) (ne_eqb i j e)

const-equal : (i j : ℕ) → i ≡ j → same_label (infer of_const i) (infer of_const j) ≡ true
const-equal i j e = ap (λ b. b && true) (eq-eqb i j e)

const-other : (i j : ℕ) → i ≢ j → same_label (infer of_const i) (infer of_const j) ≡ false
const-other i j e = ap (λ b. b && true) (ne_eqb i j e)

moved : (i n : ℕ) → suc i + n ≡ i + suc n
moved i n = omega arith

more-zero : (i : ℕ) → i ≡ i + 0
more-zero i = omega arith

module _ {A : Type 0} (name : A → List ℕ) (kind : A → Sort) where
  -- those of a kind
  abbrev pub sorted : Sort → List A → List A
  sorted s vs = filter (λ v. is_sort (kind v) s) vs

  module _ (xs : List (List ℕ)) (ls : List Label) where
    abbrev names_from : ℕ → ℕ → List Sort → List A → List (List ℕ × Label)
    names_from n m ks vs = zip (map name vs ++ xs) (labels_from n m ks ++ ls)

    -- the unknown of a kind that has number j, and is the i-th of these, has the name of the i-th
    abbrev HasName : Sort → ℕ → ℕ → List Sort → List A → List A → ℕ → Type 0
    HasName s n m ks vs ws i = (j : ℕ) → j ≡ i + number s n m → lookup (names_from n m ks vs) (infer s j) ≡ option_map_or name (slice_get ws i) (lookup (zip xs ls) (infer s j))

    type-step : (k : Sort) (v : A) (vs ws : List A) (ks : List Sort) (n m i : ℕ) → ((a b c : ℕ) → HasName of_type a b ks vs ws c) → HasName of_type n m (k ∷ ks) (v ∷ vs) (if is_sort k of_type then v ∷ ws else ws) i
    type-step of_type v vs ws ks n m zero h j e = let g : same_label (infer of_type n) (infer of_type j) ≡ true = type-equal n j (omega (arith, e)) in rw g refl
    type-step of_type v vs ws ks n m (suc i) h j e =
        let g : same_label (infer of_type n) (infer of_type j) ≡ false = type-other n j (λ q. absurd (omega (arith, e, q))) in
        rw g (h (suc n) m i j (e ∙ moved i n))
    type-step of_const v vs ws ks n m i h j e = h n (suc m) i j e
    type-step of_lifetime v vs ws ks n m i h j e = h n m i j e

    type-name : (vs : List A) (n m i : ℕ) → HasName of_type n m (map kind vs) vs (sorted of_type vs) i
    type-name [] n m i = λ j e. refl
    type-name (v ∷ vs) n m i = type-step (kind v) v vs (sorted of_type vs) (map kind vs) n m i (λ a b c. type-name vs a b c)

    const-step : (k : Sort) (v : A) (vs ws : List A) (ks : List Sort) (n m i : ℕ) → ((a b c : ℕ) → HasName of_const a b ks vs ws c) → HasName of_const n m (k ∷ ks) (v ∷ vs) (if is_sort k of_const then v ∷ ws else ws) i
    const-step of_const v vs ws ks n m zero h j e = let g : same_label (infer of_const m) (infer of_const j) ≡ true = const-equal m j (omega (arith, e)) in rw g refl
    const-step of_const v vs ws ks n m (suc i) h j e =
        let g : same_label (infer of_const m) (infer of_const j) ≡ false = const-other m j (λ q. absurd (omega (arith, e, q))) in
        rw g (h n (suc m) i j (e ∙ moved i m))
    const-step of_type v vs ws ks n m i h j e = h (suc n) m i j e
    const-step of_lifetime v vs ws ks n m i h j e = h n m i j e

    const-name : (vs : List A) (n m i : ℕ) → HasName of_const n m (map kind vs) vs (sorted of_const vs) i
    const-name [] n m i = λ j e. refl
    const-name (v ∷ vs) n m i = const-step (kind v) v vs (sorted of_const vs) (map kind vs) n m i (λ a b c. const-name vs a b c)

    -- an unknown has the name of what it stands for, or else that among the further names
    pub own-name : (s : Sort) → is_sort s of_lifetime ≡ false → (vs : List A) (i : ℕ)
        → lookup (zip (map name vs ++ xs) (counted_unknowns (map kind vs) ++ ls)) (infer s i) ≡ option_map_or name (slice_get (sorted s vs) i) (lookup (zip xs ls) (infer s i))
    own-name of_type h vs i = ap (λ us. lookup (zip (map name vs ++ xs) (us ++ ls)) (infer of_type i)) (counted-from (map kind vs)) ∙ type-name vs 0 0 i i (more-zero i)
    own-name of_const h vs i = ap (λ us. lookup (zip (map name vs ++ xs) (us ++ ls)) (infer of_const i)) (counted-from (map kind vs)) ∙ const-name vs 0 0 i i (more-zero i)
    own-name of_lifetime h vs i = absurd (true≢false h)

  -- ---- whether an unknown stands for something
  abbrev StandsFor : Sort → ℕ → ℕ → List Sort → List A → ℕ → Type 0
  StandsFor s n m ks ws i = (j : ℕ) → j ≡ i + number s n m → list_any (same_label (infer s j)) (labels_from n m ks) ≡ is_some (slice_get ws i)

  type-own-step : (k : Sort) (v : A) (ws : List A) (ks : List Sort) (n m i : ℕ) → ((a b c : ℕ) → StandsFor of_type a b ks ws c) → StandsFor of_type n m (k ∷ ks) (if is_sort k of_type then v ∷ ws else ws) i
  type-own-step of_type v ws ks n m zero h j e = let g : same_label (infer of_type j) (infer of_type n) ≡ true = type-equal j n (omega (arith, e)) in rw g refl
  type-own-step of_type v ws ks n m (suc i) h j e =
      let g : same_label (infer of_type j) (infer of_type n) ≡ false = type-other j n (λ q. absurd (omega (arith, e, q))) in
      rw g (h (suc n) m i j (e ∙ moved i n))
  type-own-step of_const v ws ks n m i h j e = h n (suc m) i j e
  type-own-step of_lifetime v ws ks n m i h j e = h n m i j e

  type-own : (vs : List A) (n m i : ℕ) → StandsFor of_type n m (map kind vs) (sorted of_type vs) i
  type-own [] n m i = λ j e. refl
  type-own (v ∷ vs) n m i = type-own-step (kind v) v (sorted of_type vs) (map kind vs) n m i (λ a b c. type-own vs a b c)

  const-own-step : (k : Sort) (v : A) (ws : List A) (ks : List Sort) (n m i : ℕ) → ((a b c : ℕ) → StandsFor of_const a b ks ws c) → StandsFor of_const n m (k ∷ ks) (if is_sort k of_const then v ∷ ws else ws) i
  const-own-step of_const v ws ks n m zero h j e = let g : same_label (infer of_const j) (infer of_const m) ≡ true = const-equal j m (omega (arith, e)) in rw g refl
  const-own-step of_const v ws ks n m (suc i) h j e =
      let g : same_label (infer of_const j) (infer of_const m) ≡ false = const-other j m (λ q. absurd (omega (arith, e, q))) in
      rw g (h n (suc m) i j (e ∙ moved i m))
  const-own-step of_type v ws ks n m i h j e = h (suc n) m i j e
  const-own-step of_lifetime v ws ks n m i h j e = h n m i j e

  const-own : (vs : List A) (n m i : ℕ) → StandsFor of_const n m (map kind vs) (sorted of_const vs) i
  const-own [] n m i = λ j e. refl
  const-own (v ∷ vs) n m i = const-own-step (kind v) v (sorted of_const vs) (map kind vs) n m i (λ a b c. const-own vs a b c)

  pub stands-for : (s : Sort) → is_sort s of_lifetime ≡ false → (vs : List A) (i : ℕ) → list_any (same_label (infer s i)) (counted_unknowns (map kind vs)) ≡ is_some (slice_get (sorted s vs) i)
  stands-for of_type h vs i = ap (list_any (same_label (infer of_type i))) (counted-from (map kind vs)) ∙ type-own vs 0 0 i i (more-zero i)
  stands-for of_const h vs i = ap (list_any (same_label (infer of_const i))) (counted-from (map kind vs)) ∙ const-own vs 0 0 i i (more-zero i)
  stands-for of_lifetime h vs i = absurd (true≢false h)
