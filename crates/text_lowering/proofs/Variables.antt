-- The variables of a question have places among those of their kinds.
use Rattle.std.proofs.Common.{◌≡◌, ℕ, suc, ◌<◌, arith, Bool, true, false, not, ◌&&◌, ◌||◌, if◌then◌else◌, List, [], ◌∷◌, map, length, refl, sym, ap, ◌∙◌, subst}
use Rattle.std.proofs.lemmas.Slice.Eq.{bytes_eq-Decides}
use Rattle.std.specs.Prelude.{filter}
use Rattle.std.specs.List.{list_any}
use Rattle.std.specs.Str.{bytes_eq}
use Rattle.type_terms.specs.Promised.Label.{Sort}
use Rattle.type_terms.specs.Promised.Trees.{is_sort}
use Rattle.infer_table.proofs.SolutionLaws.{is_sort-equal}
use Rattle.text_language.specs.Faults.{once, is_of_other_kind}
use Rattle.text_language.specs.Lowering.{place_among}
use Rattle.text_lowering.specs.QuestionVariables.{number_of}
use Rattle.type_terms.proofs.TermBasics.{is_sort-self}
use Rattle.type_terms.proofs.BooleanBasics.{true-apart as no-clash, implied as agrees}

abbrev Variables : Type 0
Variables = List (List ℕ × Sort)

-- the place of a name in a list that holds it
among-below : (n : List ℕ) (ms : List (List ℕ)) → list_any (λ m. bytes_eq m n) ms ≡ true → place_among n ms < length ms
among-below n [] h = absurd cc
among-below n (m ∷ ms) h = by (bytes_eq m n) h (among-below n ms)
  where
    by : (b : Bool) → b || list_any (λ x. bytes_eq x n) ms ≡ true → (list_any (λ x. bytes_eq x n) ms ≡ true → place_among n ms < length ms) → (if b then 0 else suc (place_among n ms)) < suc (length ms)
    by true g r = omega arith
    by false g r = let k = r g in omega (arith, k)

-- a variable of this name and kind is there
abbrev pub holds : List ℕ → Sort → Variables → Bool
holds n p vs = list_any (λ v. bytes_eq v.0 n && is_sort v.1 p) vs

names-hold : (n : List ℕ) (p : Sort) (vs : Variables) → holds n p vs ≡ true → list_any (λ m. bytes_eq m n) (map (λ v. v.0) (filter (λ v. is_sort v.1 p) vs)) ≡ true
names-hold n p [] h = absurd cc
names-hold n p (v ∷ vs) h = by (is_sort v.1 p) (bytes_eq v.0 n) refl h (names-hold n p vs)
  where
    by : (s b : Bool) → bytes_eq v.0 n ≡ b → (b && s) || holds n p vs ≡ true → (holds n p vs ≡ true → list_any (λ m. bytes_eq m n) (map (λ w. w.0) (filter (λ w. is_sort w.1 p) vs)) ≡ true)
        → list_any (λ m. bytes_eq m n) (map (λ w. w.0) (if s then v ∷ filter (λ w. is_sort w.1 p) vs else filter (λ w. is_sort w.1 p) vs)) ≡ true
    by true true e g r = ap (λ z. z || list_any (λ m. bytes_eq m n) (map (λ w. w.0) (filter (λ w. is_sort w.1 p) vs))) e
    by true false e g r = ap (λ z. z || list_any (λ m. bytes_eq m n) (map (λ w. w.0) (filter (λ w. is_sort w.1 p) vs))) e ∙ r g
    by false true e g r = r g
    by false false e g r = r g

count-is : (p : Sort) (vs : Variables) → length (map (λ v. v.0) (filter (λ v. is_sort v.1 p) vs)) ≡ number_of p (map (λ v. v.1) vs)
count-is p [] = refl
count-is p (v ∷ vs) = by (is_sort v.1 p) (count-is p vs)
  where
    by : (b : Bool) → length (map (λ w. w.0) (filter (λ w. is_sort w.1 p) vs)) ≡ number_of p (map (λ w. w.1) vs)
        → length (map (λ w. w.0) (if b then v ∷ filter (λ w. is_sort w.1 p) vs else filter (λ w. is_sort w.1 p) vs)) ≡ (if b then suc (number_of p (map (λ w. w.1) vs)) else number_of p (map (λ w. w.1) vs))
    by true e = ap suc e
    by false e = e

-- ---- each variable once
-- another of the same name is of the same kind
abbrev OneKind : List ℕ → Sort → Variables → Type 0
OneKind n p [] = Unit {0}
OneKind n p (v ∷ vs) = (bytes_eq v.0 n ≡ true → is_sort v.1 p ≡ true) × OneKind n p vs

same-name : (a b n : List ℕ) → bytes_eq a n ≡ true → bytes_eq a b ≡ true → bytes_eq b n ≡ true
same-name a b n h g = subst (λ z. bytes_eq z n ≡ true) ((bytes_eq-Decides a b).0 g) h

kept-there : (n m : List ℕ) (p : Sort) → bytes_eq m n ≡ false → (ws : Variables) → holds n p ws ≡ true → holds n p (filter (λ w. not (bytes_eq w.0 m)) ws) ≡ true
kept-there n m p d [] h = absurd cc
kept-there n m p d (w ∷ ws) h = by (bytes_eq w.0 m) refl (bytes_eq w.0 n) refl (is_sort w.1 p) refl h (kept-there n m p d ws)
  where
    by : (a : Bool) → bytes_eq w.0 m ≡ a → (b : Bool) → bytes_eq w.0 n ≡ b → (s : Bool) → is_sort w.1 p ≡ s → (b && s) || holds n p ws ≡ true → (holds n p ws ≡ true → holds n p (filter (λ x. not (bytes_eq x.0 m)) ws) ≡ true)
        → holds n p (if not a then w ∷ filter (λ x. not (bytes_eq x.0 m)) ws else filter (λ x. not (bytes_eq x.0 m)) ws) ≡ true
    by true e true f s u g r = absurd (no-clash (bytes_eq m n) (same-name w.0 m n f e) d)
    by true e false f s u g r = r g
    by false e true f true u g r = ap (λ z. (z && is_sort w.1 p) || holds n p (filter (λ x. not (bytes_eq x.0 m)) ws)) f ∙ ap (λ z. z || holds n p (filter (λ x. not (bytes_eq x.0 m)) ws)) u
    by false e true f false u g r = ap (λ z. (z && is_sort w.1 p) || holds n p (filter (λ x. not (bytes_eq x.0 m)) ws)) f ∙ ap (λ z. z || holds n p (filter (λ x. not (bytes_eq x.0 m)) ws)) u ∙ r g
    by false e false f s u g r = ap (λ z. (z && is_sort w.1 p) || holds n p (filter (λ x. not (bytes_eq x.0 m)) ws)) f ∙ r g

once-holds : (n : List ℕ) (p : Sort) (vs : Variables) → OneKind n p vs → holds n p vs ≡ true → holds n p (once vs) ≡ true
once-holds n p [] o h = absurd cc
once-holds n p (v ∷ vs) o h = by (bytes_eq v.0 n) refl h (once-holds n p vs o.1)
  where
    by : (b : Bool) → bytes_eq v.0 n ≡ b → (b && is_sort v.1 p) || holds n p vs ≡ true → (holds n p vs ≡ true → holds n p (once vs) ≡ true)
        → (bytes_eq v.0 n && is_sort v.1 p) || holds n p (filter (λ w. not (bytes_eq w.0 v.0)) (once vs)) ≡ true
    by true e g r = ap (λ z. (z && is_sort v.1 p) || holds n p (filter (λ w. not (bytes_eq w.0 v.0)) (once vs))) e ∙ ap (λ z. z || holds n p (filter (λ w. not (bytes_eq w.0 v.0)) (once vs))) (o.0 e)
    by false e g r = ap (λ z. (z && is_sort v.1 p) || holds n p (filter (λ w. not (bytes_eq w.0 v.0)) (once vs))) e ∙ kept-there n v.0 p e (once vs) (r g)

place-below : (n : List ℕ) (p : Sort) (vs : Variables) → OneKind n p vs → holds n p vs ≡ true → place_among n (map (λ v. v.0) (filter (λ v. is_sort v.1 p) (once vs))) < number_of p (map (λ v. v.1) (once vs))
place-below n p vs o h =
    subst (λ k. place_among n (map (λ v. v.0) (filter (λ v. is_sort v.1 p) (once vs))) < k) (count-is p (once vs))
    (among-below n (map (λ v. v.0) (filter (λ v. is_sort v.1 p) (once vs))) (names-hold n p (once vs) (once-holds n p vs o h)))

-- ---- no variable is of two kinds
either : (a b : Bool) → a || b ≡ false → (a ≡ false) × (b ≡ false)
either false b h = (refl, h)
either true b h = absurd cc

-- the same seen from the other side
flip-name : (a b : List ℕ) → bytes_eq a b ≡ true → bytes_eq b a ≡ true
flip-name a b h = (bytes_eq-Decides b a).1 (sym ((bytes_eq-Decides a b).0 h))

flip-sort : (p q : Sort) → is_sort p q ≡ true → is_sort q p ≡ true
flip-sort p q h = subst (λ z. is_sort z p ≡ true) (is_sort-equal p q h) (is_sort-self p)

one-kind : (n : List ℕ) (p : Sort) (vs : Variables) → list_any (is_of_other_kind (n, p)) vs ≡ false → OneKind n p vs
one-kind n p [] h = tt
one-kind n p (v ∷ vs) h =
    let x = either (bytes_eq n v.0 && not (is_sort p v.1)) (list_any (is_of_other_kind (n, p)) vs) h in
    ((λ e. flip-sort p v.1 (agrees (bytes_eq n v.0) (is_sort p v.1) x.0 (flip-name v.0 n e))), one-kind n p vs x.1)

-- ---- all variables of a list
held-here : (n : List ℕ) (p : Sort) (vs : Variables) → (bytes_eq n n && is_sort p p) || holds n p vs ≡ true
held-here n p vs = ap (λ b. (b && is_sort p p) || holds n p vs) ((bytes_eq-Decides n n).1 refl) ∙ ap (λ b. b || holds n p vs) (is_sort-self p)

held-behind : (n : List ℕ) (p : Sort) (v : List ℕ × Sort) (vs : Variables) → holds n p vs ≡ true → (bytes_eq v.0 n && is_sort v.1 p) || holds n p vs ≡ true
held-behind n p v vs h = by (bytes_eq v.0 n && is_sort v.1 p)
  where
    by : (b : Bool) → b || holds n p vs ≡ true
    by true = refl
    by false = h

-- each of these has its place among all of its kind, each taken once
abbrev pub ArePlaced : Variables → Variables → Type 0
ArePlaced all [] = Unit {0}
ArePlaced all (v ∷ vs) = (place_among v.0 (map (λ w. w.0) (filter (λ w. is_sort w.1 v.1) (once all))) < number_of v.1 (map (λ w. w.1) (once all))) × ArePlaced all vs

pub are-placed : (all vs : Variables) → ((n : List ℕ) (p : Sort) → holds n p vs ≡ true → holds n p all ≡ true) → list_any (λ v. list_any (is_of_other_kind v) all) vs ≡ false → ArePlaced all vs
are-placed all [] h o = tt
are-placed all (v ∷ vs) h o =
    let x = either (list_any (is_of_other_kind v) all) (list_any (λ w. list_any (is_of_other_kind w) all) vs) o in (
      place-below v.0 v.1 all (one-kind v.0 v.1 all x.0) (h v.0 v.1 (held-here v.0 v.1 vs)),
      are-placed all vs (λ n p g. h n p (held-behind n p v vs g)) x.1,
    )
