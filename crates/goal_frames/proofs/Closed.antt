-- A goal with a concrete instance has no placeholder variable.
use Rattle.std.proofs.Common.{◌≡◌, ℕ, suc, ◌+◌, arith, Bool, true, false, ◌||◌, List, [], ◌∷◌, map, ◌⊎◌, inl, inr, refl, sym, ◌∙◌, ap, subst, Some}
use Rattle.std.proofs.lemmas.Bool.{eqb-true}
use Rattle.type_terms.specs.Promised.Label.{Label, Sort, of_type, of_const, of_lifetime, infer, param, placeholder, canonical, bound, static}
use Rattle.type_terms.specs.Promised.Trees.{Trees, none, tree, ◌+++◌, is_sort, some_node}
use Rattle.type_terms.specs.Made.{terms, is_leaf_label}
use Rattle.infer_table.specs.Canonical.{CanonicalForm}
use Rattle.infer_table.specs.Solutions.{HasValues}
use Rattle.infer_table.specs.declared.canonical.CanonicalVarKind.{CanonicalVarKind}
use Rattle.infer_table.specs.declared.canonical.CanonicalVarKind.TheVariants.{Ty, PlaceholderTy, Const, PlaceholderConst, Region}
use Rattle.infer_table.proofs.SolutionLaws.{is_sort-equal as is-sort}
use Rattle.goal_evaluator.specs.Lists.{Every}
use Rattle.goal_evaluator.specs.Instances.{read_with, goal_read, of_sort, is_place, other_terms, term_at}
use Rattle.goal_evaluator.specs.Content.{Values, fits_kind, fits, given, fact_of}
use Rattle.type_terms.proofs.Made.{false-true, left, right}
use Rattle.goal_evaluator.proofs.Questions.{sort-of-sort, place-is-a}
use Rattle.goal_evaluator.proofs.Unplaced.{IsNotPlace}
use Rattle.goal_frames.specs.Rules.{HasNoPlace, IsClosedFact}
use Rattle.goal_evaluator.specs.Variables.{LabelStandsIn, is_variable_over}
use Rattle.goal_frames.specs.Handlers.{BareGoal, is_variable_label, places_stand}
use Rattle.goal_evaluator.proofs.Readings.{HasLeaves, made-leaves}
use Rattle.goal_frames.proofs.Asked.{IsAsked}
use Rattle.type_terms.proofs.TermBasics.{is_sort-self as sort-self}

-- ---- where a variable stands
or-cases : (a b : Bool) → (a || b) ≡ true → (a ≡ true) ⊎ (b ≡ true)
or-cases true b h = inl refl
or-cases false b h = inr h

variable-label : (k : Sort) (i : ℕ) (l : Label) → is_variable_label k i l ≡ true → l ≡ canonical k i
variable-label k i (canonical s j) h = ap (λ z. canonical z j) (is-sort s k (left (is_sort s k) _ h)) ∙ ap (canonical k) (eqb-true j i (right (is_sort s k) _ h))
variable-label k i l h = absurd (false-true h)

pub some-stands : (k : Sort) (i : ℕ) (t : Trees) → some_node (is_variable_label k i) t ≡ true → LabelStandsIn (canonical k i) t
some-stands k i none h = absurd (false-true h)
some-stands k i (tree l c o) h =
    by (or-cases (is_variable_label k i l || some_node (is_variable_label k i) c) (some_node (is_variable_label k i) o) h) (λ e. some-stands k i c e) (λ e. some-stands k i o e)
  where
    here : (is_variable_label k i l ≡ true) ⊎ (some_node (is_variable_label k i) c ≡ true) → (some_node (is_variable_label k i) c ≡ true → LabelStandsIn (canonical k i) c) → LabelStandsIn (canonical k i) (tree l c o)
    here (inl e) f = inl (variable-label k i l e)
    here (inr e) f = inr (inl (f e))

    by : ((is_variable_label k i l || some_node (is_variable_label k i) c) ≡ true) ⊎ (some_node (is_variable_label k i) o ≡ true) → (some_node (is_variable_label k i) c ≡ true → LabelStandsIn (canonical k i) c)
        → (some_node (is_variable_label k i) o ≡ true → LabelStandsIn (canonical k i) o) → LabelStandsIn (canonical k i) (tree l c o)
    by (inl e) f g = here (or-cases (is_variable_label k i l) (some_node (is_variable_label k i) c) e) f
    by (inr e) f g = inr (inr (g e))

-- ---- readings without places
no-left : (x y : Trees) → HasNoPlace (x +++ y) → HasNoPlace x
no-left none y h = tt
no-left (tree (param k i) c o) y h = h
no-left (tree (placeholder k i) c o) y h = h
no-left (tree l c o) y h = (h.0, no-left o y h.1)

no-right : (x y : Trees) → HasNoPlace (x +++ y) → HasNoPlace y
no-right none y h = h
no-right (tree (param k i) c o) y h = absurd h
no-right (tree (placeholder k i) c o) y h = absurd h
no-right (tree l c o) y h = no-right o y h.1

abbrev IsFreeBelow : List Trees → Label → Trees → Type 0
IsFreeBelow xs l c = (is_leaf_label l ≡ true) ⊎ HasNoPlace (read_with (given xs) c)

no-parts : (xs : List Trees) (l : Label) (c o : Trees) → HasNoPlace (read_with (given xs) (tree l c o)) → IsFreeBelow xs l c × HasNoPlace (read_with (given xs) o)
no-parts xs (canonical of_type i) c o h = (inl refl, no-right (of_sort of_type (term_at xs i)) (read_with (given xs) o) h)
no-parts xs (canonical of_const i) c o h = (inl refl, no-right (of_sort of_const (term_at xs i)) (read_with (given xs) o) h)
no-parts xs (canonical of_lifetime i) c o h = (inl refl, h.1)
no-parts xs (infer of_type v) c o h = (inl refl, h.1)
no-parts xs (infer of_const v) c o h = (inl refl, h.1)
no-parts xs (infer of_lifetime v) c o h = (inl refl, h.1)
no-parts xs (param of_type v) c o h = (inl refl, h.1)
no-parts xs (param of_const v) c o h = (inl refl, h.1)
no-parts xs (param of_lifetime v) c o h = (inl refl, h.1)
no-parts xs (placeholder of_type v) c o h = (inl refl, h.1)
no-parts xs (placeholder of_const v) c o h = (inl refl, h.1)
no-parts xs (placeholder of_lifetime v) c o h = (inl refl, h.1)
no-parts xs (bound of_type a b) c o h = (inl refl, h.1)
no-parts xs (bound of_const a b) c o h = (inl refl, h.1)
no-parts xs (bound of_lifetime a b) c o h = (inl refl, h.1)
no-parts xs static c o h = (inl refl, h.1)
no-parts xs l c o h = (inr h.0, h.1)

no-here : (xs : List Trees) (k : Sort) (i : ℕ) (c o : Trees) → HasValues k → HasNoPlace (read_with (given xs) (tree (canonical k i) c o)) → HasNoPlace (of_sort k (term_at xs i))
no-here xs of_type i c o v h = no-left (of_sort of_type (term_at xs i)) (read_with (given xs) o) h
no-here xs of_const i c o v h = no-left (of_sort of_const (term_at xs i)) (read_with (given xs) o) h
no-here xs of_lifetime i c o v h = absurd v

no-place-read : (xs : List Trees) (k : Sort) (i : ℕ) → HasValues k → (t : Trees) → HasLeaves t → LabelStandsIn (canonical k i) t → HasNoPlace (read_with (given xs) t) → HasNoPlace (of_sort k (term_at xs i))
no-place-read xs k i v none g s h = absurd s
no-place-read xs k i v (tree l c o) g (inl e) h = no-here xs k i c o v (subst (λ z. HasNoPlace (read_with (given xs) (tree z c o))) e h)
no-place-read xs k i v (tree l c o) g (inr (inr s)) h = no-place-read xs k i v o g.2 s (no-parts xs l c o h).1
no-place-read xs k i v (tree l c o) g (inr (inl s)) h = by (no-parts xs l c o h).0 (λ f. no-place-read xs k i v c g.1 s f)
  where
    by : IsFreeBelow xs l c → (HasNoPlace (read_with (given xs) c) → HasNoPlace (of_sort k (term_at xs i))) → HasNoPlace (of_sort k (term_at xs i))
    by (inl e) f = absurd (subst (LabelStandsIn (canonical k i)) (g.0 e) s)
    by (inr e) f = f e

place-stands : (k : Sort) (x : Trees) → is_place k x ≡ true → HasNoPlace x → ⊥
place-stands k (tree (param j i) none none) h n = n
place-stands k (tree (placeholder j i) none none) h n = n
place-stands k x h n = false-true h

no-place : (xs : List Trees) (k : Sort) (i : ℕ) → HasValues k → (t : Trees) → HasLeaves t → some_node (is_variable_label k i) t ≡ true → HasNoPlace (read_with (given xs) t) → is_place k (term_at xs i) ≡ true → ⊥
no-place xs k i v t g s h p =
    place-stands k (term_at xs i) p
    (subst HasNoPlace (sort-of-sort k (term_at xs i) (place-is-a k k (term_at xs i) p v ∙ sort-self k)) (no-place-read xs k i v t g (some-stands k i t s) h))

-- ---- kinds
next-places : (xs : List Trees) (i : ℕ) (ts : List Trees) → ((j : ℕ) → term_at ts j ≡ term_at xs (i + j)) → (j : ℕ) → term_at (other_terms ts) j ≡ term_at xs (suc i + j)
next-places xs i ts e j = e (suc j) ∙ ap (term_at xs) (plus-suc i j)
  where
    plus-suc : (n m : ℕ) → n + suc m ≡ suc n + m
    plus-suc n m = omega arith

none-places : (xs : List Trees) (t : Trees) → HasLeaves t → HasNoPlace (read_with (given xs) t) → (i : ℕ) (ks : List CanonicalVarKind) (ts : List Trees) → ((j : ℕ) → term_at ts j ≡ term_at xs (i + j))
    → places_stand i ks t ≡ true → fits (map Some ks) ts ≡ true → Every IsNotPlace ks
none-places xs t g h i [] ts e p f = tt
none-places xs t g h i (PlaceholderTy ∷ ks) ts e p f =
    absurd (no-place xs of_type i tt t g (left (some_node (is_variable_label of_type i) t) _ p) h (ap (is_place of_type) (sym (e 0 ∙ ap (term_at xs) (plus-zero i))) ∙ left (fits_kind (Some PlaceholderTy) (term_at ts 0)) _ f))
  where
    plus-zero : (n : ℕ) → n + 0 ≡ n
    plus-zero n = omega arith
none-places xs t g h i (PlaceholderConst ∷ ks) ts e p f =
    absurd (no-place xs of_const i tt t g (left (some_node (is_variable_label of_const i) t) _ p) h (ap (is_place of_const) (sym (e 0 ∙ ap (term_at xs) (plus-zero i))) ∙ left (fits_kind (Some PlaceholderConst) (term_at ts 0)) _ f))
  where
    plus-zero : (n : ℕ) → n + 0 ≡ n
    plus-zero n = omega arith
none-places xs t g h i (Ty ∷ ks) ts e p f = (tt, none-places xs t g h (suc i) ks (other_terms ts) (next-places xs i ts e) p (right (fits_kind (Some Ty) (term_at ts 0)) _ f))
none-places xs t g h i (Const ∷ ks) ts e p f = (tt, none-places xs t g h (suc i) ks (other_terms ts) (next-places xs i ts e) p (right (fits_kind (Some Const) (term_at ts 0)) _ f))
none-places xs t g h i (Region ∷ ks) ts e p f = (tt, none-places xs t g h (suc i) ks (other_terms ts) (next-places xs i ts e) p (right (fits_kind (Some Region) (term_at ts 0)) _ f))

pub closed-kinds : (f : CanonicalForm) (a : BareGoal) → IsAsked f a → (v : Values) → IsClosedFact (fact_of (record { form = f; coinductive = false }) v) → Every IsNotPlace a.kinds
closed-kinds f a h v c =
    none-places v.terms a.bound.arguments (made-leaves (is_variable_over a.kinds) terms a.bound.arguments h.over)
    (subst (λ z. HasNoPlace (goal_read (given v.terms) z).predicate) h.goal c.predicate).0
    0 a.kinds v.terms (λ j. ap (term_at v.terms) (zero-plus j)) h.places (ap (λ z. fits z v.terms) (sym h.kinds) ∙ right v.proper _ c.proper)
  where
    zero-plus : (j : ℕ) → j ≡ 0 + j
    zero-plus j = omega arith
