-- The values of a goal's variables determine the first slots of a table.
use Rattle.std.proofs.Common.{◌≡◌, ℕ, zero, suc, ◌+◌, arith, Bool, true, false, List, [], ◌∷◌, map, inl, inr, refl, sym, ◌∙◌, ap, subst, Option, Some, None, if◌then◌else◌}
use Rattle.type_terms.specs.Promised.Label.{Label, Sort, of_type, of_const, of_lifetime, canonical, placeholder, static}
use Rattle.type_terms.specs.Promised.Trees.{Trees, none, tree, leaf, ◌+++◌, is_sort}
use Rattle.type_terms.specs.Trees.{is_a}
use Rattle.type_terms.specs.Made.{terms, is_made}
use Rattle.infer_table.specs.Solutions.{HasValues}
use Rattle.infer_table.specs.declared.canonical.CanonicalVarKind.{CanonicalVarKind}
use Rattle.infer_table.specs.declared.canonical.CanonicalVarKind.TheVariants.{Ty, PlaceholderTy, Const, PlaceholderConst, Region}
use Rattle.infer_table.specs.Raw.{sort_of_kind}
use Rattle.infer_table.proofs.SolutionLaws.{is_sort-equal as is-sort}
use Rattle.goal_evaluator.specs.Instances.{default_label, of_sort, as_place, first_term, other_terms, term_at}
use Rattle.goal_evaluator.specs.Content.{Values, fits_kind, fits, ChosenTerms, reading_of}
use Rattle.goal_evaluator.specs.FrameTables.{kind_at, IsOwn, AreOwn, FrameTable, HaveValues, Allows}
use Rattle.goal_evaluator.specs.TableAnswers.{is_kind_of}
use Rattle.type_terms.proofs.Made.{false-true, left, right}
use Rattle.goal_evaluator.proofs.Reading.{append-none, EachLabel, read-lifetime}
use Rattle.goal_evaluator.proofs.Labels.{IsGoodLabel, made-labels}
use Rattle.goal_evaluator.specs.Variables.{LabelStandsIn, is_variable_over}
use Rattle.goal_evaluator.proofs.Readings.{AgreeIn}
use Rattle.infer_table.proofs.TypeBasics.{some-kind}

-- ---- slots
-- what the slot of a variable of this kind is, where the variable has this value
abbrev pub own_slot : CanonicalVarKind → Trees → Trees
own_slot Ty x = of_sort of_type x
own_slot Const x = of_sort of_const x
own_slot PlaceholderTy x = as_place of_type x +++ none
own_slot PlaceholderConst x = as_place of_const x +++ none
own_slot Region x = leaf static

first-slot : (s : ChosenTerms) (place : ℕ) (k : CanonicalVarKind) (ks : List CanonicalVarKind) (l : Label) (ls : List Label) (ts : List Trees) → IsOwn place k l
    → HaveValues (k ∷ ks) ts (map (reading_of s) (l ∷ ls)) → first_term ts ≡ term_at s.own.terms place → reading_of s l ≡ own_slot k (first_term ts)
first-slot s place Ty ks l ls ts o h e = sym h.0
first-slot s place Const ks l ls ts o h e = sym h.0
first-slot s place PlaceholderTy ks l ls ts o h e = ap (reading_of s) o ∙ ap (λ z. as_place of_type z +++ none) (sym e)
first-slot s place PlaceholderConst ks l ls ts o h e = ap (reading_of s) o ∙ ap (λ z. as_place of_const z +++ none) (sym e)
first-slot s place Region ks l ls ts o h e = read-lifetime s l none (ap (λ z. is_sort z of_lifetime) o)

other-values : (k : CanonicalVarKind) (ks : List CanonicalVarKind) (ts : List Trees) (x : Trees) (xs : List Trees) → HaveValues (k ∷ ks) ts (x ∷ xs) → HaveValues ks (other_terms ts) xs
other-values Ty ks ts x xs h = h.1
other-values Const ks ts x xs h = h.1
other-values PlaceholderTy ks ts x xs h = h
other-values PlaceholderConst ks ts x xs h = h
other-values Region ks ts x xs h = h

slots-from : (s : ChosenTerms) (place : ℕ) (ks : List CanonicalVarKind) (ls : List Label) (ts : List Trees) → AreOwn place ks ls → HaveValues ks ts (map (reading_of s) ls)
    → ((j : ℕ) → term_at ts j ≡ term_at s.own.terms (place + j)) → (i : ℕ) (k : CanonicalVarKind) → kind_at ks i ≡ Some k → term_at (map (reading_of s) ls) i ≡ own_slot k (term_at ts i)
slots-from s place [] ls ts o h e i k q = absurd (cc)
slots-from s place (j ∷ ks) [] ts o h e i k q = absurd o
slots-from s place (j ∷ ks) (l ∷ ls) ts o h e zero k q =
    first-slot s place j ks l ls ts o.0 h (e zero ∙ ap (term_at s.own.terms) (plus-zero place)) ∙ ap (λ z. own_slot z (first_term ts)) (some-kind j k q)
  where
    plus-zero : (n : ℕ) → n + zero ≡ n
    plus-zero n = omega arith
slots-from s place (j ∷ ks) (l ∷ ls) ts o h e (suc i) k q =
    slots-from s (suc place) ks ls (other_terms ts) o.1 (other-values j ks ts (reading_of s l) (map (reading_of s) ls) h) (λ m. e (suc m) ∙ ap (term_at s.own.terms) (plus-suc place m)) i k q
  where
    plus-suc : (n m : ℕ) → n + suc m ≡ suc n + m
    plus-suc n m = omega arith

pub slot-is : (t : FrameTable) (s : ChosenTerms) → Allows t s → (i : ℕ) (k : CanonicalVarKind) → kind_at t.kinds i ≡ Some k → term_at s.slots i ≡ own_slot k (term_at s.own.terms i)
slot-is t s a i k q =
    ap (λ z. term_at z i) a.slots
    ∙ slots-from s 0 t.kinds t.labels s.own.terms a.made.own (subst (HaveValues t.kinds s.own.terms) a.slots a.own) (λ j. ap (term_at s.own.terms) (zero-plus j)) i k q
  where
    zero-plus : (j : ℕ) → j ≡ 0 + j
    zero-plus j = omega arith

-- ---- the kinds of variables that stand in made terms
pub each-stands : (P : Label → Type 0) (l : Label) (t : Trees) → EachLabel P t → LabelStandsIn l t → P l
each-stands P l none e s = absurd s
each-stands P l (tree m c o) e (inl q) = subst P q e.0
each-stands P l (tree m c o) e (inr (inl s)) = each-stands P l c e.1 s
each-stands P l (tree m c o) e (inr (inr s)) = each-stands P l o e.2 s

pub record HasKind (kinds : List CanonicalVarKind) (k : Sort) (i : ℕ) : Type 0 where
  pub kind : CanonicalVarKind
  pub is : kind_at kinds i ≡ Some kind
  pub sort : sort_of_kind kind ≡ k

pub kind-of : (kinds : List CanonicalVarKind) (t : Trees) → is_made (is_variable_over kinds) terms t ≡ true → (k : Sort) (i : ℕ) → LabelStandsIn (canonical k i) t → HasKind kinds k i
kind-of kinds t h k i s = by (kind_at kinds i) refl (each-stands (IsGoodLabel (is_variable_over kinds)) (canonical k i) t (made-labels (is_variable_over kinds) terms t h) s refl)
  where
    by : (o : Option CanonicalVarKind) → kind_at kinds i ≡ o → is_kind_of k o ≡ true → HasKind kinds k i
    by None e q = absurd (false-true q)
    by (Some j) e q = record { kind = j; is = e; sort = is-sort (sort_of_kind j) k q }

-- ---- values as slots have them
default-is : (k : Sort) → is_a k (leaf (default_label k)) ≡ true
default-is of_type = refl
default-is of_const = refl
default-is of_lifetime = refl

pub of-sort-is : (k : Sort) (t : Trees) → is_a k (of_sort k t) ≡ true
of-sort-is k t = by (is_a k t) refl
  where
    by : (b : Bool) → is_a k t ≡ b → is_a k (if b then t else leaf (default_label k)) ≡ true
    by true e = e
    by false e = default-is k

pub of-sort-twice : (k : Sort) (t : Trees) → of_sort k (of_sort k t) ≡ of_sort k t
of-sort-twice k t = ap (λ b. if b then of_sort k t else leaf (default_label k)) (of-sort-is k t)

pub fits-at : (ks : List CanonicalVarKind) (ts : List Trees) → fits (map Some ks) ts ≡ true → (i : ℕ) (k : CanonicalVarKind) → kind_at ks i ≡ Some k → fits_kind (Some k) (term_at ts i) ≡ true
fits-at [] ts h i k q = absurd (cc)
fits-at (j ∷ ks) ts h zero k q = subst (λ z. fits_kind (Some z) (first_term ts) ≡ true) (some-kind j k q) (left (fits_kind (Some j) (first_term ts)) _ h)
fits-at (j ∷ ks) ts h (suc i) k q = fits-at ks (other_terms ts) (right (fits_kind (Some j) (first_term ts)) _ h) i k q

own-agrees : (j : CanonicalVarKind) (k : Sort) (x : Trees) → sort_of_kind j ≡ k → HasValues k → fits_kind (Some j) x ≡ true → of_sort k x ≡ of_sort k (own_slot j x)
own-agrees Ty k x e v f = subst (λ z. of_sort z x ≡ of_sort z (of_sort of_type x)) e (sym (of-sort-twice of_type x))
own-agrees Const k x e v f = subst (λ z. of_sort z x ≡ of_sort z (of_sort of_const x)) e (sym (of-sort-twice of_const x))
own-agrees PlaceholderTy k x e v f = ap (of_sort k) (sym (append-none (as_place of_type x) ∙ ap (λ b. if b then x else leaf (placeholder of_type 0)) f))
own-agrees PlaceholderConst k x e v f = ap (of_sort k) (sym (append-none (as_place of_const x) ∙ ap (λ b. if b then x else leaf (placeholder of_const 0)) f))
own-agrees Region k x e v f = absurd (subst HasValues (sym e) v)

-- where the values fit, the goal is read as with the slots
pub own-slots-agree : (t : FrameTable) (s : ChosenTerms) → Allows t s → fits (map Some t.kinds) s.own.terms ≡ true → (x : Trees) → is_made (is_variable_over t.kinds) terms x ≡ true → AgreeIn s.own.terms s.slots x
own-slots-agree t s a f x h k i v st =
    let y = kind-of t.kinds x h k i st in
    own-agrees y.kind k (term_at s.own.terms i) y.sort v (fits-at t.kinds s.own.terms f i y.kind y.is) ∙ ap (of_sort k) (sym (slot-is t s a i y.kind y.is))

-- the same values have the same slots
pub slots-agree : (t : FrameTable) (s r : ChosenTerms) → Allows t s → Allows t r → s.own ≡ r.own → (x : Trees) → is_made (is_variable_over t.kinds) terms x ≡ true → AgreeIn s.slots r.slots x
slots-agree t s r a b e x h k i v st =
    let y = kind-of t.kinds x h k i st in
    ap (of_sort k) (slot-is t s a i y.kind y.is ∙ ap (λ (z : Values). own_slot y.kind (term_at z.terms i)) e ∙ sym (slot-is t r b i y.kind y.is))
