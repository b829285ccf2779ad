-- Values made of given terms: each of their terms is one of these.
use Rattle.std.proofs.Common.{◌≡◌, ℕ, zero, suc, Bool, true, false, List, [], ◌∷◌, ◌++◌, map, refl, sym, ◌∙◌, ap, subst, Option, if◌then◌else◌, ◌⊎◌, inl, inr}
use Rattle.type_terms.specs.Promised.Label.{Sort, of_type, of_const, of_lifetime, placeholder}
use Rattle.type_terms.specs.Promised.Trees.{Trees, none, leaf}
use Rattle.type_terms.specs.Trees.{is_a}
use Rattle.infer_table.specs.Solutions.{HasValues}
use Rattle.infer_table.specs.declared.canonical.CanonicalVarKind.{CanonicalVarKind}
use Rattle.goal_evaluator.specs.Lists.{IsAmong}
use Rattle.goal_evaluator.proofs.Unfold.{among-left, among-right, among-map, among-parts}
use Rattle.goal_evaluator.specs.Instances.{default_label, of_sort, is_place, as_place, term_at}
use Rattle.goal_evaluator.specs.Content.{Values, NestedQuestion}
use Rattle.goal_evaluator.specs.Finite.{default_terms, each_before, lists_of, marked, made_of, MadeOfIsClosed}
use Rattle.type_terms.proofs.Made.{false-true}
use Rattle.goal_evaluator.proofs.Questions.{sort-of-sort, not-of-sort}

-- ---- membership
among-mapped : {A B : Type 0} (f : A → B) (y : B) (xs : List A) → IsAmong y (map f xs) → (x : A) × IsAmong x xs × (y ≡ f x)
among-mapped f y [] a = absurd a
among-mapped f y (x ∷ xs) (inl e) = (x, inl refl, e)
among-mapped f y (x ∷ xs) (inr a) = let r = among-mapped f y xs a in (r.0, inr r.1, r.2)

-- ---- lists of terms
-- each term is one of the choices, and there are as many as kinds
abbrev pub AreOf : List Trees → List (Option CanonicalVarKind) → List Trees → Type 0
AreOf choices [] [] = Unit {0}
AreOf choices [] (t ∷ ts) = ⊥
AreOf choices (k ∷ ks) [] = ⊥
AreOf choices (k ∷ ks) (t ∷ ts) = IsAmong t choices × AreOf choices ks ts

before-among : (t : Trees) (ts : List Trees) (rest : List Trees) (lists : List (List Trees)) → IsAmong t ts → IsAmong rest lists → IsAmong (t ∷ rest) (each_before ts lists)
before-among t [] rest lists a b = absurd a
before-among t (u ∷ us) rest lists (inl e) b =
    among-left (t ∷ rest) (map (λ r. u ∷ r) lists) (each_before us lists) (subst (λ z. IsAmong (z ∷ rest) (map (λ r. u ∷ r) lists)) (sym e) (among-map (λ r. u ∷ r) rest lists b))
before-among t (u ∷ us) rest lists (inr a) b = among-right (t ∷ rest) (map (λ r. u ∷ r) lists) (each_before us lists) (before-among t us rest lists a b)

lists-hold : (choices : List Trees) (ks : List (Option CanonicalVarKind)) (ts : List Trees) → AreOf choices ks ts → IsAmong ts (lists_of choices ks)
lists-hold c [] [] h = inl refl
lists-hold c [] (t ∷ ts) h = absurd h
lists-hold c (k ∷ ks) [] h = absurd h
lists-hold c (k ∷ ks) (t ∷ ts) h = before-among t c ts (lists_of c ks) h.0 (lists-hold c ks ts h.1)

record IsBefore (ts : List Trees) (lists : List (List Trees)) (x : List Trees) : Type 0 where
  pub first : Trees
  pub rest : List Trees
  pub first_among : IsAmong first ts
  pub rest_among : IsAmong rest lists
  pub is : x ≡ first ∷ rest

among-before : (ts : List Trees) (lists : List (List Trees)) (x : List Trees) → IsAmong x (each_before ts lists) → IsBefore ts lists x
among-before [] lists x a = absurd a
among-before (t ∷ ts) lists x a = by (among-parts x (map (λ r. t ∷ r) lists) (each_before ts lists) a) (among-before ts lists x)
  where
    by : IsAmong x (map (λ r. t ∷ r) lists) ⊎ IsAmong x (each_before ts lists) → (IsAmong x (each_before ts lists) → IsBefore ts lists x) → IsBefore (t ∷ ts) lists x
    by (inl b) f = let r = among-mapped (λ r. t ∷ r) x lists b in record { first = t; rest = r.0; first_among = inl refl; rest_among = r.1; is = r.2 }
    by (inr b) f = let r = f b in record { first = r.first; rest = r.rest; first_among = inr r.first_among; rest_among = r.rest_among; is = r.is }

lists-are : (choices : List Trees) (ks : List (Option CanonicalVarKind)) (ts : List Trees) → IsAmong ts (lists_of choices ks) → AreOf choices ks ts
lists-are c [] ts (inl e) = subst (AreOf c []) (sym e) tt
lists-are c [] ts (inr a) = absurd a
lists-are c (k ∷ ks) ts a = let x = among-before c (lists_of c ks) ts a in subst (AreOf c (k ∷ ks)) (sym x.is) (x.first_among, lists-are c ks x.rest x.rest_among)

of-more : (a b : List Trees) → ((t : Trees) → IsAmong t a → IsAmong t b) → (ks : List (Option CanonicalVarKind)) (ts : List Trees) → AreOf a ks ts → AreOf b ks ts
of-more a b f [] [] h = tt
of-more a b f [] (t ∷ ts) h = absurd h
of-more a b f (k ∷ ks) [] h = absurd h
of-more a b f (k ∷ ks) (t ∷ ts) h = (f t h.0, of-more a b f ks ts h.1)

each-of : (choices : List Trees) (ks : List (Option CanonicalVarKind)) (ts : List Trees) → AreOf choices ks ts → (t : Trees) → IsAmong t ts → IsAmong t choices
each-of c [] [] h t a = absurd a
each-of c [] (u ∷ us) h t a = absurd h
each-of c (k ∷ ks) [] h t a = absurd h
each-of c (k ∷ ks) (u ∷ us) h t (inl e) = subst (λ z. IsAmong z c) (sym e) h.0
each-of c (k ∷ ks) (u ∷ us) h t (inr a) = each-of c ks us h.1 t a

-- ---- values
pub made-hold : (q : NestedQuestion) (v : Values) (b : Bool) (ts : List Trees) → AreOf (v.terms ++ default_terms) q.form.kinds ts → IsAmong (marked b ts) (made_of q v)
made-hold q v b ts h = by b (lists-hold (v.terms ++ default_terms) q.form.kinds ts h)
  where
    by : (b : Bool) → IsAmong ts (lists_of (v.terms ++ default_terms) q.form.kinds) → IsAmong (marked b ts) (made_of q v)
    by true a =
        among-left (marked true ts) (map (marked true) (lists_of (v.terms ++ default_terms) q.form.kinds)) (map (marked false) (lists_of (v.terms ++ default_terms) q.form.kinds))
        (among-map (marked true) ts (lists_of (v.terms ++ default_terms) q.form.kinds) a)
    by false a =
        among-right (marked false ts) (map (marked true) (lists_of (v.terms ++ default_terms) q.form.kinds)) (map (marked false) (lists_of (v.terms ++ default_terms) q.form.kinds))
        (among-map (marked false) ts (lists_of (v.terms ++ default_terms) q.form.kinds) a)

pub made-are : (q : NestedQuestion) (v w : Values) → IsAmong w (made_of q v) → AreOf (v.terms ++ default_terms) q.form.kinds w.terms
made-are q v w a =
    by (among-parts w (map (marked true) (lists_of (v.terms ++ default_terms) q.form.kinds)) (map (marked false) (lists_of (v.terms ++ default_terms) q.form.kinds)) a)
  where
    at : (b : Bool) → IsAmong w (map (marked b) (lists_of (v.terms ++ default_terms) q.form.kinds)) → AreOf (v.terms ++ default_terms) q.form.kinds w.terms
    at b x =
        let r = among-mapped (marked b) w (lists_of (v.terms ++ default_terms) q.form.kinds) x in
        subst (λ (z : Values). AreOf (v.terms ++ default_terms) q.form.kinds z.terms) (sym r.2) (lists-are (v.terms ++ default_terms) q.form.kinds r.0 r.1)

    by : IsAmong w (map (marked true) (lists_of (v.terms ++ default_terms) q.form.kinds)) ⊎ IsAmong w (map (marked false) (lists_of (v.terms ++ default_terms) q.form.kinds))
        → AreOf (v.terms ++ default_terms) q.form.kinds w.terms
    by (inl x) = at true x
    by (inr x) = at false x

pub made-of-closed : MadeOfIsClosed
made-of-closed p q u v w a b =
    made-hold p u w.proper w.terms (of-more (v.terms ++ default_terms) (u.terms ++ default_terms) more p.form.kinds w.terms (made-are p v w b))
  where
    more : (t : Trees) → IsAmong t (v.terms ++ default_terms) → IsAmong t (u.terms ++ default_terms)
    more t x = by (among-parts t v.terms default_terms x)
      where
        by : IsAmong t v.terms ⊎ IsAmong t default_terms → IsAmong t (u.terms ++ default_terms)
        by (inl y) = each-of (u.terms ++ default_terms) q.form.kinds v.terms (made-are q u v a) t y
        by (inr y) = among-right t u.terms default_terms y

-- ---- terms by their places
at-place : (ts : List Trees) (i : ℕ) → IsAmong (term_at ts i) ts ⊎ (term_at ts i ≡ none)
at-place [] zero = inr refl
at-place [] (suc i) = at-place [] i
at-place (t ∷ ts) zero = inl (inl refl)
at-place (t ∷ ts) (suc i) = by (at-place ts i)
  where
    by : IsAmong (term_at ts i) ts ⊎ (term_at ts i ≡ none) → IsAmong (term_at ts i) (t ∷ ts) ⊎ (term_at ts i ≡ none)
    by (inl a) = inl (inr a)
    by (inr e) = inr e

default-among : (k : Sort) → IsAmong (leaf (default_label k)) default_terms
default-among of_type = inl refl
default-among of_const = inr (inl refl)
default-among of_lifetime = inr (inr (inl refl))

pub default-made : (k : Sort) (ts : List Trees) → IsAmong (leaf (default_label k)) (ts ++ default_terms)
default-made k ts = among-right (leaf (default_label k)) ts default_terms (default-among k)

-- the term of a place, or the default of the sort
pub of-sort-made : (k : Sort) (ts : List Trees) (i : ℕ) → IsAmong (of_sort k (term_at ts i)) (ts ++ default_terms)
of-sort-made k ts i = by (is_a k (term_at ts i)) refl (at-place ts i)
  where
    no-term : (k : Sort) → is_a k none ≡ false
    no-term of_type = refl
    no-term of_const = refl
    no-term of_lifetime = refl

    by : (b : Bool) → is_a k (term_at ts i) ≡ b → IsAmong (term_at ts i) ts ⊎ (term_at ts i ≡ none) → IsAmong (of_sort k (term_at ts i)) (ts ++ default_terms)
    by true e (inl a) = subst (λ z. IsAmong z (ts ++ default_terms)) (sym (sort-of-sort k (term_at ts i) e)) (among-left (term_at ts i) ts default_terms a)
    by true e (inr n) = absurd (false-true (sym (ap (is_a k) n ∙ no-term k) ∙ e))
    by false e a = subst (λ z. IsAmong z (ts ++ default_terms)) (sym (not-of-sort k (term_at ts i) e)) (default-made k ts)

-- the term of a place if it stands for itself, or the first placeholder
pub place-made : (k : Sort) (ts : List Trees) (i : ℕ) → HasValues k → IsAmong (as_place k (term_at ts i)) (ts ++ default_terms)
place-made k ts i g = by (is_place k (term_at ts i)) refl (at-place ts i)
  where
    first-place : (k : Sort) → HasValues k → IsAmong (leaf (placeholder k 0)) default_terms
    first-place of_type g = inr (inr (inr (inl refl)))
    first-place of_const g = inr (inr (inr (inr (inl refl))))
    first-place of_lifetime g = absurd g

    as-is : (b : Bool) → is_place k (term_at ts i) ≡ b → as_place k (term_at ts i) ≡ (if b then term_at ts i else leaf (placeholder k 0))
    as-is b e = ap (λ z. if z then term_at ts i else leaf (placeholder k 0)) e

    by : (b : Bool) → is_place k (term_at ts i) ≡ b → IsAmong (term_at ts i) ts ⊎ (term_at ts i ≡ none) → IsAmong (as_place k (term_at ts i)) (ts ++ default_terms)
    by true e (inl a) = subst (λ z. IsAmong z (ts ++ default_terms)) (sym (as-is true e)) (among-left (term_at ts i) ts default_terms a)
    by true e (inr n) = absurd (false-true (sym (ap (is_place k) n) ∙ e))
    by false e a = subst (λ z. IsAmong z (ts ++ default_terms)) (sym (as-is false e)) (among-right (leaf (placeholder k 0)) ts default_terms (first-place k g))
