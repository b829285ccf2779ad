-- What is read off an instance of a header by the header, and that the header with it is the instance: for terms that may be open.
use Rattle.std.proofs.Common.{◌≡◌, ℕ, zero, suc, ◌+◌, ◌<◌, Bool, true, false, not, ◌&&◌, ◌||◌, ◌==◌, if◌then◌else◌, List, ◌⊎◌, inl, inr, refl, sym, ◌∙◌, ap, subst, arith, zero-add}
use Rattle.std.specs.Prelude.{nat_lt}
use Rattle.std.proofs.lemmas.Bool.Decides.{nat_tests}
use Rattle.type_terms.specs.Promised.Label.{Label, Sort, of_type, of_const, of_lifetime, static, fn_ptr, principal, param, placeholder, infer, canonical, bound, inside}
use Rattle.type_terms.specs.Promised.Label.{never}
use Rattle.type_terms.specs.Promised.Trees.{Trees, none, tree, leaf, ◌+++◌, is_sort, nth, instantiate, some_node}
use Rattle.type_terms.specs.Trees.{is_a, fits, first_of, standing_at, arguments_from, arguments}
use Rattle.type_terms.proofs.Fitting.{not-true, append-shut, child-shut, next-shut, first-shut, standing-shut, or-no}
use Rattle.type_terms.proofs.Matching.{first-left, nth-arguments, or-false-left as no-left}
use Rattle.type_terms.proofs.Members.{self-number, same-number}
use Rattle.goal_evaluator.specs.Instances.{read_with, put_in, default_label, of_sort, term_at}
use Rattle.goal_evaluator.specs.Content.{given}
use Rattle.goal_evaluator.proofs.Reading.{EachLabel}
use Rattle.goal_evaluator.proofs.Labels.{IsGoodLabel, made-labels}
use Rattle.candidate_model.specs.Facts.{is_unerased}
use Rattle.candidate_model.specs.Declared.{is_declared_leaf, is_counted, are_terms, is_otherwise, is_unsorted}
use Rattle.type_terms.specs.Made.{terms, is_made}
use Rattle.candidate_model.specs.Candidates.{is_this_param, moved}
use Rattle.candidate_model.proofs.Plain.{is-sort}
use Rattle.candidate_model.proofs.Reading.{begins}
use Rattle.candidate_model.proofs.Instances.{Unbound, shift-unbound, nth-unbound}
use Rattle.candidate_model.proofs.Headers.{child-some, next-some, here-some}
use Rattle.goal_evaluator.proofs.Readings.{HasLeaves, made-leaves}
use Rattle.candidate_model.proofs.PlainRules.{Plain}
use Rattle.type_terms.proofs.Walking.{left, right, both, or-cases}
use Rattle.type_terms.proofs.BooleanBasics.{true-false}
use Rattle.type_terms.proofs.TermBasics.{is_sort-self as sort-self, append-none}

-- ---- what is declared, node by node
-- a label that instances and readings leave as it is
abbrev pub is_kept : Label → Bool
is_kept (param s i) = false
is_kept (placeholder s i) = false
is_kept (infer s i) = false
is_kept (canonical s i) = false
is_kept (bound s k i) = false
is_kept static = false
is_kept (fn_ptr (suc n)) = false
is_kept (principal (suc n) t) = false
is_kept l = true

module _ (P : Trees → Type 0) (nothing : P none) (at_param : (s : Sort) (i : ℕ) (o : Trees) → P o → P (tree (param s i) none o)) (at_static : (o : Trees) → P o → P (tree static none o))
    (at_kept : (l : Label) (c o : Trees) → is_kept l ≡ true → P c → P o → P (tree l c o)) where
  by-labels : (t : Trees) → EachLabel (IsGoodLabel is_declared_leaf) t → HasLeaves t → some_node is_counted t ≡ false → P t
  by-labels none g h e = nothing
  by-labels (tree (param s i) c o) g h e = subst (λ z. P (tree (param s i) z o)) (sym (h.0 refl)) (at_param s i o (by-labels o g.2 h.2 (next-shut is_counted (param s i) c o e)))
  by-labels (tree (placeholder k i) c o) g h e = absurd (true-false (sym (g.0 refl)))
  by-labels (tree (infer k i) c o) g h e = absurd (true-false (sym (g.0 refl)))
  by-labels (tree (canonical k i) c o) g h e = absurd (true-false (sym (g.0 refl)))
  by-labels (tree (bound k i j) c o) g h e = absurd (true-false (sym (g.0 refl)))
  by-labels (tree static c o) g h e = subst (λ z. P (tree static z o)) (sym (h.0 refl)) (at_static o (by-labels o g.2 h.2 (next-shut is_counted static c o e)))
  by-labels (tree (fn_ptr (suc n)) c o) g h e = absurd (true-false e)
  by-labels (tree (principal (suc n) t) c o) g h e = absurd (true-false e)
  by-labels (tree l c o) g h e = at_kept l c o refl (by-labels c g.1 h.1 (child-shut is_counted l c o e)) (by-labels o g.2 h.2 (next-shut is_counted l c o e))

  pub by-declared : (t : Trees) → are_terms t ≡ true → P t
  by-declared t e =
      let m = left (is_made is_declared_leaf terms t) (not (some_node is_counted t)) e in
      by-labels t (made-labels is_declared_leaf terms t m) (made-leaves is_declared_leaf terms t m) (not-true (some_node is_counted t) (right (is_made is_declared_leaf terms t) (not (some_node is_counted t)) e))

kept-no-param : (s : Sort) (i : ℕ) (l : Label) → is_kept l ≡ true → is_this_param s i l ≡ false
kept-no-param s i (param k j) e = absurd (true-false (sym e))
kept-no-param s i l e = refl

kept-instance : (d : ℕ) (A : Trees) (l : Label) (c o : Trees) → is_kept l ≡ true → instantiate d A (tree l c o) ≡ tree l (instantiate (inside l d) A c) (instantiate d A o)
kept-instance d A (param k j) c o e = absurd (true-false (sym e))
kept-instance d A l c o e = refl

kept-fits : (A : Trees) (l : Label) (c o : Trees) → is_kept l ≡ true → fits A (tree l c o) ≡ fits A c && fits A o
kept-fits A (param k j) c o e = absurd (true-false (sym e))
kept-fits A l c o e = refl

kept-standing : (i : ℕ) (l : Label) (c o x y : Trees) → is_kept l ≡ true → standing_at i (tree l c o) (tree l x y) ≡ first_of (standing_at i c x) (standing_at i o y)
kept-standing i (param k j) c o x y e = absurd (true-false (sym e))
kept-standing i l c o x y e = refl

or-no-three : (x y z : Bool) → x ≡ false → y ≡ false → z ≡ false → x || y || z ≡ false
or-no-three x y z p q r = or-no (x || y) z (or-no x y p q) r

sort-is : (k : Sort) (x : Trees) → is_a k (leaf (default_label k)) ≡ true → is_a k (of_sort k x) ≡ true
sort-is k x d = by (is_a k x) refl
  where
    by : (b : Bool) → is_a k x ≡ b → is_a k (if b then x else leaf (default_label k)) ≡ true
    by true e = e
    by false e = d

module _ (n : ℕ) (ys : List Trees) where
  -- a declared term over variables from number n on, with their values
  abbrev pub read_behind : Trees → Trees
  read_behind t = read_with (given ys) (put_in (moved n) t)

  -- what stands for a parameter
  abbrev pub for_param : Sort → ℕ → Trees
  for_param s i = read_with (given ys) (leaf (canonical s (n + i)))

  param-read : (s : Sort) (i : ℕ) (o : Trees) → read_behind (tree (param s i) none o) ≡ for_param s i +++ read_behind o
  param-read s i o = let b = begins ys (canonical s (n + i)) none (put_in (moved n) o) in b.before ∙ ap (λ z. z +++ read_behind o) (sym b.alone)

  kept-read : (l : Label) (c o : Trees) → is_kept l ≡ true → read_behind (tree l c o) ≡ tree l (read_behind c) (read_behind o)
  kept-read (param s i) c o e = absurd (true-false (sym e))
  kept-read (placeholder s i) c o e = absurd (true-false (sym e))
  kept-read (infer s i) c o e = absurd (true-false (sym e))
  kept-read (canonical s i) c o e = absurd (true-false (sym e))
  kept-read (bound s k i) c o e = absurd (true-false (sym e))
  kept-read static c o e = absurd (true-false (sym e))
  kept-read (fn_ptr (suc k)) c o e = absurd (true-false (sym e))
  kept-read (principal (suc k) t) c o e = absurd (true-false (sym e))
  kept-read l c o e = refl

  for-param-is : (s : Sort) (i : ℕ) → is_a s (for_param s i) ≡ true
  for-param-is of_type i = ap (is_a of_type) (append-none (of_sort of_type (term_at ys (n + i)))) ∙ sort-is of_type (term_at ys (n + i)) refl
  for-param-is of_const i = ap (is_a of_const) (append-none (of_sort of_const (term_at ys (n + i)))) ∙ sort-is of_const (term_at ys (n + i)) refl
  for-param-is of_lifetime i = refl

  for-param-there : (s : Sort) (i : ℕ) → for_param s i ≡ none → ⊥
  for-param-there s i e = let b = begins ys (canonical s (n + i)) none none in no b.label b.children (sym e ∙ b.alone)
    where
      no : (l : Label) (c : Trees) → none ≡ tree l c none → ⊥
      no l c q = cc

  -- ---- arguments that are what stands for the parameters
  module _ (A : Trees) where
    abbrev pub AreValues : Trees → Type 0
    AreValues t = (s : Sort) (i : ℕ) → some_node (is_this_param s i) t ≡ true → nth A i ≡ for_param s i

    values-child : (l : Label) (c o : Trees) → AreValues (tree l c o) → AreValues c
    values-child l c o h s i e = h s i (child-some (is_this_param s i) l c o e)

    values-next : (l : Label) (c o : Trees) → AreValues (tree l c o) → AreValues o
    values-next l c o h s i e = h s i (next-some (is_this_param s i) l c o e)

    -- a term with these arguments is the reading
    pub instance-is : Unbound A → (t : Trees) → are_terms t ≡ true → (d : ℕ) → AreValues t → instantiate d A t ≡ read_behind t
    instance-is free t e = by-declared (λ t. (d : ℕ) → AreValues t → instantiate d A t ≡ read_behind t) (λ d h. refl) at-param at-static at-kept t e
      where
        at-param : (s : Sort) (i : ℕ) (o : Trees) → ((d : ℕ) → AreValues o → instantiate d A o ≡ read_behind o) → (d : ℕ) → AreValues (tree (param s i) none o) → instantiate d A (tree (param s i) none o) ≡ read_behind (tree (param s i) none o)
        at-param s i o go d h =
            ap (λ z. z +++ instantiate d A o) (shift-unbound zero d (nth A i) (nth-unbound A i free) ∙ h s i (here-some s i none o (sort-self s)))
            ∙ ap (λ z. for_param s i +++ z) (go d (values-next (param s i) none o h)) ∙ sym (param-read s i o)

        at-static : (o : Trees) → ((d : ℕ) → AreValues o → instantiate d A o ≡ read_behind o) → (d : ℕ) → AreValues (tree static none o) → instantiate d A (tree static none o) ≡ read_behind (tree static none o)
        at-static o go d h = ap (λ z. tree static none z) (go d (values-next static none o h))

        at-kept : (l : Label) (c o : Trees) → is_kept l ≡ true → ((d : ℕ) → AreValues c → instantiate d A c ≡ read_behind c) → ((d : ℕ) → AreValues o → instantiate d A o ≡ read_behind o)
            → (d : ℕ) → AreValues (tree l c o) → instantiate d A (tree l c o) ≡ read_behind (tree l c o)
        at-kept l c o k go on d h =
            kept-instance d A l c o k ∙ ap (λ z. tree l z (instantiate d A o)) (go (inside l d) (values-child l c o h)) ∙ ap (λ z. tree l (read_behind c) z) (on d (values-next l c o h))
            ∙ sym (kept-read l c o k)

    pub values-fit : (t : Trees) → are_terms t ≡ true → AreValues t → fits A t ≡ true
    values-fit t e = by-declared (λ t. AreValues t → fits A t ≡ true) (λ h. refl) at-param (λ o go h. both true (fits A o) refl (go (values-next static none o h))) at-kept t e
      where
        at-param : (s : Sort) (i : ℕ) (o : Trees) → (AreValues o → fits A o ≡ true) → AreValues (tree (param s i) none o) → is_a s (nth A i) && (true && fits A o) ≡ true
        at-param s i o go h =
            both (is_a s (nth A i)) (true && fits A o) (ap (is_a s) (h s i (here-some s i none o (sort-self s))) ∙ for-param-is s i) (both true (fits A o) refl (go (values-next (param s i) none o h)))

        at-kept : (l : Label) (c o : Trees) → is_kept l ≡ true → (AreValues c → fits A c ≡ true) → (AreValues o → fits A o ≡ true) → AreValues (tree l c o) → fits A (tree l c o) ≡ true
        at-kept l c o k go on h = kept-fits A l c o k ∙ both (fits A c) (fits A o) (go (values-child l c o h)) (on (values-next l c o h))

  -- ---- what stands at a parameter's place in the reading
  module _ (i : ℕ) (v : Trees) (there : v ≡ none → ⊥) where
    abbrev Means : Trees → Type 0
    Means t = (s : Sort) → some_node (is_this_param s i) t ≡ true → for_param s i ≡ v

    -- it is v, or there is no such place
    abbrev Split : Trees → Trees → Type 0
    Split x t = (x ≡ v) ⊎ ((x ≡ none) × ((s : Sort) → some_node (is_this_param s i) t ≡ false))

    abbrev Found : Trees → Type 0
    Found t = Means t → Split (standing_at i t (read_behind t)) t

    at-place : (s : Sort) (j : ℕ) (o : Trees) (b : Bool) → (i == j) ≡ b → (m : Label) (c : Trees) → for_param s j ≡ tree m c none → Means (tree (param s j) none o) → Split (standing_at i o (read_behind o)) o
        → Split (if b then tree m c none else standing_at i o (read_behind o)) (tree (param s j) none o)
    at-place s j o true q m c e h x =
        inl (sym e ∙ ap (for_param s) (sym (same-number i j q)) ∙ h s (subst (λ z. some_node (is_this_param s i) (tree (param s z) none o) ≡ true) (same-number i j q) (here-some s i none o (sort-self s))))
    at-place s j o false q m c e h (inl x) = inl x
    at-place s j o false q m c e h (inr x) = inr (x.0, λ k. or-no-three (is_sort k s && (i == j)) false (some_node (is_this_param k i) o) (no-other (is_sort k s) (i == j) q) refl (x.1 k))
      where
        no-other : (x y : Bool) → y ≡ false → x && y ≡ false
        no-other true y r = r
        no-other false y r = refl

    at-param : (s : Sort) (j : ℕ) (o : Trees) → Found o → Found (tree (param s j) none o)
    at-param s j o go h =
        let b = begins ys (canonical s (n + j)) none (put_in (moved n) o) in
        subst (λ z. Split (standing_at i (tree (param s j) none o) z) (tree (param s j) none o)) (sym b.before)
        (at-place s j o (i == j) refl b.label b.children b.alone h (go (λ k e. h k (next-some (is_this_param k i) (param s j) none o e))))

    at-static : (o : Trees) → Found o → Found (tree static none o)
    at-static o go h = by (go (λ k e. h k (next-some (is_this_param k i) static none o e)))
      where
        by : Split (standing_at i o (read_behind o)) o → Split (standing_at i o (read_behind o)) (tree static none o)
        by (inl x) = inl x
        by (inr x) = inr (x.0, x.1)

    join : (l : Label) (c o x y : Trees) → is_kept l ≡ true → Split x c → Split y o → Split (first_of x y) (tree l c o)
    join l c o x y k (inl p) q = inl (ap (λ z. first_of z y) p ∙ first-left v y there)
    join l c o x y k (inr p) (inl q) = inl (ap (λ z. first_of z y) p.0 ∙ q)
    join l c o x y k (inr p) (inr q) =
        inr (ap (λ z. first_of z y) p.0 ∙ q.0, λ s. or-no-three (is_this_param s i l) (some_node (is_this_param s i) c) (some_node (is_this_param s i) o) (kept-no-param s i l k) (p.1 s) (q.1 s))

    at-kept : (l : Label) (c o : Trees) → is_kept l ≡ true → Found c → Found o → Found (tree l c o)
    at-kept l c o k go on h =
        subst (λ z. Split z (tree l c o)) (sym (ap (standing_at i (tree l c o)) (kept-read l c o k) ∙ kept-standing i l c o (read_behind c) (read_behind o) k))
        (join l c o (standing_at i c (read_behind c)) (standing_at i o (read_behind o)) k (go (λ s e. h s (child-some (is_this_param s i) l c o e))) (on (λ s e. h s (next-some (is_this_param s i) l c o e))))

    found : (t : Trees) → are_terms t ≡ true → Found t
    found t e = by-declared Found (λ h. inr (refl, λ s. refl)) at-param at-static at-kept t e

    -- where the parameter stands, v is read off
    pub read-off : (t : Trees) → are_terms t ≡ true → Means t → (s : Sort) → some_node (is_this_param s i) t ≡ true → standing_at i t (read_behind t) ≡ v
    read-off t e h s p = by (found t e h)
      where
        by : Split (standing_at i t (read_behind t)) t → standing_at i t (read_behind t) ≡ v
        by (inl x) = x
        by (inr x) = absurd (true-false (sym p ∙ x.1 s))

-- ---- parameters of one sort
param-is : (s : Sort) (i : ℕ) (l : Label) → is_this_param s i l ≡ true → l ≡ param s i
param-is s i (param k j) e = ap (λ z. param z j) (sym (is-sort s k (left (is_sort s k) (i == j) e))) ∙ ap (param s) (sym (same-number i j (right (is_sort s k) (i == j) e)))
param-is s i l e = absurd (true-false (sym e))

-- a test that no label passes is passed by no parameter that stands there
pub none-passes : (q : Label → Bool) (s : Sort) (i : ℕ) (t : Trees) → some_node (is_this_param s i) t ≡ true → some_node q t ≡ false → q (param s i) ≡ false
none-passes q s i none e f = absurd (true-false (sym e))
none-passes q s i (tree l c o) e f = by (or-cases (is_this_param s i l || some_node (is_this_param s i) c) (some_node (is_this_param s i) o) e) (λ g. none-passes q s i c g (child-shut q l c o f)) (λ g. none-passes q s i o g (next-shut q l c o f))
  where
    own : is_this_param s i l ≡ true → q (param s i) ≡ false
    own g = subst (λ z. q z ≡ false) (param-is s i l g) (no-left (q l) (some_node q c) (no-left (q l || some_node q c) (some_node q o) f))

    by : (is_this_param s i l || some_node (is_this_param s i) c ≡ true) ⊎ (some_node (is_this_param s i) o ≡ true) → (some_node (is_this_param s i) c ≡ true → q (param s i) ≡ false) → (some_node (is_this_param s i) o ≡ true → q (param s i) ≡ false)
        → q (param s i) ≡ false
    by (inl g) go on = elim (or-cases (is_this_param s i l) (some_node (is_this_param s i) c) g) [ inl x ↦ own x | inr y ↦ go y ]
    by (inr g) go on = on g

module _ (count : ℕ) (header : Trees) (sorted : some_node (is_unsorted count header) header ≡ false) where
  pub below : (s : Sort) (i : ℕ) → some_node (is_this_param s i) header ≡ true → i < count
  below s i e = by (nat_lt i count) refl (no-left (not (nat_lt i count)) (some_node (is_otherwise s i) header) (none-passes (is_unsorted count header) s i header e sorted))
    where
      less : nat_lt i count ≡ true → i < count
      less h = grind (arith, nat_tests, h)

      by : (b : Bool) → nat_lt i count ≡ b → not b ≡ false → i < count
      by true p q = less p
      by false p q = absurd (true-false q)

  pub one-sort : (s k : Sort) (i : ℕ) → some_node (is_this_param s i) header ≡ true → some_node (is_this_param k i) header ≡ true → k ≡ s
  one-sort s k i e f =
      is-sort k s (by (is_sort k s) (i == i) (self-number i) (none-passes (is_otherwise s i) k i header f (or-right (not (nat_lt i count)) (some_node (is_otherwise s i) header) (none-passes (is_unsorted count header) s i header e sorted))))
    where
      or-right : (x y : Bool) → x || y ≡ false → y ≡ false
      or-right true y h = absurd (true-false h)
      or-right false y h = h

      by : (x y : Bool) → y ≡ true → not x && y ≡ false → x ≡ true
      by true y p q = refl
      by false y p q = absurd (true-false (sym p ∙ q))

  module _ (n : ℕ) (ys : List Trees) (declared : are_terms header ≡ true) where
    -- what is read off the reading of a header is what stands for its parameters
    pub arguments-are : AreValues n ys (arguments count header (read_behind n ys header)) header
    arguments-are s i e =
        nth-arguments zero count i header (read_behind n ys header) (below s i e)
        ∙ ap (λ k. first_of (standing_at k header (read_behind n ys header)) (leaf never)) (zero-add i)
        ∙ ap (λ z. first_of z (leaf never)) (read-off n ys i (for_param n ys s i) (for-param-there n ys s i) header declared (λ k f. ap (λ z. for_param n ys z i) (one-sort s k i e f)) s e)
        ∙ first-left (for_param n ys s i) (leaf never) (for-param-there n ys s i)

pub arguments-plain : (k count : ℕ) (h t : Trees) → Plain t → Plain (arguments_from k count h t)
arguments-plain k zero h t e = refl
arguments-plain k (suc count) h t e =
    append-shut is_unerased (first_of (standing_at k h t) (leaf never)) (arguments_from (suc k) count h t)
    (first-shut is_unerased (standing_at k h t) (leaf never) (standing-shut is_unerased k h t e) refl) (arguments-plain (suc k) count h t e)
