-- Values of unknowns that a solution gives: what it makes of terms with further unknowns.
use Rattle.std.proofs.Common.{◌≡◌, ℕ, zero, suc, ◌+◌, ◌<◌, ◌≤◌, arith, Bool, false, ◌||◌, if◌then◌else◌, List, [], ◌∷◌, map, refl, sym, ap, ◌∙◌, subst, Some, IsTrue}
use Rattle.std.specs.List.{slice_get}
use Rattle.type_terms.specs.Promised.Answers.{is_open, is_closed}
use Rattle.type_terms.specs.Promised.Label.{Label, Sort, of_type, of_const, of_lifetime, infer, param, placeholder, canonical, bound, static}
use Rattle.type_terms.specs.Promised.Proofs.{Every}
use Rattle.type_terms.specs.Promised.Questions.{FitKinds, of_kind, is_bound_place}
use Rattle.type_terms.specs.Promised.Trees.{Trees, none, tree, leaf, erase_label, IsA, is_sort, sort_of, some_node}
use Rattle.type_terms.proofs.BooleanBasics.{true-false}
use Rattle.type_terms.proofs.Fitting.{child-shut, next-shut, not-true, or-no}
use Rattle.type_terms.proofs.ListBasics.{two}
use Rattle.type_terms.proofs.Matching.{or-false-left as no-left}
use Rattle.type_terms.proofs.TermBasics.{is_sort-self}
use Rattle.infer_table.specs.Applying.{unknowns_of}
use Rattle.infer_table.specs.Canonical.{HasNoCanonical}
use Rattle.infer_table.specs.Content.{IsProper, AllProper}
use Rattle.infer_table.specs.Covers.{AreKnown}
use Rattle.infer_table.specs.Solutions.{Assignment, Binding, HasValues, tree_of, instance}
use Rattle.infer_table.specs.Unification.{TableTrees}
use Rattle.infer_table.proofs.Places.{in_terms, AllTrees, trees-proper}
use Rattle.overlap_check.proofs.Owning.{AreOwn, NoFewer}
use Rattle.sessions.specs.Tables.{count_of}
use Rattle.sessions.specs.Values.{unknowns_from}
use Rattle.sessions.proofs.Given.{given, default_node, root}
use Rattle.sessions.proofs.Unsolved.{is_place}

-- ---- the given values, read off
abbrev first_of : ℕ → ℕ → Sort → ℕ
first_of t c of_type = t
first_of t c of_const = c
first_of t c of_lifetime = zero

as-first : (n : ℕ) → n ≡ n + zero
as-first n = omega arith

one-later : (n i : ℕ) → n + suc i ≡ suc n + i
one-later n i = omega arith

-- a closed lifetime is 'static
static-alone : (t : Trees) → IsA of_lifetime t → IsTrue (is_closed t) → leaf static ≡ t
static-alone none h e = absurd h
static-alone (tree l c o) h e =
    ap (λ z. leaf z) (label l h.0 (no-left (is_open l) (some_node is_open c) (no-left (is_open l || some_node is_open c) (some_node is_open o) (not-true (some_node is_open (tree l c o)) e))))
    ∙ ap (λ z. tree l z none) (sym h.1) ∙ ap (tree l c) (sym h.2)
  where
    label : (l : Label) → sort_of l ≡ of_lifetime → is_open l ≡ false → static ≡ l
    label static s f = refl
    label (param k i) s f = absurd (true-false f)
    label (placeholder k i) s f = absurd (true-false f)
    label (infer k i) s f = absurd (true-false f)
    label (canonical k i) s f = absurd (true-false f)
    label (bound k j i) s f = absurd (true-false f)
    label l s f = absurd cc

module _ (f : Trees → Trees) (static_is : (v : ℕ) → f (leaf (infer of_lifetime v)) ≡ leaf static) where
  abbrev Gives : List Sort → List Trees → ℕ → ℕ → Type 0
  Gives ks ts t c = (s : Sort) → HasValues s → (i : ℕ) (x : Trees) → slice_get (of_kind s ks ts) i ≡ Some x → f (leaf (infer s (first_of t c s + i))) ≡ x

  read-off : (ks : List Sort) (ts : List Trees) (t c : ℕ) → FitKinds ks ts → Every (λ x. IsTrue (is_closed x)) ts → Gives ks ts t c → map f (unknowns_from t c ks) ≡ ts
  read-off [] [] t c fit shut gives = refl
  read-off [] (x ∷ ts) t c fit shut gives = absurd fit
  read-off (k ∷ ks) [] t c fit shut gives = absurd fit
  read-off (of_type ∷ ks) (x ∷ ts) t c fit shut gives =
      two (ap (λ n. f (leaf (infer of_type n))) (as-first t) ∙ gives of_type tt zero x refl) (read-off ks ts (suc t) c fit.1 shut.1 later)
    where
      later : Gives ks ts (suc t) c
      later of_type h i y e = ap (λ n. f (leaf (infer of_type n))) (sym (one-later t i)) ∙ gives of_type h (suc i) y e
      later of_const h i y e = gives of_const h i y e
      later of_lifetime h i y e = absurd h
  read-off (of_const ∷ ks) (x ∷ ts) t c fit shut gives =
      two (ap (λ n. f (leaf (infer of_const n))) (as-first c) ∙ gives of_const tt zero x refl) (read-off ks ts t (suc c) fit.1 shut.1 later)
    where
      later : Gives ks ts t (suc c)
      later of_type h i y e = gives of_type h i y e
      later of_const h i y e = ap (λ n. f (leaf (infer of_const n))) (sym (one-later c i)) ∙ gives of_const h (suc i) y e
      later of_lifetime h i y e = absurd h
  read-off (of_lifetime ∷ ks) (x ∷ ts) t c fit shut gives = two (static_is zero ∙ static-alone x fit.0 shut.0) (read-off ks ts t c fit.1 shut.1 later)
    where
      later : Gives ks ts t c
      later of_type h i y e = gives of_type h i y e
      later of_const h i y e = gives of_const h i y e
      later of_lifetime h i y e = absurd h

-- each value is of its kind
abbrev AreKind : Sort → List Trees → Type 0
AreKind s ts = Every (IsA s) ts

of-kind : (s : Sort) (ks : List Sort) (ts : List Trees) → FitKinds ks ts → AreKind s (of_kind s ks ts)
of-kind s [] [] fit = tt
of-kind s [] (x ∷ ts) fit = absurd fit
of-kind s (k ∷ ks) [] fit = absurd fit
of-kind of_type (of_type ∷ ks) (x ∷ ts) fit = (fit.0, of-kind of_type ks ts fit.1)
of-kind of_const (of_const ∷ ks) (x ∷ ts) fit = (fit.0, of-kind of_const ks ts fit.1)
of-kind of_lifetime (of_lifetime ∷ ks) (x ∷ ts) fit = (fit.0, of-kind of_lifetime ks ts fit.1)
of-kind of_type (of_const ∷ ks) (x ∷ ts) fit = of-kind of_type ks ts fit.1
of-kind of_type (of_lifetime ∷ ks) (x ∷ ts) fit = of-kind of_type ks ts fit.1
of-kind of_const (of_type ∷ ks) (x ∷ ts) fit = of-kind of_const ks ts fit.1
of-kind of_const (of_lifetime ∷ ks) (x ∷ ts) fit = of-kind of_const ks ts fit.1
of-kind of_lifetime (of_type ∷ ks) (x ∷ ts) fit = of-kind of_lifetime ks ts fit.1
of-kind of_lifetime (of_const ∷ ks) (x ∷ ts) fit = of-kind of_lifetime ks ts fit.1

kind-at : (s : Sort) (ts : List Trees) → AreKind s ts → (i : ℕ) (x : Trees) → slice_get ts i ≡ Some x → IsA s x
kind-at s [] h i x e = absurd cc
kind-at s (y ∷ ts) h zero x e = subst (IsA s) (same y x e) h.0
  where
    same : (y x : Trees) → Some y ≡ Some x → y ≡ x
    same y x e = cc
kind-at s (y ∷ ts) h (suc i) x e = kind-at s ts h.1 i x e

-- a term of a kind, as its root
root-of : (s : Sort) → HasValues s → (x : Trees) → IsA s x → tree_of (root s (Some x)) ≡ x
root-of of_type h none a = absurd a
root-of of_const h none a = absurd a
root-of of_type h (tree l c o) a =
    ap (λ z. tree_of (if is_sort z of_type then (l, c) else default_node of_type)) a.0 ∙ ap (tree l c) (sym a.1)
root-of of_const h (tree l c o) a =
    ap (λ z. tree_of (if is_sort z of_const then (l, c) else default_node of_const)) a.0 ∙ ap (tree l c) (sym a.1)
root-of of_lifetime h x a = absurd h

pub given-read : (ks : List Sort) (ts : List Trees) → FitKinds ks ts → Every (λ x. IsTrue (is_closed x)) ts → map (instance (given ks ts)) (unknowns_from 0 0 ks) ≡ ts
given-read ks ts fit shut = read-off (instance (given ks ts)) (λ v. refl) ks ts 0 0 fit shut gives
  where
    at : (s : Sort) → HasValues s → (i : ℕ) (x : Trees) → slice_get (of_kind s ks ts) i ≡ Some x → tree_of (given ks ts s i) ≡ x
    at s h i x e = ap (λ o. tree_of (root s o)) e ∙ root-of s h x (kind-at s (of_kind s ks ts) (of-kind s ks ts fit) i x e)

    from-zero : (i : ℕ) → zero + i ≡ i
    from-zero i = omega arith

    gives : Gives (instance (given ks ts)) (λ v. refl) ks ts 0 0
    gives of_type h i x e = ap (λ j. tree_of (given ks ts of_type j)) (from-zero i) ∙ at of_type h i x e
    gives of_const h i x e = ap (λ j. tree_of (given ks ts of_const j)) (from-zero i) ∙ at of_const h i x e
    gives of_lifetime h i x e = absurd h

-- ---- as many unknowns of each kind
abbrev copies : ℕ → Sort → List Sort → List Sort
copies zero k ks = ks
copies (suc n) k ks = k ∷ copies n k ks

abbrev pub kinds_of : TableTrees → List Sort
kinds_of t = copies t.ty_vars of_type (copies t.const_vars of_const (copies t.region_vars of_lifetime []))

same-many : (k : Sort) (n : ℕ) (ks : List Sort) → count_of k (copies n k ks) ≡ n + count_of k ks
same-many k zero ks = omega arith
same-many k (suc n) ks = ap (λ b. if b then suc (count_of k (copies n k ks)) else count_of k (copies n k ks)) (is_sort-self k) ∙ more (count_of k (copies n k ks)) n (count_of k ks) (same-many k n ks)
  where
    more : (a n b : ℕ) → a ≡ n + b → suc a ≡ suc n + b
    more a n b e = omega (arith, e)

others-many : (j k : Sort) → is_sort k j ≡ false → (n : ℕ) (ks : List Sort) → count_of j (copies n k ks) ≡ count_of j ks
others-many j k e zero ks = refl
others-many j k e (suc n) ks = ap (λ b. if b then suc (count_of j (copies n k ks)) else count_of j (copies n k ks)) e ∙ others-many j k e n ks

enough : (a b n : ℕ) → a ≡ n + b → n ≤ a
enough a b n e = omega (arith, e)

pub as-many : (t : TableTrees) → NoFewer (unknowns_of t) (λ s. count_of s (kinds_of t))
as-many t of_type = enough _ _ t.ty_vars (same-many of_type t.ty_vars (copies t.const_vars of_const (copies t.region_vars of_lifetime [])))
as-many t of_const =
    enough _ _ t.const_vars
    (others-many of_const of_type refl t.ty_vars (copies t.const_vars of_const (copies t.region_vars of_lifetime [])) ∙ same-many of_const t.const_vars (copies t.region_vars of_lifetime []))
as-many t of_lifetime =
    enough _ _ t.region_vars
    (others-many of_lifetime of_type refl t.ty_vars (copies t.const_vars of_const (copies t.region_vars of_lifetime []))
    ∙ others-many of_lifetime of_const refl t.const_vars (copies t.region_vars of_lifetime [])
    ∙ same-many of_lifetime t.region_vars [])

-- ---- unknowns of a question
abbrev pub IsOwnUnknown : (Sort → ℕ) → Trees → Type 0
IsOwnUnknown n u = AreOwn n u × IsProper u

first-below : (t a b : ℕ) → t + suc a ≤ b → t < b
first-below t a b h = omega (arith, h)

others-below : (t a b : ℕ) → t + suc a ≤ b → suc t + a ≤ b
others-below t a b h = omega (arith, h)

none-below : (a b : ℕ) → suc a ≤ b → 0 < b
none-below a b h = omega (arith, h)

fewer-below : (a b : ℕ) → suc a ≤ b → a ≤ b
fewer-below a b h = omega (arith, h)

pub unknowns-own : (n : Sort → ℕ) (ks : List Sort) (t c : ℕ) → t + count_of of_type ks ≤ n of_type → c + count_of of_const ks ≤ n of_const → count_of of_lifetime ks ≤ n of_lifetime → Every (IsOwnUnknown n) (unknowns_from t c ks)
unknowns-own n [] t c p q r = tt
unknowns-own n (of_type ∷ ks) t c p q r = (((first-below t (count_of of_type ks) (n of_type) p, tt, tt), (refl, tt)), unknowns-own n ks (suc t) c (others-below t (count_of of_type ks) (n of_type) p) q r)
unknowns-own n (of_const ∷ ks) t c p q r = (((first-below c (count_of of_const ks) (n of_const) q, tt, tt), (refl, tt)), unknowns-own n ks t (suc c) p (others-below c (count_of of_const ks) (n of_const) q) r)
unknowns-own n (of_lifetime ∷ ks) t c p q r = (((none-below (count_of of_lifetime ks) (n of_lifetime) r, tt, tt), (refl, tt)), unknowns-own n ks t c p q (fewer-below (count_of of_lifetime ks) (n of_lifetime) r))

-- ---- terms
pub own-both : (n : Sort → ℕ) (t : Trees) → AreKnown n t → HasNoCanonical t → AreOwn n t
own-both n none h g = tt
own-both n (tree (infer s v) c o) h g = (h.0, own-both n c h.1 g.0, own-both n o h.2 g.1)
own-both n (tree (canonical s i) c o) h g = absurd g
own-both n (tree l c o) h g = (tt, own-both n c h.0 g.0, own-both n o h.1 g.1)

pub all-proper : (good : Label → Bool) (bs : List Binding) → AllTrees good bs → AllProper bs
all-proper good [] h = tt
all-proper good (b ∷ older) h = (trees-proper good in_terms b.value h.0, all-proper good older h.1)

-- what an assignment closes holds no place that it leaves open
place-open : (l : Label) → is_open l ≡ false → is_bound_place l ≡ false
place-open (infer s i) h = refl
place-open l h = h

pub closed-places : (r : Assignment) (t : Trees) → IsProper t → some_node is_open (instance r t) ≡ false → some_node is_place t ≡ false
closed-places r none p h = refl
closed-places r (tree (infer of_type v) c o) p h =
    or-no (some_node is_place c) (some_node is_place o) (ap (some_node is_place) p.0) (closed-places r o p.1 (next-shut is_open (r of_type v).0 (r of_type v).1 (instance r o) h))
closed-places r (tree (infer of_const v) c o) p h =
    or-no (some_node is_place c) (some_node is_place o) (ap (some_node is_place) p.0) (closed-places r o p.1 (next-shut is_open (r of_const v).0 (r of_const v).1 (instance r o) h))
closed-places r (tree (infer of_lifetime v) c o) p h =
    or-no (some_node is_place c) (some_node is_place o) (ap (some_node is_place) p.0) (closed-places r o p.1 (next-shut is_open static (instance r c) (instance r o) h))
closed-places r (tree l c o) p h =
    or-no (is_place l || some_node is_place c) (some_node is_place o)
    (or-no (is_place l) (some_node is_place c)
    (place-open (erase_label l) (no-left (is_open (erase_label l)) (some_node is_open (instance r c)) (no-left (is_open (erase_label l) || some_node is_open (instance r c)) (some_node is_open (instance r o)) h)))
    (closed-places r c p.0 (child-shut is_open (erase_label l) (instance r c) (instance r o) h)))
    (closed-places r o p.1 (next-shut is_open (erase_label l) (instance r c) (instance r o) h))
