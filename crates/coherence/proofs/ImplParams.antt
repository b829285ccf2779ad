-- The parameters of an impl of a text, and those that stand in its header.
use Rattle.std.proofs.Common.{◌≡◌, ℕ, zero, suc, ◌+◌, Bool, true, false, ◌&&◌, ◌||◌, ◌==◌, not, List, [], ◌∷◌, map, length, Option, Some, None, refl, sym, ap, ◌∙◌, subst, arith}
use Rattle.std.specs.Prelude.{slice_get}
use Rattle.std.specs.Option.{option_map_or}
use Rattle.std.proofs.lemmas.Option.{same_Some}
use Rattle.sessions.specs.TypeTerms.Promised.Label.{Label, Sort, of_type, of_const, of_lifetime, dynamic, principal, auto_trait, predicate, fn_ptr, param, placeholder, infer, canonical, bound}
use Rattle.sessions.specs.TypeTerms.Promised.Trees.{Trees, none, tree, erase, erase_label, is_sort, some_node}
use Rattle.sessions.specs.TypeTerms.Trees.{is_no_tree}
use Rattle.sessions.specs.TypeTerms.Promised.LinkedSet.{is_stray}
use Rattle.sessions.specs.TypeTerms.Made.{Standing, terms, bounds, traits, is_made}
use Rattle.sessions.proofs.TypeTerms.Made.{left, right, false-true, no-tree, made-ordinary, last-bound, last-trait, never-dynamic, never-dynamic-bound, never-principal}
use Rattle.sessions.proofs.TypeTerms.Members.{same-number, self-number}
use Rattle.sessions.specs.TextLanguage.Promised.Declarations.{NamedImpl}
use Rattle.sessions.specs.CandidateModel.Declared.{is_declared_leaf}
use Rattle.sessions.proofs.TextLowering.Sorts.{is_bad}
use Rattle.sessions.proofs.TextLowering.Tests.{is_good, all_stand, is_good_impl}
use Rattle.sessions.specs.TextLowering.Promised.SeenWorlds.{plain, plain_label, all_kept}
use Rattle.sessions.specs.TextLowering.Seen.{param_sorts}
use Rattle.sessions.specs.TypeTerms.Promised.OpenedHeaders.{is_param}
use Rattle.coherence.proofs.HeaderNames.{KnowsParams, AllOk, mapped-at}
use Rattle.sessions.proofs.TypeTerms.TermBasics.{sort-self, sort-equal}
use Rattle.sessions.proofs.TypeTerms.BooleanBasics.{same-three}

-- ---- truth values
or-all : (a b c : Bool) → a ≡ false → b ≡ false → c ≡ false → a || b || c ≡ false
or-all a b c p q r = cc

or-first : (a b c : Bool) → a || b || c ≡ false → a ≡ false
or-first false b c h = refl
or-first true b c h = absurd cc

or-second : (a b c : Bool) → a || b || c ≡ false → b ≡ false
or-second false false c h = refl
or-second false true c h = absurd cc
or-second true b c h = absurd cc

or-third : (a b c : Bool) → a || b || c ≡ false → c ≡ false
or-third false false c h = h
or-third false true c h = absurd cc
or-third true b c h = absurd cc

-- what follows from each part follows from one of them
one-of : (P : Type 0) (a b c : Bool) → (a ≡ true → P) → (b ≡ true → P) → (c ≡ true → P) → a || b || c ≡ true → P
one-of P true b c f g h e = f refl
one-of P false true c f g h e = g refl
one-of P false false true f g h e = h refl
one-of P false false false f g h e = absurd (false-true e)

in-first : (a b c : Bool) → a ≡ true → a || b || c ≡ true
in-first a b c e = cc

in-second : (a b c : Bool) → b ≡ true → a || b || c ≡ true
in-second true b c e = refl
in-second false b c e = cc

in-third : (a b c : Bool) → c ≡ true → a || b || c ≡ true
in-third true b c e = refl
in-third false true c e = refl
in-third false false c e = e

-- ---- no unknown and no placeholder stands there
label-known : (l : Label) → is_declared_leaf l ≡ true → is_stray (erase_label l) ≡ false
label-known (placeholder s i) h = absurd (false-true h)
label-known (infer s i) h = absurd (false-true h)
label-known (canonical s i) h = absurd (false-true h)
label-known (bound s j i) h = absurd (false-true h)
label-known (param of_lifetime i) h = refl
label-known (param of_type i) h = refl
label-known (param of_const i) h = refl
label-known (fn_ptr n) h = refl
label-known (principal n t) h = refl
label-known l h = refl

abbrev Known : Trees → Type 0
Known t = some_node is_stray (erase t) ≡ false

node-known : (l : Label) (c o : Trees) → is_declared_leaf l ≡ true → Known c → Known o → Known (tree l c o)
node-known l c o g h k = or-all (is_stray (erase_label l)) _ _ (label-known l g) h k

nothing-known : (c : Trees) → c ≡ none → Known c
nothing-known c e = ap (λ z. some_node is_stray (erase z)) e

made-known : (m : Standing) (t : Trees) → is_made is_declared_leaf m t ≡ true → Known t
made-known m none h = refl
made-known terms (tree dynamic c o) h =
    node-known dynamic c o refl (made-known bounds c (left (is_made is_declared_leaf bounds c) (is_made is_declared_leaf terms o) h)) (made-known terms o (right (is_made is_declared_leaf bounds c) (is_made is_declared_leaf terms o) h))
made-known terms (tree (principal n t) c o) h = absurd (false-true h)
made-known terms (tree (auto_trait n) c o) h = absurd (false-true h)
made-known terms (tree (predicate k) c o) h = absurd (false-true h)
made-known terms (tree l c o) h = let x = made-ordinary is_declared_leaf l c o refl h in node-known l c o x.0 (made-known terms c x.2) (made-known terms o x.3)
made-known bounds (tree (principal n t) c o) h =
    node-known (principal n t) c o refl (made-known terms c (left (is_made is_declared_leaf terms c) (is_made is_declared_leaf traits o) h)) (made-known traits o (right (is_made is_declared_leaf terms c) (is_made is_declared_leaf traits o) h))
made-known bounds (tree (auto_trait n) c o) h = node-known (auto_trait n) c o refl (nothing-known c (no-tree c (left (is_no_tree c) (is_made is_declared_leaf traits o) h))) (made-known traits o (right (is_no_tree c) (is_made is_declared_leaf traits o) h))
made-known bounds (tree (predicate k) c o) h = absurd (false-true h)
made-known bounds (tree dynamic c o) h = absurd (never-dynamic-bound is_declared_leaf c o h)
made-known bounds (tree l c o) h = let x = last-bound is_declared_leaf l c o refl h in node-known l c o x.good_label (nothing-known c x.children) (nothing-known o x.rest)
made-known traits (tree (auto_trait n) c o) h = node-known (auto_trait n) c o refl (nothing-known c (no-tree c (left (is_no_tree c) (is_made is_declared_leaf traits o) h))) (made-known traits o (right (is_no_tree c) (is_made is_declared_leaf traits o) h))
made-known traits (tree (predicate k) c o) h = absurd (false-true h)
made-known traits (tree dynamic c o) h = absurd (never-dynamic is_declared_leaf c o h)
made-known traits (tree (principal n t) c o) h = absurd (never-principal is_declared_leaf n t c o h)
made-known traits (tree l c o) h = let x = last-trait is_declared_leaf l c o refl h in node-known l c o x.good_label (nothing-known c x.children) (nothing-known o x.rest)

-- ---- lifetimes aside, the same parameters stand there without lifetimes
label-kept : (s : Sort) (i : ℕ) → is_sort s of_lifetime ≡ false → (l : Label) → is_param s i (erase_label l) ≡ is_param s i l
label-kept of_lifetime i v l = absurd (false-true (sym v))
label-kept of_type i v (param of_lifetime j) = refl
label-kept of_type i v (placeholder of_lifetime j) = refl
label-kept of_type i v (infer of_lifetime j) = refl
label-kept of_type i v (canonical of_lifetime j) = refl
label-kept of_type i v (bound of_lifetime k j) = refl
label-kept of_type i v l = refl
label-kept of_const i v (param of_lifetime j) = refl
label-kept of_const i v (placeholder of_lifetime j) = refl
label-kept of_const i v (infer of_lifetime j) = refl
label-kept of_const i v (canonical of_lifetime j) = refl
label-kept of_const i v (bound of_lifetime k j) = refl
label-kept of_const i v l = refl

params-kept : (s : Sort) (i : ℕ) → is_sort s of_lifetime ≡ false → (t : Trees) → some_node (is_param s i) (erase t) ≡ some_node (is_param s i) t
params-kept s i v none = refl
params-kept s i v (tree l c o) = same-three (label-kept s i v l) (params-kept s i v c) (params-kept s i v o)

-- ---- a parameter that stands there is one of its sort
sort-there : (sorts : List Sort) (s : Sort) (i : ℕ) → is_bad sorts (param s i) ≡ false → slice_get sorts i ≡ Some s
sort-there sorts s i h = by (slice_get sorts i) refl (not-not _ h)
  where
    not-not : (b : Bool) → false || not b ≡ false → b ≡ true
    not-not true e = refl
    not-not false e = absurd cc

    by : (o : Option Sort) → slice_get sorts i ≡ o → option_map_or (is_sort s) o false ≡ true → slice_get sorts i ≡ Some s
    by None e g = absurd cc
    by (Some r) e g = e ∙ ap Some (sym (sort-equal s r g))

label-sorted : (sorts : List Sort) (s : Sort) (i : ℕ) (l : Label) → is_param s i (erase_label l) ≡ true → is_bad sorts l ≡ false → slice_get sorts i ≡ Some s
label-sorted sorts s i (param of_lifetime j) e g = absurd (false-true e)
label-sorted sorts s i (param of_type j) e g =
    subst (λ k. slice_get sorts k ≡ Some s) (sym (same-number i j (right (is_sort s of_type) (i == j) e))) (subst (λ z. slice_get sorts j ≡ Some z) (sym (sort-equal s of_type (left (is_sort s of_type) (i == j) e))) (sort-there sorts of_type j g))
label-sorted sorts s i (param of_const j) e g =
    subst (λ k. slice_get sorts k ≡ Some s) (sym (same-number i j (right (is_sort s of_const) (i == j) e))) (subst (λ z. slice_get sorts j ≡ Some z) (sym (sort-equal s of_const (left (is_sort s of_const) (i == j) e))) (sort-there sorts of_const j g))
label-sorted sorts s i (placeholder of_lifetime j) e g = absurd (false-true e)
label-sorted sorts s i (infer of_lifetime j) e g = absurd (false-true e)
label-sorted sorts s i (canonical of_lifetime j) e g = absurd (false-true e)
label-sorted sorts s i (bound of_lifetime k j) e g = absurd (false-true e)
label-sorted sorts s i l e g = absurd (false-true e)

sorted-there : (sorts : List Sort) (s : Sort) (i : ℕ) (t : Trees) → some_node (is_param s i) (erase t) ≡ true → some_node (is_bad sorts) t ≡ false → slice_get sorts i ≡ Some s
sorted-there sorts s i none e g = absurd (false-true e)
sorted-there sorts s i (tree l c o) e g =
    one-of (slice_get sorts i ≡ Some s) (is_param s i (erase_label l)) (some_node (is_param s i) (erase c)) (some_node (is_param s i) (erase o))
    (λ q. label-sorted sorts s i l q (or-first (is_bad sorts l) (some_node (is_bad sorts) c) (some_node (is_bad sorts) o) g))
    (λ q. sorted-there sorts s i c q (or-second (is_bad sorts l) (some_node (is_bad sorts) c) (some_node (is_bad sorts) o) g))
    (λ q. sorted-there sorts s i o q (or-third (is_bad sorts l) (some_node (is_bad sorts) c) (some_node (is_bad sorts) o) g))
    e

-- an element of a mapped list stands for one of the list
pub unmapped : {A B : Type 0} (f : A → B) (xs : List A) (k : ℕ) (y : B) → slice_get (map f xs) k ≡ Some y → (x : A) × (slice_get xs k ≡ Some x) × (f x ≡ y)
unmapped f [] k y h = absurd cc
unmapped f (x ∷ xs) zero y h = (x, refl, same_Some (f x) y h)
unmapped f (x ∷ xs) (suc k) y h = unmapped f xs k y h

-- ---- each type and const parameter stands there
stands-by : (t : Trees) (first : ℕ) (sorts : List Sort) (s : Sort) (i : ℕ) → all_stand t first sorts ≡ true → slice_get sorts i ≡ Some s → is_sort s of_lifetime ≡ false → some_node (is_param s (first + i)) t ≡ true
stands-by t first [] s i h e v = absurd cc
stands-by t first (of_lifetime ∷ ss) s zero h e v = absurd (false-true (sym v ∙ ap (λ r. is_sort r of_lifetime) (sym (same_Some of_lifetime s e))))
stands-by t first (of_type ∷ ss) s zero h e v = subst (λ r. some_node (is_param r (first + zero)) t ≡ true) (same_Some of_type s e) (subst (λ k. some_node (is_param of_type k) t ≡ true) (no-more first) (left _ _ h))
  where
    no-more : (k : ℕ) → k ≡ k + zero
    no-more k = omega arith
stands-by t first (of_const ∷ ss) s zero h e v = subst (λ r. some_node (is_param r (first + zero)) t ≡ true) (same_Some of_const s e) (subst (λ k. some_node (is_param of_const k) t ≡ true) (no-more first) (left _ _ h))
  where
    no-more : (k : ℕ) → k ≡ k + zero
    no-more k = omega arith
stands-by t first (of_lifetime ∷ ss) s (suc i) h e v = subst (λ k. some_node (is_param s k) t ≡ true) (more first i) (stands-by t (suc first) ss s i h e v)
  where
    more : (a b : ℕ) → suc a + b ≡ a + suc b
    more a b = omega arith
stands-by t first (of_type ∷ ss) s (suc i) h e v = subst (λ k. some_node (is_param s k) t ≡ true) (more first i) (stands-by t (suc first) ss s i (right (some_node (is_param of_type first) t) _ h) e v)
  where
    more : (a b : ℕ) → suc a + b ≡ a + suc b
    more a b = omega arith
stands-by t first (of_const ∷ ss) s (suc i) h e v = subst (λ k. some_node (is_param s k) t ≡ true) (more first i) (stands-by t (suc first) ss s i (right (some_node (is_param of_const first) t) _ h) e v)
  where
    more : (a b : ℕ) → suc a + b ≡ a + suc b
    more a b = omega arith

-- ---- plain trees are the same without lifetimes
label-plain : (l : Label) → erase_label (plain_label all_kept l) ≡ erase_label l
label-plain (param of_lifetime i) = refl
label-plain (param of_type i) = refl
label-plain (param of_const i) = refl
label-plain (bound of_lifetime k i) = refl
label-plain (bound of_type k i) = refl
label-plain (bound of_const k i) = refl
label-plain (fn_ptr n) = refl
label-plain (principal n t) = refl
label-plain l = refl

node : {l m : Label} {c k o p : Trees} → l ≡ m → c ≡ k → o ≡ p → tree l c o ≡ tree m k p
node e f g = cc

plain-same : (t : Trees) → erase (plain all_kept t) ≡ erase t
plain-same none = refl
plain-same (tree l c o) = node (label-plain l) (plain-same c) (plain-same o)

-- ---- an impl that is declared well
module _ (n : NamedImpl) (well : is_good_impl n ≡ true) where
  abbrev sorts : List Sort
  sorts = param_sorts n

  abbrev written : Trees
  written = n.item.header.args

  abbrev header : Trees
  header = erase n.item.header.args

  good : is_good all_kept sorts written ≡ true
  good = left (is_good all_kept sorts written) _ well

  stand : all_stand written 0 sorts ≡ true
  stand = left (all_stand written 0 sorts) _ (right (n.item.params == length sorts) _ (right (is_good all_kept sorts written) _ well))

  fitting : some_node (is_bad sorts) (plain all_kept written) ≡ false
  fitting = not-true (some_node (is_bad sorts) (plain all_kept written)) (right (is_made is_declared_leaf terms (plain all_kept written)) _ good)
    where
      not-true : (b : Bool) → not b ≡ true → b ≡ false
      not-true true e = absurd (false-true e)
      not-true false e = refl

  pub knows : KnowsParams n.params header
  knows = record {
    there = λ s i e.
        let q = sorted-there sorts s i (plain all_kept written) (ap (some_node (is_param s i)) (plain-same written) ∙ e) fitting in
        let p = unmapped (λ (p : List ℕ × Sort). p.1) n.params i s q in
        (p.0.0, p.1 ∙ ap (λ r. Some (p.0.0, r)) p.2);
    stands = λ s i m e v.
        params-kept s i v written ∙ subst (λ k. some_node (is_param s k) written ≡ true) (from-zero i) (stands-by written 0 sorts s i stand (mapped-at (λ (p : List ℕ × Sort). p.1) n.params i (m, s) e) v);
  }
    where
      from-zero : (k : ℕ) → 0 + k ≡ k
      from-zero k = omega arith

  itself : (s : Sort) (i : ℕ) → is_param s i (param s i) ≡ true
  itself s i = ap (λ b. b && (i == i)) (sort-self s) ∙ self-number i

  all-ok : (t : Trees) → ((s : Sort) (i : ℕ) → some_node (is_param s i) t ≡ true → some_node (is_param s i) header ≡ true) → some_node is_stray t ≡ false → AllOk n.params header knows t
  all-ok none f g = tt
  all-ok (tree (param s i) c o) f g = (
    λ v. f s i (in-first (is_param s i (param s i)) _ _ (itself s i)),
    all-ok c (λ r j e. f r j (in-second (is_param r j (param s i)) (some_node (is_param r j) c) (some_node (is_param r j) o) e)) (or-second false (some_node is_stray c) (some_node is_stray o) g),
    all-ok o (λ r j e. f r j (in-third (is_param r j (param s i)) (some_node (is_param r j) c) (some_node (is_param r j) o) e)) (or-third false (some_node is_stray c) (some_node is_stray o) g),
  )
  all-ok (tree (infer s i) c o) f g = absurd (false-true (sym g))
  all-ok (tree (placeholder s i) c o) f g = absurd (false-true (sym g))
  all-ok (tree l c o) f g = (
    tt,
    all-ok c (λ r j e. f r j (in-second (is_param r j l) (some_node (is_param r j) c) (some_node (is_param r j) o) e)) (or-second (is_stray l) (some_node is_stray c) (some_node is_stray o) g),
    all-ok o (λ r j e. f r j (in-third (is_param r j l) (some_node (is_param r j) c) (some_node (is_param r j) o) e)) (or-third (is_stray l) (some_node is_stray c) (some_node is_stray o) g),
  )

  pub header-ok : AllOk n.params header knows header
  header-ok = all-ok header (λ s i e. e) (ap (some_node is_stray) (sym (plain-same written)) ∙ made-known terms (plain all_kept written) (left (is_made is_declared_leaf terms (plain all_kept written)) _ good))
