-- Fresh unknowns in the place of parameters are the variables of an opened header, and a walk visits the same in it.
use Rattle.std.proofs.Common.{◌≡◌, ℕ, zero, suc, ◌+◌, Bool, true, false, ◌&&◌, ◌||◌, List, [], ◌∷◌, ◌++◌, Option, Some, None, refl, sym, ap, ◌∙◌, subst, arith}
use Rattle.std.proofs.lemmas.Bool.{eqb-true}
use Rattle.std.proofs.lemmas.Option.{same_Some}
use Rattle.std.specs.Prelude.{if◌then◌else◌, ◌==◌, slice_get}
use Rattle.type_terms.specs.Promised.Label.{Label, Sort, of_type, of_const, of_lifetime, adt, ref, dynamic, param, placeholder, infer, canonical, bound, value, static, inside}
use Rattle.type_terms.specs.Promised.Trees.{Trees, none, tree, leaf, ◌+++◌, nth, shift, instantiate, erase, erase_label, is_sort, some_node}
use Rattle.type_terms.specs.Promised.Walks.{Met, local, struct_leaf, entered, other_leaf, open_place, struct_is, is_home, dyn_met, visited}
use Rattle.type_terms.specs.Promised.Worlds.{World}
use Rattle.type_terms.proofs.Members.{so-false}
use Rattle.infer_table.specs.Content.{Table, variables_of}
use Rattle.infer_table.specs.Solutions.{HasValues}
use Rattle.infer_table.proofs.SolutionLaws.{is_sort-equal}
use Rattle.term_folds.specs.Arguments.{sort_at}
use Rattle.type_terms.specs.Promised.OpenedHeaders.{is_param, params_below, with_variables}
use Rattle.overlap_check.specs.Fresh.{with_unknown, fresh_unknowns, HasArguments}
use Rattle.overlap_check.specs.Headers.{empty_table}
use Rattle.overlap_check.specs.Orphans.{HoldsParams}
use Rattle.overlap_check.proofs.Instances.{node}
use Rattle.type_terms.proofs.Made.{false-true as no-true}
use Rattle.type_terms.proofs.TermBasics.{sort-self}
use Rattle.type_terms.proofs.BooleanBasics.{same-three}

-- ---- how many parameters before one are of its sort
abbrev has_sort : Sort → Option Sort → Bool
has_sort s None = false
has_sort s (Some k) = is_sort k s

abbrev earlier : Sort → ℕ → List Sort → ℕ
earlier s zero ks = zero
earlier s (suc n) ks = if has_sort s (slice_get ks n) then suc (earlier s n ks) else earlier s n ks

abbrev one_if : Bool → ℕ
one_if true = 1
one_if false = 0

earlier-first : (s k : Sort) (ks : List Sort) (n : ℕ) → earlier s (suc n) (k ∷ ks) ≡ one_if (is_sort k s) + earlier s n ks
earlier-first s k ks zero = by (is_sort k s)
  where
    by : (b : Bool) → (if b then suc zero else zero) ≡ one_if b + zero
    by true = refl
    by false = refl
earlier-first s k ks (suc n) = by (has_sort s (slice_get ks n)) (earlier s (suc n) (k ∷ ks)) (one_if (is_sort k s)) (earlier s n ks) (earlier-first s k ks n)
  where
    by : (b : Bool) (x a y : ℕ) → x ≡ a + y → (if b then suc x else x) ≡ a + (if b then suc y else y)
    by true x a y e = omega (arith, e)
    by false x a y e = e

counted : (t : Table) (k s : Sort) (b : ℕ) → variables_of (with_unknown t k) s + b ≡ variables_of t s + (one_if (is_sort k s) + b)
counted t of_type of_type b = omega arith
counted t of_type of_const b = omega arith
counted t of_type of_lifetime b = omega arith
counted t of_const of_type b = omega arith
counted t of_const of_const b = omega arith
counted t of_const of_lifetime b = omega arith
counted t of_lifetime of_type b = omega arith
counted t of_lifetime of_const b = omega arith
counted t of_lifetime of_lifetime b = omega arith

-- ---- the unknown of a parameter
unknown-at : (t : Table) (ks : List Sort) (i : ℕ) (s : Sort) → slice_get ks i ≡ Some s → nth (fresh_unknowns t ks) i ≡ leaf (infer s (variables_of t s + earlier s i ks))
unknown-at t [] i s e = cc
unknown-at t (k ∷ ks) zero s e =
    subst (λ x. leaf (infer k (variables_of t k)) ≡ leaf (infer x (variables_of t x + zero))) (same_Some k s e) (ap (λ n. leaf (infer k n)) (plain (variables_of t k)))
  where
    plain : (n : ℕ) → n ≡ n + zero
    plain n = omega arith
unknown-at t (k ∷ ks) (suc i) s e =
    unknown-at (with_unknown t k) ks i s e
    ∙ ap (λ n. leaf (infer s n)) (counted t k s (earlier s i ks) ∙ ap (λ n. variables_of t s + n) (sym (earlier-first s k ks i)))

sort-at : (t : Table) (ks : List Sort) (i : ℕ) → sort_at (fresh_unknowns t ks) i ≡ slice_get ks i
sort-at t [] i = refl
sort-at t (k ∷ ks) zero = refl
sort-at t (k ∷ ks) (suc i) = sort-at (with_unknown t k) ks i

-- ---- what stands in trees
three : (P : Type 0) (a b d : Bool) → (a ≡ true → P) → (b ≡ true → P) → (d ≡ true → P) → a || b || d ≡ true → P
three P true b d f g h e = f refl
three P false true d f g h e = g refl
three P false false true f g h e = h refl
three P false false false f g h e = absurd (no-true e)

both-true : (a b : Bool) → a && b ≡ true → (a ≡ true) × (b ≡ true)
both-true true b e = (refl, e)
both-true false b e = absurd (no-true e)

-- a parameter that stands there has an argument of its sort
standing : (I : Trees) (s : Sort) (i : ℕ) (t : Trees) → HasArguments I t → some_node (is_param s i) t ≡ true → sort_at I i ≡ Some s
standing I s i none h = λ e. absurd (no-true e)
standing I s i (tree (param r j) c o) h =
    three (sort_at I i ≡ Some s) (is_param s i (param r j)) (some_node (is_param s i) c) (some_node (is_param s i) o)
    (λ e. let p = both-true (is_sort s r) (i == j) e in ap (sort_at I) (eqb-true i j p.1) ∙ h.0 ∙ ap Some (sym (is_sort-equal s r p.0)))
    (λ e. absurd (no-true (sym (ap (some_node (is_param s i)) h.1) ∙ e)))
    (standing I s i o h.2)
standing I s i (tree (infer r j) c o) h =
    three (sort_at I i ≡ Some s) false (some_node (is_param s i) c) (some_node (is_param s i) o)
    (λ e. absurd (no-true e)) (λ e. absurd (no-true (sym (ap (some_node (is_param s i)) h.1) ∙ e))) (standing I s i o h.2)
standing I s i (tree l c o) h =
    three (sort_at I i ≡ Some s) false (some_node (is_param s i) c) (some_node (is_param s i) o) (λ e. absurd (no-true e)) (standing I s i c h.1) (standing I s i o h.2)

-- lifetimes aside, the same parameters stand there without lifetimes
same-label : (s : Sort) → HasValues s → (i : ℕ) (l : Label) → is_param s i (erase_label l) ≡ is_param s i l
same-label of_type v i (param of_lifetime j) = refl
same-label of_const v i (param of_lifetime j) = refl
same-label of_lifetime v i (param of_lifetime j) = absurd v
same-label s v i (param of_type j) = refl
same-label s v i (param of_const j) = refl
same-label s v i (placeholder of_lifetime j) = refl
same-label s v i (placeholder of_type j) = refl
same-label s v i (placeholder of_const j) = refl
same-label s v i (infer of_lifetime j) = refl
same-label s v i (infer of_type j) = refl
same-label s v i (infer of_const j) = refl
same-label s v i (canonical of_lifetime j) = refl
same-label s v i (canonical of_type j) = refl
same-label s v i (canonical of_const j) = refl
same-label s v i (bound of_lifetime k j) = refl
same-label s v i (bound of_type k j) = refl
same-label s v i (bound of_const k j) = refl
same-label s v i l = refl

same-params : (s : Sort) → HasValues s → (i : ℕ) (t : Trees) → some_node (is_param s i) (erase t) ≡ some_node (is_param s i) t
same-params s v i none = refl
same-params s v i (tree l c o) = same-three (same-label s v i l) (same-params s v i c) (same-params s v i o)

not-lifetime : (s : Sort) → HasValues s → is_sort s of_lifetime ≡ false
not-lifetime of_type v = refl
not-lifetime of_const v = refl
not-lifetime of_lifetime v = absurd v

module _ (sorts : List Sort) (args : Trees) (arguments : HasArguments (fresh_unknowns empty_table sorts) args) (holds : HoldsParams sorts args) where
  abbrev I : Trees
  I = fresh_unknowns empty_table sorts

  abbrev H : Trees
  H = erase args

  there : (s : Sort) (n : ℕ) → some_node (is_param s n) args ≡ true → slice_get sorts n ≡ Some s
  there s n e = sym (sort-at empty_table sorts n) ∙ standing I s n args arguments e

  -- a parameter of a sort is one that stands there
  stands-as : (s : Sort) → HasValues s → (n : ℕ) → has_sort s (slice_get sorts n) ≡ some_node (is_param s n) H
  stands-as s v n = by (slice_get sorts n) refl ∙ sym (same-params s v n args)
    where
      not-there : (k : Sort) → slice_get sorts n ≡ Some k → is_sort k s ≡ false → some_node (is_param s n) args ≡ false
      not-there k e f = so-false (some_node (is_param s n) args) (λ g. no-true (sym f ∙ ap (λ x. is_sort x s) (same_Some k s (sym e ∙ there s n g)) ∙ sort-self s))

      none-there : slice_get sorts n ≡ None → some_node (is_param s n) args ≡ false
      none-there e = so-false (some_node (is_param s n) args) (λ g. let f = sym e ∙ there s n g in clash f)
        where
          clash : None ≡ Some s → ⊥
          clash f = cc

      either : (k : Sort) → slice_get sorts n ≡ Some k → (b : Bool) → is_sort k s ≡ b → b ≡ some_node (is_param s n) args
      either k e true f =
          let same : k ≡ s = is_sort-equal k s f in
          sym (holds n s (e ∙ ap Some same) (not-lifetime s v))
      either k e false f = sym (not-there k e f)

      by : (r : Option Sort) → slice_get sorts n ≡ r → has_sort s r ≡ some_node (is_param s n) args
      by None e = sym (none-there e)
      by (Some k) e = either k e (is_sort k s) refl

  below-is : (s : Sort) → HasValues s → (n : ℕ) → earlier s n sorts ≡ params_below H s n
  below-is s v zero = refl
  below-is s v (suc n) =
      ap (λ b. if b then suc (earlier s n sorts) else earlier s n sorts) (stands-as s v n) ∙ ap (λ m. if some_node (is_param s n) H then suc m else m) (below-is s v n)

  number-is : (s : Sort) → HasValues s → (n : ℕ) → variables_of empty_table s + earlier s n sorts ≡ params_below H s n
  number-is of_type v n = let e = below-is of_type v n in omega (arith, e)
  number-is of_const v n = let e = below-is of_const v n in omega (arith, e)
  number-is of_lifetime v n = absurd v

  at : (s : Sort) (i : ℕ) → sort_at I i ≡ Some s → nth I i ≡ leaf (infer s (variables_of empty_table s + earlier s i sorts))
  at s i e = unknown-at empty_table sorts i s (sym (sort-at empty_table sorts i) ∙ e)

  parts-opened : (d : ℕ) (t : Trees) → HasArguments I t → erase (instantiate d I t) ≡ with_variables H (erase t)
  parts-opened d none h = refl
  parts-opened d (tree (param of_type i) c o) h =
      ap (λ z. erase (shift zero d z +++ instantiate d I o)) (at of_type i h.0) ∙ node (ap (infer of_type) (number-is of_type tt i)) refl (parts-opened d o h.2)
  parts-opened d (tree (param of_const i) c o) h =
      ap (λ z. erase (shift zero d z +++ instantiate d I o)) (at of_const i h.0) ∙ node (ap (infer of_const) (number-is of_const tt i)) refl (parts-opened d o h.2)
  parts-opened d (tree (param of_lifetime i) c o) h =
      ap (λ z. erase (shift zero d z +++ instantiate d I o)) (at of_lifetime i h.0) ∙ node refl (sym (ap (λ z. with_variables H (erase z)) h.1)) (parts-opened d o h.2)
  parts-opened d (tree (infer of_lifetime i) c o) h = node refl (ap (λ z. erase (instantiate d I z)) h.1 ∙ sym (ap (λ z. with_variables H (erase z)) h.1)) (parts-opened d o h.2)
  parts-opened d (tree (infer of_type i) c o) h = node refl (ap (λ z. erase (instantiate d I z)) h.1 ∙ sym (ap (λ z. with_variables H (erase z)) h.1)) (parts-opened d o h.2)
  parts-opened d (tree (infer of_const i) c o) h = node refl (ap (λ z. erase (instantiate d I z)) h.1 ∙ sym (ap (λ z. with_variables H (erase z)) h.1)) (parts-opened d o h.2)
  parts-opened d (tree (placeholder of_type i) c o) h = node refl (parts-opened d c h.1) (parts-opened d o h.2)
  parts-opened d (tree (placeholder of_const i) c o) h = node refl (parts-opened d c h.1) (parts-opened d o h.2)
  parts-opened d (tree (placeholder of_lifetime i) c o) h = node refl (parts-opened d c h.1) (parts-opened d o h.2)
  parts-opened d (tree (canonical of_type i) c o) h = node refl (parts-opened d c h.1) (parts-opened d o h.2)
  parts-opened d (tree (canonical of_const i) c o) h = node refl (parts-opened d c h.1) (parts-opened d o h.2)
  parts-opened d (tree (canonical of_lifetime i) c o) h = node refl (parts-opened d c h.1) (parts-opened d o h.2)
  parts-opened d (tree (bound of_type k i) c o) h = node refl (parts-opened d c h.1) (parts-opened d o h.2)
  parts-opened d (tree (bound of_const k i) c o) h = node refl (parts-opened d c h.1) (parts-opened d o h.2)
  parts-opened d (tree (bound of_lifetime k i) c o) h = node refl (parts-opened d c h.1) (parts-opened d o h.2)
  parts-opened d (tree l c o) h = node refl (parts-opened (inside l d) c h.1) (parts-opened d o h.2)

  pub fresh-opened : erase (instantiate zero I args) ≡ with_variables H H
  fresh-opened = parts-opened zero args arguments

-- ---- a walk visits the same in it
dyn-opened : (V : World) (d : Option ℕ) (h c : Trees) → dyn_met V d (with_variables h c) ≡ dyn_met V d c
dyn-opened V d h none = refl
dyn-opened V d h (tree (param s i) c o) = refl
dyn-opened V d h (tree l c o) = refl

joins : {ks ms ls ns : List Met} → ks ≡ ls → ms ≡ ns → ks ++ ms ≡ ls ++ ns
joins h k = cc

pub opened-visits : (V : World) (d : Option ℕ) (h t : Trees) → visited V d (with_variables h t) ≡ visited V d t
opened-visits V d h none = refl
opened-visits V d h (tree (ref b) c o) = joins (opened-visits V d h c) (opened-visits V d h o)
opened-visits V d h (tree (adt s) c o) =
    joins (ap (λ z. if struct_is (λ x. is_home d x.home) V s then local ∷ [] else if struct_is (λ x. x.is_fundamental) V s then entered s ∷ z else struct_leaf s ∷ []) (opened-visits V d h c)) (opened-visits V d h o)
opened-visits V d h (tree dynamic c o) = joins (dyn-opened V d h c) (opened-visits V d h o)
opened-visits V d h (tree (param of_type i) c o) = ap (λ z. open_place ∷ z) (opened-visits V d h o)
opened-visits V d h (tree (placeholder of_type i) c o) = ap (λ z. open_place ∷ z) (opened-visits V d h o)
opened-visits V d h (tree (infer of_type i) c o) = ap (λ z. open_place ∷ z) (opened-visits V d h o)
opened-visits V d h (tree (canonical of_type i) c o) = ap (λ z. open_place ∷ z) (opened-visits V d h o)
opened-visits V d h (tree (bound of_type k i) c o) = ap (λ z. open_place ∷ z) (opened-visits V d h o)
opened-visits V d h (tree (param of_const i) c o) = opened-visits V d h o
opened-visits V d h (tree (placeholder of_const i) c o) = opened-visits V d h o
opened-visits V d h (tree (infer of_const i) c o) = opened-visits V d h o
opened-visits V d h (tree (canonical of_const i) c o) = opened-visits V d h o
opened-visits V d h (tree (bound of_const k i) c o) = opened-visits V d h o
opened-visits V d h (tree (param of_lifetime i) c o) = opened-visits V d h o
opened-visits V d h (tree (placeholder of_lifetime i) c o) = opened-visits V d h o
opened-visits V d h (tree (infer of_lifetime i) c o) = opened-visits V d h o
opened-visits V d h (tree (canonical of_lifetime i) c o) = opened-visits V d h o
opened-visits V d h (tree (bound of_lifetime k i) c o) = opened-visits V d h o
opened-visits V d h (tree (value n) c o) = opened-visits V d h o
opened-visits V d h (tree static c o) = opened-visits V d h o
opened-visits V d h (tree l c o) = ap (λ z. other_leaf ∷ z) (opened-visits V d h o)
