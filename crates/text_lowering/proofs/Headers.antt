-- Headers of impls: what stands in where-clauses stands there with its sort, and each parameter has one.
use Rattle.std.proofs.Common.{◌≡◌, ℕ, ◌<◌, Bool, true, false, ◌&&◌, ◌||◌, List, length, Some, refl, sym, ap, ◌∙◌, subst}
use Rattle.std.proofs.lemmas.Bool.{eqb-true}
use Rattle.std.proofs.lemmas.Bool.Decides.{Decides-ltb}
use Rattle.std.proofs.lemmas.Option.{same_Some, slice_get_within}
use Rattle.std.specs.Prelude.{not, if◌then◌else◌, ◌==◌, slice_get, nat_lt}
use Rattle.std.specs.List.{list_all}
use Rattle.type_terms.specs.Promised.Label.{Label, Sort, of_lifetime, of_type, of_const, static, fn_ptr, principal, param, bound}
use Rattle.type_terms.specs.Promised.Trees.{Trees, none, tree, some_node, is_sort}
use Rattle.type_terms.specs.Promised.Worlds.{Reference}
use Rattle.text_language.specs.Promised.Declarations.{NamedImpl}
use Rattle.candidate_model.specs.Candidates.{is_this_param}
use Rattle.candidate_model.specs.Declared.{is_otherwise, is_unsorted}
use Rattle.candidate_model.specs.DeclaredWell.{is_loose}
use Rattle.text_lowering.specs.Promised.SeenWorlds.{plain_label, plain, plain_reference, plain_impl, all_kept, is_lifetime, stands_in}
use Rattle.text_lowering.specs.Seen.{param_sorts}
use Rattle.text_lowering.proofs.Sorts.{is_bad}
use Rattle.text_lowering.proofs.Tests.{is_good, is_good_impl, all_stand}
use Rattle.text_lowering.proofs.Trees.{and-left, and-right, or, or-left, or-right}
use Rattle.text_lowering.proofs.SeenViews.{sort-there, stands-by, not-true, good-fits, all-mapped}
use Rattle.type_terms.proofs.NumberBasics.{zero-first}
use Rattle.type_terms.proofs.BooleanBasics.{not-true as not-loose}

-- ---- a parameter stands in the plain header as in the header
label-kept : (s : Sort) (i : ℕ) (l : Label) → is_this_param s i l ≡ true → is_this_param s i (plain_label all_kept l) ≡ true
label-kept s i (param of_lifetime j) h = h
label-kept s i (param of_type j) h = h
label-kept s i (param of_const j) h = h
label-kept s i (bound of_lifetime j k) h = absurd cc
label-kept s i (fn_ptr n) h = absurd cc
label-kept s i (principal n t) h = absurd cc
label-kept s i l h = h

pub still : (s : Sort) (i : ℕ) (t : Trees) → some_node (is_this_param s i) t ≡ true → some_node (is_this_param s i) (plain all_kept t) ≡ true
still s i none h = h
still s i (tree l c o) h = by (is_this_param s i l) (some_node (is_this_param s i) c) (some_node (is_this_param s i) o) (label-kept s i l) (still s i c) (still s i o) h
  where
    by : (a b d : Bool) {x y z : Bool} → (a ≡ true → x ≡ true) → (b ≡ true → y ≡ true) → (d ≡ true → z ≡ true) → a || b || d ≡ true → x || y || z ≡ true
    by a b d {x = true} f g k q = refl
    by a b d {x = false} {y = true} f g k q = refl
    by a b d {x = false} {y = false} {z = true} f g k q = refl
    by true b d {x = false} {y = false} {z = false} f g k q = f refl
    by false true d {x = false} {y = false} {z = false} f g k q = g refl
    by false false true {x = false} {y = false} {z = false} f g k q = k refl
    by false false false {x = false} {y = false} {z = false} f g k q = q

lifetime-param : (i : ℕ) (t : Trees) → some_node (is_lifetime i) t ≡ true → some_node (is_this_param of_lifetime i) t ≡ true
lifetime-param i none h = h
lifetime-param i (tree l c o) h = by (is_lifetime i l) (some_node (is_lifetime i) c) (some_node (is_lifetime i) o) (label l) (lifetime-param i c) (lifetime-param i o) h
  where
    label : (m : Label) → is_lifetime i m ≡ true → is_this_param of_lifetime i m ≡ true
    label (param of_lifetime j) q = q
    label (param of_type j) q = absurd cc
    label (param of_const j) q = absurd cc
    label m q = q

    by : (a b d : Bool) {x y z : Bool} → (a ≡ true → x ≡ true) → (b ≡ true → y ≡ true) → (d ≡ true → z ≡ true) → a || b || d ≡ true → x || y || z ≡ true
    by a b d {x = true} f g k q = refl
    by a b d {x = false} {y = true} f g k q = refl
    by a b d {x = false} {y = false} {z = true} f g k q = refl
    by true b d {x = false} {y = false} {z = false} f g k q = f refl
    by false true d {x = false} {y = false} {z = false} f g k q = g refl
    by false false true {x = false} {y = false} {z = false} f g k q = k refl
    by false false false {x = false} {y = false} {z = false} f g k q = q

module _ (header : Trees) (sorts : List Sort) (stand : all_stand header 0 sorts ≡ true) where
  in-header : (s : Sort) (i : ℕ) → (s ≡ of_lifetime → ⊥) → is_bad sorts (param s i) ≡ false → some_node (is_this_param s i) (plain all_kept header) ≡ true
  in-header s i n h = still s i header (subst (λ k. some_node (is_this_param s k) header ≡ true) (zero-first i) (stands-by header 0 sorts s i stand (sort-there sorts s i h) n))

  label-tight : (l : Label) → is_bad sorts (plain_label (stands_in header) l) ≡ false → is_loose (plain all_kept header) (plain_label (stands_in header) l) ≡ false
  label-tight (param of_type i) h = not-loose _ (in-header of_type i (λ e. absurd cc) h)
  label-tight (param of_const i) h = not-loose _ (in-header of_const i (λ e. absurd cc) h)
  label-tight (param of_lifetime i) h = by (stands_in header i) refl
    where
      by : (b : Bool) → stands_in header i ≡ b → is_loose (plain all_kept header) (if b then param of_lifetime i else static) ≡ false
      by true e = not-loose _ (still of_lifetime i header (lifetime-param i header e))
      by false e = refl
  label-tight (bound of_lifetime j i) h = refl
  label-tight (fn_ptr n) h = refl
  label-tight (principal n t) h = refl
  label-tight l h = refl

  tight : (t : Trees) → some_node (is_bad sorts) (plain (stands_in header) t) ≡ false → some_node (is_loose (plain all_kept header)) (plain (stands_in header) t) ≡ false
  tight none h = refl
  tight (tree l c o) h =
      or _ _ (or _ _ (label-tight l (or-left _ _ (or-left _ _ h))) (tight c (or-right (is_bad sorts (plain_label (stands_in header) l)) _ (or-left _ _ h))))
      (tight o (or-right (is_bad sorts (plain_label (stands_in header) l) || some_node (is_bad sorts) (plain (stands_in header) c)) _ h))

  -- ---- each parameter of the header has one sort, and is below the number of them
  one-sort : (s : Sort) (i : ℕ) (l : Label) → slice_get sorts i ≡ Some s → is_bad sorts l ≡ false → is_otherwise s i l ≡ false
  one-sort s i (param r j) e h = by (i == j) refl
    where
      same-sort : (a b : Sort) → a ≡ b → is_sort a b ≡ true
      same-sort of_type b q = subst (λ x. is_sort of_type x ≡ true) q refl
      same-sort of_const b q = subst (λ x. is_sort of_const x ≡ true) q refl
      same-sort of_lifetime b q = subst (λ x. is_sort of_lifetime x ≡ true) q refl

      both : (a : Bool) → a ≡ true → not a && true ≡ false
      both true q = refl
      both false q = absurd cc

      never : (a : Bool) → not a && false ≡ false
      never true = refl
      never false = refl

      by : (b : Bool) → (i == j) ≡ b → not (is_sort r s) && b ≡ false
      by false q = never (is_sort r s)
      by true q = both (is_sort r s) (same-sort r s (same_Some r s (sym (sort-there sorts r j h) ∙ ap (slice_get sorts) (sym (eqb-true i j q)) ∙ e)))
  one-sort s i l e h = refl

  one-sorted : (s : Sort) (i : ℕ) (t : Trees) → slice_get sorts i ≡ Some s → some_node (is_bad sorts) t ≡ false → some_node (is_otherwise s i) t ≡ false
  one-sorted s i none e h = refl
  one-sorted s i (tree l c o) e h =
      or _ _ (or _ _ (one-sort s i l e (or-left _ _ (or-left _ _ h))) (one-sorted s i c e (or-right (is_bad sorts l) _ (or-left _ _ h)))) (one-sorted s i o e (or-right (is_bad sorts l || some_node (is_bad sorts) c) _ h))

  label-sorted : (n : ℕ) (H : Trees) (l : Label) → n ≡ length sorts → some_node (is_bad sorts) H ≡ false → is_bad sorts l ≡ false → is_unsorted n H l ≡ false
  label-sorted n H (param s i) e f h =
      or _ _ (below (nat_lt i n) ((Decides-ltb i n).1 (subst (λ k. i < k) (sym e) (slice_get_within sorts i s (sort-there sorts s i h))))) (one-sorted s i H (sort-there sorts s i h) f)
    where
      below : (b : Bool) → b ≡ true → not b ≡ false
      below true q = refl
      below false q = absurd cc
  label-sorted n H l e f h = refl

  pub sorted-header : (n : ℕ) (H t : Trees) → n ≡ length sorts → some_node (is_bad sorts) H ≡ false → some_node (is_bad sorts) t ≡ false → some_node (is_unsorted n H) t ≡ false
  sorted-header n H none e f h = refl
  sorted-header n H (tree l c o) e f h =
      or _ _ (or _ _ (label-sorted n H l e f (or-left _ _ (or-left _ _ h))) (sorted-header n H c e f (or-right (is_bad sorts l) _ (or-left _ _ h)))) (sorted-header n H o e f (or-right (is_bad sorts l || some_node (is_bad sorts) c) _ h))

-- ---- impls
pub impl-determined : (x : NamedImpl) → is_good_impl x ≡ true → list_all (λ (c : Reference). not (some_node (is_loose (plain_impl x.item).header.args) c.args)) (plain_impl x.item).clauses ≡ true
impl-determined x h =
    let i = x.item in
    let rest = and-right (is_good all_kept (param_sorts x) i.header.args) _ h in
    let stand = and-right (i.params == length (param_sorts x)) _ rest in
    all-mapped (plain_reference (stands_in i.header.args)) (λ (c : Reference). not (some_node (is_loose (plain all_kept i.header.args)) c.args)) (λ (c : Reference). is_good (stands_in i.header.args) (param_sorts x) c.args)
    (λ c g. not-true _ (tight i.header.args (param_sorts x) (and-left _ _ stand) c.args (good-fits (stands_in i.header.args) (param_sorts x) c.args g))) i.clauses
    (and-right (all_stand i.header.args 0 (param_sorts x)) _ stand)

pub impl-sorted : (x : NamedImpl) → is_good_impl x ≡ true → not (some_node (is_unsorted x.item.params (plain_impl x.item).header.args) (plain_impl x.item).header.args) ≡ true
impl-sorted x h =
    let i = x.item in
    let rest = and-right (is_good all_kept (param_sorts x) i.header.args) _ h in
    let stand = and-right (i.params == length (param_sorts x)) _ rest in
    let fit = good-fits all_kept (param_sorts x) i.header.args (and-left _ _ h) in
    not-true _ (sorted-header i.header.args (param_sorts x) (and-left _ _ stand) i.params (plain all_kept i.header.args) (plain all_kept i.header.args) (eqb-true i.params (length (param_sorts x)) (and-left _ _ rest)) fit fit)
