-- Parameters of where-clauses stand in the header, as the same sort.
use Rattle.std.proofs.Common.{◌≡◌, ◌⊎◌, inl, inr, ℕ, ◌+◌, Bool, true, false, ◌&&◌, ◌||◌, ◌==◌, refl, sym, ap, ◌∙◌, subst, List, Some, arith}
use Rattle.std.specs.Prelude.{slice_get}
use Rattle.type_terms.specs.Promised.Label.{Label, Sort, of_type, of_const, of_lifetime, dynamic, principal, auto_trait, predicate, fn_ptr, param, placeholder, infer, canonical, bound}
use Rattle.type_terms.specs.Promised.Trees.{Trees, none, tree, erase, erase_label, is_sort, some_node}
use Rattle.type_terms.specs.Trees.{is_no_tree}
use Rattle.type_terms.proofs.Members.{same-number}
use Rattle.type_terms.proofs.Walking.{or-left as or-here, or-right as or-there}
use Rattle.type_terms.specs.Made.{Standing, terms, bounds, traits, is_made}
use Rattle.type_terms.proofs.Made.{left, right, false-true, no-tree, made-ordinary, last-bound, last-trait, never-dynamic, never-dynamic-bound, never-principal}
use Rattle.candidate_model.specs.Candidates.{is_this_param}
use Rattle.candidate_model.specs.Declared.{is_declared_leaf}
use Rattle.text_lowering.specs.Promised.SeenWorlds.{plain, plain_label, all_kept}
use Rattle.text_lowering.proofs.Sorts.{is_bad}
use Rattle.text_lowering.proofs.Tests.{is_good, all_stand}
use Rattle.text_lowering.proofs.Trees.{and-left, or-left, or-right}
use Rattle.text_lowering.proofs.SeenViews.{good-fits, sort-there, stands-by}
use Rattle.type_terms.specs.Promised.Supers.{mentions_as}
use Rattle.sessions.proofs.SeenPlainly.{plain-erased}
use Rattle.sessions.proofs.Mentioned.{Place, at_label, at_child, at_next, place-of, either, in-label, in-child, in-next}
use Rattle.type_terms.proofs.TermBasics.{sort-equal as sort-same}

-- a parameter that stays when lifetimes are erased
abbrev is_kept_param : Label → Bool
is_kept_param (param of_type i) = true
is_kept_param (param of_const i) = true
is_kept_param l = false

module _ (s : Sort) (j : ℕ) where
  step : (l : Label) (c o : Trees) → is_kept_param l ≡ false → mentions_as s j (tree (erase_label l) c o) ≡ mentions_as s j c || mentions_as s j o
  step (param of_type i) c o h = absurd cc
  step (param of_const i) c o h = absurd cc
  step (param of_lifetime i) c o h = refl
  step (placeholder of_lifetime i) c o h = refl
  step (placeholder of_type i) c o h = refl
  step (placeholder of_const i) c o h = refl
  step (infer of_lifetime i) c o h = refl
  step (infer of_type i) c o h = refl
  step (infer of_const i) c o h = refl
  step (canonical of_lifetime i) c o h = refl
  step (canonical of_type i) c o h = refl
  step (canonical of_const i) c o h = refl
  step (bound of_lifetime k i) c o h = refl
  step (bound of_type k i) c o h = refl
  step (bound of_const k i) c o h = refl
  step (fn_ptr n) c o h = refl
  step (principal n t) c o h = refl
  step l c o h = refl

  -- ---- what is mentioned stands there
  abbrev StandsSo : Trees → Type 0
  StandsSo t = (s ≡ of_lifetime → ⊥) × (some_node (is_this_param s j) t ≡ true)

  no-lifetime : (r : Sort) → (r ≡ of_lifetime → ⊥) → is_sort s r ≡ true → s ≡ of_lifetime → ⊥
  no-lifetime r n e q = n (sym (sort-same s r e) ∙ q)

  in-node : (l : Label) (c o : Trees) → is_kept_param l ≡ false → (mentions_as s j (erase c) ≡ true → StandsSo c) → (mentions_as s j (erase o) ≡ true → StandsSo o) → mentions_as s j (erase (tree l c o)) ≡ true → StandsSo (tree l c o)
  in-node l c o k f g h = by (either (mentions_as s j (erase c)) (mentions_as s j (erase o)) (sym (step l (erase c) (erase o) k) ∙ h))
    where
      by : (mentions_as s j (erase c) ≡ true) ⊎ (mentions_as s j (erase o) ≡ true) → StandsSo (tree l c o)
      by (inl e) = let x = f e in (x.0, in-child (is_this_param s j) l c o x.1)
      by (inr e) = let x = g e in (x.0, in-next (is_this_param s j) l c o x.1)

  in-param : (r : Sort) (i : ℕ) (c o : Trees) → (r ≡ of_lifetime → ⊥) → (mentions_as s j (erase o) ≡ true → StandsSo o) → (is_sort s r && (j == i)) || mentions_as s j (erase o) ≡ true → StandsSo (tree (param r i) c o)
  in-param r i c o n g h = by (either (is_sort s r && (j == i)) (mentions_as s j (erase o)) h)
    where
      by : (is_sort s r && (j == i) ≡ true) ⊎ (mentions_as s j (erase o) ≡ true) → StandsSo (tree (param r i) c o)
      by (inl e) = (no-lifetime r n (left (is_sort s r) (j == i) e), in-label (is_this_param s j) (param r i) c o e)
      by (inr e) = let x = g e in (x.0, in-next (is_this_param s j) (param r i) c o x.1)

  pub mentioned-stands : (t : Trees) → mentions_as s j (erase t) ≡ true → StandsSo t
  mentioned-stands none h = absurd (false-true h)
  mentioned-stands (tree (param of_type i) c o) h = in-param of_type i c o (λ e. absurd cc) (mentioned-stands o) h
  mentioned-stands (tree (param of_const i) c o) h = in-param of_const i c o (λ e. absurd cc) (mentioned-stands o) h
  mentioned-stands (tree (param of_lifetime i) c o) h = in-node (param of_lifetime i) c o refl (mentioned-stands c) (mentioned-stands o) h
  mentioned-stands (tree l c o) h = in-node l c o refl (mentioned-stands c) (mentioned-stands o) h

  -- ---- what stands in a declared tree is mentioned
  module _ (ns : s ≡ of_lifetime → ⊥) where
    at-label : (l : Label) → is_kept_param l ≡ false → is_this_param s j l ≡ true → ⊥
    at-label (param of_type i) k h = false-true (sym k)
    at-label (param of_const i) k h = false-true (sym k)
    at-label (param of_lifetime i) k h = ns (sort-same s of_lifetime (left (is_sort s of_lifetime) (j == i) h))
    at-label l k h = false-true h

    mention : (l : Label) (c o : Trees) → is_kept_param l ≡ false → (some_node (is_this_param s j) c ≡ true → mentions_as s j (erase c) ≡ true) → (some_node (is_this_param s j) o ≡ true → mentions_as s j (erase o) ≡ true)
        → some_node (is_this_param s j) (tree l c o) ≡ true → mentions_as s j (erase (tree l c o)) ≡ true
    mention l c o k f g h = step l (erase c) (erase o) k ∙ by (place-of (is_this_param s j) l c o h)
      where
        by : Place (is_this_param s j) l c o → mentions_as s j (erase c) || mentions_as s j (erase o) ≡ true
        by (at_label e) = absurd (at-label l k e)
        by (at_child e) = or-here (mentions_as s j (erase c)) (mentions_as s j (erase o)) (f e)
        by (at_next e) = or-there (mentions_as s j (erase c)) (mentions_as s j (erase o)) (g e)

    at-param : (r : Sort) (i : ℕ) (c o : Trees) → c ≡ none → (some_node (is_this_param s j) o ≡ true → mentions_as s j (erase o) ≡ true) → some_node (is_this_param s j) (tree (param r i) c o) ≡ true
        → (is_sort s r && (j == i)) || mentions_as s j (erase o) ≡ true
    at-param r i c o n g h = by (place-of (is_this_param s j) (param r i) c o h)
      where
        by : Place (is_this_param s j) (param r i) c o → (is_sort s r && (j == i)) || mentions_as s j (erase o) ≡ true
        by (at_label e) = or-here (is_sort s r && (j == i)) (mentions_as s j (erase o)) e
        by (at_child e) = absurd (false-true (sym (ap (some_node (is_this_param s j)) n) ∙ e))
        by (at_next e) = or-there (is_sort s r && (j == i)) (mentions_as s j (erase o)) (g e)

    nowhere : (c : Trees) → c ≡ none → some_node (is_this_param s j) c ≡ true → mentions_as s j (erase c) ≡ true
    nowhere c n e = absurd (false-true (sym (ap (some_node (is_this_param s j)) n) ∙ e))

    pub standing-mentioned : (m : Standing) (t : Trees) → is_made is_declared_leaf m t ≡ true → some_node (is_this_param s j) t ≡ true → mentions_as s j (erase t) ≡ true
    standing-mentioned m none h e = absurd (false-true e)
    standing-mentioned terms (tree dynamic c o) h e =
        mention dynamic c o refl (standing-mentioned bounds c (left (is_made is_declared_leaf bounds c) (is_made is_declared_leaf terms o) h)) (standing-mentioned terms o (right (is_made is_declared_leaf bounds c) (is_made is_declared_leaf terms o) h)) e
    standing-mentioned terms (tree (principal n t) c o) h e = absurd (false-true h)
    standing-mentioned terms (tree (auto_trait n) c o) h e = absurd (false-true h)
    standing-mentioned terms (tree (predicate k) c o) h e = absurd (false-true h)
    standing-mentioned terms (tree (param of_type i) c o) h e = let x = made-ordinary is_declared_leaf (param of_type i) c o refl h in at-param of_type i c o (no-tree c x.1) (standing-mentioned terms o x.3) e
    standing-mentioned terms (tree (param of_const i) c o) h e = let x = made-ordinary is_declared_leaf (param of_const i) c o refl h in at-param of_const i c o (no-tree c x.1) (standing-mentioned terms o x.3) e
    standing-mentioned terms (tree (param of_lifetime i) c o) h e =
        let x = made-ordinary is_declared_leaf (param of_lifetime i) c o refl h in mention (param of_lifetime i) c o refl (standing-mentioned terms c x.2) (standing-mentioned terms o x.3) e
    standing-mentioned terms (tree l c o) h e = let x = made-ordinary is_declared_leaf l c o refl h in mention l c o refl (standing-mentioned terms c x.2) (standing-mentioned terms o x.3) e
    standing-mentioned bounds (tree (principal n t) c o) h e =
        mention (principal n t) c o refl (standing-mentioned terms c (left (is_made is_declared_leaf terms c) (is_made is_declared_leaf traits o) h)) (standing-mentioned traits o (right (is_made is_declared_leaf terms c) (is_made is_declared_leaf traits o) h)) e
    standing-mentioned bounds (tree (auto_trait n) c o) h e =
        mention (auto_trait n) c o refl (nowhere c (no-tree c (left (is_no_tree c) (is_made is_declared_leaf traits o) h))) (standing-mentioned traits o (right (is_no_tree c) (is_made is_declared_leaf traits o) h)) e
    standing-mentioned bounds (tree (predicate k) c o) h e = absurd (false-true h)
    standing-mentioned bounds (tree dynamic c o) h e = absurd (never-dynamic-bound is_declared_leaf c o h)
    standing-mentioned bounds (tree (param of_type i) c o) h e = let x = last-bound is_declared_leaf (param of_type i) c o refl h in absurd (false-true x.lifetime)
    standing-mentioned bounds (tree (param of_const i) c o) h e = let x = last-bound is_declared_leaf (param of_const i) c o refl h in absurd (false-true x.lifetime)
    standing-mentioned bounds (tree (param of_lifetime i) c o) h e = let x = last-bound is_declared_leaf (param of_lifetime i) c o refl h in mention (param of_lifetime i) c o refl (nowhere c x.children) (nowhere o x.rest) e
    standing-mentioned bounds (tree l c o) h e = let x = last-bound is_declared_leaf l c o refl h in mention l c o refl (nowhere c x.children) (nowhere o x.rest) e
    standing-mentioned traits (tree (auto_trait n) c o) h e =
        mention (auto_trait n) c o refl (nowhere c (no-tree c (left (is_no_tree c) (is_made is_declared_leaf traits o) h))) (standing-mentioned traits o (right (is_no_tree c) (is_made is_declared_leaf traits o) h)) e
    standing-mentioned traits (tree (predicate k) c o) h e = absurd (false-true h)
    standing-mentioned traits (tree dynamic c o) h e = absurd (never-dynamic is_declared_leaf c o h)
    standing-mentioned traits (tree (principal n t) c o) h e = absurd (never-principal is_declared_leaf n t c o h)
    standing-mentioned traits (tree (param of_type i) c o) h e = let x = last-trait is_declared_leaf (param of_type i) c o refl h in absurd (false-true x.lifetime)
    standing-mentioned traits (tree (param of_const i) c o) h e = let x = last-trait is_declared_leaf (param of_const i) c o refl h in absurd (false-true x.lifetime)
    standing-mentioned traits (tree (param of_lifetime i) c o) h e = let x = last-trait is_declared_leaf (param of_lifetime i) c o refl h in mention (param of_lifetime i) c o refl (nowhere c x.children) (nowhere o x.rest) e
    standing-mentioned traits (tree l c o) h e = let x = last-trait is_declared_leaf l c o refl h in mention l c o refl (nowhere c x.children) (nowhere o x.rest) e

  -- ---- a parameter of a good tree has its sort
  label-sorted : (sorts : List Sort) (l : Label) → is_this_param s j l ≡ true → is_bad sorts l ≡ false → slice_get sorts j ≡ Some s
  label-sorted sorts (param r i) e g =
      subst (λ k. slice_get sorts k ≡ Some s) (sym (same-number j i (right (is_sort s r) (j == i) e))) (subst (λ z. slice_get sorts i ≡ Some z) (sym (sort-same s r (left (is_sort s r) (j == i) e))) (sort-there sorts r i g))
  label-sorted sorts l e g = absurd (false-true e)

  pub sorted-there : (sorts : List Sort) (t : Trees) → some_node (is_this_param s j) t ≡ true → some_node (is_bad sorts) t ≡ false → slice_get sorts j ≡ Some s
  sorted-there sorts none e g = absurd (false-true e)
  sorted-there sorts (tree l c o) e g = by (sorted-there sorts c) (sorted-there sorts o) (place-of (is_this_param s j) l c o e)
    where
      by : (some_node (is_this_param s j) c ≡ true → some_node (is_bad sorts) c ≡ false → slice_get sorts j ≡ Some s) → (some_node (is_this_param s j) o ≡ true → some_node (is_bad sorts) o ≡ false → slice_get sorts j ≡ Some s)
          → Place (is_this_param s j) l c o → slice_get sorts j ≡ Some s
      by f k (at_label q) = label-sorted sorts l q (or-left (is_bad sorts l) (some_node (is_bad sorts) c) (or-left (is_bad sorts l || some_node (is_bad sorts) c) (some_node (is_bad sorts) o) g))
      by f k (at_child q) = f q (or-right (is_bad sorts l) (some_node (is_bad sorts) c) (or-left (is_bad sorts l || some_node (is_bad sorts) c) (some_node (is_bad sorts) o) g))
      by f k (at_next q) = k q (or-right (is_bad sorts l || some_node (is_bad sorts) c) (some_node (is_bad sorts) o) g)

  label-kept : (l : Label) → is_this_param s j (plain_label all_kept l) ≡ is_this_param s j l
  label-kept (param of_lifetime i) = refl
  label-kept (param of_type i) = refl
  label-kept (param of_const i) = refl
  label-kept (bound of_lifetime k i) = refl
  label-kept (bound of_type k i) = refl
  label-kept (bound of_const k i) = refl
  label-kept (fn_ptr n) = refl
  label-kept (principal n t) = refl
  label-kept l = refl

  all-kept : (t : Trees) → some_node (is_this_param s j) (plain all_kept t) ≡ some_node (is_this_param s j) t
  all-kept none = refl
  all-kept (tree l c o) = three (label-kept l) (all-kept c) (all-kept o)
    where
      three : {a b c d e f : Bool} → a ≡ b → c ≡ d → e ≡ f → a || c || e ≡ b || d || f
      three p q r = cc

-- ---- where-clauses are covered
pub covered : (kept : ℕ → Bool) (sorts : List Sort) (header k : Trees) → is_good all_kept sorts header ≡ true → all_stand header 0 sorts ≡ true → is_good kept sorts k ≡ true
    → (s : Sort) (n : ℕ) → mentions_as s n (erase k) ≡ true → mentions_as s n (erase header) ≡ true
covered kept sorts header k g a q s n m =
    let x = mentioned-stands s n (plain kept k) (ap (mentions_as s n) (plain-erased kept k) ∙ m) in
    let e = sorted-there s n sorts (plain kept k) x.1 (good-fits kept sorts k q) in
    let st = subst (λ i. some_node (is_this_param s i) header ≡ true) (from-zero n) (stands-by header 0 sorts s n a e x.0) in
    sym (ap (mentions_as s n) (plain-erased all_kept header)) ∙ standing-mentioned s n x.0 terms (plain all_kept header) (and-left (is_made is_declared_leaf terms (plain all_kept header)) _ g) (all-kept s n header ∙ st)
  where
    from-zero : (i : ℕ) → 0 + i ≡ i
    from-zero i = omega arith
