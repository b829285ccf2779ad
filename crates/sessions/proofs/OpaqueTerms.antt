-- Terms with placeholders in the place of parameters: what is put in makes each parameter opaque, and they stay formed.
use Rattle.std.proofs.Common.{◌≡◌, ℕ, zero, suc, ◌+◌, max, Bool, true, List, [], ◌∷◌, ◌++◌, Some, refl, sym, ap, ◌∙◌, subst, arith}
use Rattle.std.proofs.lemmas.Option.{same_Some}
use Rattle.type_terms.specs.Promised.Label.{Label, Sort, of_type, of_const, of_lifetime, static, fn_ptr, dynamic, principal, auto_trait, predicate, param, placeholder, infer, canonical, bound, inside}
use Rattle.type_terms.specs.Promised.Rules.{autos_with, asked}
use Rattle.type_terms.specs.Promised.Supers.{opaque, opaque_reference}
use Rattle.type_terms.specs.Promised.Erased.{erased_reference}
use Rattle.type_terms.specs.Promised.Trees.{Trees, none, tree, leaf, ◌+++◌, is_sort, sort_of, nth, shift, instantiate, erase}
use Rattle.type_terms.specs.Trees.{is_no_tree, outer_binder}
use Rattle.type_terms.specs.Promised.Worlds.{World, Reference}
use Rattle.type_terms.specs.Promised.Handles.{ArgsHeld, arg_trees}
use Rattle.type_terms.specs.Kinds.{args_trees}
use Rattle.type_terms.specs.Kept.{args-trees-later}
use Rattle.type_terms.specs.Promised.Handles.{Entry, Keeps}
use Rattle.type_terms.specs.declared.kinds.GenericArgKind.{GenericArgKind}
use Rattle.type_terms.specs.Made.{Standing, terms, bounds, traits, is_leaf_label, is_made}
use Rattle.type_terms.proofs.Made.{left, right, both, false-true, no-tree, IsLast, made-ordinary, makes-ordinary, last-bound, last-trait, never-dynamic, never-dynamic-bound, never-principal}
use Rattle.term_folds.specs.Arguments.{sort_at}
use Rattle.declarations.specs.Applied.{sorts_of}
use Rattle.candidate_model.specs.Declared.{is_declared_leaf}
use Rattle.overlap_check.specs.Fresh.{HasArguments}
use Rattle.solver_completeness.specs.FormedFacts.{Sorts, NodesFit}
use Rattle.solver_completeness.proofs.FormedInstances.{node-same}
use Rattle.text_lowering.specs.Promised.SeenWorlds.{plain, plain_reference}
use Rattle.sessions.specs.Goals.{is_fixed}
use Rattle.sessions.specs.Placeholders.{placeholders_from}
use Rattle.sessions.proofs.SeenPlainly.{plain-erased}
use Rattle.candidate_model.proofs.Basics.{same-autos}
use Rattle.candidate_model.proofs.BoundTerms.{no-children}
use Rattle.overlap_check.proofs.Unknowns.{last-arg}

-- ---- placeholders in a row
pub placeholders-closed : (n : ℕ) (ss : List Sort) → outer_binder (placeholders_from n ss) ≡ 0
placeholders-closed n [] = refl
placeholders-closed n (s ∷ ss) = ap (λ k. max (max zero zero) k) (placeholders-closed (suc n) ss)

pub placeholders-sorts : (n : ℕ) (ss : List Sort) → sorts_of (placeholders_from n ss) ≡ ss
placeholders-sorts n [] = refl
placeholders-sorts n (s ∷ ss) = ap (λ z. s ∷ z) (placeholders-sorts (suc n) ss)

from-place : (n : ℕ) (ss : List Sort) (i : ℕ) (s : Sort) → sort_at (placeholders_from n ss) i ≡ Some s → nth (placeholders_from n ss) i ≡ leaf (placeholder s (n + i))
from-place n [] i s e = absurd cc
from-place n (r ∷ ss) zero s e = ap (λ z. leaf (placeholder z n)) (same_Some r s e) ∙ ap (λ k. leaf (placeholder s k)) (no-more n)
  where
    no-more : (k : ℕ) → k ≡ k + zero
    no-more k = omega arith
from-place n (r ∷ ss) (suc i) s e = from-place (suc n) ss i s e ∙ ap (λ k. leaf (placeholder s k)) (one-more n i)
  where
    one-more : (k j : ℕ) → suc k + j ≡ k + suc j
    one-more k j = omega arith

pub at-place : (ss : List Sort) (i : ℕ) (s : Sort) → sort_at (placeholders_from 0 ss) i ≡ Some s → nth (placeholders_from 0 ss) i ≡ leaf (placeholder s i)
at-place ss i s e = from-place 0 ss i s e ∙ ap (λ k. leaf (placeholder s k)) (from-zero i)
  where
    from-zero : (k : ℕ) → 0 + k ≡ k
    from-zero k = omega arith

-- rows of the same sorts have arguments for the same trees
same-sorts-at : (A B : Trees) → sorts_of A ≡ sorts_of B → (i : ℕ) → sort_at A i ≡ sort_at B i
same-sorts-at none none e i = refl
same-sorts-at none (tree m d p) e i = absurd cc
same-sorts-at (tree l c o) none e i = absurd cc
same-sorts-at (tree l c o) (tree m d p) e zero = ap Some (head (sort_of l) (sort_of m) (sorts_of o) (sorts_of p) e)
  where
    head : (a b : Sort) (xs ys : List Sort) → a ∷ xs ≡ b ∷ ys → a ≡ b
    head a b xs ys q = cc
same-sorts-at (tree l c o) (tree m d p) e (suc i) = same-sorts-at o p (rest (sort_of l) (sort_of m) (sorts_of o) (sorts_of p) e) i
  where
    rest : (a b : Sort) (xs ys : List Sort) → a ∷ xs ≡ b ∷ ys → xs ≡ ys
    rest a b xs ys q = cc

pub arguments-too : (A B : Trees) → sorts_of A ≡ sorts_of B → (t : Trees) → HasArguments A t → HasArguments B t
arguments-too A B e none h = tt
arguments-too A B e (tree (param s i) c o) h = (sym (same-sorts-at A B e i) ∙ h.0, h.1, arguments-too A B e o h.2)
arguments-too A B e (tree (infer s i) c o) h = (h.0, h.1, arguments-too A B e o h.2)
arguments-too A B e (tree l c o) h = (h.0, arguments-too A B e c h.1, arguments-too A B e o h.2)

-- ---- put in for parameters
pub node : (l : Label) {c d o p : Trees} → c ≡ d → o ≡ p → tree l c o ≡ tree l d p
node l e f = cc

module _ (ss : List Sort) where
  abbrev P : Trees
  P = placeholders_from 0 ss

  pub put-in : (d : ℕ) (t : Trees) → HasArguments P t → instantiate d P t ≡ opaque t
  put-in d none h = refl
  put-in d (tree (param s i) c o) h =
      ap (λ z. shift zero d z +++ instantiate d P o) (at-place ss i s h.0) ∙ node (placeholder s i) (ap opaque (sym h.1)) (put-in d o h.2)
  put-in d (tree (infer s i) c o) h =
      node (infer s i) (ap (instantiate d P) h.1 ∙ ap opaque (sym h.1)) (put-in d o h.2)
  put-in d (tree l c o) h = node l (put-in (inside l d) c h.1) (put-in d o h.2)

-- ---- names and sorts
opaque-sort : (l : Label) (c o : Trees) → sorts_of (opaque (tree l c o)) ≡ sort_of l ∷ sorts_of (opaque o)
opaque-sort (param s i) c o = refl
opaque-sort l c o = refl

pub opaque-sorts : (t : Trees) → sorts_of (opaque t) ≡ sorts_of t
opaque-sorts none = refl
opaque-sorts (tree l c o) = opaque-sort l c o ∙ ap (λ z. sort_of l ∷ z) (opaque-sorts o)

opaque-autos : (t : Trees) → autos_with none (opaque t) ≡ autos_with none t
opaque-autos none = refl
opaque-autos (tree (param s i) c o) = opaque-autos o
opaque-autos (tree (auto_trait t) c o) = ap (λ z. asked t none ∷ z) (opaque-autos o)
opaque-autos (tree l c o) = opaque-autos o

pub opaque-nodes : (V : World) (sorts : Sorts) (t : Trees) → NodesFit V sorts t → NodesFit V sorts (opaque t)
opaque-nodes V sorts none n = tt
opaque-nodes V sorts (tree (param s i) c o) n = (tt, opaque-nodes V sorts c n.1, opaque-nodes V sorts o n.2)
opaque-nodes V sorts (tree dynamic c o) n = (same-autos c (opaque c) (opaque-autos c) ∙ n.0, opaque-nodes V sorts c n.1, opaque-nodes V sorts o n.2)
opaque-nodes V sorts (tree l c o) n = (node-same V sorts l c (opaque c) refl (opaque-sorts c) n.0, opaque-nodes V sorts c n.1, opaque-nodes V sorts o n.2)

gone : (c : Trees) → c ≡ none → is_no_tree (opaque c) ≡ true
gone c h = subst (λ z. is_no_tree (opaque z) ≡ true) (sym h) refl

-- the lifetime at the end of the bounds of a `dyn`
abbrev EndsWith : Trees → Type 0
EndsWith t = (is_made is_fixed traits t ≡ true) × (is_made is_fixed bounds t ≡ true)

last : (l : Label) → is_declared_leaf l ≡ true → is_sort (sort_of l) of_lifetime ≡ true → EndsWith (opaque (tree l none none))
last static g s = (refl, refl)
last (param of_lifetime i) g s = (refl, refl)
last (param of_type i) g s = absurd (false-true s)
last (param of_const i) g s = absurd (false-true s)
last (infer k i) g s = absurd (false-true g)
last (canonical k i) g s = absurd (false-true g)
last (placeholder k i) g s = absurd (false-true g)
last (bound k j i) g s = absurd (false-true g)
last l g s = absurd (false-true s)

ends : (l : Label) (c o : Trees) → IsLast is_declared_leaf l c o → EndsWith (opaque (tree l c o))
ends l c o x =
    subst (λ z. EndsWith (opaque (tree l z o))) (sym x.children) (subst (λ z. EndsWith (opaque (tree l none z))) (sym x.rest) (last l x.good_label x.lifetime))

-- with placeholders for its parameters what is declared is fixed
pub opaque-made : (m : Standing) (t : Trees) → is_made is_declared_leaf m t ≡ true → is_made is_fixed m (opaque t) ≡ true
opaque-made terms none h = refl
opaque-made terms (tree dynamic c o) h =
    both (is_made is_fixed bounds (opaque c)) _ (opaque-made bounds c (left (is_made is_declared_leaf bounds c) (is_made is_declared_leaf terms o) h))
    (opaque-made terms o (right (is_made is_declared_leaf bounds c) (is_made is_declared_leaf terms o) h))
opaque-made terms (tree (principal k t) c o) h = absurd (false-true h)
opaque-made terms (tree (auto_trait t) c o) h = absurd (false-true h)
opaque-made terms (tree (predicate k) c o) h = absurd (false-true h)
opaque-made terms (tree (infer s i) c o) h = absurd (false-true h)
opaque-made terms (tree (canonical s i) c o) h = absurd (false-true h)
opaque-made terms (tree (placeholder s i) c o) h = absurd (false-true h)
opaque-made terms (tree (bound s k i) c o) h = absurd (false-true h)
opaque-made terms (tree (param s i) c o) h =
    let x = made-ordinary is_declared_leaf (param s i) c o refl h in
    makes-ordinary is_fixed (placeholder s i) (opaque c) (opaque o) refl refl (no-children true opaque refl c x.1) (opaque-made terms c x.2) (opaque-made terms o x.3)
opaque-made terms (tree l c o) h =
    let x = made-ordinary is_declared_leaf l c o refl h in
    makes-ordinary is_fixed l (opaque c) (opaque o) refl refl (no-children (is_leaf_label l) opaque refl c x.1) (opaque-made terms c x.2) (opaque-made terms o x.3)
opaque-made bounds none h = absurd (false-true h)
opaque-made bounds (tree (predicate k) c o) h = absurd (false-true h)
opaque-made bounds (tree dynamic c o) h = absurd (never-dynamic-bound is_declared_leaf c o h)
opaque-made bounds (tree (principal k t) c o) h =
    both (is_made is_fixed terms (opaque c)) _ (opaque-made terms c (left (is_made is_declared_leaf terms c) (is_made is_declared_leaf traits o) h))
    (opaque-made traits o (right (is_made is_declared_leaf terms c) (is_made is_declared_leaf traits o) h))
opaque-made bounds (tree (auto_trait t) c o) h =
    both (is_no_tree (opaque c)) _ (gone c (no-tree c (left (is_no_tree c) (is_made is_declared_leaf traits o) h))) (opaque-made traits o (right (is_no_tree c) (is_made is_declared_leaf traits o) h))
opaque-made bounds (tree l c o) h = (ends l c o (last-bound is_declared_leaf l c o refl h)).1
opaque-made traits none h = absurd (false-true h)
opaque-made traits (tree (predicate k) c o) h = absurd (false-true h)
opaque-made traits (tree dynamic c o) h = absurd (never-dynamic is_declared_leaf c o h)
opaque-made traits (tree (principal k t) c o) h = absurd (never-principal is_declared_leaf k t c o h)
opaque-made traits (tree (auto_trait t) c o) h =
    both (is_no_tree (opaque c)) _ (gone c (no-tree c (left (is_no_tree c) (is_made is_declared_leaf traits o) h))) (opaque-made traits o (right (is_no_tree c) (is_made is_declared_leaf traits o) h))
opaque-made traits (tree l c o) h = (ends l c o (last-trait is_declared_leaf l c o refl h)).0

-- ---- up to lifetimes
pub opaque-erased : (t : Trees) → opaque (erase t) ≡ erase (opaque t)
opaque-erased none = refl
opaque-erased (tree (param of_type i) c o) = node (placeholder of_type i) (opaque-erased c) (opaque-erased o)
opaque-erased (tree (param of_const i) c o) = node (placeholder of_const i) (opaque-erased c) (opaque-erased o)
opaque-erased (tree (param of_lifetime i) c o) = node static (opaque-erased c) (opaque-erased o)
opaque-erased (tree (placeholder of_type i) c o) = node (placeholder of_type i) (opaque-erased c) (opaque-erased o)
opaque-erased (tree (placeholder of_const i) c o) = node (placeholder of_const i) (opaque-erased c) (opaque-erased o)
opaque-erased (tree (placeholder of_lifetime i) c o) = node static (opaque-erased c) (opaque-erased o)
opaque-erased (tree (infer of_type i) c o) = node (infer of_type i) (opaque-erased c) (opaque-erased o)
opaque-erased (tree (infer of_const i) c o) = node (infer of_const i) (opaque-erased c) (opaque-erased o)
opaque-erased (tree (infer of_lifetime i) c o) = node static (opaque-erased c) (opaque-erased o)
opaque-erased (tree (canonical of_type i) c o) = node (canonical of_type i) (opaque-erased c) (opaque-erased o)
opaque-erased (tree (canonical of_const i) c o) = node (canonical of_const i) (opaque-erased c) (opaque-erased o)
opaque-erased (tree (canonical of_lifetime i) c o) = node static (opaque-erased c) (opaque-erased o)
opaque-erased (tree (bound of_type k i) c o) = node (bound of_type k i) (opaque-erased c) (opaque-erased o)
opaque-erased (tree (bound of_const k i) c o) = node (bound of_const k i) (opaque-erased c) (opaque-erased o)
opaque-erased (tree (bound of_lifetime k i) c o) = node static (opaque-erased c) (opaque-erased o)
opaque-erased (tree (fn_ptr n) c o) = node (fn_ptr zero) (opaque-erased c) (opaque-erased o)
opaque-erased (tree (principal n t) c o) = node (principal zero t) (opaque-erased c) (opaque-erased o)
opaque-erased (tree l c o) = node l (opaque-erased c) (opaque-erased o)

abbrev refer : ℕ → Trees → Reference
refer t a = record { trait = t; args = a }

pub reference-opaque-erased : (r : Reference) → opaque_reference (erased_reference r) ≡ erased_reference (opaque_reference r)
reference-opaque-erased r = ap (refer r.trait) (opaque-erased r.args)

-- without binders it is the same up to lifetimes
pub plain-opaque : (kept : ℕ → Bool) (r : Reference) → erased_reference (opaque_reference (plain_reference kept r)) ≡ erased_reference (opaque_reference r)
plain-opaque kept r = ap (refer r.trait) (sym (opaque-erased (plain kept r.args)) ∙ ap opaque (plain-erased kept r.args) ∙ opaque-erased r.args)

pub one-more-placeholder : (now new : List Entry) → Keeps now new → (xs : List GenericArgKind) (a : GenericArgKind) (n m : ℕ) (s : Sort) (ss : List Sort) (all : Trees) → ArgsHeld now xs
    → arg_trees new a ≡ leaf (placeholder s n) → m ≡ n + 1 → args_trees now xs +++ placeholders_from n (s ∷ ss) ≡ all → args_trees new (xs ++ a ∷ []) +++ placeholders_from m ss ≡ all
one-more-placeholder now new kept xs a n m s ss all h e next f =
    ap (λ k. args_trees new (xs ++ a ∷ []) +++ placeholders_from k ss) (next ∙ add-one n)
    ∙ last-arg new xs a (placeholders_from (suc n) ss)
    ∙ ap (λ z. z +++ (arg_trees new a +++ placeholders_from (suc n) ss)) (args-trees-later now new kept xs h)
    ∙ ap (λ z. args_trees now xs +++ (z +++ placeholders_from (suc n) ss)) e ∙ f
  where
    add-one : (k : ℕ) → k + 1 ≡ suc k
    add-one k = omega arith
