-- Trees of good labels: they speak of their parameters, and nothing bound leads out of them; and the sorts of trees.
use Rattle.std.proofs.Common.{◌≡◌, ℕ, zero, suc, Bool, true, false, cond, ◌||◌, List, ◌∷◌, ◌++◌, Some, None, refl, ap, ◌∙◌}
use Rattle.std.specs.Prelude.{slice_get, max, if◌then◌else◌}
use Rattle.std.specs.Option.{option_or}
use Rattle.type_terms.specs.Promised.Label.{Label, Sort, of_lifetime, of_type, of_const, static, fn_ptr, principal, param, bound}
use Rattle.type_terms.specs.Promised.Trees.{Trees, none, tree, some_node, sort_of, ◌+++◌}
use Rattle.type_terms.specs.Trees.{own_binder, outside, outer_binder}
use Rattle.term_folds.specs.Arguments.{sort_at, misfit, first_misfit}
use Rattle.term_folds.specs.declared.instantiate.InstantiateError.TheVariants.{ParamKind}
use Rattle.declarations.specs.Applied.{sorts_of, SpeaksOf}
use Rattle.text_lowering.specs.Promised.SeenWorlds.{plain_label, plain}
use Rattle.text_lowering.proofs.Sorts.{is_bad}
use Rattle.text_lowering.proofs.Trees.{or-left, or-right}
use Rattle.text_lowering.proofs.SeenViews.{sort-there}
use Rattle.type_terms.proofs.TermBasics.{sort-self}

-- ---- parts of good trees
module _ (sorts : List Sort) (l : Label) (c o : Trees) (h : some_node (is_bad sorts) (tree l c o) ≡ false) where
  good-label : is_bad sorts l ≡ false
  good-label = or-left (is_bad sorts l) (some_node (is_bad sorts) c) (or-left (is_bad sorts l || some_node (is_bad sorts) c) (some_node (is_bad sorts) o) h)

  good-children : some_node (is_bad sorts) c ≡ false
  good-children = or-right (is_bad sorts l) (some_node (is_bad sorts) c) (or-left (is_bad sorts l || some_node (is_bad sorts) c) (some_node (is_bad sorts) o) h)

  good-others : some_node (is_bad sorts) o ≡ false
  good-others = or-right (is_bad sorts l || some_node (is_bad sorts) c) (some_node (is_bad sorts) o) h

-- ---- parameters have arguments
at-sorts : (A : Trees) (i : ℕ) → sort_at A i ≡ slice_get (sorts_of A) i
at-sorts none i = refl
at-sorts (tree l c o) zero = refl
at-sorts (tree l c o) (suc i) = at-sorts o i

fits : (sorts : List Sort) (A t : Trees) → sorts_of A ≡ sorts → some_node (is_bad sorts) t ≡ false → first_misfit A t ≡ None
fits sorts A none e h = refl
fits sorts A (tree (param s i) c o) e h =
    ap (λ z. option_or (misfit s z) (first_misfit A o)) (at-sorts A i ∙ ap (λ l. slice_get l i) e ∙ sort-there sorts s i (good-label sorts (param s i) c o h))
    ∙ ap (λ b. option_or (cond b None (Some ParamKind)) (first_misfit A o)) (sort-self s)
    ∙ fits sorts A o e (good-others sorts (param s i) c o h)
fits sorts A (tree l c o) e h =
    ap (λ z. option_or z (first_misfit A o)) (fits sorts A c e (good-children sorts l c o h))
    ∙ fits sorts A o e (good-others sorts l c o h)

pub speaks : (sorts : List Sort) (t : Trees) → some_node (is_bad sorts) t ≡ false → SpeaksOf sorts t
speaks sorts t h A e = fits sorts A t e h

-- ---- nothing bound leads out
own-none : (sorts : List Sort) (l : Label) → is_bad sorts l ≡ false → own_binder l ≡ 0
own-none sorts (bound s j i) h = absurd cc
own-none sorts l h = refl

outside-none : (l : Label) → outside l 0 ≡ 0
outside-none (fn_ptr n) = refl
outside-none (principal n t) = refl
outside-none l = refl

pub closed : (sorts : List Sort) (t : Trees) → some_node (is_bad sorts) t ≡ false → outer_binder t ≡ 0
closed sorts none h = refl
closed sorts (tree l c o) h =
    ap (λ n. max (max n (outside l (outer_binder c))) (outer_binder o)) (own-none sorts l (good-label sorts l c o h))
    ∙ ap (λ n. max (max 0 (outside l n)) (outer_binder o)) (closed sorts c (good-children sorts l c o h))
    ∙ ap (λ n. max (max 0 n) (outer_binder o)) (outside-none l)
    ∙ ap (λ n. max (max 0 0) n) (closed sorts o (good-others sorts l c o h))

-- ---- sorts
pub sorts-append : (x y : Trees) → sorts_of (x +++ y) ≡ sorts_of x ++ sorts_of y
sorts-append none y = refl
sorts-append (tree l c o) y = ap (λ ss. sort_of l ∷ ss) (sorts-append o y)

label-sort : (kept : ℕ → Bool) (l : Label) → sort_of (plain_label kept l) ≡ sort_of l
label-sort kept (param of_lifetime i) = by (kept i)
  where
    by : (b : Bool) → sort_of (if b then param of_lifetime i else static) ≡ of_lifetime
    by true = refl
    by false = refl
label-sort kept (param of_type i) = refl
label-sort kept (param of_const i) = refl
label-sort kept (bound of_lifetime j i) = refl
label-sort kept (bound of_type j i) = refl
label-sort kept (bound of_const j i) = refl
label-sort kept (fn_ptr n) = refl
label-sort kept (principal n t) = refl
label-sort kept l = refl

pub plain-sorts : (kept : ℕ → Bool) (t : Trees) → sorts_of (plain kept t) ≡ sorts_of t
plain-sorts kept none = refl
plain-sorts kept (tree l c o) = ap (λ s. s ∷ sorts_of (plain kept o)) (label-sort kept l) ∙ ap (λ ss. sort_of l ∷ ss) (plain-sorts kept o)
