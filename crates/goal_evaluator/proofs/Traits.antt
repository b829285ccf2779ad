-- The canonical form of a nested goal is of the goal's trait, since no inference variable has a trait reference as its value.
use Rattle.std.proofs.Common.{◌≡◌, ℕ, zero, suc, Bool, true, false, List, [], ◌∷◌, refl, ◌∙◌, None, if◌then◌else◌, is_some}
use Rattle.type_terms.specs.Promised.Label.{Label, Sort, of_type, of_const, of_lifetime, infer, param, placeholder, canonical, bound, static, predicate}
use Rattle.type_terms.specs.Promised.Trees.{Trees, none, tree, leaf, ◌+++◌, sort_of, is_sort}
use Rattle.type_terms.specs.Trees.{Single}
use Rattle.type_terms.specs.Made.{terms, is_made}
use Rattle.infer_table.specs.Canonical.{kind_of_leaf, canonical_label, relabeled, goal_leaves}
use Rattle.infer_table.specs.Solutions.{Binding, replace, resolved, is_same_variable}
use Rattle.goal_evaluator.specs.Lists.{Every}
use Rattle.goal_evaluator.specs.Instances.{put_in, default_label}
use Rattle.goal_evaluator.specs.Content.{trait_at, trait_of}
use Rattle.goal_evaluator.specs.Equations.{IsValue}
use Rattle.goal_evaluator.specs.FrameTables.{good_in, FrameTable, IsMadeFrame, Nested, label_at, label_of_sort, slot_at, goal_in, question}
use Rattle.type_terms.proofs.Made.{false-true}

-- ---- trees that do not begin with a reference
abbrev IsOther : Trees → Type 0
IsOther none = ⊥
IsOther (tree l c o) = trait_at l ≡ None

other-trait : (t : Trees) → IsOther t → trait_of t ≡ None
other-trait none h = absurd h
other-trait (tree l c o) h = h

other-append : (a b : Trees) → IsOther a → IsOther (a +++ b)
other-append none b h = absurd h
other-append (tree l c o) b h = h

other-made : (good : Label → Bool) (t : Trees) → Single t → is_made good terms t ≡ true → IsOther t
other-made good none s h = absurd s
other-made good (tree (predicate k) c o) s h = absurd (false-true h)
other-made good (tree l c o) s h = refl

-- ---- resolving
other-replace : (k : Sort) (v : ℕ) (r t : Trees) → IsOther r → IsOther t → IsOther (replace k v r t)
other-replace k v r none i h = absurd h
other-replace k v r (tree (infer j w) c o) i h = by (is_same_variable j w k v)
  where
    by : (b : Bool) → IsOther (if b then r +++ replace k v r o else tree (infer j w) c (replace k v r o))
    by true = other-append r (replace k v r o) i
    by false = refl
other-replace k v r (tree l c o) i h = h

trait-replace : (k : Sort) (v : ℕ) (r t : Trees) → IsOther r → trait_of (replace k v r t) ≡ trait_of t
trait-replace k v r none i = refl
trait-replace k v r (tree (infer j w) c o) i = other-trait (replace k v r (tree (infer j w) c o)) (other-replace k v r (tree (infer j w) c o) i refl)
trait-replace k v r (tree l c o) i = refl

other-resolved : (good : Label → Bool) (bs : List Binding) → Every (IsValue good) bs → (t : Trees) → IsOther t → IsOther (resolved bs t)
other-resolved good [] h t i = i
other-resolved good (b ∷ older) h t i =
    other-replace b.sort b.var (resolved older b.value) (resolved older t) (other-resolved good older h.1 b.value (other-made good b.value h.0.single h.0.made)) (other-resolved good older h.1 t i)

trait-resolved : (good : Label → Bool) (bs : List Binding) → Every (IsValue good) bs → (t : Trees) → trait_of (resolved bs t) ≡ trait_of t
trait-resolved good [] h t = refl
trait-resolved good (b ∷ older) h t =
    trait-replace b.sort b.var (resolved older b.value) (resolved older t) (other-resolved good older h.1 b.value (other-made good b.value h.0.single h.0.made))
    ∙ trait-resolved good older h.1 t

-- ---- what stands for canonical variables
default-trait : (k : Sort) → trait_at (default_label k) ≡ None
default-trait of_type = refl
default-trait of_const = refl
default-trait of_lifetime = refl

module _ (good : Label → Bool) where
  label-trait : (ls : List Label) → Every (λ l. is_made good terms (leaf l) ≡ true) ls → (i : ℕ) → trait_at (label_at ls i) ≡ None
  label-trait [] h i = refl
  label-trait (l ∷ ls) h zero = other-made good (leaf l) refl h.0
  label-trait (l ∷ ls) h (suc i) = label-trait ls h.1 i

  slot-trait : (ls : List Label) → Every (λ l. is_made good terms (leaf l) ≡ true) ls → (k : Sort) (i : ℕ) → trait_at (label_of_sort k (label_at ls i)) ≡ None
  slot-trait ls h k i = by (is_sort (sort_of (label_at ls i)) k) (label-trait ls h i)
    where
      by : (b : Bool) → trait_at (label_at ls i) ≡ None → trait_at (if b then label_at ls i else default_label k) ≡ None
      by true e = e
      by false e = default-trait k

  trait-put : (ls : List Label) → Every (λ l. is_made good terms (leaf l) ≡ true) ls → (t : Trees) → trait_of (put_in (slot_at ls) t) ≡ trait_of t
  trait-put ls h none = refl
  trait-put ls h (tree (canonical k i) c o) = slot-trait ls h k i
  trait-put ls h (tree (infer k v) c o) = default-trait k
  trait-put ls h (tree (param k v) c o) = default-trait k
  trait-put ls h (tree (placeholder k v) c o) = default-trait k
  trait-put ls h (tree static c o) = refl
  trait-put ls h (tree (bound of_type i j) c o) = refl
  trait-put ls h (tree (bound of_const i j) c o) = refl
  trait-put ls h (tree (bound of_lifetime i j) c o) = refl
  trait-put ls h (tree l c o) = refl

-- ---- the canonical form
trait-numbered : (ls : List Label) (t : Trees) → trait_of (relabeled kind_of_leaf (canonical_label ls) t) ≡ trait_of t
trait-numbered ls none = refl
trait-numbered ls (tree l c o) = by l
  where
    by : (l : Label) → trait_at (if is_some (kind_of_leaf l) then canonical_label ls l else l) ≡ trait_at l
    by (infer of_type v) = refl
    by (infer of_const v) = refl
    by (infer of_lifetime v) = refl
    by (param of_type v) = refl
    by (param of_const v) = refl
    by (param of_lifetime v) = refl
    by (placeholder of_type v) = refl
    by (placeholder of_const v) = refl
    by (placeholder of_lifetime v) = refl
    by static = refl
    by l = refl

pub trait-of-question : (t : FrameTable) → IsMadeFrame t → (n : Nested) → trait_of (question t n).form.goal.predicate ≡ trait_of n.goal.predicate
trait-of-question t made n =
    trait-numbered (goal_leaves (goal_in t n)) (goal_in t n).predicate
    ∙ trait-resolved (good_in t) t.content.bindings made.table.values (put_in (slot_at t.labels) n.goal.predicate)
    ∙ trait-put (good_in t) t.labels made.leaves n.goal.predicate
