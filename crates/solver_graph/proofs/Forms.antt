-- An instance of a goal's canonical form, by the values of the goal's leaves, is an instance of the goal.
use Rattle.std.proofs.Common.{◌≡◌, ℕ, Bool, true, ◌&&◌, List, [], ◌∷◌, ◌++◌, map, refl, sym, ◌∙◌, ap, Option, Some, None, if◌then◌else◌, is_some, inl, inr}
use Rattle.std.specs.Prelude.{IsSome}
use Rattle.type_terms.specs.Promised.Label.{Label, Sort, of_type, of_const, of_lifetime, infer, param, placeholder, canonical, bound, static}
use Rattle.type_terms.specs.Promised.Trees.{Trees, none, tree, leaf, ◌+++◌, erase_label, is_sort}
use Rattle.type_terms.specs.Trees.{is_a, put_at_node}
use Rattle.type_terms.specs.Made.{is_leaf_label}
use Rattle.infer_table.specs.Canonical.{OpenKinds, GoalTrees, kind_of_leaf, kind_in_clause, StandsIn, HasNoCanonical, is_label_among, place_of, canonical_label, goal_leaves, leaves, relabeled}
use Rattle.infer_table.specs.Solutions.{Assignment, Binding, IsSorted, Solves, AllValued, instance, resolved}
use Rattle.infer_table.proofs.CanonicalLaws.{leaves-keep, leaves-hold}
use Rattle.infer_table.proofs.SolutionLaws.{instance-resolved}
use Rattle.infer_table.specs.Goals.{goal_resolved}
use Rattle.infer_table.specs.Inputs.{IsWithoutCanonical}
use Rattle.goal_evaluator.specs.Lists.{IsAmong}
use Rattle.goal_evaluator.proofs.Unfold.{among-left}
use Rattle.goal_evaluator.specs.Instances.{read_with, of_sort, term_at}
use Rattle.goal_evaluator.specs.Content.{trait_at, trait_of, Fact, fact_of, fits, fits_kind, given}
use Rattle.goal_evaluator.specs.Finite.{default_terms, made_of}
use Rattle.goal_evaluator.proofs.Finite.{AreOf, made-hold}
use Rattle.goal_evaluator.proofs.Questions.{sort-of-sort, term-place}
use Rattle.infer_table.proofs.WithoutCanonical.{IsNoCanonical, clean-parts}
use Rattle.goal_evaluator.proofs.Readings.{HasLeaves}
use Rattle.solver_graph.specs.Roots.{fact_under, values_under, question_of}

-- ---- reading the form
module _ (s : Assignment) (sorted : IsSorted s) (ls : List Label) where
  abbrev under : Label → Trees
  under l = instance s (leaf l)

  abbrev standing : Label → Option Trees
  standing = given (map under ls)

  here : (k : Sort) (l : Label) → is_a k (under l) ≡ true → is_label_among l ls ≡ true → Some (of_sort k (term_at (map under ls) (place_of l ls))) ≡ Some (under l)
  here k l h a = ap (λ z. Some (of_sort k z)) (term-place under l ls a) ∙ ap Some (sort-of-sort k (under l) h)

  type-unknown : (v : ℕ) → is_a of_type (under (infer of_type v)) ≡ true
  type-unknown v = ap (λ k. is_sort k of_type && true) (sorted of_type v)

  const-unknown : (v : ℕ) → is_a of_const (under (infer of_const v)) ≡ true
  const-unknown v = ap (λ k. is_sort k of_const && true) (sorted of_const v)

  -- what is read at a node, whose children and rest are read as instances
  abbrev IsReadAt : Label → Label → Trees → Trees → Type 0
  IsReadAt l m c o = (d p : Trees) → d ≡ instance s c → p ≡ instance s o → put_at_node (standing m) (tree (erase_label m) d none) +++ p ≡ instance s (tree l c o)

  -- a leaf in the place of which something stands
  stands : (l m : Label) (c o x : Trees) → standing m ≡ Some x → x +++ instance s o ≡ instance s (tree l c o) → IsReadAt l m c o
  stands l m c o x e f d p q r = ap (λ z. put_at_node z (tree (erase_label m) d none) +++ p) e ∙ ap (λ z. x +++ z) r ∙ f

  leaf-with : (l : Label) (c o : Trees) → c ≡ none → tree l none o ≡ tree l (instance s c) o
  leaf-with l c o e = ap (λ z. tree l (instance s z) o) (sym e)

  plain : (l : Label) (c o : Trees) → standing l ≡ None → tree (erase_label l) (instance s c) (instance s o) ≡ instance s (tree l c o) → IsReadAt l l c o
  plain l c o e f d p q r =
      ap (λ z. put_at_node z (tree (erase_label l) d none) +++ p) e ∙ ap (λ z. tree (erase_label l) z p) q ∙ ap (λ z. tree (erase_label l) (instance s c) z) r ∙ f

  abbrev IsListed : OpenKinds → Label → Type 0
  IsListed kind l = IsSome (kind l) → is_label_among l ls ≡ true

  read-at : (l : Label) (c o : Trees) → IsNoCanonical l → (is_leaf_label l ≡ true → c ≡ none) → IsListed kind_of_leaf l → IsReadAt l (if is_some (kind_of_leaf l) then canonical_label ls l else l) c o
  read-at (canonical k i) c o n e a = absurd n
  read-at (infer of_type v) c o n e a = stands (infer of_type v) (canonical of_type (place_of (infer of_type v) ls)) c o (under (infer of_type v)) (here of_type (infer of_type v) (type-unknown v) (a refl)) refl
  read-at (infer of_const v) c o n e a = stands (infer of_const v) (canonical of_const (place_of (infer of_const v) ls)) c o (under (infer of_const v)) (here of_const (infer of_const v) (const-unknown v) (a refl)) refl
  read-at (infer of_lifetime v) c o n e a = stands (infer of_lifetime v) (canonical of_lifetime (place_of (infer of_lifetime v) ls)) c o (leaf static) refl (leaf-with static c (instance s o) (e refl))
  read-at (param of_type v) c o n e a =
      stands (param of_type v) (canonical of_type (place_of (param of_type v) ls)) c o (leaf (param of_type v)) (here of_type (param of_type v) refl (a refl)) (leaf-with (param of_type v) c (instance s o) (e refl))
  read-at (param of_const v) c o n e a =
      stands (param of_const v) (canonical of_const (place_of (param of_const v) ls)) c o (leaf (param of_const v)) (here of_const (param of_const v) refl (a refl)) (leaf-with (param of_const v) c (instance s o) (e refl))
  read-at (param of_lifetime v) c o n e a = stands (param of_lifetime v) (canonical of_lifetime (place_of (param of_lifetime v) ls)) c o (leaf static) refl (leaf-with static c (instance s o) (e refl))
  read-at (placeholder of_type v) c o n e a =
      stands (placeholder of_type v) (canonical of_type (place_of (placeholder of_type v) ls)) c o (leaf (placeholder of_type v)) (here of_type (placeholder of_type v) refl (a refl))
      (leaf-with (placeholder of_type v) c (instance s o) (e refl))
  read-at (placeholder of_const v) c o n e a =
      stands (placeholder of_const v) (canonical of_const (place_of (placeholder of_const v) ls)) c o (leaf (placeholder of_const v)) (here of_const (placeholder of_const v) refl (a refl))
      (leaf-with (placeholder of_const v) c (instance s o) (e refl))
  read-at (placeholder of_lifetime v) c o n e a =
      stands (placeholder of_lifetime v) (canonical of_lifetime (place_of (placeholder of_lifetime v) ls)) c o (leaf static) refl (leaf-with static c (instance s o) (e refl))
  read-at static c o n e a = stands static (canonical of_lifetime (place_of static ls)) c o (leaf static) refl (leaf-with static c (instance s o) (e refl))
  read-at (bound of_lifetime i j) c o n e a = stands (bound of_lifetime i j) (bound of_lifetime i j) c o (leaf static) refl (leaf-with static c (instance s o) (e refl))
  read-at (bound of_type i j) c o n e a = plain (bound of_type i j) c o refl refl
  read-at (bound of_const i j) c o n e a = plain (bound of_const i j) c o refl refl
  read-at l c o n e a = plain l c o refl refl

  read-in-clause : (l : Label) (c o : Trees) → IsNoCanonical l → (is_leaf_label l ≡ true → c ≡ none) → IsListed kind_in_clause l → IsReadAt l (if is_some (kind_in_clause l) then canonical_label ls l else l) c o
  read-in-clause static c o n e a = stands static static c o (leaf static) refl (leaf-with static c (instance s o) (e refl))
  read-in-clause (canonical k i) c o n e a = absurd n
  read-in-clause (infer k v) c o n e a = read-at (infer k v) c o n e a
  read-in-clause (param k v) c o n e a = read-at (param k v) c o n e a
  read-in-clause (placeholder k v) c o n e a = read-at (placeholder k v) c o n e a
  read-in-clause (bound k i j) c o n e a = read-at (bound k i j) c o n e a
  read-in-clause l c o n e a = plain l c o refl refl

  read-form : (kind : OpenKinds)
      → ((l : Label) (c o : Trees) → IsNoCanonical l → (is_leaf_label l ≡ true → c ≡ none) → IsListed kind l → IsReadAt l (if is_some (kind l) then canonical_label ls l else l) c o)
      → (t : Trees) → HasNoCanonical t → HasLeaves t → ((l : Label) → StandsIn kind t l → is_label_among l ls ≡ true)
      → read_with standing (relabeled kind (canonical_label ls) t) ≡ instance s t
  read-form kind f none n h a = refl
  read-form kind f (tree l c o) n h a =
      let x = clean-parts l c o n in
      f l c o x.0 h.0 (λ i. a l (inl (refl, i))) (read_with standing (relabeled kind (canonical_label ls) c)) (read_with standing (relabeled kind (canonical_label ls) o))
      (read-form kind f c x.1 h.1 (λ m i. a m (inr (inl i))))
      (read-form kind f o x.2 h.2 (λ m i. a m (inr (inr i))))

  fits-leaf : (l : Label) → fits_kind (kind_of_leaf l) (under l) ≡ true
  fits-leaf (infer of_type v) = type-unknown v
  fits-leaf (infer of_const v) = const-unknown v
  fits-leaf (infer of_lifetime v) = refl
  fits-leaf (param of_type v) = refl
  fits-leaf (param of_const v) = refl
  fits-leaf (param of_lifetime v) = refl
  fits-leaf (placeholder of_type v) = refl
  fits-leaf (placeholder of_const v) = refl
  fits-leaf (placeholder of_lifetime v) = refl
  fits-leaf static = refl
  fits-leaf l = refl

fits-leaves : (s : Assignment) → IsSorted s → (ls : List Label) → fits (map kind_of_leaf ls) (map (λ l. instance s (leaf l)) ls) ≡ true
fits-leaves s h [] = refl
fits-leaves s h (l ∷ ls) = ap (λ b. b && fits (map kind_of_leaf ls) (map (λ m. instance s (leaf m)) ls)) (fits-leaf s h ls l) ∙ fits-leaves s h ls

-- ---- the trait
trait-label : (ls : List Label) (l : Label) → trait_at (if is_some (kind_of_leaf l) then canonical_label ls l else l) ≡ trait_at l
trait-label ls (infer of_type v) = refl
trait-label ls (infer of_const v) = refl
trait-label ls (infer of_lifetime v) = refl
trait-label ls (param of_type v) = refl
trait-label ls (param of_const v) = refl
trait-label ls (param of_lifetime v) = refl
trait-label ls (placeholder of_type v) = refl
trait-label ls (placeholder of_const v) = refl
trait-label ls (placeholder of_lifetime v) = refl
trait-label ls static = refl
trait-label ls l = refl

trait-form : (ls : List Label) (t : Trees) → trait_of (relabeled kind_of_leaf (canonical_label ls) t) ≡ trait_of t
trait-form ls none = refl
trait-form ls (tree l c o) = trait-label ls l

same-fact : (n m : Option ℕ) (a b c d : Trees) (x : Bool) → n ≡ m → a ≡ b → c ≡ d → x ≡ true
    → ◌≡◌ {A = Fact} (record { trait = n; goal = record { environment = a; predicate = c }; proper = x }) (record { trait = m; goal = record { environment = b; predicate = d }; proper = true })
same-fact n m a b c d x e p q r = cc

pub form-instance : (s : Assignment) → IsSorted s → (g : GoalTrees) → IsWithoutCanonical g → HasLeaves g.environment → HasLeaves g.predicate → fact_of (question_of g) (values_under s g) ≡ fact_under s g
form-instance s h g n e p =
    let ls = goal_leaves g in
    same-fact _ _ _ _ _ _ _
    (trait-form ls g.predicate)
    (read-form s h ls kind_in_clause (read-in-clause s h ls) g.environment n.environment e
    (λ l i. leaves-keep kind_of_leaf l (leaves kind_in_clause [] g.environment) g.predicate (leaves-hold kind_in_clause l [] g.environment i)))
    (read-form s h ls kind_of_leaf (read-at s h ls) g.predicate n.predicate p (λ l i. leaves-hold kind_of_leaf l (leaves kind_in_clause [] g.environment) g.predicate i))
    (fits-leaves s h ls)

-- ---- what stands for the leaves is made of itself
each-of : (f : Label → Trees) (choices : List Trees) (ls : List Label) → ((t : Trees) → IsAmong t (map f ls) → IsAmong t choices) → AreOf choices (map kind_of_leaf ls) (map f ls)
each-of f choices [] h = tt
each-of f choices (l ∷ ls) h = (h (f l) (inl refl), each-of f choices ls (λ t i. h t (inr i)))

pub values-made : (s : Assignment) (g : GoalTrees) → IsAmong (values_under s g) (made_of (question_of g) (values_under s g))
values-made s g =
    let f = λ (l : Label). instance s (leaf l) in
    let ts = map f (goal_leaves g) in
    made-hold (question_of g) (values_under s g) true ts (each-of f (ts ++ default_terms) (goal_leaves g) (λ t i. among-left t ts default_terms i))

-- ---- a solution sees what a goal resolves to as the goal
pub fact-resolved : (s : Assignment) (bs : List Binding) → AllValued bs → Solves s bs → (g : GoalTrees) → trait_of (resolved bs g.predicate) ≡ trait_of g.predicate
    → fact_under s (goal_resolved bs g) ≡ fact_under s g
fact-resolved s bs v h g t = same-fact _ _ _ _ _ _ true t (instance-resolved s bs g.environment v h) (instance-resolved s bs g.predicate v h) refl
