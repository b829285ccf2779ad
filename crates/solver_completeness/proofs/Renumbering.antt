-- Goals with numbered open leaves are well-formed over the kinds of these leaves.
use Rattle.std.proofs.Common.{◌≡◌, ℕ, zero, suc, Bool, true, false, not, ◌||◌, List, [], ◌∷◌, map, inl, inr, refl, sym, ◌∙◌, ap, subst, Option, Some, None, if◌then◌else◌, is_some}
use Rattle.std.specs.Prelude.{IsSome}
use Rattle.type_terms.specs.Promised.Label.{Label, of_type, of_const, of_lifetime, infer, param, placeholder, canonical, static, dynamic, principal, auto_trait, predicate}
use Rattle.type_terms.specs.Promised.Trees.{Trees, none, tree, sort_of, is_sort}
use Rattle.type_terms.specs.Trees.{is_no_tree}
use Rattle.type_terms.specs.Codes.{same_label}
use Rattle.type_terms.proofs.Matching.{same-label-sound}
use Rattle.type_terms.specs.Made.{Standing, terms, bounds, traits, is_leaf_label, is_made}
use Rattle.type_terms.proofs.Made.{false-true, left, right, both, no-tree, is_ordinary, made-ordinary, makes-ordinary, IsLast, last-bound, last-trait, never-dynamic, never-dynamic-bound, never-principal}
use Rattle.infer_table.specs.Canonical.{OpenKinds, GoalTrees, StandsInGoal, kind_of_leaf, kind_in_clause, StandsIn, relabeled, is_label_among, leaves, place_of, canonical_label, goal_leaves}
use Rattle.infer_table.specs.declared.canonical.CanonicalVarKind.{CanonicalVarKind}
use Rattle.infer_table.proofs.CanonicalLaws.{leaves-hold, leaves-keep}
use Rattle.goal_evaluator.specs.Lists.{Every}
use Rattle.goal_evaluator.specs.FrameTables.{kind_at}
use Rattle.goal_evaluator.specs.TableAnswers.{is_kind_of, with_kind, kinds_of_labels}
use Rattle.goal_evaluator.proofs.Reading.{EachLabel}
use Rattle.goal_evaluator.proofs.Nodes.{every-leaf}
use Rattle.goal_frames.specs.Forms.{is_unnumbered}
use Rattle.goal_evaluator.specs.Variables.{is_variable_over}
use Rattle.candidate_model.specs.Asking.{with_first, all_known}
use Rattle.goal_evaluator.proofs.Labels.{each-label}
use Rattle.goal_frames.proofs.Forms.{kind-first, kind-later, open-kind}

-- ---- labels in the place of open leaves
module _ (good : Label → Bool) (f : Label → Label) where
  abbrev new : Label → Label
  new l = if is_some (kind_of_leaf l) then f l else l

  -- an ordinary label stays ordinary, is good, of its sort, and a leaf only if it was one
  record Stays (l : Label) : Type 0 where
    pub ordinary : is_ordinary (new l) ≡ true
    pub fits : good (new l) ≡ true
    pub sort : sort_of (new l) ≡ sort_of l
    pub leaf : is_leaf_label l ≡ false → is_leaf_label (new l) ≡ false

  abbrev StaysSo : Label → Type 0
  StaysSo l = is_ordinary l ≡ true → is_unnumbered l ≡ true → Stays l

  abbrev put : Trees → Trees
  put t = relabeled kind_of_leaf f t

  leaf-stays : (l : Label) (c : Trees) → Stays l → (not (is_leaf_label l) || is_no_tree c) ≡ true → (not (is_leaf_label (new l)) || is_no_tree (put c)) ≡ true
  leaf-stays l c s h = by (is_leaf_label l) refl h
    where
      or-true : (b : Bool) → (not b || true) ≡ true
      or-true true = refl
      or-true false = refl

      by : (b : Bool) → is_leaf_label l ≡ b → (not b || is_no_tree c) ≡ true → (not (is_leaf_label (new l)) || is_no_tree (put c)) ≡ true
      by true e h = ap (λ z. not (is_leaf_label (new l)) || is_no_tree (put z)) (no-tree c h) ∙ or-true (is_leaf_label (new l))
      by false e h = ap (λ b. not b || is_no_tree (put c)) (s.leaf e)

  last-made : (m : Label) → is_ordinary m ≡ true → good m ≡ true → is_sort (sort_of m) of_lifetime ≡ true → (is_made good traits (tree m none none) ≡ true) × (is_made good bounds (tree m none none) ≡ true)
  last-made dynamic i g e = absurd (false-true i)
  last-made (principal a b) i g e = absurd (false-true i)
  last-made (auto_trait a) i g e = absurd (false-true i)
  last-made (predicate k) i g e = absurd (false-true i)
  last-made m i g e = (both (good m) _ g (both (is_sort (sort_of m) of_lifetime) _ e refl), both (good m) _ g (both (is_sort (sort_of m) of_lifetime) _ e refl))

  ordinary-lifetime : (l : Label) → is_sort (sort_of l) of_lifetime ≡ true → is_ordinary l ≡ true
  ordinary-lifetime dynamic e = absurd (false-true e)
  ordinary-lifetime (principal a b) e = absurd (false-true e)
  ordinary-lifetime (auto_trait a) e = absurd (false-true e)
  ordinary-lifetime (predicate k) e = absurd (false-true e)
  ordinary-lifetime l e = refl

  last-put : (l : Label) (c o : Trees) → IsLast is_unnumbered l c o → StaysSo l → (is_made good traits (put (tree l c o)) ≡ true) × (is_made good bounds (put (tree l c o)) ≡ true)
  last-put l c o x a =
      let s = a (ordinary-lifetime l x.lifetime) x.good_label in
      subst (λ z. (is_made good traits (put (tree l z o)) ≡ true) × (is_made good bounds (put (tree l z o)) ≡ true)) (sym x.children)
      (subst (λ z. (is_made good traits (put (tree l none z)) ≡ true) × (is_made good bounds (put (tree l none z)) ≡ true)) (sym x.rest)
      (last-made (new l) s.ordinary s.fits (ap (λ z. is_sort z of_lifetime) s.sort ∙ x.lifetime)))

  made-put : (m : Standing) (t : Trees) → is_made is_unnumbered m t ≡ true → EachLabel StaysSo t → is_made good m (put t) ≡ true
  made-put terms none h a = refl
  made-put terms (tree dynamic c o) h a =
      both (is_made good bounds (put c)) (is_made good terms (put o)) (made-put bounds c (left (is_made is_unnumbered bounds c) (is_made is_unnumbered terms o) h) a.1) (made-put terms o (right (is_made is_unnumbered bounds c) (is_made is_unnumbered terms o) h) a.2)
  made-put terms (tree (principal i j) c o) h a = absurd (false-true h)
  made-put terms (tree (auto_trait i) c o) h a = absurd (false-true h)
  made-put terms (tree (predicate k) c o) h a = absurd (false-true h)
  made-put terms (tree l c o) h a =
      let x = made-ordinary is_unnumbered l c o refl h in
      let s = a.0 refl x.0 in
      makes-ordinary good (new l) (put c) (put o) s.ordinary s.fits (leaf-stays l c s x.1) (made-put terms c x.2 a.1) (made-put terms o x.3 a.2)
  made-put bounds none h a = absurd (false-true h)
  made-put bounds (tree (principal i j) c o) h a =
      both (is_made good terms (put c)) (is_made good traits (put o)) (made-put terms c (left (is_made is_unnumbered terms c) (is_made is_unnumbered traits o) h) a.1) (made-put traits o (right (is_made is_unnumbered terms c) (is_made is_unnumbered traits o) h) a.2)
  made-put bounds (tree (predicate k) c o) h a = absurd (false-true h)
  made-put bounds (tree (auto_trait i) c o) h a =
      both (is_no_tree (put c)) (is_made good traits (put o)) (ap (λ z. is_no_tree (put z)) (no-tree c (left (is_no_tree c) (is_made is_unnumbered traits o) h))) (made-put traits o (right (is_no_tree c) (is_made is_unnumbered traits o) h) a.2)
  made-put bounds (tree dynamic c o) h a = absurd (never-dynamic-bound is_unnumbered c o h)
  made-put bounds (tree l c o) h a = (last-put l c o (last-bound is_unnumbered l c o refl h) a.0).1
  made-put traits none h a = absurd (false-true h)
  made-put traits (tree (predicate k) c o) h a = absurd (false-true h)
  made-put traits (tree (auto_trait i) c o) h a =
      both (is_no_tree (put c)) (is_made good traits (put o)) (ap (λ z. is_no_tree (put z)) (no-tree c (left (is_no_tree c) (is_made is_unnumbered traits o) h))) (made-put traits o (right (is_no_tree c) (is_made is_unnumbered traits o) h) a.2)
  made-put traits (tree dynamic c o) h a = absurd (never-dynamic is_unnumbered c o h)
  made-put traits (tree (principal i j) c o) h a = absurd (never-principal is_unnumbered i j c o h)
  made-put traits (tree l c o) h a = (last-put l c o (last-trait is_unnumbered l c o refl h) a.0).0

-- ---- kinds of open leaves
abbrev pub AreOpen : List Label → Type 0
AreOpen ls = Every (λ l. IsSome (kind_of_leaf l)) ls

known-next : (o : Option CanonicalVarKind) (ks : List CanonicalVarKind) → is_some o ≡ true → with_first o (Some ks) ≡ Some (with_kind o ks)
known-next None ks h = absurd (false-true h)
known-next (Some k) ks h = refl

pub kinds-known : (ls : List Label) → AreOpen ls → all_known (map kind_of_leaf ls) ≡ Some (kinds_of_labels ls)
kinds-known [] h = refl
kinds-known (l ∷ ls) h = ap (with_first (kind_of_leaf l)) (kinds-known ls h.1) ∙ known-next (kind_of_leaf l) (kinds_of_labels ls) h.0

kind-place : (ls : List Label) → AreOpen ls → (l : Label) → is_label_among l ls ≡ true → kind_at (kinds_of_labels ls) (place_of l ls) ≡ kind_of_leaf l
kind-place [] h l a = absurd (false-true a)
kind-place (m ∷ ls) h l a = by (same_label m l) refl a (λ f. kind-place ls h.1 l f)
  where
    by : (b : Bool) → same_label m l ≡ b → (b || is_label_among l ls) ≡ true → (is_label_among l ls ≡ true → kind_at (kinds_of_labels ls) (place_of l ls) ≡ kind_of_leaf l)
        → kind_at (with_kind (kind_of_leaf m) (kinds_of_labels ls)) (if b then zero else suc (place_of l ls)) ≡ kind_of_leaf l
    by true q f g = kind-first (kind_of_leaf m) (kinds_of_labels ls) h.0 ∙ ap kind_of_leaf (same-label-sound m l q)
    by false q f g = kind-later (kind_of_leaf m) (kinds_of_labels ls) (place_of l ls) h.0 ∙ g f

open-leaf : (l : Label) → is_some (kind_of_leaf l) ≡ true → is_leaf_label l ≡ true
open-leaf (infer k v) h = refl
open-leaf (param k v) h = refl
open-leaf (placeholder k v) h = refl
open-leaf static h = refl
open-leaf (canonical k v) h = refl
open-leaf l h = absurd (false-true h)

-- what is no open leaf and not numbered is no variable
stays-over : (kinds : List CanonicalVarKind) (l : Label) → is_unnumbered l ≡ true → is_some (kind_of_leaf l) ≡ false → is_variable_over kinds l ≡ true
stays-over kinds (canonical k i) g e = absurd (false-true g)
stays-over kinds (infer of_type v) g e = absurd (false-true (sym e))
stays-over kinds (infer of_const v) g e = absurd (false-true (sym e))
stays-over kinds (infer of_lifetime v) g e = absurd (false-true (sym e))
stays-over kinds (param of_type v) g e = absurd (false-true (sym e))
stays-over kinds (param of_const v) g e = absurd (false-true (sym e))
stays-over kinds (param of_lifetime v) g e = absurd (false-true (sym e))
stays-over kinds (placeholder of_type v) g e = absurd (false-true (sym e))
stays-over kinds (placeholder of_const v) g e = absurd (false-true (sym e))
stays-over kinds (placeholder of_lifetime v) g e = absurd (false-true (sym e))
stays-over kinds l g e = refl

-- ---- numbers
-- inside where-clauses `'static` is itself
abbrev pub but_static : (Label → Label) → Label → Label
but_static f static = static
but_static f l = f l

clause-label : (f : Label → Label) (l : Label) → (if is_some (kind_in_clause l) then f l else l) ≡ (if is_some (kind_of_leaf l) then but_static f l else l)
clause-label f static = refl
clause-label f (infer k v) = refl
clause-label f (param k v) = refl
clause-label f (placeholder k v) = refl
clause-label f l = refl

pub clause-relabeled : (f : Label → Label) (t : Trees) → relabeled kind_in_clause f t ≡ relabeled kind_of_leaf (but_static f) t
clause-relabeled f none = refl
clause-relabeled f (tree l c o) = same (clause-label f l) (clause-relabeled f c) (clause-relabeled f o)
  where
    same : {l m : Label} {c d o p : Trees} → l ≡ m → c ≡ d → o ≡ p → tree l c o ≡ tree m d p
    same x y z = cc

module _ (ls : List Label) (opens : AreOpen ls) where
  abbrev over : Label → Bool
  over l = is_variable_over (kinds_of_labels ls) l

  abbrev IsListed : Label → Type 0
  IsListed l = is_some (kind_of_leaf l) ≡ true → is_label_among l ls ≡ true

  record At (l m : Label) : Type 0 where
    pub ordinary : is_ordinary m ≡ true
    pub fits : over m ≡ true
    pub sort : sort_of m ≡ sort_of l
    pub leaf : is_leaf_label l ≡ false → is_leaf_label m ≡ false

  at : (l : Label) → IsListed l → is_ordinary l ≡ true → is_unnumbered l ≡ true → (b : Bool) → is_some (kind_of_leaf l) ≡ b → At l (if b then canonical_label ls l else l)
  at l a i g true e = record { ordinary = refl; fits = ap (is_kind_of (sort_of l)) (kind-place ls opens l (a e)) ∙ open-kind l e; sort = refl; leaf = λ f. absurd (false-true (sym f ∙ open-leaf l e)) }
  at l a i g false e = record { ordinary = i; fits = stays-over (kinds_of_labels ls) l g e; sort = refl; leaf = λ f. f }

  numbered-stays : (l : Label) → IsListed l → StaysSo over (canonical_label ls) l
  numbered-stays l a i g = let x = at l a i g (is_some (kind_of_leaf l)) refl in record { ordinary = x.ordinary; fits = x.fits; sort = x.sort; leaf = x.leaf }

  clause-stays : (l : Label) → (is_some (kind_in_clause l) ≡ true → is_label_among l ls ≡ true) → StaysSo over (but_static (canonical_label ls)) l
  clause-stays static a i g = record { ordinary = refl; fits = refl; sort = refl; leaf = λ f. absurd (false-true (sym f)) }
  clause-stays (infer k v) a i g = let x = at (infer k v) a i g (is_some (kind_of_leaf (infer k v))) refl in record { ordinary = x.ordinary; fits = x.fits; sort = x.sort; leaf = x.leaf }
  clause-stays (param k v) a i g = let x = at (param k v) a i g (is_some (kind_of_leaf (param k v))) refl in record { ordinary = x.ordinary; fits = x.fits; sort = x.sort; leaf = x.leaf }
  clause-stays (placeholder k v) a i g = let x = at (placeholder k v) a i g (is_some (kind_of_leaf (placeholder k v))) refl in record { ordinary = x.ordinary; fits = x.fits; sort = x.sort; leaf = x.leaf }
  clause-stays l a i g = record { ordinary = i; fits = stays-over (kinds_of_labels ls) l g refl; sort = refl; leaf = λ f. f }

  -- leaves that are listed
  each-listed : (kind : OpenKinds) (t : Trees) → ((l : Label) → StandsIn kind t l → is_label_among l ls ≡ true) → EachLabel (λ l. is_some (kind l) ≡ true → is_label_among l ls ≡ true) t
  each-listed kind none h = tt
  each-listed kind (tree l c o) h = (λ i. h l (inl (refl, i)), each-listed kind c (λ m s. h m (inr (inl s))), each-listed kind o (λ m s. h m (inr (inr s))))

  -- so numbered terms are made over the kinds of the leaves
  pub made-numbered : (m : Standing) (t : Trees) → is_made is_unnumbered m t ≡ true → ((l : Label) → StandsIn kind_of_leaf t l → is_label_among l ls ≡ true) → is_made over m (relabeled kind_of_leaf (canonical_label ls) t) ≡ true
  made-numbered m t h a =
      made-put over (canonical_label ls) m t h
      (each-label IsListed (StaysSo over (canonical_label ls)) numbered-stays t (each-listed kind_of_leaf t a))

  pub made-in-clause : (m : Standing) (t : Trees) → is_made is_unnumbered m t ≡ true → ((l : Label) → StandsIn kind_in_clause t l → is_label_among l ls ≡ true) → is_made over m (relabeled kind_in_clause (canonical_label ls) t) ≡ true
  made-in-clause m t h a =
      subst (λ z. is_made over m z ≡ true) (sym (clause-relabeled (canonical_label ls) t))
      (made-put over (but_static (canonical_label ls)) m t h
      (each-label (λ l. is_some (kind_in_clause l) ≡ true → is_label_among l ls ≡ true) (StaysSo over (but_static (canonical_label ls))) clause-stays t (each-listed kind_in_clause t a)))

-- ---- the leaves of a goal
stands-open : (kind : OpenKinds) (t : Trees) (l : Label) → StandsIn kind t l → is_some (kind l) ≡ true
stands-open kind none l s = absurd s
stands-open kind (tree m c o) l (inl x) = subst (λ z. is_some (kind z) ≡ true) x.0 x.1
stands-open kind (tree m c o) l (inr (inl s)) = stands-open kind c l s
stands-open kind (tree m c o) l (inr (inr s)) = stands-open kind o l s

open-outside : (l : Label) → is_some (kind_in_clause l) ≡ true → is_some (kind_of_leaf l) ≡ true
open-outside static h = absurd (false-true h)
open-outside (infer k v) h = h
open-outside (param k v) h = h
open-outside (placeholder k v) h = h
open-outside l h = absurd (false-true h)

pub goal-open : (g : GoalTrees) → AreOpen (goal_leaves g)
goal-open g =
    every-leaf kind_of_leaf (λ l. IsSome (kind_of_leaf l)) (leaves kind_in_clause [] g.environment) g.predicate
    (every-leaf kind_in_clause (λ l. IsSome (kind_of_leaf l)) [] g.environment tt (λ l s. open-outside l (stands-open kind_in_clause g.environment l s)))
    (λ l s. stands-open kind_of_leaf g.predicate l s)

pub goal-listed : (g : GoalTrees) (l : Label) → StandsInGoal g l → is_label_among l (goal_leaves g) ≡ true
goal-listed g l (inl s) = leaves-keep kind_of_leaf l (leaves kind_in_clause [] g.environment) g.predicate (leaves-hold kind_in_clause l [] g.environment s)
goal-listed g l (inr s) = leaves-hold kind_of_leaf l (leaves kind_in_clause [] g.environment) g.predicate s
