-- The equations of a candidate over a frame's table.
use Rattle.std.proofs.Common.{◌≡◌, ℕ, zero, suc, Bool, true, false, not, ◌&&◌, ◌||◌, List, [], ◌∷◌, refl, sym, ◌∙◌, ap, subst, Option, Some, None, if◌then◌else◌, ◌⊎◌, inl, inr}
use Rattle.type_terms.specs.Promised.Label.{Label, Sort, of_type, of_const, of_lifetime, infer, param, placeholder, canonical, static, dynamic, principal, auto_trait, bound, predicate}
use Rattle.type_terms.specs.Promised.Trees.{Trees, none, tree, leaf, ◌+++◌, sort_of, is_sort}
use Rattle.type_terms.specs.Trees.{is_a, is_no_tree, put_at_node, Single}
use Rattle.infer_table.specs.Unification.{TableTrees, Worklist, unified}
use Rattle.infer_table.specs.Solutions.{IsSorted, HasValues}
use Rattle.infer_table.specs.declared.canonical.CanonicalVarKind.{CanonicalVarKind}
use Rattle.infer_table.specs.Values.{Value}
use Rattle.infer_table.proofs.SolutionLaws.{is_sort-equal as is-sort}
use Rattle.goal_evaluator.specs.Lists.{Every}
use Rattle.goal_evaluator.specs.Instances.{put_in, default_label, as_place, term_at}
use Rattle.type_terms.specs.Made.{Standing, terms, bounds, traits, is_leaf_label, is_made}
use Rattle.goal_evaluator.specs.Content.{Values, ChosenTerms, standing, given}
use Rattle.goal_evaluator.specs.Equations.{AreOne, Hold, IsTermOf, IsTermPair, HasLifetimes, IsMadeTable, IsAfter, IsApart}
use Rattle.goal_evaluator.specs.FrameTables.{is_good, FrameTable, IsMadeFrame, Allows, AllowsApart, label_at, label_of_sort, slot_at, Equation, is_open_label, term_of, EquationIsMet, pair_in, and_then, in_turn, good_in, pairs_in}
use Rattle.goal_evaluator.specs.TableOperations.{with_content}
use Rattle.std.specs.Prelude.{option_map}
use Rattle.goal_evaluator.proofs.Reading.{read-put, append-none}
use Rattle.type_terms.proofs.Made.{false-true, left, right, both, no-tree, is_ordinary, made-ordinary, makes-ordinary, made-append, IsLast, last-bound, last-trait, never-dynamic, never-dynamic-bound, never-principal}
use Rattle.goal_evaluator.proofs.Questions.{put-in-slots}
use Rattle.goal_evaluator.proofs.Assignments.{equations_narrow, equations_keep, equations_stay_made}

-- ---- terms over canonical variables
pub default-sort : (k : Sort) → sort_of (default_label k) ≡ k
default-sort of_type = refl
default-sort of_const = refl
default-sort of_lifetime = refl

slot-sort : (k : Sort) (l : Label) → sort_of (label_of_sort k l) ≡ k
slot-sort k l = by (is_sort (sort_of l) k) refl
  where
    by : (b : Bool) → is_sort (sort_of l) k ≡ b → sort_of (if b then l else default_label k) ≡ k
    by true e = is-sort (sort_of l) k e
    by false e = default-sort k

-- what the labels of a table are to be, so that what is put in is made as it is to be
pub record AreSlots (good : Label → Bool) (ls : List Label) : Type 0 where
  pub slots : (k : Sort) (i : ℕ) → is_made good terms (leaf (label_of_sort k (label_at ls i))) ≡ true
  pub defaults : (k : Sort) → is_made good terms (leaf (default_label k)) ≡ true
  pub binders : (i j : ℕ) → is_made good terms (leaf (bound of_lifetime i j)) ≡ true
  pub others : (l : Label) → is_open_label l ≡ true → slot_at ls l ≡ None → good l ≡ true

module _ (good : Label → Bool) (ls : List Label) (h : AreSlots good ls) where
  -- what stands in the place of a label is one leaf of its sort
  pub record IsLeafOf (l : Label) (x : Trees) : Type 0 where
    pub label : Label
    pub is : x ≡ leaf label
    pub sort : sort_of label ≡ sort_of l
    pub made : is_made good terms (leaf label) ≡ true

  slot-leaf : (k : Sort) (i : ℕ) → IsLeafOf (canonical k i) (leaf (label_of_sort k (label_at ls i)))
  slot-leaf k i = record { label = label_of_sort k (label_at ls i); is = refl; sort = slot-sort k (label_at ls i); made = h.slots k i }

  default-leaf : (l : Label) (k : Sort) → sort_of l ≡ k → IsLeafOf l (leaf (default_label k))
  default-leaf l k e = record { label = default_label k; is = refl; sort = default-sort k ∙ sym e; made = h.defaults k }

  -- a label is put in by a leaf, or stays
  pub slot-cases : (l : Label) → ((x : Trees) × (slot_at ls l ≡ Some x) × IsLeafOf l x) ⊎ (slot_at ls l ≡ None)
  slot-cases (canonical k i) = inl (leaf (label_of_sort k (label_at ls i)), refl, slot-leaf k i)
  slot-cases (infer k v) = inl (leaf (default_label k), refl, default-leaf (infer k v) k refl)
  slot-cases (param k v) = inl (leaf (default_label k), refl, default-leaf (param k v) k refl)
  slot-cases (placeholder k v) = inl (leaf (default_label k), refl, default-leaf (placeholder k v) k refl)
  slot-cases static = inl (leaf static, refl, default-leaf static of_lifetime refl)
  slot-cases (bound of_type i j) = inr refl
  slot-cases (bound of_const i j) = inr refl
  slot-cases (bound of_lifetime i j) = inl (leaf (bound of_lifetime i j), refl, record { label = bound of_lifetime i j; is = refl; sort = refl; made = h.binders i j })
  slot-cases l = inr refl

  no-tree-put : (c : Trees) → c ≡ none → put_in (slot_at ls) c ≡ none
  no-tree-put c e = ap (put_in (slot_at ls)) e

  leaf-put : (l : Label) (c : Trees) → (not (is_leaf_label l) || is_no_tree c) ≡ true → (not (is_leaf_label l) || is_no_tree (put_in (slot_at ls) c)) ≡ true
  leaf-put l c e = by (is_leaf_label l) e
    where
      by : (b : Bool) → (not b || is_no_tree c) ≡ true → (not b || is_no_tree (put_in (slot_at ls) c)) ≡ true
      by true e = ap is_no_tree (no-tree-put c (no-tree c e))
      by false e = refl

  ordinary-put : (l : Label) (c o : Trees) → is_ordinary l ≡ true → is_made is_open_label terms (tree l c o) ≡ true
      → is_made good terms (put_in (slot_at ls) c) ≡ true → is_made good terms (put_in (slot_at ls) o) ≡ true → is_made good terms (put_in (slot_at ls) (tree l c o)) ≡ true
  ordinary-put l c o i m p q = by (slot-cases l)
    where
      parts : (is_open_label l ≡ true) × ((not (is_leaf_label l) || is_no_tree c) ≡ true) × (is_made is_open_label terms c ≡ true) × (is_made is_open_label terms o ≡ true)
      parts = made-ordinary is_open_label l c o i m

      by : ((x : Trees) × (slot_at ls l ≡ Some x) × IsLeafOf l x) ⊎ (slot_at ls l ≡ None) → is_made good terms (put_in (slot_at ls) (tree l c o)) ≡ true
      by (inl y) =
          ap (λ z. is_made good terms (put_at_node z (tree l (put_in (slot_at ls) c) none) +++ put_in (slot_at ls) o)) y.1
          ∙ made-append good y.0 (put_in (slot_at ls) o) (ap (is_made good terms) y.2.is ∙ y.2.made) q
      by (inr e) =
          ap (λ z. is_made good terms (put_at_node z (tree l (put_in (slot_at ls) c) none) +++ put_in (slot_at ls) o)) e
          ∙ makes-ordinary good l (put_in (slot_at ls) c) (put_in (slot_at ls) o) i (h.others l parts.0 e) (leaf-put l c parts.1) p q

  -- the lifetime at the end of the bounds of a `dyn` type
  leaf-good : (l : Label) → is_sort (sort_of l) of_lifetime ≡ true → is_made good terms (leaf l) ≡ true → good l ≡ true
  leaf-good dynamic e m = absurd (false-true e)
  leaf-good (principal a b) e m = absurd (false-true e)
  leaf-good (auto_trait a) e m = absurd (false-true e)
  leaf-good (predicate k) e m = absurd (false-true e)
  leaf-good l e m = (made-ordinary good l none none refl m).0

  last-made : (m : Standing) (l : Label) → is_sort (sort_of l) of_lifetime ≡ true → good l ≡ true → (is_made good traits (leaf l) ≡ true) × (is_made good bounds (leaf l) ≡ true)
  last-made m dynamic e g = absurd (false-true e)
  last-made m (principal a b) e g = absurd (false-true e)
  last-made m (auto_trait a) e g = absurd (false-true e)
  last-made m (predicate k) e g = absurd (false-true e)
  last-made m l e g = (both (good l) _ g (both (is_sort (sort_of l) of_lifetime) _ e refl), both (good l) _ g (both (is_sort (sort_of l) of_lifetime) _ e refl))

  last-put : (l : Label) (c o : Trees) → IsLast is_open_label l c o → (is_made good traits (put_in (slot_at ls) (tree l c o)) ≡ true) × (is_made good bounds (put_in (slot_at ls) (tree l c o)) ≡ true)
  last-put l c o x =
      subst (λ z. (is_made good traits (put_in (slot_at ls) (tree l z o)) ≡ true) × (is_made good bounds (put_in (slot_at ls) (tree l z o)) ≡ true)) (sym x.children)
      (subst (λ z. (is_made good traits (put_in (slot_at ls) (tree l none z)) ≡ true) × (is_made good bounds (put_in (slot_at ls) (tree l none z)) ≡ true)) (sym x.rest)
      (by (slot-cases l)))
    where
      at : (y : Trees) → put_at_node (slot_at ls l) (leaf l) +++ none ≡ y → (is_made good traits y ≡ true) × (is_made good bounds y ≡ true)
          → (is_made good traits (put_in (slot_at ls) (leaf l)) ≡ true) × (is_made good bounds (put_in (slot_at ls) (leaf l)) ≡ true)
      at y e p = (ap (is_made good traits) e ∙ p.0, ap (is_made good bounds) e ∙ p.1)

      by : ((y : Trees) × (slot_at ls l ≡ Some y) × IsLeafOf l y) ⊎ (slot_at ls l ≡ None) → (is_made good traits (put_in (slot_at ls) (leaf l)) ≡ true) × (is_made good bounds (put_in (slot_at ls) (leaf l)) ≡ true)
      by (inl y) =
          let e = ap (λ z. is_sort z of_lifetime) y.2.sort ∙ x.lifetime in
          at (leaf y.2.label) (ap (λ z. put_at_node z (leaf l) +++ none) y.1 ∙ append-none y.0 ∙ y.2.is) (last-made terms y.2.label e (leaf-good y.2.label e y.2.made))
      by (inr e) = at (leaf l) (ap (λ z. put_at_node z (leaf l) +++ none) e) (last-made terms l x.lifetime (h.others l x.good_label e))

  pub made-put : (m : Standing) (t : Trees) → is_made is_open_label m t ≡ true → is_made good m (put_in (slot_at ls) t) ≡ true
  made-put terms none e = refl
  made-put terms (tree dynamic c o) e =
      both (is_made good bounds (put_in (slot_at ls) c)) (is_made good terms (put_in (slot_at ls) o))
      (made-put bounds c (left (is_made is_open_label bounds c) (is_made is_open_label terms o) e)) (made-put terms o (right (is_made is_open_label bounds c) (is_made is_open_label terms o) e))
  made-put terms (tree (principal a b) c o) e = absurd (false-true e)
  made-put terms (tree (auto_trait a) c o) e = absurd (false-true e)
  made-put terms (tree (predicate k) c o) e = absurd (false-true e)
  made-put terms (tree l c o) e =
      let x = made-ordinary is_open_label l c o refl e in
      ordinary-put l c o refl e (made-put terms c x.2) (made-put terms o x.3)
  made-put bounds none e = absurd (false-true e)
  made-put bounds (tree (principal a b) c o) e =
      both (is_made good terms (put_in (slot_at ls) c)) (is_made good traits (put_in (slot_at ls) o))
      (made-put terms c (left (is_made is_open_label terms c) (is_made is_open_label traits o) e)) (made-put traits o (right (is_made is_open_label terms c) (is_made is_open_label traits o) e))
  made-put bounds (tree (predicate k) c o) e = absurd (false-true e)
  made-put bounds (tree (auto_trait a) c o) e =
      both (is_no_tree (put_in (slot_at ls) c)) (is_made good traits (put_in (slot_at ls) o))
      (ap is_no_tree (no-tree-put c (no-tree c (left (is_no_tree c) (is_made is_open_label traits o) e)))) (made-put traits o (right (is_no_tree c) (is_made is_open_label traits o) e))
  made-put bounds (tree dynamic c o) e = absurd (never-dynamic-bound is_open_label c o e)
  made-put bounds (tree l c o) e = (last-put l c o (last-bound is_open_label l c o refl e)).1
  made-put traits none e = absurd (false-true e)
  made-put traits (tree (predicate k) c o) e = absurd (false-true e)
  made-put traits (tree (auto_trait a) c o) e =
      both (is_no_tree (put_in (slot_at ls) c)) (is_made good traits (put_in (slot_at ls) o))
      (ap is_no_tree (no-tree-put c (no-tree c (left (is_no_tree c) (is_made is_open_label traits o) e)))) (made-put traits o (right (is_no_tree c) (is_made is_open_label traits o) e))
  made-put traits (tree dynamic c o) e = absurd (never-dynamic is_open_label c o e)
  made-put traits (tree (principal a b) c o) e = absurd (never-principal is_open_label a b c o e)
  made-put traits (tree l c o) e = (last-put l c o (last-trait is_open_label l c o refl e)).0

-- ---- the labels of a table
frame-slot : (good : Label → Bool) → ((k : Sort) → is_made good terms (leaf (default_label k)) ≡ true) → (ls : List Label) → Every (λ l. is_made good terms (leaf l) ≡ true) ls
    → is_made good terms (leaf static) ≡ true → (i : ℕ) → is_made good terms (leaf (label_at ls i)) ≡ true
frame-slot good d [] h e i = e
frame-slot good d (l ∷ ls) h e zero = h.0
frame-slot good d (l ∷ ls) h e (suc i) = frame-slot good d ls h.1 e i

frame-default : (kinds : List CanonicalVarKind) (types consts : ℕ) (k : Sort) → is_made (is_good kinds types consts) terms (leaf (default_label k)) ≡ true
frame-default kinds types consts of_type = refl
frame-default kinds types consts of_const = refl
frame-default kinds types consts of_lifetime = refl

frame-other : (kinds : List CanonicalVarKind) (types consts : ℕ) (ls : List Label) (l : Label) → is_open_label l ≡ true → slot_at ls l ≡ None → is_good kinds types consts l ≡ true
frame-other kinds types consts ls (infer k v) o e = absurd (false-true o)
frame-other kinds types consts ls (param k v) o e = absurd (cc)
frame-other kinds types consts ls (placeholder k v) o e = absurd (cc)
frame-other kinds types consts ls (canonical k i) o e = absurd (cc)
frame-other kinds types consts ls l o e = refl

pub frame-slots : (kinds : List CanonicalVarKind) (types consts : ℕ) (ls : List Label) → Every (λ l. is_made (is_good kinds types consts) terms (leaf l) ≡ true) ls → AreSlots (is_good kinds types consts) ls
frame-slots kinds types consts ls h =
    let good = is_good kinds types consts in
    record {
      slots = λ k i. by k (label_at ls i) (is_sort (sort_of (label_at ls i)) k) (frame-slot good (frame-default kinds types consts) ls h refl i);
      defaults = frame-default kinds types consts;
      binders = λ i j. refl;
      others = frame-other kinds types consts ls;
    }
  where
    by : (k : Sort) (l : Label) (b : Bool) → is_made (is_good kinds types consts) terms (leaf l) ≡ true → is_made (is_good kinds types consts) terms (leaf (if b then l else default_label k)) ≡ true
    by k l true e = e
    by k l false e = frame-default kinds types consts k

-- ---- the terms of an equation
term-made : (v : Value) → is_made is_open_label terms (term_of v) ≡ true
term-made v = by (is_a v.sort v.trees && is_made is_open_label terms v.trees) refl
  where
    default : (k : Sort) → is_made is_open_label terms (leaf (default_label k)) ≡ true
    default of_type = refl
    default of_const = refl
    default of_lifetime = refl

    by : (b : Bool) → (is_a v.sort v.trees && is_made is_open_label terms v.trees) ≡ b → is_made is_open_label terms (if b then v.trees else leaf (default_label v.sort)) ≡ true
    by true e = right (is_a v.sort v.trees) _ e
    by false e = default v.sort

pub single-of : (k : Sort) (t : Trees) → is_a k t ≡ true → Single t
single-of of_type none h = absurd (false-true h)
single-of of_const none h = absurd (false-true h)
single-of of_lifetime none h = absurd (false-true h)
single-of of_type (tree l c o) h = no-tree o (right (is_sort (sort_of l) of_type) _ h)
single-of of_const (tree l c o) h = no-tree o (right (is_sort (sort_of l) of_const) _ h)
single-of of_lifetime (tree l c o) h = no-tree o (right (is_no_tree c) _ (right (is_sort (sort_of l) of_lifetime) _ h))

term-single : (v : Value) → Single (term_of v)
term-single v = by (is_a v.sort v.trees && is_made is_open_label terms v.trees) refl
  where
    by : (b : Bool) → (is_a v.sort v.trees && is_made is_open_label terms v.trees) ≡ b → Single (if b then v.trees else leaf (default_label v.sort))
    by true e = single-of v.sort v.trees (left (is_a v.sort v.trees) _ e)
    by false e = refl

single-put : (good : Label → Bool) (ls : List Label) (h : AreSlots good ls) (t : Trees) → Single t → Single (put_in (slot_at ls) t)
single-put good ls h none s = absurd s
single-put good ls h (tree l c o) s = subst (λ z. Single (put_in (slot_at ls) (tree l c z))) (sym s) (by (slot-cases good ls h l))
  where
    by : ((x : Trees) × (slot_at ls l ≡ Some x) × IsLeafOf good ls h l x) ⊎ (slot_at ls l ≡ None) → Single (put_in (slot_at ls) (tree l c none))
    by (inl y) = subst (λ z. Single (put_at_node z (tree l (put_in (slot_at ls) c) none) +++ none)) (sym y.1) (subst (λ z. Single (z +++ none)) (sym y.2.is) refl)
    by (inr e) = subst (λ z. Single (put_at_node z (tree l (put_in (slot_at ls) c) none) +++ none)) (sym e) refl

pub slots-of : (t : FrameTable) → IsMadeFrame t → AreSlots (good_in t) t.labels
slots-of t made = frame-slots t.kinds t.content.ty_vars t.content.const_vars t.labels made.leaves

pair-terms : (t : FrameTable) → IsMadeFrame t → (e : Equation) → IsTermPair (good_in t) (pair_in t e)
pair-terms t made e = (one e.left, one e.right)
  where
    one : (v : Value) → IsTermOf (good_in t) (put_in (slot_at t.labels) (term_of v))
    one v = record {
      single = single-put (good_in t) t.labels (slots-of t made) (term_of v) (term-single v);
      made = made-put (good_in t) t.labels (slots-of t made) terms (term_of v) (term-made v);
    }

pub pairs-terms : (t : FrameTable) → IsMadeFrame t → (es : List Equation) → Every (IsTermPair (good_in t)) (pairs_in t es)
pairs-terms t made [] = tt
pairs-terms t made (e ∷ es) = (pair-terms t made e, pairs-terms t made es)

-- the equation is met exactly where its pair is read as one term
pub pair-reads : (t : FrameTable) (s : ChosenTerms) → Allows t s → (e : Equation) → (AreOne s (pair_in t e) → EquationIsMet e s) × (EquationIsMet e s → AreOne s (pair_in t e))
pair-reads t s a e =
    let side = λ (v : Value). read-put (standing s) (given s.slots) (slot_at t.labels) (put-in-slots s a.sorted t.labels a.slots) (term_of v) in
    (λ h. sym (side e.left) ∙ h ∙ side e.right, λ h. side e.left ∙ h ∙ sym (side e.right))

-- ---- equations in turn
pub none-some : {A : Type 0} (u : A) (T : Type 0) → None ≡ Some u → T
none-some u T e = absurd (cc)

pub some-is : {A : Type 0} (t u : A) → Some t ≡ Some u → t ≡ u
some-is t u e = cc

module _ (good : Label → Bool) (opens : HasLifetimes good) where
  -- what equations in turn leave
  pub record InTurn (t : TableTrees) (todo : Worklist) (u : TableTrees) : Type 0 where
    pub after : IsAfter good t u
    pub only : (s : ChosenTerms) → Hold s u → Hold s t × Every (AreOne s) todo

  in-turn-on : (t w u : TableTrees) (e : Trees × Trees) (todo : Worklist) → IsAfter good t w → ((s : ChosenTerms) → Hold s w → Hold s t × Every (AreOne s) (e ∷ [])) → InTurn w todo u → InTurn t (e ∷ todo) u
  in-turn-on t w u e todo a f x = record {
    after = record { made = x.after.made; ty_vars = x.after.ty_vars ∙ a.ty_vars; const_vars = x.after.const_vars ∙ a.const_vars };
    only = λ s h. let y = x.only s h in let z = f s y.0 in (z.0, (z.1.0, y.1));
  }

  pub in-turn-narrows : (todo : Worklist) (t u : TableTrees) → IsMadeTable good t → Every (IsTermPair good) todo → in_turn todo t ≡ Some u → InTurn t todo u
  in-turn-narrows [] t u m p e = subst (InTurn t []) (some-is t u e) (record { after = record { made = m; ty_vars = refl; const_vars = refl }; only = λ s h. (h, tt) })
  in-turn-narrows (x ∷ todo) t u m p e = by (unified t (x ∷ [])) refl e (λ w n q. in-turn-narrows todo w u n p.1 q)
    where
      by : (o : Option TableTrees) → unified t (x ∷ []) ≡ o → and_then (in_turn todo) o ≡ Some u → ((w : TableTrees) → IsMadeTable good w → in_turn todo w ≡ Some u → InTurn w todo u) → InTurn t (x ∷ todo) u
      by None q e f = none-some u (InTurn t (x ∷ todo) u) e
      by (Some w) q e f =
          let a = equations_stay_made good t (x ∷ []) w opens m (p.0, tt) q in
          in-turn-on t w u x todo a (equations_narrow good t (x ∷ []) w opens m (p.0, tt) q) (f w a.made e)

  pub in-turn-keeps : (todo : Worklist) (t : TableTrees) (s : ChosenTerms) → IsMadeTable good t → Every (IsTermPair good) todo → IsApart good s → Hold s t → Every (AreOne s) todo
      → (u : TableTrees) × (in_turn todo t ≡ Some u) × Hold s u
  in-turn-keeps [] t s m p a h o = (t, refl, h)
  in-turn-keeps (x ∷ todo) t s m p a h o =
      let w = equations_keep good t (x ∷ []) s opens m (p.0, tt) a h (o.0, tt) in
      let after = equations_stay_made good t (x ∷ []) w.0 opens m (p.0, tt) w.1 in
      let r = in-turn-keeps todo w.0 s after.made p.1 a w.2 o.1 in
      (r.0, ap (and_then (in_turn todo)) w.1 ∙ r.1, r.2)

-- ---- the table after equations
pub lifetimes-good : (kinds : List CanonicalVarKind) (types consts : ℕ) → HasLifetimes (is_good kinds types consts)
lifetimes-good kinds types consts v = refl

-- another table of the same unknowns
frame-after : (t : FrameTable) → IsMadeFrame t → (u : TableTrees) → IsAfter (good_in t) t.content u → IsMadeFrame (with_content t u)
frame-after t made u a =
    let same : is_good t.kinds t.content.ty_vars t.content.const_vars ≡ is_good t.kinds u.ty_vars u.const_vars =
    ap (λ n. is_good t.kinds n t.content.const_vars) (sym a.ty_vars) ∙ ap (λ n. is_good t.kinds u.ty_vars n) (sym a.const_vars) in
    record {
      table = subst (λ g. IsMadeTable g u) same a.made;
      leaves = subst (λ (g : Label → Bool). Every (λ l. is_made g terms (leaf l) ≡ true) t.labels) same made.leaves;
      own = made.own;
    }

pub equations-narrow : (t : FrameTable) → IsMadeFrame t → (es : List Equation) (u : TableTrees) → in_turn (pairs_in t es) t.content ≡ Some u
    → InTurn (good_in t) (lifetimes-good t.kinds t.content.ty_vars t.content.const_vars) t.content (pairs_in t es) u
equations-narrow t made es u e = in-turn-narrows (good_in t) (lifetimes-good t.kinds t.content.ty_vars t.content.const_vars) (pairs_in t es) t.content u made.table (pairs-terms t made es) e

pub made-in-turn : (t : FrameTable) → IsMadeFrame t → (es : List Equation) (u : TableTrees) → in_turn (pairs_in t es) t.content ≡ Some u → IsMadeFrame (with_content t u)
made-in-turn t made es u e = frame-after t made u (equations-narrow t made es u e).after

-- what a table is that was not refused
pub with-content-is : (t : FrameTable) (o : Option TableTrees) (u : FrameTable) → option_map (with_content t) o ≡ Some u → (c : TableTrees) × (o ≡ Some c) × (with_content t c ≡ u)
with-content-is t None u e = none-some u _ e
with-content-is t (Some c) u e = (c, refl, some-is (with_content t c) u e)

-- ---- the laws of equations over frames
-- terms that tell the placeholders of a table apart lose nothing, nor do those with other unknowns
pub further-apart : (t : FrameTable) (s r : ChosenTerms) (a b : ℕ) → AllowsApart t s → r.own ≡ s.own → IsSorted r.unknowns → IsApart (is_good t.kinds a b) r
further-apart t s r a b h e sorted = record { sorted = sorted; no_parameter = parameter; apart = placeholders }
  where
    parameter : (k : Sort) (i : ℕ) → HasValues k → is_good t.kinds a b (param k i) ≡ true → ⊥
    parameter of_type i v g = false-true g
    parameter of_const i v g = false-true g
    parameter of_lifetime i v g = v

    value-sort : (k : Sort) → HasValues k → is_sort k of_lifetime ≡ false
    value-sort of_type v = refl
    value-sort of_const v = refl
    value-sort of_lifetime v = absurd v

    placeholders : (k : Sort) (i j : ℕ) → HasValues k → is_good t.kinds a b (placeholder k i) ≡ true → is_good t.kinds a b (placeholder k j) ≡ true
        → as_place k (term_at r.own.terms i) ≡ as_place k (term_at r.own.terms j) → i ≡ j
    placeholders k i j v g g' q = h.apart k i j g g' (subst (λ (o : Values). as_place k (term_at o.terms i) ≡ as_place k (term_at o.terms j)) e q) (value-sort k v)

pub is-apart : (t : FrameTable) (s : ChosenTerms) → AllowsApart t s → IsApart (good_in t) s
is-apart t s h = further-apart t s s t.content.ty_vars t.content.const_vars h refl h.allowed.sorted
