-- Terms without bound variables: operations on them, and the values of the variables of a frame's table.
use Rattle.std.proofs.Common.{◌≡◌, ℕ, zero, suc, ◌+◌, Bool, true, false, not, ◌&&◌, List, [], ◌∷◌, ◌++◌, refl, sym, ◌∙◌, ap, subst, Option, Some, None, if◌then◌else◌, is_some}
use Rattle.std.specs.Prelude.{option_map, option_and_then}
use Rattle.type_terms.specs.Promised.Label.{Label, Sort, of_type, of_const, of_lifetime, infer, param, placeholder, canonical, bound, static, dynamic, principal, auto_trait, predicate, inside}
use Rattle.type_terms.specs.Promised.Trees.{Trees, none, tree, ◌+++◌, nth, shift, instantiate, is_sort, sort_of, some_node}
use Rattle.type_terms.specs.Trees.{is_no_tree}
use Rattle.type_terms.proofs.Fitting.{head-shut, child-shut, next-shut, append-shut}
use Rattle.type_terms.proofs.Walking.{left, right, both}
use Rattle.type_terms.specs.Made.{Standing, terms, bounds, traits, is_made}
use Rattle.type_terms.proofs.Made.{false-true, no-tree, made-ordinary, makes-ordinary, IsLast, last-bound, last-trait, never-dynamic, never-dynamic-bound, never-principal}
use Rattle.infer_table.specs.Canonical.{kind_of_leaf, relabeled, canonical_label}
use Rattle.infer_table.specs.Solutions.{Binding, HasValues, replace, resolved, is_same_variable}
use Rattle.infer_table.specs.Unification.{TableTrees, unified}
use Rattle.infer_table.specs.Applied.{solved_in_turn, trees_of, with_constraints, applied}
use Rattle.infer_table.specs.Applying.{table_after, next_unknown, known_value, applied_values, applied_table}
use Rattle.infer_table.specs.Leaves.{root_label}
use Rattle.infer_table.specs.declared.canonical.CanonicalVarKind.{CanonicalVarKind}
use Rattle.infer_table.specs.declared.canonical.CanonicalVarKind.TheVariants.{Ty, PlaceholderTy, Const, PlaceholderConst, Region}
use Rattle.infer_table.proofs.ExtendFacts.{unified-extends}
use Rattle.infer_table.specs.Responses.{AnswerTrees}
use Rattle.infer_table.specs.Values.{Value, filled_values}
use Rattle.goal_evaluator.specs.Lists.{Every}
use Rattle.goal_evaluator.specs.TableAnswers.{put_into, is_fitting_answer, originals_of}
use Rattle.goal_evaluator.specs.Instances.{put_in, default_label}
use Rattle.goal_evaluator.specs.FrameTables.{FrameTable, IsMadeFrame, Nested, Equation, term_of, good_in, label_at, label_of_sort, slot_at, labels_from, labels_for, first_content, unknown, in_turn, pairs_in}
use Rattle.goal_evaluator.specs.Equations.{IsTermOf, IsTermPair, IsValue, IsMadeTable}
use Rattle.goal_evaluator.proofs.TableBeginning.{begin-made}
use Rattle.goal_evaluator.proofs.Fresh.{fresh-made}
use Rattle.goal_evaluator.proofs.ListLaws.{Every-mono}
use Rattle.goal_evaluator.specs.TableOperations.{apply, begin, fresh, equate}
use Rattle.goal_evaluator.proofs.Applying.{for-bindings}
use Rattle.goal_evaluator.proofs.Equating.{with-content-is, pairs-terms, in-turn-narrows}
use Rattle.goal_evaluator.specs.Tables.{frame_tables}
use Rattle.solver_completeness.specs.Closed.{TableReaches, here, answered}
use Rattle.candidate_model.proofs.Instances.{is_bound, Unbound, shift-unbound, nth-unbound}
use Rattle.solver_completeness.proofs.QuestionTerms.{is_unknown}
use Rattle.type_terms.proofs.TypeBasics.{some-is as some-same}
use Rattle.type_terms.proofs.BooleanBasics.{none-of}

pub unbound-node : (l : Label) (c o : Trees) → is_bound l ≡ false → Unbound c → Unbound o → Unbound (tree l c o)
unbound-node l c o e f g = none-of (is_bound l) (some_node is_bound c) (some_node is_bound o) e f g

own-label : (l : Label) (c o : Trees) → Unbound (tree l c o) → is_bound l ≡ false
own-label (bound s k i) c o h = h
own-label l c o h = refl

-- ---- labels of made terms
module _ (good : Label → Bool) (each : (l : Label) → good l ≡ true → is_bound l ≡ false) where
  last-unbound : (l : Label) (c o : Trees) → IsLast good l c o → Unbound (tree l c o)
  last-unbound l c o x = unbound-node l c o (each l x.good_label) (subst Unbound (sym x.children) refl) (subst Unbound (sym x.rest) refl)

  pub made-unbound : (m : Standing) (t : Trees) → is_made good m t ≡ true → Unbound t
  made-unbound terms none h = refl
  made-unbound terms (tree dynamic c o) h = unbound-node dynamic c o refl (made-unbound bounds c (left (is_made good bounds c) _ h)) (made-unbound terms o (right (is_made good bounds c) _ h))
  made-unbound terms (tree (principal n i) c o) h = absurd (false-true h)
  made-unbound terms (tree (auto_trait i) c o) h = absurd (false-true h)
  made-unbound terms (tree (predicate k) c o) h = absurd (false-true h)
  made-unbound terms (tree l c o) h = let x = made-ordinary good l c o refl h in unbound-node l c o (each l x.0) (made-unbound terms c x.2) (made-unbound terms o x.3)
  made-unbound bounds none h = absurd (false-true h)
  made-unbound bounds (tree (principal n i) c o) h = unbound-node (principal n i) c o refl (made-unbound terms c (left (is_made good terms c) _ h)) (made-unbound traits o (right (is_made good terms c) _ h))
  made-unbound bounds (tree (auto_trait i) c o) h = unbound-node (auto_trait i) c o refl (subst Unbound (sym (no-tree c (left (is_no_tree c) _ h))) refl) (made-unbound traits o (right (is_no_tree c) _ h))
  made-unbound bounds (tree (predicate k) c o) h = absurd (false-true h)
  made-unbound bounds (tree dynamic c o) h = absurd (never-dynamic-bound good c o h)
  made-unbound bounds (tree l c o) h = last-unbound l c o (last-bound good l c o refl h)
  made-unbound traits none h = absurd (false-true h)
  made-unbound traits (tree (auto_trait i) c o) h = unbound-node (auto_trait i) c o refl (subst Unbound (sym (no-tree c (left (is_no_tree c) _ h))) refl) (made-unbound traits o (right (is_no_tree c) _ h))
  made-unbound traits (tree (predicate k) c o) h = absurd (false-true h)
  made-unbound traits (tree dynamic c o) h = absurd (never-dynamic good c o h)
  made-unbound traits (tree (principal n i) c o) h = absurd (never-principal good n i c o h)
  made-unbound traits (tree l c o) h = last-unbound l c o (last-trait good l c o refl h)

-- and back: good labels, of which none is bound
module _ (good : Label → Bool) where
  abbrev pub free_of : Label → Bool
  free_of l = good l && not (is_bound l)

  label-free : (l : Label) → good l ≡ true → is_bound l ≡ false → free_of l ≡ true
  label-free l g e = both (good l) (not (is_bound l)) g (ap not e)

  last-free : (l : Label) (c o : Trees) → IsLast good l c o → Unbound (tree l c o) → (free_of l && (is_sort (sort_of l) of_lifetime && (is_no_tree c && is_no_tree o))) ≡ true
  last-free l c o x u =
      both (free_of l) _ (label-free l x.good_label (own-label l c o u)) (both (is_sort (sort_of l) of_lifetime) _ x.lifetime (both (is_no_tree c) (is_no_tree o) (ap is_no_tree x.children) (ap is_no_tree x.rest)))

  pub made-free : (m : Standing) (t : Trees) → is_made good m t ≡ true → Unbound t → is_made free_of m t ≡ true
  made-free terms none h u = refl
  made-free terms (tree dynamic c o) h u =
      both (is_made free_of bounds c) (is_made free_of terms o) (made-free bounds c (left (is_made good bounds c) _ h) (child-shut is_bound dynamic c o u)) (made-free terms o (right (is_made good bounds c) _ h) (next-shut is_bound dynamic c o u))
  made-free terms (tree (principal n i) c o) h u = absurd (false-true h)
  made-free terms (tree (auto_trait i) c o) h u = absurd (false-true h)
  made-free terms (tree (predicate k) c o) h u = absurd (false-true h)
  made-free terms (tree l c o) h u =
      let x = made-ordinary good l c o refl h in
      makes-ordinary free_of l c o refl (label-free l x.0 (own-label l c o u)) x.1 (made-free terms c x.2 (child-shut is_bound l c o u)) (made-free terms o x.3 (next-shut is_bound l c o u))
  made-free bounds none h u = absurd (false-true h)
  made-free bounds (tree (principal n i) c o) h u =
      both (is_made free_of terms c) (is_made free_of traits o) (made-free terms c (left (is_made good terms c) _ h) (child-shut is_bound (principal n i) c o u)) (made-free traits o (right (is_made good terms c) _ h) (next-shut is_bound (principal n i) c o u))
  made-free bounds (tree (auto_trait i) c o) h u = both (is_no_tree c) (is_made free_of traits o) (left (is_no_tree c) _ h) (made-free traits o (right (is_no_tree c) _ h) (next-shut is_bound (auto_trait i) c o u))
  made-free bounds (tree (predicate k) c o) h u = absurd (false-true h)
  made-free bounds (tree dynamic c o) h u = absurd (never-dynamic-bound good c o h)
  made-free bounds (tree l c o) h u = last-free l c o (last-bound good l c o refl h) u
  made-free traits none h u = absurd (false-true h)
  made-free traits (tree (auto_trait i) c o) h u = both (is_no_tree c) (is_made free_of traits o) (left (is_no_tree c) _ h) (made-free traits o (right (is_no_tree c) _ h) (next-shut is_bound (auto_trait i) c o u))
  made-free traits (tree (predicate k) c o) h u = absurd (false-true h)
  made-free traits (tree dynamic c o) h u = absurd (never-dynamic good c o h)
  made-free traits (tree (principal n i) c o) h u = absurd (never-principal good n i c o h)
  made-free traits (tree l c o) h u = last-free l c o (last-trait good l c o refl h) u

-- ---- instances
pub instance-unbound : (d : ℕ) (A t : Trees) → Unbound A → Unbound t → Unbound (instantiate d A t)
instance-unbound d A none h g = refl
instance-unbound d A (tree (param s i) c o) h g =
    append-shut is_bound (shift zero d (nth A i)) (instantiate d A o) (subst Unbound (sym (shift-unbound zero d (nth A i) (nth-unbound A i h))) (nth-unbound A i h)) (instance-unbound d A o h (next-shut is_bound (param s i) c o g))
instance-unbound d A (tree l c o) h g =
    unbound-node l (instantiate (inside l d) A c) (instantiate d A o) (own-label l c o g) (instance-unbound (inside l d) A c h (child-shut is_bound l c o g)) (instance-unbound d A o h (next-shut is_bound l c o g))

-- ---- values in the place of unknowns
replace-unbound : (k : Sort) (v : ℕ) (r t : Trees) → Unbound r → Unbound t → Unbound (replace k v r t)
replace-unbound k v r none f h = refl
replace-unbound k v r (tree (infer j w) c o) f h = by (is_same_variable j w k v) (replace-unbound k v r o f (next-shut is_bound (infer j w) c o h))
  where
    by : (b : Bool) → Unbound (replace k v r o) → Unbound (if b then r +++ replace k v r o else tree (infer j w) c (replace k v r o))
    by true g = append-shut is_bound r (replace k v r o) f g
    by false g = unbound-node (infer j w) c (replace k v r o) refl (child-shut is_bound (infer j w) c o h) g
replace-unbound k v r (tree l c o) f h =
    unbound-node l (replace k v r c) (replace k v r o) (own-label l c o h) (replace-unbound k v r c f (child-shut is_bound l c o h)) (replace-unbound k v r o f (next-shut is_bound l c o h))

abbrev pub AreUnboundValues : List Binding → Type 0
AreUnboundValues bs = Every (λ (b : Binding). Unbound b.value) bs

pub resolved-unbound : (bs : List Binding) → AreUnboundValues bs → (t : Trees) → Unbound t → Unbound (resolved bs t)
resolved-unbound [] h t u = u
resolved-unbound (b ∷ older) h t u = replace-unbound b.sort b.var (resolved older b.value) (resolved older t) (resolved-unbound older h.1 b.value h.0) (resolved-unbound older h.1 t u)

-- ---- what stands for canonical variables
abbrev pub AreUnboundLabels : List Label → Type 0
AreUnboundLabels ls = Every (λ l. is_bound l ≡ false) ls

label-unbound : (ls : List Label) (i : ℕ) → AreUnboundLabels ls → is_bound (label_at ls i) ≡ false
label-unbound [] i h = refl
label-unbound (l ∷ ls) zero h = h.0
label-unbound (l ∷ ls) (suc i) h = label-unbound ls i h.1

slot-unbound : (ls : List Label) (s : Sort) (i : ℕ) → AreUnboundLabels ls → is_bound (label_of_sort s (label_at ls i)) ≡ false
slot-unbound ls s i h = by (is_sort (sort_of (label_at ls i)) s)
  where
    default-unbound : (s : Sort) → is_bound (default_label s) ≡ false
    default-unbound of_type = refl
    default-unbound of_const = refl
    default-unbound of_lifetime = refl

    by : (b : Bool) → is_bound (if b then label_at ls i else default_label s) ≡ false
    by true = label-unbound ls i h
    by false = default-unbound s

default-node : (s : Sort) (o : Trees) → Unbound o → Unbound (tree (default_label s) none o)
default-node of_type o h = h
default-node of_const o h = h
default-node of_lifetime o h = h

pub put-unbound : (ls : List Label) → AreUnboundLabels ls → (t : Trees) → Unbound t → Unbound (put_in (slot_at ls) t)
put-unbound ls h none u = refl
put-unbound ls h (tree (canonical s i) c o) u = unbound-node (label_of_sort s (label_at ls i)) none (put_in (slot_at ls) o) (slot-unbound ls s i h) refl (put-unbound ls h o (next-shut is_bound (canonical s i) c o u))
put-unbound ls h (tree (infer s i) c o) u = default-node s (put_in (slot_at ls) o) (put-unbound ls h o (next-shut is_bound (infer s i) c o u))
put-unbound ls h (tree (param s i) c o) u = default-node s (put_in (slot_at ls) o) (put-unbound ls h o (next-shut is_bound (param s i) c o u))
put-unbound ls h (tree (placeholder s i) c o) u = default-node s (put_in (slot_at ls) o) (put-unbound ls h o (next-shut is_bound (placeholder s i) c o u))
put-unbound ls h (tree static c o) u = put-unbound ls h o (next-shut is_bound static c o u)
put-unbound ls h (tree (bound s k i) c o) u = absurd (false-true (sym u))
put-unbound ls h (tree l c o) u = unbound-node l (put_in (slot_at ls) c) (put_in (slot_at ls) o) (own-label l c o u) (put-unbound ls h c (child-shut is_bound l c o u)) (put-unbound ls h o (next-shut is_bound l c o u))

-- ---- numbered leaves
pub numbered-unbound : (ls : List Label) (t : Trees) → Unbound t → Unbound (relabeled kind_of_leaf (canonical_label ls) t)
numbered-unbound ls none h = refl
numbered-unbound ls (tree l c o) h =
    unbound-node (if is_some (kind_of_leaf l) then canonical_label ls l else l) (relabeled kind_of_leaf (canonical_label ls) c) (relabeled kind_of_leaf (canonical_label ls) o) (by (is_some (kind_of_leaf l)))
    (numbered-unbound ls c (child-shut is_bound l c o h)) (numbered-unbound ls o (next-shut is_bound l c o h))
  where
    by : (b : Bool) → is_bound (if b then canonical_label ls l else l) ≡ false
    by true = refl
    by false = own-label l c o h

-- ---- tables that answers make of a table
pub record GoesOn (U T : FrameTable) : Type 0 where
  pub labels : T.labels ≡ U.labels
  pub news : List Binding
  pub bindings : T.content.bindings ≡ news ++ U.content.bindings

append-three : (xs ys zs : List Binding) → xs ++ (ys ++ zs) ≡ (xs ++ ys) ++ zs
append-three [] ys zs = refl
append-three (x ∷ xs) ys zs = ap (λ z. x ∷ z) (append-three xs ys zs)

abbrev Adds : TableTrees → TableTrees → Type 0
Adds t u = (news : List Binding) × (u.bindings ≡ news ++ t.bindings)

adds-on : (t u w : TableTrees) → Adds t u → Adds u w → Adds t w
adds-on t u w x y = (y.0 ++ x.0, y.1 ∙ ap (λ z. y.0 ++ z) x.1 ∙ append-three y.0 x.0 t.bindings)

solved-adds : (a b : Trees) (t u : TableTrees) → solved_in_turn t a b ≡ Some u → Adds t u
solved-adds none none t u e = ([], ap (λ (z : TableTrees). z.bindings) (sym (some-same t u e)))
solved-adds none (tree m d p) t u e = absurd (cc)
solved-adds (tree l c o) none t u e = absurd (cc)
solved-adds (tree l c o) (tree m d p) t u e = by (unified t ((tree l c none, tree m d none) ∷ [])) refl e (λ w q. solved-adds o p w u q)
  where
    by : (x : Option TableTrees) → unified t ((tree l c none, tree m d none) ∷ []) ≡ x → option_and_then (λ w. solved_in_turn w o p) x ≡ Some u → ((w : TableTrees) → solved_in_turn w o p ≡ Some u → Adds w u) → Adds t u
    by None q e f = absurd (cc)
    by (Some w) q e f = let x = unified-extends t w ((tree l c none, tree m d none) ∷ []) q in adds-on t w u (x.bindings.0, x.bindings.1) (f w e)

put-adds : (t : TableTrees) (os : List Value) (a : AnswerTrees) (u : TableTrees) → put_into t os a ≡ Some u → Adds t u
put-adds t os a u e = by (is_fitting_answer os a) e
  where
    table : TableTrees
    table = applied_table t os a

    rows : Trees
    rows = filled_values (applied_values t os a) (trees_of a.values)

    more : (x : Option TableTrees) → solved_in_turn table (trees_of os) rows ≡ x → option_map (with_constraints (filled_values (applied_values t os a) a.constraints)) x ≡ Some u → Adds t u
    more None q e = absurd (cc)
    more (Some w) q e =
        let x = solved-adds (trees_of os) rows table w q in
        (x.0, ap (λ (z : TableTrees). z.bindings) (sym (some-same _ u e)) ∙ x.1 ∙ ap (λ z. x.0 ++ z) (for-bindings (known_value a os) t 0 a.kinds))

    by : (b : Bool) → (if b then applied t os a else Some t) ≡ Some u → Adds t u
    by true e = more (solved_in_turn table (trees_of os) rows) refl e
    by false e = ([], ap (λ (z : TableTrees). z.bindings) (sym (some-same t u e)))

apply-goes : (U W : FrameTable) (n : Nested) (r : AnswerTrees) → apply U n r ≡ Some W → GoesOn U W
apply-goes U W n r e =
    let x = with-content-is U (put_into U.content (originals_of U n) r) W e in
    let a = put-adds U.content (originals_of U n) r x.0 x.1 in
    record { labels = ap (λ (z : FrameTable). z.labels) (sym x.2); news = a.0; bindings = ap (λ (z : FrameTable). z.content.bindings) (sym x.2) ∙ a.1 }

pub reaches-goes : (U T : FrameTable) → TableReaches frame_tables U T → GoesOn U T
reaches-goes U T here = record { labels = refl; news = []; bindings = refl }
reaches-goes U T (answered {U = V} {n = n} {r = r} y q b) =
    let x = reaches-goes U V y in
    let z = apply-goes V T n r q in
    record { labels = z.labels ∙ x.labels; news = z.news ++ x.news; bindings = z.bindings ∙ ap (λ bs. z.news ++ bs) x.bindings ∙ append-three z.news x.news U.content.bindings }

-- ---- where no unknown is left, further values change nothing
replace-none : (k : Sort) (v : ℕ) (r t : Trees) → HasValues k → some_node is_unknown t ≡ false → replace k v r t ≡ t
replace-none k v r none g h = refl
replace-none k v r (tree (infer of_type w) c o) g h = absurd (false-true (sym (head-shut is_unknown (infer of_type w) c o h)))
replace-none k v r (tree (infer of_const w) c o) g h = absurd (false-true (sym (head-shut is_unknown (infer of_const w) c o h)))
replace-none of_type v r (tree (infer of_lifetime w) c o) g h = ap (tree (infer of_lifetime w) c) (replace-none of_type v r o g (next-shut is_unknown (infer of_lifetime w) c o h))
replace-none of_const v r (tree (infer of_lifetime w) c o) g h = ap (tree (infer of_lifetime w) c) (replace-none of_const v r o g (next-shut is_unknown (infer of_lifetime w) c o h))
replace-none of_lifetime v r (tree (infer of_lifetime w) c o) g h = absurd g
replace-none k v r (tree l c o) g h = two (replace-none k v r c g (child-shut is_unknown l c o h)) (replace-none k v r o g (next-shut is_unknown l c o h))
  where
    two : {x y : Trees} → x ≡ c → y ≡ o → tree l x y ≡ tree l c o
    two e f = cc

pub resolved-more : (news old : List Binding) → Every (λ (b : Binding). HasValues b.sort) news → (x : Trees) → some_node is_unknown (resolved old x) ≡ false → resolved (news ++ old) x ≡ resolved old x
resolved-more [] old h x u = refl
resolved-more (b ∷ news) old h x u =
    ap (replace b.sort b.var (resolved (news ++ old) b.value)) (resolved-more news old h.1 x u) ∙ replace-none b.sort b.var (resolved (news ++ old) b.value) (resolved old x) h.0 u

-- ---- labels of new unknowns
unknown-labels : (t : TableTrees) (i : ℕ) (ks : List CanonicalVarKind) → AreUnboundLabels (labels_for t i ks)
unknown-labels t i [] = tt
unknown-labels t i (k ∷ ks) = (by k, unknown-labels (table_after None t k) (i + 1) ks)
  where
    by : (k : CanonicalVarKind) → is_bound (root_label (next_unknown t k).trees) ≡ false
    by Ty = refl
    by PlaceholderTy = refl
    by Const = refl
    by PlaceholderConst = refl
    by Region = refl

begin-labels : (a b c i : ℕ) (ks : List CanonicalVarKind) → AreUnboundLabels (labels_from a b c i ks)
begin-labels a b c i [] = tt
begin-labels a b c i (Ty ∷ ks) = (refl, begin-labels (suc a) b c (suc i) ks)
begin-labels a b c i (Const ∷ ks) = (refl, begin-labels a (suc b) c (suc i) ks)
begin-labels a b c i (Region ∷ ks) = (refl, begin-labels a b (suc c) (suc i) ks)
begin-labels a b c i (PlaceholderTy ∷ ks) = (refl, begin-labels a b c (suc i) ks)
begin-labels a b c i (PlaceholderConst ∷ ks) = (refl, begin-labels a b c (suc i) ks)

both-labels : (xs ys : List Label) → AreUnboundLabels xs → AreUnboundLabels ys → AreUnboundLabels (xs ++ ys)
both-labels [] ys h g = g
both-labels (x ∷ xs) ys h g = (h.0, both-labels xs ys h.1 g)

pub fresh-labels : (ks js : List CanonicalVarKind) → AreUnboundLabels (fresh (begin ks) js).labels
fresh-labels ks js = both-labels (labels_from 0 0 0 0 ks) (labels_for (first_content ks) 0 js) (begin-labels 0 0 0 0 ks) (unknown-labels (first_content ks) 0 js)

-- ---- the values after a candidate's equations
abbrev pub IsUnboundEquation : Equation → Type 0
IsUnboundEquation e = Unbound (term_of e.left) × Unbound (term_of e.right)

free-pairs : (t : FrameTable) → IsMadeFrame t → AreUnboundLabels t.labels → (es : List Equation) → Every IsUnboundEquation es → Every (IsTermPair (free_of (good_in t))) (pairs_in t es)
free-pairs t made ls [] h = tt
free-pairs t made ls (e ∷ es) h =
    let x = (pairs-terms t made (e ∷ [])).0 in
    ((side e.left x.0 h.0.0, side e.right x.1 h.0.1), free-pairs t made ls es h.1)
  where
    side : (v : Value) → IsTermOf (good_in t) (put_in (slot_at t.labels) (term_of v)) → Unbound (term_of v) → IsTermOf (free_of (good_in t)) (put_in (slot_at t.labels) (term_of v))
    side v x u = record { single = x.single; made = made-free (good_in t) terms (put_in (slot_at t.labels) (term_of v)) x.made (put-unbound t.labels ls (term_of v) u) }

first-of : (a b : Bool) → (a && b) ≡ true → a ≡ true
first-of a b h = left a b h

-- a candidate's table begins without values
pub values-unbound : (ks js : List CanonicalVarKind) (es : List Equation) → Every IsUnboundEquation es → (U : FrameTable) → equate (fresh (begin ks) js) es ≡ Some U → AreUnboundValues U.content.bindings
values-unbound ks js es h U e =
    let t = fresh (begin ks) js in
    let made = fresh-made (begin ks) (begin-made ks) js in
    let good = free_of (good_in t) in
    let x = with-content-is t (in_turn (pairs_in t es) t.content) U e in
    let none-there : t.content.bindings ≡ [] = for-bindings unknown (first_content ks) 0 js in
    let start : IsMadeTable good t.content = record {
      acyclic = made.table.acyclic;
      values = subst (Every (IsValue good)) (sym none-there) tt;
      counted = record { types = λ v g. made.table.counted.types v (first-of _ _ g); consts = λ v g. made.table.counted.consts v (first-of _ _ g) };
    } in
    let after = (in-turn-narrows good (λ v. refl) (pairs_in t es) t.content x.0 start (free-pairs t made (fresh-labels ks js) es h) x.1).after in
    subst (λ (z : FrameTable). AreUnboundValues z.content.bindings) x.2
    (Every-mono (IsValue good) (λ (b : Binding). Unbound b.value) (λ b v. made-unbound good (λ l g. not-bound (is_bound l) (right (good_in t l) _ g)) terms b.value v.made) x.0.bindings after.made.values)
  where
    not-bound : (b : Bool) → not b ≡ true → b ≡ false
    not-bound true h = absurd (false-true h)
    not-bound false h = refl
