-- The instantiating folder puts the values in.
use Rattle.std.proofs.Common.{◌≡◌, ℕ, Bool, true, false, refl, ap, sym, ◌∙◌, List, [], ◌∷◌, Option, Some, None, zero, suc, subst, option_map, if◌then◌else◌, ◌&&◌}
use Rattle.std.specs.Prelude.{bit_and, bit_or}
use Rattle.std.specs.List.{slice_get}
use Rattle.type_terms.specs.Promised.Label.{Label, Sort, of_type, of_const, of_lifetime, canonical, of_trait, predicate}
use Rattle.type_terms.specs.Promised.Trees.{Trees, none, tree, leaf, ◌+++◌}
use Rattle.type_terms.specs.Trees.{put_at_node, flags, label_flags, Single}
use Rattle.type_terms.proofs.TreeLaws.{append-none, append-assoc}
use Rattle.type_terms.specs.Promised.Handles.{Entry, trees_at}
use Rattle.type_terms.specs.Promised.Handles.{ArgHeld, ArgsHeld, region_trees}
use Rattle.type_terms.specs.Kinds.{kind_trees}
use Rattle.type_terms.specs.declared.kinds.GenericArgKind.{GenericArgKind}
use Rattle.type_terms.specs.declared.kinds.TyKind.{TyKind}
use Rattle.type_terms.specs.declared.kinds.TyKind.TheVariants.{Bound as KBound}
use Rattle.type_terms.specs.declared.number.BoundVarIndexKind.TheVariants.{Bound as KBinder, Canonical as KCanonical}
use Rattle.term_folds.specs.declared.predicate.Clause.{Clause}
use Rattle.term_folds.specs.declared.predicate.Clause.TheVariants.{Trait, RegionOutlives, TypeOutlives}
use Rattle.term_folds.specs.Clauses.{clause_outline, clause_pieces}
use Rattle.term_folds.specs.Folds.{Does, enters, puts, Folds, FoldsEach}
use Rattle.type_terms.specs.Pieces.{one_piece}
use Rattle.term_folds.proofs.Replacing.{Describes, folds-are}
use Rattle.infer_table.specs.Goals.{clause_label, clause_terms, environment_trees, goal_trees, ClausesFold, GoalFolds}
use Rattle.infer_table.specs.declared.goal.Goal.{Goal}
use Rattle.infer_table.specs.Values.{Value, value_of, values_of, if_of_sort, value_for, filled_values, goal_filled, put_if_there, is_unbound, filling, filling-once}
use Rattle.infer_table.specs.Leaves.{root_label, is_type_label}
use Rattle.infer_table.proofs.ClosedFacts.{or-left, or-right, zero-test}
use Rattle.infer_table.proofs.Numbers.{goal-same}
use Rattle.type_terms.proofs.TermBasics.{at-single}

-- a label without the flags of bound variables is no canonical variable
unbound-label : (vs : List Value) (l : Label) → bit_and (label_flags l) 2184 ≡ 0 → value_for vs l ≡ None
unbound-label vs (canonical of_type i) h = cc
unbound-label vs (canonical of_const i) h = cc
unbound-label vs (canonical of_lifetime i) h = cc
unbound-label vs l h = refl

unbound-stays : (vs : List Value) (t : Trees) → bit_and (flags t) 2184 ≡ 0 → filled_values vs t ≡ t
unbound-stays vs none h = refl
unbound-stays vs (tree l c o) h =
    let here = or-left (bit_or (label_flags l) (flags c)) (flags o) 2184 h in
    placed-none _ _ _ _ _ _ (unbound-label vs l (or-left (label_flags l) (flags c) 2184 here)) (unbound-stays vs c (or-right (label_flags l) (flags c) 2184 here))
    (unbound-stays vs o (or-right (bit_or (label_flags l) (flags c)) (flags o) 2184 h))
  where
    placed-none : (v : Option Trees) (l : Label) (c c' o o' : Trees) → v ≡ None → c' ≡ c → o' ≡ o → put_at_node v (tree l c' none) +++ o' ≡ tree l c o
    placed-none v l c c' o o' p q r = rw (p, q, r) refl

module _ (vs : List Value) where
  pub filled-append : (x y : Trees) → filled_values vs (x +++ y) ≡ filled_values vs x +++ filled_values vs y
  filled-append none y = refl
  filled-append (tree l c o) y =
      ap (λ z. put_at_node (value_for vs l) (tree l (filled_values vs c) none) +++ z) (filled-append o y)
      ∙ sym (append-assoc (put_at_node (value_for vs l) (tree l (filled_values vs c) none)) (filled_values vs o) (filled_values vs y))

  enters-is : (bs : List ℕ) (l : Label) (c : Trees) → filling vs (tree l c none) ≡ enters → filled_values vs (tree l c none) ≡ tree l (filled_values vs c) none
  enters-is bs l c e = by (is_type_label l && is_unbound (tree l c none)) (value_for vs l) (tree l c none) e
    where
      by : (b : Bool) (v : Option Trees) (s : Trees) → (if b then puts s else put_if_there v) ≡ enters → put_at_node v (tree l (filled_values vs c) none) +++ none ≡ tree l (filled_values vs c) none
      by true v s e = cc
      by false None s e = refl
      by false (Some t) s e = cc

  unbound-filled : (l : Label) (c : Trees) → (is_type_label l && is_unbound (tree l c none)) ≡ true → filled_values vs (tree l c none) ≡ tree l c none
  unbound-filled l c h = by (is_type_label l) h
    where
      by : (y : Bool) → (y && is_unbound (tree l c none)) ≡ true → filled_values vs (tree l c none) ≡ tree l c none
      by true e = unbound-stays vs (tree l c none) (zero-test _ e)
      by false e = cc

  puts-is : (bs : List ℕ) (l : Label) (c r : Trees) → filling vs (tree l c none) ≡ puts r → filled_values vs (tree l c none) ≡ r
  puts-is bs l c r e = by (is_type_label l && is_unbound (tree l c none)) refl (value_for vs l) refl e
    where
      same : (s t : Trees) → puts s ≡ puts t → s ≡ t
      same s t e = cc

      by : (b : Bool) → (is_type_label l && is_unbound (tree l c none)) ≡ b → (v : Option Trees) → value_for vs l ≡ v
          → (if b then puts (tree l c none) else put_if_there v) ≡ puts r → filled_values vs (tree l c none) ≡ r
      by true p v q e = unbound-filled l c p ∙ same _ _ e
      by false p None q e = cc
      by false p (Some t) q e = ap (λ (z : Option Trees). put_at_node z (tree l (filled_values vs c) none) +++ none) q ∙ append-none t ∙ same _ _ e

  filling-describes : Describes (λ bs t. filling vs t) (λ bs t. filled_values vs t)
  filling-describes = record {
    at_none = λ bs. refl;
    at_list = λ bs l c o. filled-append (tree l c none) o;
    at_enters = enters-is;
    at_puts = puts-is;
    at_again = λ bs l c s e. absurd (filling-once vs (tree l c none) s e);
  }

  pub filled-fold : (t u : Trees) → Folds (λ bs t. filling vs t) [] t u → u ≡ filled_values vs t
  filled-fold t u h = folds-are (λ bs t. filled_values vs t) filling-describes h

  record FilledClause (old new : List Entry) (x y : Clause) : Type 0 where
    label : clause_label y ≡ clause_label x
    terms : clause_terms new y ≡ filled_values vs (clause_terms old x)

  two : (a a' b b' : Trees) → a' ≡ a → b' ≡ b → a' +++ b' ≡ a +++ b
  two a a' b b' p q = cc

  clause-filled : (old new : List Entry) (x y : Clause) → clause_outline y ≡ clause_outline x → FoldsEach (λ bs t. filling vs t) [] (clause_pieces old x) (clause_pieces new y) → FilledClause old new x y
  clause-filled old new (Trait p) (Trait q) e h = record {
    label = let same : q.trait_ref.def_id.index ≡ p.trait_ref.def_id.index = cc in ap (λ i. predicate (of_trait i)) same;
    terms = filled-fold _ _ h.1;
  }
  clause-filled old new (RegionOutlives r s) (RegionOutlives r' s') e h = record {
    label = refl;
    terms = two _ _ _ _ (filled-fold _ _ h.1) (filled-fold _ _ h.2.1) ∙ sym (filled-append (region_trees r) (region_trees s));
  }
  clause-filled old new (TypeOutlives t r) (TypeOutlives t' r') e h = record {
    label = refl;
    terms = two _ _ _ _ (filled-fold _ _ h.1) (filled-fold _ _ h.2.1) ∙ sym (filled-append (trees_at old t.0) (region_trees r));
  }
  clause-filled old new x y e h = cc

  node : (l l' : Label) (c c' o o' : Trees) → l' ≡ l → c' ≡ c → o' ≡ o → tree l' c' o' ≡ tree l c o
  node l l' c c' o o' p q r = cc

  -- a clause is no variable
  clause-node : (x : Clause) (c o : Trees) → filled_values vs (tree (clause_label x) c o) ≡ tree (clause_label x) (filled_values vs c) (filled_values vs o)
  clause-node (Trait p) c o = refl
  clause-node (RegionOutlives r s) c o = refl
  clause-node (TypeOutlives t r) c o = refl

  pub environment-filled : (old new : List Entry) (xs ys : List Clause) → ClausesFold (λ bs t. filling vs t) old xs new ys → environment_trees new ys ≡ filled_values vs (environment_trees old xs)
  environment-filled old new [] [] h = refl
  environment-filled old new [] (y ∷ ys) h = absurd h
  environment-filled old new (x ∷ xs) [] h = absurd h
  environment-filled old new (x ∷ xs) (y ∷ ys) h =
      let here = clause-filled old new x y h.0 h.1 in
      node _ _ _ _ _ _ here.label here.terms (environment-filled old new xs ys h.2) ∙ sym (clause-node x (clause_terms old x) (environment_trees old xs))

  pub predicate-filled : (i j : ℕ) (t u : Trees) → j ≡ i → FoldsEach (λ bs t. filling vs t) [] (one_piece t) (one_piece u) → tree (predicate (of_trait j)) u none ≡ filled_values vs (tree (predicate (of_trait i)) t none)
  predicate-filled i j t u e h = same i j _ _ e (filled-fold t u h.1)
    where
      same : (i j : ℕ) (t u : Trees) → j ≡ i → u ≡ t → tree (predicate (of_trait j)) u none ≡ tree (predicate (of_trait i)) t none
      same i j t u p q = cc

  pub goal-filled : (old new : List Entry) (g h : Goal) → GoalFolds (λ bs t. filling vs t) old g new h → goal_trees new h ≡ goal_filled vs (goal_trees old g)
  goal-filled old new g h f = goal-same _ _ _ _ (environment-filled old new g.param_env.items h.param_env.items f.environment) (predicate-filled _ _ _ _ f.def_id f.predicate)

-- ---- one value
values-at : (es : List Entry) (xs : List GenericArgKind) (i : ℕ) → slice_get (values_of es xs) i ≡ option_map (value_of es) (slice_get xs i)
values-at es [] i = refl
values-at es (x ∷ xs) zero = refl
values-at es (x ∷ xs) (suc i) = values-at es xs i

pub value-at : (es : List Entry) (xs : List GenericArgKind) (i : ℕ) (s : Sort) (found : Option GenericArgKind) → slice_get xs i ≡ found → value_for (values_of es xs) (canonical s i) ≡ if_of_sort s (option_map (value_of es) found)
value-at es xs i s found e = ap (if_of_sort s) (values-at es xs i ∙ ap (option_map (value_of es)) e)

pub held-at : (es : List Entry) (xs : List GenericArgKind) (i : ℕ) (a : GenericArgKind) → ArgsHeld es xs → slice_get xs i ≡ Some a → ArgHeld es a
held-at es [] i a h e = cc
held-at es (x ∷ xs) zero a h e = let same : x ≡ a = cc in subst (ArgHeld es) same h.0
held-at es (x ∷ xs) (suc i) a h e = held-at es xs i a h.1 e

pub fills : (vs : List Value) (s : Sort) (i : ℕ) (r : Option Trees) → value_for vs (canonical s i) ≡ r → filling vs (leaf (canonical s i)) ≡ put_if_there r
fills vs of_type i r e = ap put_if_there e
fills vs of_const i r e = ap put_if_there e
fills vs of_lifetime i r e = ap put_if_there e

-- ---- what the folder answers at one type
pub kind-is-type : (es : List Entry) (k : TyKind) → is_type_label (root_label (kind_trees es k)) ≡ true
kind-is-type es (KBound (KBinder i) v) = refl
kind-is-type es (KBound KCanonical v) = refl
kind-is-type es k = refl

pub stays-at : (vs : List Value) (t : Trees) → Single t → is_type_label (root_label t) ≡ true → is_unbound t ≡ true → filling vs t ≡ puts t
stays-at vs t s =
    at-single (λ t. is_type_label (root_label t) ≡ true → is_unbound t ≡ true → filling vs t ≡ puts t) (λ l c p q. chosen (is_type_label l) (is_unbound (tree l c none)) _ _ p q) t s
  where
    chosen : (x y : Bool) (d e : Does) → x ≡ true → y ≡ true → (if x && y then d else e) ≡ d
    chosen x y d e p q = rw (p, q) refl
