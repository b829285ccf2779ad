-- A table that speaks of its own unknowns alone still does after an answer to a goal over it.
use Rattle.std.proofs.Common.{◌≡◌, ℕ, zero, suc, ◌+◌, ◌<◌, ◌≤◌, arith, Bool, true, false, ◌&&◌, if◌then◌else◌, List, [], ◌∷◌, map, refl, sym, ap, ◌∙◌, subst, Option, Some, None, inl, inr}
use Rattle.std.proofs.lemmas.Bool.{eqb-true}
use Rattle.std.specs.Prelude.{IsSome, option_map, unwrap_or}
use Rattle.std.specs.List.{slice_get}
use Rattle.type_terms.specs.Promised.Label.{Label, Sort, of_type, of_const, of_lifetime, infer, canonical, param, placeholder, static, dynamic, principal, auto_trait, predicate}
use Rattle.type_terms.specs.Promised.Trees.{Trees, none, tree, leaf, ◌+++◌, sort_of, is_sort}
use Rattle.type_terms.specs.Trees.{is_a, put_at_node}
use Rattle.type_terms.specs.Made.{terms, is_leaf_label, is_made}
use Rattle.type_terms.proofs.Made.{left, right, false-true, made-ordinary}
use Rattle.type_terms.proofs.TermBasics.{is_sort-self}
use Rattle.infer_table.specs.Answers.{have_same_sorts, is_answer_to}
use Rattle.infer_table.specs.Applied.{trees_of, solved_in_turn, with_constraints, applied}
use Rattle.infer_table.specs.Applying.{is_numbered, root_labels, original_of, next_unknown, unknowns_of, table_after, values_for, table_for, known_value, applied_values, applied_table}
use Rattle.infer_table.specs.Canonical.{OpenKinds, GoalTrees, StandsIn, kind_of_leaf, kind_in_clause, goal_leaves, leaves}
use Rattle.infer_table.specs.Covers.{Continues, IsOfKnown}
use Rattle.infer_table.specs.Goals.{goal_resolved}
use Rattle.infer_table.specs.Leaves.{root_label}
use Rattle.infer_table.specs.Raw.{sort_of_kind}
use Rattle.infer_table.specs.Responses.{AnswerTrees}
use Rattle.infer_table.specs.Solutions.{AllValued, Assignment, Binding, HasValues, instance, tree_of}
use Rattle.infer_table.specs.Unification.{TableTrees, all_recorded, with_binding, with_equal, with_regions}
use Rattle.infer_table.specs.Values.{Value, if_of_sort, filled_values}
use Rattle.infer_table.specs.declared.canonical.CanonicalVarKind.{CanonicalVarKind}
use Rattle.infer_table.specs.declared.canonical.CanonicalVarKind.TheVariants.{Ty, PlaceholderTy, Const, PlaceholderConst, Region}
use Rattle.infer_table.proofs.Covers.{grown}
use Rattle.infer_table.proofs.Kept.{Keeps, turns-keep}
use Rattle.infer_table.proofs.Places.{Place, in_terms, in_object, in_autos, AreTrees, AllTrees, trees-of}
use Rattle.infer_table.proofs.SolutionLaws.{is_sort-equal}
use Rattle.infer_table.proofs.TypeBasics.{some-one}
use Rattle.goal_evaluator.specs.FrameTables.{kind_at}
use Rattle.goal_evaluator.specs.Lists.{Every}
use Rattle.goal_evaluator.specs.TableAnswers.{is_kind_of, is_variable_of, is_fitting, are_fitting, is_fitting_answer, put_into, leaf_value}
use Rattle.goal_evaluator.proofs.Applying.{for-bindings}
use Rattle.goal_evaluator.proofs.Nodes.{every-leaf}
use Rattle.goal_evaluator.proofs.TableBeginning.{sort-is}
use Rattle.overlap_check.proofs.Filling.{node}
use Rattle.overlap_check.proofs.Owning.{IsOwn, AreOwn, AllOwn, NoFewer, all-more, bound-more, own-known, own-clean, own-more, own-resolved, regions-more, IsTerm, IsOwnTable, turns-own}
use Rattle.solver_graph.specs.LeftTables.{IsPosedIn}
use Rattle.solver_graph.specs.Roots.{values_in}

-- any label may stand in the terms
abbrev pub any : Label → Bool
any l = true

abbrev pub opens : (v : ℕ) → any (infer of_lifetime v) ≡ true
opens v = refl

-- ---- more unknowns
itself : (n : Sort → ℕ) → NoFewer n n
itself n k = omega arith

pub beyond : (n m l : Sort → ℕ) → NoFewer n m → NoFewer m l → NoFewer n l
beyond n m l p q k = let a = p k in let b = q k in omega (arith, a, b)

label-more : (n m : Sort → ℕ) → NoFewer n m → (l : Label) → IsOwn n l → IsOwn m l
label-more n m le l h = (own-more n m le (leaf l) (h, tt, tt)).0

-- ---- leaves
-- a leaf that is no canonical variable, and as an unknown is one of these
pub record IsOwnLeaf (n : Sort → ℕ) (l : Label) : Type 0 where
  own : IsOwn n l
  alone : is_leaf_label l ≡ true

leaf-before : (l : Label) (o : Trees) → is_leaf_label l ≡ true → AreTrees any in_terms o → AreTrees any in_terms (tree l none o)
leaf-before (infer k v) o h g = (refl, refl, g)
leaf-before (principal n t) o h g = absurd (false-true h)
leaf-before (auto_trait i) o h g = absurd (false-true h)
leaf-before (predicate k) o h g = absurd (false-true h)
leaf-before dynamic o h g = absurd (false-true h)
leaf-before l o h g = (λ e. refl, tt, g, refl)

row-term : (n : Sort → ℕ) (ls : List Label) → Every (IsOwnLeaf n) ls → IsTerm any opens n (trees_of (map leaf_value ls))
row-term n [] h = (tt, tt)
row-term n (l ∷ ls) h =
    let rest = row-term n ls h.1 in
    ((h.0.own, tt, rest.0), leaf-before l (trees_of (map leaf_value ls)) h.0.alone rest.1)

-- the leaves of a goal
stands : (n : Sort → ℕ) (kind : OpenKinds) → ((l : Label) → IsSome (kind l) → is_leaf_label l ≡ true) → (t : Trees) → AreOwn n t → (l : Label) → StandsIn kind t l → IsOwnLeaf n l
stands n kind each none h l i = absurd i
stands n kind each (tree m c o) h l (inl i) = subst (IsOwnLeaf n) i.0 (record { own = h.0; alone = each m i.1 })
stands n kind each (tree m c o) h l (inr (inl i)) = stands n kind each c h.1 l i
stands n kind each (tree m c o) h l (inr (inr i)) = stands n kind each o h.2 l i

leaf-kind : (l : Label) → IsSome (kind_of_leaf l) → is_leaf_label l ≡ true
leaf-kind (infer k v) h = refl
leaf-kind (param k v) h = refl
leaf-kind (placeholder k v) h = refl
leaf-kind static h = refl
leaf-kind l h = absurd (false-true h)

leaf-in-clause : (l : Label) → IsSome (kind_in_clause l) → is_leaf_label l ≡ true
leaf-in-clause static h = refl
leaf-in-clause (infer k v) h = refl
leaf-in-clause (param k v) h = refl
leaf-in-clause (placeholder k v) h = refl
leaf-in-clause l h = absurd (false-true h)

own-leaves : (n : Sort → ℕ) (g : GoalTrees) → AreOwn n g.environment → AreOwn n g.predicate → Every (IsOwnLeaf n) (goal_leaves g)
own-leaves n g e p =
    every-leaf kind_of_leaf (IsOwnLeaf n) (leaves kind_in_clause [] g.environment) g.predicate
    (every-leaf kind_in_clause (IsOwnLeaf n) [] g.environment tt (stands n kind_in_clause leaf-in-clause g.environment e))
    (stands n kind_of_leaf leaf-kind g.predicate p)

-- ---- what is put in for the variables of an answer
record IsPut (n : Sort → ℕ) (k : CanonicalVarKind) (v : Value) : Type 0 where
  label : Label
  is : v ≡ leaf_value label
  sort : sort_of label ≡ sort_of_kind k
  own : IsOwnLeaf n label

abbrev IfPut : (Sort → ℕ) → CanonicalVarKind → Option Value → Type 0
IfPut n k None = Unit {0}
IfPut n k (Some v) = IsPut n k v

abbrev AllPut : (Sort → ℕ) → List CanonicalVarKind → List Value → Type 0
AllPut n [] [] = Unit {0}
AllPut n (k ∷ ks) (v ∷ vs) = IsPut n k v × AllPut n ks vs
AllPut n _ _ = ⊥

put-more : (n m : Sort → ℕ) → NoFewer n m → (k : CanonicalVarKind) (v : Value) → IsPut n k v → IsPut m k v
put-more n m le k v p = record { label = p.label; is = p.is; sort = p.sort; own = record { own = label-more n m le p.label p.own.own; alone = p.own.alone } }

if-more : (n m : Sort → ℕ) → NoFewer n m → (k : CanonicalVarKind) (o : Option Value) → IfPut n k o → IfPut m k o
if-more n m le k None p = tt
if-more n m le k (Some v) p = put-more n m le k v p

-- an unknown that is new
first-put : (o : Option Value) (t : TableTrees) (k : CanonicalVarKind) → IfPut (unknowns_of t) k o → IsPut (unknowns_of (table_after o t k)) k (unwrap_or o (next_unknown t k))
first-put (Some v) t k h = h
first-put None t Ty h = record { label = infer of_type t.ty_vars; is = refl; sort = refl; own = record { own = omega arith; alone = refl } }
first-put None t PlaceholderTy h = record { label = infer of_type t.ty_vars; is = refl; sort = refl; own = record { own = omega arith; alone = refl } }
first-put None t Const h = record { label = infer of_const t.const_vars; is = refl; sort = refl; own = record { own = omega arith; alone = refl } }
first-put None t PlaceholderConst h = record { label = infer of_const t.const_vars; is = refl; sort = refl; own = record { own = omega arith; alone = refl } }
first-put None t Region h = record { label = infer of_lifetime t.region_vars; is = refl; sort = refl; own = record { own = omega arith; alone = refl } }

table-more : (known : ℕ → Option Value) (t : TableTrees) (i : ℕ) (ks : List CanonicalVarKind) → NoFewer (unknowns_of t) (unknowns_of (table_for known t i ks))
table-more known t i [] j = omega arith
table-more known t i (k ∷ ks) j = let here = grown (known i) t k j in let rest = table-more known (table_after (known i) t k) (i + 1) ks j in omega (arith, here, rest)

values-put : (known : ℕ → Option Value) (t : TableTrees) (i : ℕ) (ks : List CanonicalVarKind) → ((p j : ℕ) (k : CanonicalVarKind) → j ≡ i + p → kind_at ks p ≡ Some k → IfPut (unknowns_of t) k (known j))
    → AllPut (unknowns_of (table_for known t i ks)) ks (values_for known t i ks)
values-put known t i [] h = tt
values-put known t i (k ∷ ks) h =
    let after = table_after (known i) t k in
    let end = table_for known after (i + 1) ks in (
      put-more (unknowns_of after) (unknowns_of end) (table-more known after (i + 1) ks) k (unwrap_or (known i) (next_unknown t k)) (first-put (known i) t k (h 0 i k (omega arith) refl)),
      values-put known after (i + 1) ks (λ p j m e g. if-more (unknowns_of t) (unknowns_of after) (grown (known i) t k) m (known j) (h (suc p) j m (omega (arith, e)) g)),
    )

-- the goal's own value: a leaf of the sort of the variable's kind
root-kind : (ks : List CanonicalVarKind) (i : ℕ) (s : Sort) (t : Trees) → (is_a s t && is_made (is_variable_of ks) terms t) ≡ true → is_numbered i (root_label t) ≡ true → is_kind_of s (kind_at ks i) ≡ true
root-kind ks i s (tree (canonical r j) c o) f e =
    let same : r ≡ s = sort-is s (canonical r j) c o (left (is_a s (tree (canonical r j) c o)) _ f) in
    let at : j ≡ i = eqb-true j i e in
    subst (λ (z : Sort). is_kind_of z (kind_at ks i) ≡ true) same
    (subst (λ (z : ℕ). is_kind_of r (kind_at ks z) ≡ true) at (made-ordinary (is_variable_of ks) (canonical r j) c o refl (right (is_a s (tree (canonical r j) c o)) _ f)).0)
root-kind ks i s none f e = absurd (false-true e)
root-kind ks i s (tree l c o) f e = absurd (false-true e)

known-put : (n : Sort → ℕ) (ks : List CanonicalVarKind) (vs : List Value) (ls : List Label) → have_same_sorts (map leaf_value ls) vs ≡ true → are_fitting ks vs ≡ true → Every (IsOwnLeaf n) ls
    → (i : ℕ) (k : CanonicalVarKind) → kind_at ks i ≡ Some k → IfPut n k (original_of i (root_labels vs) (map leaf_value ls))
known-put n ks [] ls e f g i k q = tt
known-put n ks (v ∷ vs) [] e f g i k q = tt
known-put n ks (v ∷ vs) (l ∷ ls) e f g i k q =
    by (is_numbered i (root_label v.trees)) refl (known-put n ks vs ls (right (is_sort (sort_of l) v.sort) _ e) (right (is_fitting ks v) _ f) g.1 i k q)
  where
    by : (b : Bool) → is_numbered i (root_label v.trees) ≡ b → IfPut n k (original_of i (root_labels vs) (map leaf_value ls)) → IfPut n k (if b then Some (leaf_value l) else original_of i (root_labels vs) (map leaf_value ls))
    by true m rest =
        let kind : is_sort (sort_of_kind k) v.sort ≡ true = subst (λ o. is_kind_of v.sort o ≡ true) q (root-kind ks i v.sort v.trees (left (is_fitting ks v) _ f) m) in
        record { label = l; is = refl; sort = is_sort-equal (sort_of l) v.sort (left (is_sort (sort_of l) v.sort) _ e) ∙ sym (is_sort-equal (sort_of_kind k) v.sort kind); own = g.0 }
    by false m rest = rest

-- ---- an answer's values, with these put in
module _ (n : Sort → ℕ) (ks : List CanonicalVarKind) (vs : List Value) (all : AllPut n ks vs) where
  abbrev Becomes : Sort → Option Value → Type 0
  Becomes s o = (m : Label) × (if_of_sort s o ≡ Some (leaf m)) × (sort_of m ≡ s) × IsOwnLeaf n m

  becomes : (js : List CanonicalVarKind) (ws : List Value) → AllPut n js ws → (i : ℕ) (s : Sort) → is_kind_of s (kind_at js i) ≡ true → Becomes s (slice_get ws i)
  becomes [] ws h i s e = absurd (false-true e)
  becomes (k ∷ js) [] h i s e = absurd h
  becomes (k ∷ js) (v ∷ ws) h zero s e =
      let m = h.0.label in
      let of : sort_of m ≡ s = h.0.sort ∙ is_sort-equal (sort_of_kind k) s e in (
        m,
        ap (λ (z : Value). if_of_sort s (Some z)) h.0.is ∙ ap (λ (b : Bool). if b then Some (leaf m) else None) (ap (λ j. is_sort j s) of ∙ is_sort-self s),
        of,
        h.0.own,
      )
  becomes (k ∷ js) (v ∷ ws) h (suc i) s e = becomes js ws h.1 i s e

  abbrev good : Label → Bool
  good l = is_variable_of ks l

  filled-own : (p : Place) (t : Trees) → AreTrees good p t → AreOwn n (filled_values vs t)
  filled-own in_terms none h = tt
  filled-own in_terms (tree (infer k v) c o) h = absurd (false-true h.1)
  filled-own in_terms (tree (canonical s i) c o) h =
      let x = becomes ks vs all i s h.3 in
      subst (λ z. AreOwn n (put_at_node z (tree (canonical s i) (filled_values vs c) none) +++ filled_values vs o)) (sym x.1) (x.3.own, tt, filled-own in_terms o h.2)
  filled-own in_terms (tree (principal m t) c o) h = absurd h
  filled-own in_terms (tree (auto_trait i) c o) h = absurd h
  filled-own in_terms (tree (predicate k) c o) h = absurd h
  filled-own in_terms (tree dynamic c o) h = (tt, filled-own in_object c h.0, filled-own in_terms o h.1)
  filled-own in_terms (tree l c o) h = (tt, filled-own in_terms c h.1, filled-own in_terms o h.2)
  filled-own in_object none h = absurd h
  filled-own in_object (tree (principal m t) c o) h = (tt, filled-own in_terms c h.0, filled-own in_autos o h.1)
  filled-own in_object (tree (auto_trait i) none o) h = (tt, tt, filled-own in_autos o h)
  filled-own in_object (tree (infer k v) none none) h = absurd (false-true h.1)
  filled-own in_object (tree (canonical s i) none none) h =
      let x = becomes ks vs all i s h.1 in
      subst (λ z. AreOwn n (put_at_node z (tree (canonical s i) none none) +++ none)) (sym x.1) (x.3.own, tt, tt)
  filled-own in_object (tree l none none) h = (tt, tt, tt)
  filled-own in_object (tree l c o) h = absurd h
  filled-own in_autos none h = absurd h
  filled-own in_autos (tree (auto_trait i) none o) h = (tt, tt, filled-own in_autos o h)
  filled-own in_autos (tree (infer k v) none none) h = absurd (false-true h.1)
  filled-own in_autos (tree (canonical s i) none none) h =
      let x = becomes ks vs all i s h.1 in
      subst (λ z. AreOwn n (put_at_node z (tree (canonical s i) none none) +++ none)) (sym x.1) (x.3.own, tt, tt)
  filled-own in_autos (tree l none none) h = (tt, tt, tt)
  filled-own in_autos (tree l c o) h = absurd h

  ends-object : (m : Label) → sort_of m ≡ of_lifetime → AreTrees any in_object (leaf m)
  ends-object (principal k t) e = cc
  ends-object (auto_trait i) e = cc
  ends-object m e = (e, refl)

  ends-autos : (m : Label) → sort_of m ≡ of_lifetime → AreTrees any in_autos (leaf m)
  ends-autos (auto_trait i) e = cc
  ends-autos m e = (e, refl)

  filled-trees : (p : Place) (t : Trees) → AreTrees good p t → AreTrees any p (filled_values vs t)
  filled-trees in_terms none h = tt
  filled-trees in_terms (tree (infer k v) c o) h = absurd (false-true h.1)
  filled-trees in_terms (tree (canonical s i) c o) h =
      let x = becomes ks vs all i s h.3 in
      subst (λ z. AreTrees any in_terms (put_at_node z (tree (canonical s i) (filled_values vs c) none) +++ filled_values vs o)) (sym x.1) (leaf-before x.0 (filled_values vs o) x.3.alone (filled-trees in_terms o h.2))
  filled-trees in_terms (tree (principal m t) c o) h = absurd h
  filled-trees in_terms (tree (auto_trait i) c o) h = absurd h
  filled-trees in_terms (tree (predicate k) c o) h = absurd h
  filled-trees in_terms (tree dynamic c o) h = (filled-trees in_object c h.0, filled-trees in_terms o h.1)
  filled-trees in_terms (tree l c o) h = (λ e. ap (filled_values vs) (h.0 e), filled-trees in_terms c h.1, filled-trees in_terms o h.2, refl)
  filled-trees in_object none h = absurd h
  filled-trees in_object (tree (principal m t) c o) h = (filled-trees in_terms c h.0, filled-trees in_autos o h.1)
  filled-trees in_object (tree (auto_trait i) none o) h = filled-trees in_autos o h
  filled-trees in_object (tree (infer k v) none none) h = absurd (false-true h.1)
  filled-trees in_object (tree (canonical s i) none none) h =
      let x = becomes ks vs all i s h.1 in
      subst (λ z. AreTrees any in_object (put_at_node z (tree (canonical s i) none none) +++ none)) (sym x.1) (ends-object x.0 (x.2 ∙ h.0))
  filled-trees in_object (tree l none none) h = (h.0, refl)
  filled-trees in_object (tree l c o) h = absurd h
  filled-trees in_autos none h = absurd h
  filled-trees in_autos (tree (auto_trait i) none o) h = filled-trees in_autos o h
  filled-trees in_autos (tree (infer k v) none none) h = absurd (false-true h.1)
  filled-trees in_autos (tree (canonical s i) none none) h =
      let x = becomes ks vs all i s h.1 in
      subst (λ z. AreTrees any in_autos (put_at_node z (tree (canonical s i) none none) +++ none)) (sym x.1) (ends-autos x.0 (x.2 ∙ h.0))
  filled-trees in_autos (tree l none none) h = (h.0, refl)
  filled-trees in_autos (tree l c o) h = absurd h

module _ (good : Label → Bool) where
  trees-append : (x y : Trees) → AreTrees good in_terms x → AreTrees good in_terms y → AreTrees good in_terms (x +++ y)
  trees-append none y h g = g
  trees-append (tree (infer k v) c o) y h g = (h.0, h.1, trees-append o y h.2 g)
  trees-append (tree (principal n t) c o) y h g = absurd h
  trees-append (tree (auto_trait i) c o) y h g = absurd h
  trees-append (tree (predicate k) c o) y h g = absurd h
  trees-append (tree dynamic c o) y h g = (h.0, trees-append o y h.1 g)
  trees-append (tree l c o) y h g = (h.0, h.1, trees-append o y h.2 g, h.3)

fitting-trees : (ks : List CanonicalVarKind) (vs : List Value) → are_fitting ks vs ≡ true → AreTrees (is_variable_of ks) in_terms (trees_of vs)
fitting-trees ks [] h = tt
fitting-trees ks (v ∷ vs) h =
    trees-append (is_variable_of ks) v.trees (trees_of vs) (trees-of (is_variable_of ks) terms v.trees (right (is_a v.sort v.trees) _ (left (is_fitting ks v) _ h)))
    (fitting-trees ks vs (right (is_fitting ks v) _ h))

-- ---- variables with values
-- each is one of these, of types or constants
abbrev pub AreBelow : (Sort → ℕ) → List Binding → Type 0
AreBelow n [] = Unit {0}
AreBelow n (b ∷ older) = (b.var < n b.sort) × HasValues b.sort × AreBelow n older

below-more : (n m : Sort → ℕ) → NoFewer n m → (bs : List Binding) → AreBelow n bs → AreBelow m bs
below-more n m le [] h = tt
below-more n m le (b ∷ older) h = (less (le b.sort) h.0, h.1, below-more n m le older h.2)
  where
    less : {v i j : ℕ} → i ≤ j → v < i → v < j
    less p q = omega (arith, p, q)

abbrev pub Below : TableTrees → Type 0
Below t = AreBelow (unknowns_of t) t.bindings

bound-below : (t : TableTrees) (k : Sort) (v : ℕ) (x : Trees) → Below t → Below (with_binding t k v x)
bound-below t of_type v x h = (omega arith, tt, below-more (unknowns_of t) (unknowns_of (with_binding t of_type v x)) (bound-more any opens t of_type v x) t.bindings h)
bound-below t of_const v x h = (omega arith, tt, below-more (unknowns_of t) (unknowns_of (with_binding t of_const v x)) (bound-more any opens t of_const v x) t.bindings h)
bound-below t of_lifetime v x h = h

regions-below : (t : TableTrees) (m : ℕ) → Below t → Below (with_regions t m)
regions-below t m h = below-more (unknowns_of t) (unknowns_of (with_regions t m)) (regions-more any opens t m) t.bindings h

-- constraints count for nothing
same-counts : (c : Trees) (t : TableTrees) → ◌≡◌ {A = Sort → ℕ} (unknowns_of t) (unknowns_of (record t { constraints = c }))
same-counts c t = λ i k. each k i
  where
    each : (k : Sort) → unknowns_of t k ≡ unknowns_of (record t { constraints = c }) k
    each of_type = refl
    each of_const = refl
    each of_lifetime = refl

pub below-keeps : Keeps (λ x. Unit {0}) Below
below-keeps =
    record {
      first = λ l c o h. tt;
      others = λ l c o h. tt;
      parts = λ n t h. tt;
      values = λ t x h p. tt;
      bindings = λ t k v x h p. bound-below t k v x h;
      regions = λ t m h. regions-below t m h;
      equal = λ t a b h. subst (λ (n : Sort → ℕ). AreBelow n t.bindings) (same-counts (with_equal t a b).constraints t) h;
    }

-- ---- a table with an answer put in
-- All unknowns in it are its own, and its values are terms without canonical variables.
pub record IsOwnInTrees (t : TableTrees) : Type 0 where
  pub own : IsOwnTable any opens t
  pub below : Below t

-- The second is so, and has no fewer unknowns.
abbrev pub Stays : TableTrees → TableTrees → Type 0
Stays t u = IsOwnInTrees u × NoFewer (unknowns_of t) (unknowns_of u)

with-same : (c : Trees) (t u : TableTrees) → Stays t u → Stays t (record u { constraints = c })
with-same c t u h =
    let same = same-counts c u in (
      record { own = (subst (λ (n : Sort → ℕ). AllOwn n u.bindings) same h.0.own.0, h.0.own.1); below = subst (λ (n : Sort → ℕ). AreBelow n u.bindings) same h.0.below },
      subst (NoFewer (unknowns_of t)) same h.1,
    )

module _ (t u : TableTrees) (ls : List Label) (a : AnswerTrees) (is : IsOwnInTrees t) (leaves_own : Every (IsOwnLeaf (unknowns_of t)) ls) where
  abbrev originals : List Value
  originals = map leaf_value ls

  abbrev start : TableTrees
  start = applied_table t originals a

  abbrev values : List Value
  values = applied_values t originals a

  more : NoFewer (unknowns_of t) (unknowns_of start)
  more = table-more (known_value a originals) t 0 a.kinds

  same-bindings : t.bindings ≡ start.bindings
  same-bindings = sym (for-bindings (known_value a originals) t 0 a.kinds)

  start-own : IsOwnTable any opens start
  start-own = (subst (AllOwn (unknowns_of start)) same-bindings (all-more (unknowns_of t) (unknowns_of start) more t.bindings is.own.0), subst (AllTrees any) same-bindings is.own.1)

  start-below : Below start
  start-below = subst (AreBelow (unknowns_of start)) same-bindings (below-more (unknowns_of t) (unknowns_of start) more t.bindings is.below)

  each-more : (ms : List Label) → Every (IsOwnLeaf (unknowns_of t)) ms → Every (IsOwnLeaf (unknowns_of start)) ms
  each-more [] h = tt
  each-more (m ∷ ms) h = (record { own = label-more (unknowns_of t) (unknowns_of start) more m h.0.own; alone = h.0.alone }, each-more ms h.1)

  module _ (fits : is_fitting_answer originals a ≡ true) where
    answers : have_same_sorts originals a.values ≡ true
    answers = left (is_answer_to originals a) (are_fitting a.kinds a.values) fits

    fitting : are_fitting a.kinds a.values ≡ true
    fitting = right (is_answer_to originals a) (are_fitting a.kinds a.values) fits

    from-zero : (p j : ℕ) → j ≡ 0 + p → j ≡ p
    from-zero p j e = omega (arith, e)

    put : AllPut (unknowns_of start) a.kinds values
    put =
        values-put (known_value a originals) t 0 a.kinds
        (λ p j k e g. known-put (unknowns_of t) a.kinds a.values ls answers fitting leaves_own j k (subst (λ (i : ℕ). kind_at a.kinds i ≡ Some k) (sym (from-zero p j e)) g))

    answer-term : IsTerm any opens (unknowns_of start) (filled_values values (trees_of a.values))
    answer-term =
        let made = fitting-trees a.kinds a.values fitting in
        (filled-own (unknowns_of start) a.kinds values put in_terms (trees_of a.values) made, filled-trees (unknowns_of start) a.kinds values put in_terms (trees_of a.values) made)

    applied-own : applied t originals a ≡ Some u → Stays t u
    applied-own e = by (solved_in_turn start (trees_of originals) (filled_values values (trees_of a.values))) refl e
      where
        by : (r : Option TableTrees) → solved_in_turn start (trees_of originals) (filled_values values (trees_of a.values)) ≡ r → option_map (with_constraints (filled_values values a.constraints)) r ≡ Some u → Stays t u
        by None i f = absurd cc
        by (Some w) i f =
            let x = turns-own any opens start w (trees_of originals) (filled_values values (trees_of a.values)) start-own (row-term (unknowns_of start) ls (each-more ls leaves_own)) answer-term i in
            let y = turns-keep (λ z. Unit {0}) Below below-keeps start w (trees_of originals) (filled_values values (trees_of a.values)) start-below tt tt i in
            subst (Stays t) (some-one (with_constraints (filled_values values a.constraints) w) u f)
            (with-same (all_recorded (filled_values values a.constraints) w.constraints) t w (record { own = x.0; below = y }, beyond (unknowns_of t) (unknowns_of start) (unknowns_of w) more x.1))

  put-own : put_into t originals a ≡ Some u → Stays t u
  put-own e = by (is_fitting_answer originals a) refl e
    where
      by : (b : Bool) → is_fitting_answer originals a ≡ b → (if b then applied t originals a else Some t) ≡ Some u → Stays t u
      by true i f = applied-own i f
      by false i f = subst (Stays t) (some-one t u f) (is, itself (unknowns_of t))

-- as is a table without values
pub first-own : (t : TableTrees) → t.bindings ≡ [] → IsOwnInTrees t
first-own t e = record { own = (subst (AllOwn (unknowns_of t)) (sym e) tt, subst (AllTrees any) (sym e) tt); below = subst (AreBelow (unknowns_of t)) (sym e) tt }

pub valued : (n : Sort → ℕ) (bs : List Binding) → AreBelow n bs → AllValued bs
valued n [] h = tt
valued n (b ∷ older) h = (h.1, valued n older h.2)

-- ---- a goal over it
-- what continues an assignment reads terms of these unknowns as it does
pub instance-own : (n : Sort → ℕ) (s r : Assignment) → Continues n s r → (t : Trees) → AreOwn n t → instance r t ≡ instance s t
instance-own n s r c none h = refl
instance-own n s r c (tree (infer of_type v) d o) h = ap (λ (z : Label × Trees). tree z.0 z.1 (instance r o)) (c of_type v h.0) ∙ ap (λ z. tree (s of_type v).0 (s of_type v).1 z) (instance-own n s r c o h.2)
instance-own n s r c (tree (infer of_const v) d o) h = ap (λ (z : Label × Trees). tree z.0 z.1 (instance r o)) (c of_const v h.0) ∙ ap (λ z. tree (s of_const v).0 (s of_const v).1 z) (instance-own n s r c o h.2)
instance-own n s r c (tree l d o) h = node refl (instance-own n s r c d h.1) (instance-own n s r c o h.2)

pub known-table : (n : Sort → ℕ) (bs : List Binding) → AllOwn n bs → AreBelow n bs → IsOfKnown n bs
known-table n [] h g s r q sorted c = sorted
known-table n (b ∷ older) h g s r q sorted c = (ap tree_of (c b.sort b.var g.0) ∙ q.0 ∙ sym (instance-own n s r c b.value h.0), known-table n older h.1 g.2 s r q.1 sorted c)

module _ (t : TableTrees) (is : IsOwnInTrees t) (g : GoalTrees) (environment : AreOwn (unknowns_of t) g.environment) (predicate : AreOwn (unknowns_of t) g.predicate) where
  abbrev n : Sort → ℕ
  n = unknowns_of t

  resolved-environment : AreOwn n (goal_resolved t.bindings g).environment
  resolved-environment = own-resolved n t.bindings g.environment is.own.0 environment

  resolved-predicate : AreOwn n (goal_resolved t.bindings g).predicate
  resolved-predicate = own-resolved n t.bindings g.predicate is.own.0 predicate

  -- it is posed
  pub posed : IsPosedIn t g
  posed = record {
    clean = record { environment = own-clean n (goal_resolved t.bindings g).environment resolved-environment; predicate = own-clean n (goal_resolved t.bindings g).predicate resolved-predicate };
    environment_known = own-known n (goal_resolved t.bindings g).environment resolved-environment;
    predicate_known = own-known n (goal_resolved t.bindings g).predicate resolved-predicate;
    table_known = known-table n t.bindings is.own.0 is.below;
  }

  -- and an answer to it leaves such a table
  pub answered-own : (u : TableTrees) (a : AnswerTrees) → put_into t (values_in (goal_resolved t.bindings g)) a ≡ Some u → Stays t u
  answered-own u a e = put-own t u (goal_leaves (goal_resolved t.bindings g)) a is (own-leaves n (goal_resolved t.bindings g) resolved-environment resolved-predicate) e
