-- A table without values refuses no answer that holds none.
use Rattle.std.proofs.Common.{◌≡◌, ◌⊎◌, inl, inr, ◌+◌, ◌==◌, ◌≤◌, ℕ, zero, suc, Bool, true, false, ◌&&◌, if◌then◌else◌, List, [], ◌∷◌, map, Option, Some, None, refl, sym, ◌∙◌, ap, subst, arith}
use Rattle.std.proofs.lemmas.Bool.{eqb-true}
use Rattle.std.proofs.lemmas.Bool.Decides.{nat_tests}
use Rattle.std.specs.Prelude.{option_map, option_and_then, unwrap_or}
use Rattle.std.specs.List.{slice_get}
use Rattle.type_terms.specs.Promised.Label.{Label, Sort, of_lifetime, infer, canonical}
use Rattle.type_terms.specs.Promised.Trees.{Trees, none, tree, leaf, ◌+++◌, sort_of, is_sort}
use Rattle.type_terms.specs.Trees.{is_a, is_no_tree, put_at_node}
use Rattle.type_terms.specs.Codes.{same}
use Rattle.type_terms.specs.Made.{terms, is_made}
use Rattle.type_terms.proofs.Made.{left, right, no-tree, false-true}
use Rattle.infer_table.specs.Answers.{have_same_sorts}
use Rattle.infer_table.specs.Applied.{trees_of, solved_in_turn, with_constraints, applied}
use Rattle.infer_table.specs.Applying.{is_numbered, root_labels, original_of, next_unknown, unknowns_of, table_after, values_for, table_for, known_value}
use Rattle.infer_table.specs.Canonical.{GoalTrees, goal_leaves}
use Rattle.infer_table.specs.Equations.{unbound_in}
use Rattle.infer_table.specs.Leaves.{root_label}
use Rattle.infer_table.specs.Raw.{sort_of_kind}
use Rattle.infer_table.specs.Responses.{AnswerTrees}
use Rattle.infer_table.specs.Unification.{TableTrees, with_equal, Solver, refused, onward, by_sort, compared, step, after, steps, rounds, unified}
use Rattle.infer_table.specs.Values.{Value, value_for, if_of_sort, filled_values}
use Rattle.infer_table.specs.declared.canonical.CanonicalVarKind.{CanonicalVarKind}
use Rattle.infer_table.proofs.SolutionLaws.{is_sort-equal as is-sort}
use Rattle.infer_table.proofs.UnifyFacts.{same-self}
use Rattle.goal_evaluator.specs.FrameTables.{kind_at}
use Rattle.goal_evaluator.specs.TableAnswers.{is_variable_itself, are_variables, has_values, is_kind_of, is_variable_of, is_fitting, are_fitting, is_fitting_answer, put_into, leaf_value}
use Rattle.goal_evaluator.proofs.Applying.{for-bindings, new-value, some-kind}
use Rattle.solver_graph.specs.Roots.{left_by}
use Rattle.type_terms.proofs.TermBasics.{is_sort-self}
use Rattle.type_terms.proofs.NumberBasics.{itself, number-self}
use Rattle.goal_evaluator.proofs.Answering.{not-false}

-- ---- leaves in pairs
-- one leaf twice, or two lifetimes
abbrev AreAlike : Label → Label → Type 0
AreAlike l m = (l ≡ m) ⊎ ((sort_of l ≡ of_lifetime) × (sort_of m ≡ of_lifetime))

-- what such a pair leaves of a table without values is one
module _ (types consts regions : ℕ) (constraints : Trees) where
  abbrev T : TableTrees
  T = record { ty_vars = types; const_vars = consts; region_vars = regions; bindings = []; constraints = constraints }

  abbrev anew : Solver
  anew = rounds (unbound_in T.bindings + types + consts)

  abbrev Leaves : Label → Label → Type 0
  Leaves l m = (u : TableTrees) × (unified T ((leaf l, leaf m) ∷ []) ≡ Some u) × (u.bindings ≡ [])

  twice : (l : Label) → Leaves l l
  unfolding unified step
  twice l = (
    T,
    ap (λ b. after anew (steps anew 1) (if b then compared T (sort_of l) (leaf l) (leaf l) [] else refused)) (is_sort-self (sort_of l))
        ∙ ap (λ b. after anew (steps anew 1) (if b then onward false T [] else by_sort T (sort_of l) (leaf l) (leaf l) [])) (same-self (leaf l)),
    refl,
  )

  lifetimes : (l m : Label) → sort_of l ≡ of_lifetime → sort_of m ≡ of_lifetime → Leaves l m
  unfolding unified step
  lifetimes l m e f =
      let x = by (same (leaf l) (leaf m)) in (
        x.0,
        ap (λ k. after anew (steps anew 1) (if is_sort k (sort_of m) then compared T k (leaf l) (leaf m) [] else refused)) e
            ∙ ap (λ k. after anew (steps anew 1) (if is_sort of_lifetime k then compared T of_lifetime (leaf l) (leaf m) [] else refused)) f ∙ x.1,
        x.2,
      )
    where
      by : (b : Bool) → (u : TableTrees) × (after anew (steps anew 1) (if b then onward false T [] else onward false (with_equal T (leaf l) (leaf m)) []) ≡ Some u) × (u.bindings ≡ [])
      by true = (T, refl, refl)
      by false = (with_equal T (leaf l) (leaf m), refl, refl)

  pub alike : (l m : Label) → AreAlike l m → Leaves l m
  alike l m (inl e) = subst (Leaves l) e (twice l)
  alike l m (inr e) = lifetimes l m e.0 e.1

pair-left : (t : TableTrees) → t.bindings ≡ [] → (l m : Label) → AreAlike l m → (u : TableTrees) × (unified t ((leaf l, leaf m) ∷ []) ≡ Some u) × (u.bindings ≡ [])
pair-left t e l m a =
    subst (λ bs. (u : TableTrees) × (unified (record t { bindings = bs }) ((leaf l, leaf m) ∷ []) ≡ Some u) × (u.bindings ≡ [])) (sym e) (alike t.ty_vars t.const_vars t.region_vars t.constraints l m a)

-- ---- rows of leaves
abbrev row : List Label → Trees
row [] = none
row (l ∷ ls) = tree l none (row ls)

abbrev RowsAlike : List Label → List Label → Type 0
RowsAlike [] [] = Unit {0}
RowsAlike (l ∷ ls) (m ∷ ms) = AreAlike l m × RowsAlike ls ms
RowsAlike ls ms = ⊥

row-left : (t : TableTrees) → t.bindings ≡ [] → (ls ms : List Label) → RowsAlike ls ms → (u : TableTrees) × (solved_in_turn t (row ls) (row ms) ≡ Some u)
row-left t e [] [] h = (t, refl)
row-left t e (l ∷ ls) (m ∷ ms) h =
    let x = pair-left t e l m h.0 in
    let y = row-left x.0 x.2 ls ms h.1 in
    (y.0, ap (λ o. option_and_then (λ u. solved_in_turn u (row ls) (row ms)) o) x.1 ∙ y.1)
row-left t e [] (m ∷ ms) h = absurd h
row-left t e (l ∷ ls) [] h = absurd h

row-is : (ls : List Label) → trees_of (map leaf_value ls) ≡ row ls
row-is [] = refl
row-is (l ∷ ls) = ap (tree l none) (row-is ls)

none-kind : (k : CanonicalVarKind) (A : Type 0) → None ≡ Some k → A
none-kind k A e = absurd cc

-- the value that is known, or else an unknown
value-there : (known : ℕ → Option Value) (t : TableTrees) (i : ℕ) (ks : List CanonicalVarKind) (n : ℕ) (k : CanonicalVarKind) → kind_at ks n ≡ Some k
    → (u : TableTrees) × (slice_get (values_for known t i ks) n ≡ Some (unwrap_or (known (i + n)) (next_unknown u k)))
value-there known t i [] n k e = none-kind k _ e
value-there known t i (x ∷ ks) zero k e = (t, ap (λ n. Some (unwrap_or (known n) (next_unknown t x))) (here i) ∙ ap (λ z. Some (unwrap_or (known (i + zero)) (next_unknown t z))) (some-kind x k e))
  where
    here : (i : ℕ) → i ≡ i + zero
    here i = omega arith
value-there known t i (x ∷ ks) (suc n) k e =
    let y = value-there known (table_after (known i) t x) (i + 1) ks n k e in
    (y.0, y.1 ∙ ap (λ m. Some (unwrap_or (known m) (next_unknown y.0 k))) (next i n))
  where
    next : (i n : ℕ) → (i + 1) + n ≡ i + suc n
    next i n = omega arith

-- what is known is a leaf
known-leaf : (i : ℕ) (rs ls : List Label) → (original_of i rs (map leaf_value ls) ≡ None) ⊎ ((l : Label) × (original_of i rs (map leaf_value ls) ≡ Some (leaf_value l)))
known-leaf i [] ls = inl refl
known-leaf i (r ∷ rs) [] = inl refl
known-leaf i (r ∷ rs) (l ∷ ls) = by (is_numbered i r) (known-leaf i rs ls)
  where
    by : (b : Bool) → (original_of i rs (map leaf_value ls) ≡ None) ⊎ ((m : Label) × (original_of i rs (map leaf_value ls) ≡ Some (leaf_value m)))
        → ((if b then Some (leaf_value l) else original_of i rs (map leaf_value ls)) ≡ None) ⊎ ((m : Label) × ((if b then Some (leaf_value l) else original_of i rs (map leaf_value ls)) ≡ Some (leaf_value m)))
    by true h = inr (l, refl)
    by false h = h

-- ---- values
lifetime-leaf : (t : Trees) → is_a of_lifetime t ≡ true → (l : Label) × (t ≡ leaf l) × (sort_of l ≡ of_lifetime)
lifetime-leaf none h = absurd (false-true h)
lifetime-leaf (tree l c o) h =
    let x = right (is_sort (sort_of l) of_lifetime) _ h in (
      l,
      ap (λ z. tree l z o) (no-tree c (left (is_no_tree c) _ x)) ∙ ap (tree l none) (no-tree o (right (is_no_tree c) _ x)),
      is-sort (sort_of l) of_lifetime (left (is_sort (sort_of l) of_lifetime) _ h),
    )

itself-is : (i : ℕ) (k : Sort) (t : Trees) → is_variable_itself i k t ≡ true → t ≡ leaf (canonical k i)
itself-is i k (tree (canonical s j) none none) h =
    ap (λ z. leaf (canonical z j)) (sym (is-sort k s (left (is_sort k s) _ h))) ∙ ap (λ z. leaf (canonical k z)) (sym (eqb-true i j (right (is_sort k s) _ h)))
itself-is i k t h = absurd (false-true h)

-- a leaf that may stand in values is of a kind of the answer's, if it is a variable
numbered-kind : (ks : List CanonicalVarKind) (i : ℕ) (l : Label) → is_made (is_variable_of ks) terms (leaf l) ≡ true → is_numbered i l ≡ true → is_kind_of (sort_of l) (kind_at ks i) ≡ true
numbered-kind ks i (canonical s j) h n = subst (λ z. is_kind_of s (kind_at ks z) ≡ true) (eqb-true j i n) (left (is_kind_of s (kind_at ks j)) _ h)
numbered-kind ks i l h n = absurd (false-true n)

one-sort : (s r : Sort) (k : Option CanonicalVarKind) → is_kind_of s k ≡ true → is_kind_of r k ≡ true → s ≡ r
one-sort s r None h g = absurd (false-true h)
one-sort s r (Some k) h g = sym (is-sort (sort_of_kind k) s h) ∙ is-sort (sort_of_kind k) r g

number-other : (i j : ℕ) → suc i ≤ j → (i == j) ≡ false
number-other i j h = grind (arith, nat_tests, h)

less : (i j : ℕ) → suc i ≤ j → i ≤ j
less i j h = omega (arith, h)

module _ (t : TableTrees) (labels : List Label) (a : AnswerTrees) where
  abbrev known : ℕ → Option Value
  known i = known_value a (map leaf_value labels) i

  abbrev values : List Value
  values = values_for known t 0 a.kinds

  -- each of them is a leaf, the value that is known where one is
  value-is : (i : ℕ) (k : CanonicalVarKind) → kind_at a.kinds i ≡ Some k → (u : TableTrees) × (slice_get values i ≡ Some (unwrap_or (known i) (next_unknown u k)))
  value-is i k e = let x = value-there known t 0 a.kinds i k e in (x.0, x.1 ∙ ap (λ n. Some (unwrap_or (known n) (next_unknown x.0 k))) (from-zero i))
    where
      from-zero : (n : ℕ) → 0 + n ≡ n
      from-zero n = omega arith

  value-leaf : (i : ℕ) (k : Option CanonicalVarKind) → kind_at a.kinds i ≡ k → (s : Sort) → is_kind_of s k ≡ true → (m : Label) × (slice_get values i ≡ Some (leaf_value m))
  value-leaf i None e s h = absurd (false-true h)
  value-leaf i (Some k) e s h = let x = value-is i k e in by x.0 x.1 (known-leaf i (root_labels a.values) labels)
    where
      by : (u : TableTrees) → slice_get values i ≡ Some (unwrap_or (known i) (next_unknown u k)) → (known i ≡ None) ⊎ ((l : Label) × (known i ≡ Some (leaf_value l))) → (m : Label) × (slice_get values i ≡ Some (leaf_value m))
      by u q (inl n) = (infer (sort_of_kind k) (unknowns_of u (sort_of_kind k)), q ∙ ap (λ z. Some (unwrap_or z (next_unknown u k))) n ∙ ap Some (new-value u k))
      by u q (inr n) = (n.0, q ∙ ap (λ z. Some (unwrap_or z (next_unknown u k))) n.1)

  -- what a leaf becomes
  abbrev Becomes : Label → Label → Type 0
  Becomes l m = put_at_node (value_for values l) (leaf l) ≡ leaf m

  lifetime-becomes : (l : Label) → sort_of l ≡ of_lifetime → is_made (is_variable_of a.kinds) terms (leaf l) ≡ true → (m : Label) × Becomes l m × (sort_of m ≡ of_lifetime)
  lifetime-becomes (canonical s i) e h =
      let x = value-leaf i (kind_at a.kinds i) refl s (left (is_kind_of s (kind_at a.kinds i)) _ h) in
      by x.0 x.1 (is_sort (sort_of x.0) s) refl
    where
      by : (m : Label) → slice_get values i ≡ Some (leaf_value m) → (b : Bool) → is_sort (sort_of m) s ≡ b → (n : Label) × Becomes (canonical s i) n × (sort_of n ≡ of_lifetime)
      by m q true f = (m, ap (λ z. put_at_node (if_of_sort s z) (leaf (canonical s i))) q ∙ ap (λ (b : Bool). put_at_node (if b then Some (leaf m) else None) (leaf (canonical s i))) f, is-sort (sort_of m) s f ∙ e)
      by m q false f = (canonical s i, ap (λ z. put_at_node (if_of_sort s z) (leaf (canonical s i))) q ∙ ap (λ (b : Bool). put_at_node (if b then Some (leaf m) else None) (leaf (canonical s i))) f, e)
  lifetime-becomes l e h = (l, refl, e)

  known-becomes : (s : Sort) (i : ℕ) (l : Label) → is_kind_of s (kind_at a.kinds i) ≡ true → sort_of l ≡ s → known i ≡ Some (leaf_value l) → Becomes (canonical s i) l
  known-becomes s i l h e n = by (kind_at a.kinds i) refl h
    where
      by : (k : Option CanonicalVarKind) → kind_at a.kinds i ≡ k → is_kind_of s k ≡ true → Becomes (canonical s i) l
      by None q g = absurd (false-true g)
      by (Some k) q g =
          let x = value-is i k q in
          ap (λ z. put_at_node (if_of_sort s z) (leaf (canonical s i))) (x.1 ∙ ap (λ z. Some (unwrap_or z (next_unknown x.0 k))) n)
          ∙ ap (λ z. put_at_node (if is_sort z s then Some (leaf l) else None) (leaf (canonical s i))) e
          ∙ ap (λ (b : Bool). put_at_node (if b then Some (leaf l) else None) (leaf (canonical s i))) (is_sort-self s)

  -- ---- row by row: what is known from variable n on stands in the rest of the row, but for lifetimes
  abbrev StandsBehind : ℕ → List Label → List Value → Type 0
  StandsBehind n ls vs = (i : ℕ) → n ≤ i → (known i ≡ original_of i (root_labels vs) (map leaf_value ls)) ⊎ (is_kind_of of_lifetime (kind_at a.kinds i) ≡ true)

  abbrev Filled : List Label → List Value → Type 0
  Filled ls vs = (ms : List Label) × (filled_values values (trees_of vs) ≡ row ms) × RowsAlike ls ms

  -- one more value, which is a leaf
  one-more : (l : Label) (ls : List Label) (v : Value) (vs : List Value) (r m : Label) → v.trees ≡ leaf r → Becomes r m → AreAlike l m → Filled ls vs → Filled (l ∷ ls) (v ∷ vs)
  one-more l ls v vs r m e b x rest = (
    m ∷ rest.0,
    ap (λ z. filled_values values (z +++ trees_of vs)) e ∙ ap (λ z. z +++ filled_values values (trees_of vs)) b ∙ ap (tree m none) rest.1,
    (x, rest.2),
  )

  made-leaf : (v : Value) (r : Label) → v.trees ≡ leaf r → is_fitting a.kinds v ≡ true → is_made (is_variable_of a.kinds) terms (leaf r) ≡ true
  made-leaf v r e h = subst (λ z. is_made (is_variable_of a.kinds) terms z ≡ true) e (right (is_a v.sort v.trees) _ h)

  -- the next variable itself
  variable : (n : ℕ) (l : Label) (ls : List Label) (v : Value) (vs : List Value) → sort_of l ≡ v.sort → is_fitting a.kinds v ≡ true → v.trees ≡ leaf (canonical v.sort n)
      → StandsBehind n (l ∷ ls) (v ∷ vs) → Filled ls vs → Filled (l ∷ ls) (v ∷ vs)
  variable n l ls v vs e f is stands rest = by (stands n (itself n))
    where
      made : is_made (is_variable_of a.kinds) terms (leaf (canonical v.sort n)) ≡ true
      made = made-leaf v (canonical v.sort n) is f

      kind : is_kind_of v.sort (kind_at a.kinds n) ≡ true
      kind = left (is_kind_of v.sort (kind_at a.kinds n)) _ made

      by : (known n ≡ original_of n (root_labels (v ∷ vs)) (map leaf_value (l ∷ ls))) ⊎ (is_kind_of of_lifetime (kind_at a.kinds n) ≡ true) → Filled (l ∷ ls) (v ∷ vs)
      by (inl k) =
          one-more l ls v vs (canonical v.sort n) l is
          (known-becomes v.sort n l kind e
          (k ∙ ap (λ z. if is_numbered n (root_label z) then Some (leaf_value l) else original_of n (root_labels vs) (map leaf_value ls)) is
          ∙ ap (λ (b : Bool). if b then Some (leaf_value l) else original_of n (root_labels vs) (map leaf_value ls)) (number-self n)))
          (inl refl) rest
      by (inr k) =
          let life : v.sort ≡ of_lifetime = one-sort v.sort of_lifetime (kind_at a.kinds n) kind k in
          let x = lifetime-becomes (canonical v.sort n) life made in
          one-more l ls v vs (canonical v.sort n) x.0 is x.1 (inr (e ∙ life, x.2)) rest

  -- another lifetime
  lifetime : (l : Label) (ls : List Label) (v : Value) (vs : List Value) → sort_of l ≡ v.sort → is_fitting a.kinds v ≡ true → v.sort ≡ of_lifetime → Filled ls vs → Filled (l ∷ ls) (v ∷ vs)
  lifetime l ls v vs e f life rest =
      let r = lifetime-leaf v.trees (subst (λ s. is_a s v.trees ≡ true) life (left (is_a v.sort v.trees) _ f)) in
      let x = lifetime-becomes r.0 r.2 (made-leaf v r.0 r.1 f) in
      one-more l ls v vs r.0 x.0 r.1 x.1 (inr (e ∙ life, x.2)) rest

  behind-variable : (n : ℕ) (l : Label) (ls : List Label) (v : Value) (vs : List Value) → v.trees ≡ leaf (canonical v.sort n) → StandsBehind n (l ∷ ls) (v ∷ vs) → StandsBehind (suc n) ls vs
  behind-variable n l ls v vs is stands i h = by (stands i (less n i h))
    where
      by : (known i ≡ original_of i (root_labels (v ∷ vs)) (map leaf_value (l ∷ ls))) ⊎ (is_kind_of of_lifetime (kind_at a.kinds i) ≡ true)
          → (known i ≡ original_of i (root_labels vs) (map leaf_value ls)) ⊎ (is_kind_of of_lifetime (kind_at a.kinds i) ≡ true)
      by (inr k) = inr k
      by (inl k) = inl
          (k ∙ ap (λ z. if is_numbered i (root_label z) then Some (leaf_value l) else original_of i (root_labels vs) (map leaf_value ls)) is
          ∙ ap (λ (b : Bool). if b then Some (leaf_value l) else original_of i (root_labels vs) (map leaf_value ls)) (number-other n i h))

  behind-lifetime : (n : ℕ) (l : Label) (ls : List Label) (v : Value) (vs : List Value) → is_fitting a.kinds v ≡ true → v.sort ≡ of_lifetime → StandsBehind n (l ∷ ls) (v ∷ vs) → StandsBehind n ls vs
  behind-lifetime n l ls v vs f life stands i h = by (is_numbered i (root_label v.trees)) refl (stands i h)
    where
      by : (b : Bool) → is_numbered i (root_label v.trees) ≡ b
          → (known i ≡ (if b then Some (leaf_value l) else original_of i (root_labels vs) (map leaf_value ls))) ⊎ (is_kind_of of_lifetime (kind_at a.kinds i) ≡ true)
          → (known i ≡ original_of i (root_labels vs) (map leaf_value ls)) ⊎ (is_kind_of of_lifetime (kind_at a.kinds i) ≡ true)
      by b q (inr k) = inr k
      by false q (inl k) = inl k
      by true q (inl k) =
          let r = lifetime-leaf v.trees (subst (λ s. is_a s v.trees ≡ true) life (left (is_a v.sort v.trees) _ f)) in
          inr
          (subst (λ s. is_kind_of s (kind_at a.kinds i) ≡ true) r.2
          (numbered-kind a.kinds i r.0 (made-leaf v r.0 r.1 f) (ap (λ z. is_numbered i (root_label z)) (sym r.1) ∙ q)))

  all-filled : (n : ℕ) (ls : List Label) (vs : List Value) → have_same_sorts (map leaf_value ls) vs ≡ true → are_fitting a.kinds vs ≡ true → are_variables n vs ≡ true → StandsBehind n ls vs → Filled ls vs
  all-filled n [] [] e f b stands = ([], refl, tt)
  all-filled n [] (v ∷ vs) e f b stands = absurd (false-true e)
  all-filled n (l ∷ ls) [] e f b stands = absurd (false-true e)
  all-filled n (l ∷ ls) (v ∷ vs) e f b stands =
      by (is_variable_itself n v.sort v.trees) refl b (λ s. all-filled (suc n) ls vs sorts fits s) (λ s. all-filled n ls vs sorts fits s)
    where
      sort : sort_of l ≡ v.sort
      sort = is-sort (sort_of l) v.sort (left (is_sort (sort_of l) v.sort) _ e)

      sorts : have_same_sorts (map leaf_value ls) vs ≡ true
      sorts = right (is_sort (sort_of l) v.sort) _ e

      fit : is_fitting a.kinds v ≡ true
      fit = left (is_fitting a.kinds v) _ f

      fits : are_fitting a.kinds vs ≡ true
      fits = right (is_fitting a.kinds v) _ f

      by : (x : Bool) → is_variable_itself n v.sort v.trees ≡ x → (if x then are_variables (suc n) vs else (is_sort v.sort of_lifetime && are_variables n vs)) ≡ true
          → (are_variables (suc n) vs ≡ true → StandsBehind (suc n) ls vs → Filled ls vs) → (are_variables n vs ≡ true → StandsBehind n ls vs → Filled ls vs) → Filled (l ∷ ls) (v ∷ vs)
      by true q h next same_number =
          let is = itself-is n v.sort v.trees q in
          variable n l ls v vs sort fit is stands (next h (behind-variable n l ls v vs is stands))
      by false q h next same_number =
          let life = is-sort v.sort of_lifetime (left (is_sort v.sort of_lifetime) _ h) in
          lifetime l ls v vs sort fit life (same_number (right (is_sort v.sort of_lifetime) _ h) (behind-lifetime n l ls v vs fit life stands))

some-none : (u : TableTrees) → Some u ≡ None → ⊥
some-none u e = cc

module _ (t : TableTrees) (none_there : t.bindings ≡ []) (ls : List Label) (a : AnswerTrees) (bare : has_values a ≡ false) where
  goes-in : is_fitting_answer (map leaf_value ls) a ≡ true → (u : TableTrees) × (applied t (map leaf_value ls) a ≡ Some u)
  goes-in f =
      let x = all-filled t ls a 0 ls a.values (left (have_same_sorts (map leaf_value ls) a.values) _ f) (right (have_same_sorts (map leaf_value ls) a.values) _ f) (not-false (are_variables 0 a.values) bare) (λ i h. inl refl) in
      let grown = table_for (known t ls a) t 0 a.kinds in
      let vs = values t ls a in
      let y = row-left grown (for-bindings (known t ls a) t 0 a.kinds ∙ none_there) ls x.0 x.2 in (
        with_constraints (filled_values vs a.constraints) y.0,
        ap (λ z. option_map (with_constraints (filled_values vs a.constraints)) (solved_in_turn grown z (filled_values vs (trees_of a.values)))) (row-is ls)
            ∙ ap (λ z. option_map (with_constraints (filled_values vs a.constraints)) (solved_in_turn grown (row ls) z)) x.1
            ∙ ap (option_map (with_constraints (filled_values vs a.constraints))) y.1,
      )

  -- a table without values refuses none
  bare-goes-in : put_into t (map leaf_value ls) a ≡ None → ⊥
  bare-goes-in e = by (is_fitting_answer (map leaf_value ls) a) refl
    where
      by : (b : Bool) → is_fitting_answer (map leaf_value ls) a ≡ b → ⊥
      by true f = let x = goes-in f in some-none x.0 (sym (ap (λ b. if b then applied t (map leaf_value ls) a else Some t) f ∙ x.1) ∙ e)
      by false f = some-none t (sym (ap (λ b. if b then applied t (map leaf_value ls) a else Some t) f) ∙ e)

-- so none is refused that answers a goal
pub bare-is-left : (t : TableTrees) → t.bindings ≡ [] → (g : GoalTrees) (a : AnswerTrees) → has_values a ≡ false → left_by t g (Some a) ≡ None → ⊥
bare-is-left t e g a b h = bare-goes-in t e (goal_leaves g) a b h
