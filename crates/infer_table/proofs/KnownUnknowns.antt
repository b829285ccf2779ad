-- The values of a response's variables are over the variables of the table, including the new ones.
use Rattle.std.proofs.Common.{◌≡◌, ℕ, ◌+◌, ◌<◌, ◌≤◌, Bool, true, false, ap, sym, ◌∙◌, subst, arith, List, [], ◌∷◌, zero, suc, drop, length, get_or, Option, Some, None, if◌then◌else◌}
use Rattle.std.specs.Prelude.{unwrap_or}
use Rattle.std.specs.List.{slice_get}
use Rattle.type_terms.specs.Promised.Label.{Label, Sort, infer, canonical}
use Rattle.type_terms.specs.Promised.Trees.{Trees, none, tree, ◌+++◌, is_sort}
use Rattle.type_terms.specs.Trees.{put_at_node}
use Rattle.type_terms.specs.Promised.Handles.{Entry}
use Rattle.type_terms.specs.Promised.Handles.{arg_trees}
use Rattle.type_terms.specs.Kinds.{args_trees}
use Rattle.type_terms.specs.declared.kinds.GenericArgKind.{GenericArgKind}
use Rattle.infer_table.specs.Solutions.{Binding, Equates}
use Rattle.infer_table.specs.Content.{Table, Grows, content, variables_of}
use Rattle.infer_table.specs.Growth.{counts-kept}
use Rattle.infer_table.specs.Unification.{TableTrees, table_trees}
use Rattle.infer_table.specs.declared.canonical.CanonicalVarKind.{CanonicalVarKind}
use Rattle.infer_table.specs.declared.canonical.CanonicalVarKind.TheVariants.{Ty, PlaceholderTy, Const, PlaceholderConst, Region}
use Rattle.infer_table.specs.declared.response.CanonicalResponse.{CanonicalResponse}
use Rattle.infer_table.specs.Values.{Value, value_of, values_of, if_of_sort, filled_values}
use Rattle.infer_table.specs.Responses.{answer_trees}
use Rattle.infer_table.specs.Applying.{is_numbered, root_labels, original_of, next_unknown, unknowns_of, table_after, values_for, table_for, known_value, applied_values, applied_table}
use Rattle.infer_table.specs.Covers.{AreNumbered, AreKnown, IsOfKnown, IsWellPosed}
use Rattle.infer_table.proofs.Covers.{grown, same-unknowns, known-parts, known-later, known-equates}
use Rattle.infer_table.proofs.Values.{cut-at}

-- ---- with new unknowns there are no fewer
table-grown : (known : ℕ → Option Value) (t : TableTrees) (i : ℕ) (ks : List CanonicalVarKind) (j : Sort) → unknowns_of t j ≤ unknowns_of (table_for known t i ks) j
table-grown known t i [] j = omega arith
table-grown known t i (k ∷ ks) j = let here = grown (known i) t k j in let rest = table-grown known (table_after (known i) t k) (i + 1) ks j in omega (arith, here, rest)

-- one more variable has its value
pub one-more-table : (known : ℕ → Option Value) (t u all : TableTrees) (ks : List CanonicalVarKind) (i : ℕ) (k d : CanonicalVarKind) → i < length ks → k ≡ get_or ks i d
    → u ≡ table_after (known i) t k → table_for known t i (drop i ks) ≡ all → table_for known u (i + 1) (drop (i + 1) ks) ≡ all
one-more-table known t u all ks i k d lt is e h =
    let cut : drop i ks ≡ k ∷ drop (i + 1) ks = cut-at ks i d lt ∙ ap (λ z. z ∷ drop (i + 1) ks) (sym is) in
    ap (λ (z : TableTrees). table_for known z (i + 1) (drop (i + 1) ks)) e ∙ ap (table_for known t i) (sym cut) ∙ h

-- ---- what the unknowns in trees are
known-joined : (counts : Sort → ℕ) (x y : Trees) → AreKnown counts x → AreKnown counts y → AreKnown counts (x +++ y)
known-joined counts none y h g = g
known-joined counts (tree (infer s v) c o) y h g = (h.0, h.1, known-joined counts o y h.2 g)
known-joined counts (tree l c o) y h g = (h.0, known-joined counts o y h.1 g)

module _ (counts more : Sort → ℕ) (le : (k : Sort) → counts k ≤ more k) where
  pub known-more : (t : Trees) → AreKnown counts t → AreKnown more t
  known-more none h = tt
  known-more (tree (infer s v) c o) h = let l = le s in let low : v < counts s = h.0 in (omega (arith, l, low), known-more c h.1, known-more o h.2)
  known-more (tree l c o) h = (known-more c h.0, known-more o h.1)

abbrev AllKnown : (Sort → ℕ) → List Value → Type 0
AllKnown counts [] = Unit {0}
AllKnown counts (v ∷ vs) = AreKnown counts v.trees × AllKnown counts vs

abbrev IsKnown : (Sort → ℕ) → Option Value → Type 0
IsKnown counts None = Unit {0}
IsKnown counts (Some v) = AreKnown counts v.trees

slice-known : (counts : Sort → ℕ) (vs : List Value) (i : ℕ) → AllKnown counts vs → IsKnown counts (slice_get vs i)
slice-known counts [] i h = tt
slice-known counts (v ∷ vs) zero h = h.0
slice-known counts (v ∷ vs) (suc i) h = slice-known counts vs i h.1

module _ (counts : Sort → ℕ) (vs : List Value) (all : AllKnown counts vs) (ks : List CanonicalVarKind) where
  placed-known : (j : Sort) (v : Option Value) (t : Trees) → IsKnown counts v → AreKnown counts t → AreKnown counts (put_at_node (if_of_sort j v) t)
  placed-known j None t h g = g
  placed-known j (Some v) t h g = by (is_sort v.sort j)
    where
      by : (b : Bool) → AreKnown counts (put_at_node (if b then Some v.trees else None) t)
      by true = h
      by false = g

  pub filled-known : (t : Trees) → AreNumbered ks t → AreKnown counts (filled_values vs t)
  filled-known none h = tt
  filled-known (tree (canonical j i) c o) h =
      let below : AreKnown counts (filled_values vs c) = subst (λ z. AreKnown counts (filled_values vs z)) (sym h.1) tt in
      known-joined counts (put_at_node (if_of_sort j (slice_get vs i)) (tree (canonical j i) (filled_values vs c) none)) (filled_values vs o)
      (placed-known j (slice_get vs i) (tree (canonical j i) (filled_values vs c) none) (slice-known counts vs i all) (below, tt)) (filled-known o h.2)
  filled-known (tree (infer k v) c o) h = absurd h
  filled-known (tree l c o) h = (filled-known c h.0, filled-known o h.1)

-- ---- the values that are put in
first-known : (v : Option Value) (t : TableTrees) (k : CanonicalVarKind) → IsKnown (unknowns_of t) v → AreKnown (unknowns_of (table_after v t k)) (unwrap_or v (next_unknown t k)).trees
first-known (Some v) t k h = h
first-known None t Ty h = (omega arith, tt, tt)
first-known None t PlaceholderTy h = (omega arith, tt, tt)
first-known None t Const h = (omega arith, tt, tt)
first-known None t PlaceholderConst h = (omega arith, tt, tt)
first-known None t Region h = (omega arith, tt, tt)

known-grown : (counts more : Sort → ℕ) → ((k : Sort) → counts k ≤ more k) → (v : Option Value) → IsKnown counts v → IsKnown more v
known-grown counts more le None h = tt
known-grown counts more le (Some v) h = known-more counts more le v.trees h

values-known : (known : ℕ → Option Value) (t : TableTrees) (i : ℕ) (ks : List CanonicalVarKind) → ((n : ℕ) → IsKnown (unknowns_of t) (known n)) → AllKnown (unknowns_of (table_for known t i ks)) (values_for known t i ks)
values-known known t i [] h = tt
values-known known t i (k ∷ ks) h =
    let after = table_after (known i) t k in
    let end = table_for known after (i + 1) ks in (
      known-more (unknowns_of after) (unknowns_of end) (table-grown known after (i + 1) ks) (unwrap_or (known i) (next_unknown t k)).trees (first-known (known i) t k (h i)),
      values-known known after (i + 1) ks (λ n. known-grown (unknowns_of t) (unknowns_of after) (grown (known i) t k) (known n) (h n)),
    )

original-known : (counts : Sort → ℕ) (es : List Entry) (i : ℕ) (ls : List Label) (os : List GenericArgKind) → AreKnown counts (args_trees es os) → IsKnown counts (original_of i ls (values_of es os))
original-known counts es i [] os h = tt
original-known counts es i (l ∷ ls) [] h = tt
original-known counts es i (l ∷ ls) (o ∷ os) h =
    let parts = known-parts counts (arg_trees es o) (args_trees es os) h in
    by (is_numbered i l) parts.0 (original-known counts es i ls os parts.1)
  where
    by : (b : Bool) → AreKnown counts (arg_trees es o) → IsKnown counts (original_of i ls (values_of es os)) → IsKnown counts (if b then Some (value_of es o) else original_of i ls (values_of es os))
    by true p q = p
    by false p q = q

-- ---- the table that an answer leaves
module _ (es : List Entry) (t : Table) (originals : List GenericArgKind) (r : CanonicalResponse) (posed : IsWellPosed es t originals r) where
  abbrev taken : TableTrees
  taken = applied_table (table_trees es t) (values_of es originals) (answer_trees es r)

  abbrev put : Trees
  put = filled_values (applied_values (table_trees es t) (values_of es originals) (answer_trees es r)) (args_trees es r.var_values.items)

  answer-known : AreKnown (unknowns_of taken) put
  answer-known =
      filled-known (unknowns_of taken) (applied_values (table_trees es t) (values_of es originals) (answer_trees es r))
      (values-known (known_value (answer_trees es r) (values_of es originals)) (table_trees es t) 0 r.variables.items
      (λ n. original-known (unknowns_of (table_trees es t)) es n (root_labels (values_of es r.var_values.items)) originals (subst (λ (counts : Sort → ℕ). AreKnown counts (args_trees es originals)) (sym (same-unknowns es t)) posed.values_known)))
      r.variables.items (args_trees es r.var_values.items) posed.numbered

  pub applied-known : (u : Table) (new : List Binding) → Grows t u → ((k : Sort) → unknowns_of taken k ≤ variables_of u k)
      → Equates (content es t.values) new (args_trees es originals) put → IsOfKnown (variables_of u) new
  applied-known u new g unknowns e =
      let more = counts-kept t u g in
      known-equates (variables_of u) (content es t.values) new (args_trees es originals) put e
      (known-more (variables_of t) (variables_of u) more (args_trees es originals) posed.values_known)
      (known-more (unknowns_of taken) (variables_of u) unknowns put answer-known)
      (known-later (variables_of t) (variables_of u) (content es t.values) more posed.table_known)
