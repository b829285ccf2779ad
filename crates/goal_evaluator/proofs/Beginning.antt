-- The table with which a candidate begins, and its own inference variables.
use Rattle.std.proofs.Common.{◌≡◌, ℕ, ◌+◌, ◌<◌, List, [], ◌∷◌, ◌++◌, map, length, get_or, drop, refl, ap, sym, ◌∙◌, append_assoc}
use Rattle.std.proofs.lemmas.List.{append-nil}
use Rattle.type_terms.specs.Promised.Trees.{Trees}
use Rattle.type_terms.specs.Promised.Handles.{Entry, Keeps}
use Rattle.type_terms.specs.Terms.{Lawful}
use Rattle.type_terms.specs.Promised.Handles.{ArgsHeld}
use Rattle.type_terms.specs.declared.kinds.GenericArgKind.{GenericArgKind}
use Rattle.infer_table.specs.Constraints.{constraints_trees}
use Rattle.infer_table.specs.Content.{Table, content}
use Rattle.infer_table.specs.Solutions.{Binding}
use Rattle.infer_table.specs.Unification.{TableTrees, table_trees}
use Rattle.infer_table.specs.declared.canonical.CanonicalVarKind.{CanonicalVarKind}
use Rattle.infer_table.specs.declared.canonical.CanonicalVarKind.TheVariants.{Ty, PlaceholderTy, Const, PlaceholderConst, Region}
use Rattle.infer_table.specs.Leaves.{AreLeaves, labels}
use Rattle.infer_table.specs.Unknowns.{next_labels, with_next, with_each}
use Rattle.infer_table.specs.Values.{Value, values_of, values-later}
use Rattle.infer_table.specs.Applying.{next_unknown, with_unknown}
use Rattle.infer_table.proofs.Values.{cut-at}
use Rattle.goal_evaluator.specs.Evaluating.{leaf_value}
use Rattle.goal_evaluator.proofs.Asking.{leaf-values}
use Rattle.goal_evaluator.specs.Frames.{FrameTrees, empty, own_values, own_table, begun, unknowns, with_unknowns, fresh}

-- ---- the first table
next-values : (t : Table) (k : CanonicalVarKind) → (with_next t k).values ≡ t.values
next-values t Ty = refl
next-values t PlaceholderTy = refl
next-values t Const = refl
next-values t PlaceholderConst = refl
next-values t Region = refl

next-constraints : (t : Table) (k : CanonicalVarKind) → (with_next t k).constraints ≡ t.constraints
next-constraints t Ty = refl
next-constraints t PlaceholderTy = refl
next-constraints t Const = refl
next-constraints t PlaceholderConst = refl
next-constraints t Region = refl

each-values : (t : Table) (ks : List CanonicalVarKind) → (with_each t ks).values ≡ t.values
each-values t [] = refl
each-values t (k ∷ ks) = each-values (with_next t k) ks ∙ next-values t k

each-constraints : (t : Table) (ks : List CanonicalVarKind) → (with_each t ks).constraints ≡ t.constraints
each-constraints t [] = refl
each-constraints t (k ∷ ks) = each-constraints (with_next t k) ks ∙ next-constraints t k

same-table : (i j k : ℕ) (bs cs : List Binding) (x y : Trees) → bs ≡ cs → x ≡ y
    → ◌≡◌ {A = TableTrees} (record { ty_vars = i; const_vars = j; region_vars = k; bindings = bs; constraints = x }) (record { ty_vars = i; const_vars = j; region_vars = k; bindings = cs; constraints = y })
same-table i j k bs cs x y e f = cc

pub table-is : (es : List Entry) (t : Table) (ks : List CanonicalVarKind) → t ≡ with_each empty ks → table_trees es t ≡ own_table ks
table-is es t ks e =
    ap (table_trees es) e ∙ same-table _ _ _ _ _ _ _ (ap (content es) (each-values empty ks)) (ap (constraints_trees es) (each-constraints empty ks))

values-are : (es : List Entry) → Lawful es → (first : Table) (xs : List GenericArgKind) (ks : List CanonicalVarKind) → first ≡ empty → AreLeaves es xs
    → labels es xs ≡ next_labels first 0 ks → values_of es xs ≡ own_values ks
values-are es law first xs ks f h e = leaf-values es law xs h ∙ ap (map leaf_value) e ∙ ap (λ (t : Table). map leaf_value (next_labels t 0 ks)) f

pub same-frame : (ks : List CanonicalVarKind) (a b c d : List Value) (t u : TableTrees) → a ≡ b → c ≡ d → t ≡ u
    → ◌≡◌ {A = FrameTrees} (record { kinds = ks; own = a; values = c; table = t }) (record { kinds = ks; own = b; values = d; table = u })
same-frame ks a b c d t u e f g = cc

-- what the goal's variables stand for, and then new unknowns
pub begun-is : (mid es : List Entry) → Keeps mid es → Lawful mid → (first t u : Table) (own copied values : List GenericArgKind) (ks own_kinds : List CanonicalVarKind)
    → first ≡ empty → AreLeaves mid own → ArgsHeld mid own → labels mid own ≡ next_labels first 0 ks → t ≡ with_each first ks → copied ≡ own
    → values_of es values ≡ values_of mid copied ++ unknowns (table_trees mid t) own_kinds → table_trees es u ≡ with_unknowns (table_trees mid t) own_kinds
    → ◌≡◌ {A = FrameTrees} (record { kinds = ks; own = values_of es own; values = values_of es values; table = table_trees es u }) (fresh (begun ks) own_kinds)
begun-is mid es k law first t u own copied values ks own_kinds f leaves held named made same more grown =
    let named-so : values_of mid own ≡ own_values ks = values-are mid law first own ks f leaves named in
    let table : table_trees mid t ≡ own_table ks = table-is mid t ks (made ∙ ap (λ (z : Table). with_each z ks) f) in
    same-frame ks _ _ _ _ _ _
    (values-later mid es k own held ∙ named-so)
    (more ∙ ap (λ xs. values_of mid xs ++ unknowns (table_trees mid t) own_kinds) same ∙ ap (λ vs. vs ++ unknowns (table_trees mid t) own_kinds) named-so
    ∙ ap (λ (z : TableTrees). own_values ks ++ unknowns z own_kinds) table)
    (grown ∙ ap (λ (z : TableTrees). with_unknowns z own_kinds) table)

-- ---- new unknowns, one by one
next-kind : (ks : List CanonicalVarKind) (i : ℕ) (k d : CanonicalVarKind) → i < length ks → k ≡ get_or ks i d → drop i ks ≡ k ∷ drop (i + 1) ks
next-kind ks i k d lt is = cut-at ks i d lt ∙ ap (λ z. z ∷ drop (i + 1) ks) (sym is)

-- one more variable has its unknown
pub one-more-unknown : (vs ws all : List Value) (v : Value) (t u : TableTrees) (ks : List CanonicalVarKind) (i : ℕ) (k d : CanonicalVarKind) → i < length ks → k ≡ get_or ks i d
    → ws ≡ vs → v ≡ next_unknown t k → u ≡ with_unknown t k → vs ++ unknowns t (drop i ks) ≡ all → (ws ++ v ∷ []) ++ unknowns u (drop (i + 1) ks) ≡ all
one-more-unknown vs ws all v t u ks i k d lt is e f g h =
    append_assoc ws (v ∷ []) (unknowns u (drop (i + 1) ks))
    ∙ ap (λ z. z ++ v ∷ unknowns u (drop (i + 1) ks)) e
    ∙ ap (λ z. vs ++ z ∷ unknowns u (drop (i + 1) ks)) f
    ∙ ap (λ (z : TableTrees). vs ++ next_unknown t k ∷ unknowns z (drop (i + 1) ks)) g
    ∙ ap (λ z. vs ++ unknowns t z) (sym (next-kind ks i k d lt is)) ∙ h

pub one-more-table : (t u all : TableTrees) (ks : List CanonicalVarKind) (i : ℕ) (k d : CanonicalVarKind) → i < length ks → k ≡ get_or ks i d
    → u ≡ with_unknown t k → with_unknowns t (drop i ks) ≡ all → with_unknowns u (drop (i + 1) ks) ≡ all
one-more-table t u all ks i k d lt is g h =
    ap (λ (z : TableTrees). with_unknowns z (drop (i + 1) ks)) g ∙ ap (λ z. with_unknowns t z) (sym (next-kind ks i k d lt is)) ∙ h

pub all-unknowns : (vs all : List Value) (t : TableTrees) (rest : List CanonicalVarKind) → rest ≡ [] → vs ++ unknowns t rest ≡ all → vs ≡ all
all-unknowns vs all t rest e h = sym (append-nil vs) ∙ ap (λ z. vs ++ unknowns t z) (sym e) ∙ h

pub all-tables : (t all : TableTrees) (rest : List CanonicalVarKind) → rest ≡ [] → with_unknowns t rest ≡ all → t ≡ all
all-tables t all rest e h = ap (λ z. with_unknowns t z) (sym e) ∙ h
