-- The first table of a frame, its new inference variables and its responses, in code and over terms.
use Rattle.std.proofs.Common.{◌≡◌, ℕ, suc, ◌+◌, arith, List, [], ◌∷◌, ◌++◌, map, refl, ◌∙◌, ap, Option, Some, None}
use Rattle.std.specs.Prelude.{option_and_then}
use Rattle.type_terms.specs.Promised.Label.{Label, of_type, of_const, of_lifetime, infer, placeholder}
use Rattle.type_terms.specs.Promised.Trees.{none}
use Rattle.infer_table.specs.Content.{Table}
use Rattle.infer_table.specs.Unification.{TableTrees, Worklist, unified}
use Rattle.infer_table.specs.declared.canonical.CanonicalVarKind.{CanonicalVarKind}
use Rattle.infer_table.specs.declared.canonical.CanonicalVarKind.TheVariants.{Ty, PlaceholderTy, Const, PlaceholderConst, Region}
use Rattle.infer_table.specs.Leaves.{root_label}
use Rattle.infer_table.specs.Unknowns.{next_labels, with_each}
use Rattle.infer_table.specs.Values.{Value}
use Rattle.infer_table.specs.Applying.{next_unknown, with_unknown, table_for}
use Rattle.goal_evaluator.specs.TableAnswers.{leaf_value, own_labels}
use Rattle.goal_evaluator.specs.FrameTables.{in_turn, and_then, types_in, consts_in, regions_in, labels_from, first_content, unknown, labels_for}
use Rattle.goal_evaluator.specs.Frames.{empty, own_values, own_table, unknowns, with_unknowns, solved}
use Rattle.type_terms.proofs.NumberBasics.{zero-plus, next-number}
use Rattle.type_terms.proofs.ListBasics.{cons}

-- ---- the goal's variables
own-labels-are : (t : Table) (i : ℕ) (ks : List CanonicalVarKind) → labels_from t.ty_vars t.const_vars t.region_vars i ks ≡ next_labels t i ks
own-labels-are t i [] = refl
own-labels-are t i (Ty ∷ ks) =
    ap (λ z. infer of_type t.ty_vars ∷ labels_from z t.const_vars t.region_vars (suc i) ks) (next-number t.ty_vars)
    ∙ ap (λ z. infer of_type t.ty_vars ∷ labels_from (t.ty_vars + 1) t.const_vars t.region_vars z ks) (next-number i)
    ∙ ap (λ z. infer of_type t.ty_vars ∷ z) (own-labels-are (record t { ty_vars = t.ty_vars + 1 }) (i + 1) ks)
own-labels-are t i (Const ∷ ks) =
    ap (λ z. infer of_const t.const_vars ∷ labels_from t.ty_vars z t.region_vars (suc i) ks) (next-number t.const_vars)
    ∙ ap (λ z. infer of_const t.const_vars ∷ labels_from t.ty_vars (t.const_vars + 1) t.region_vars z ks) (next-number i)
    ∙ ap (λ z. infer of_const t.const_vars ∷ z) (own-labels-are (record t { const_vars = t.const_vars + 1 }) (i + 1) ks)
own-labels-are t i (Region ∷ ks) =
    ap (λ z. infer of_lifetime t.region_vars ∷ labels_from t.ty_vars t.const_vars z (suc i) ks) (next-number t.region_vars)
    ∙ ap (λ z. infer of_lifetime t.region_vars ∷ labels_from t.ty_vars t.const_vars (t.region_vars + 1) z ks) (next-number i)
    ∙ ap (λ z. infer of_lifetime t.region_vars ∷ z) (own-labels-are (record t { region_vars = t.region_vars + 1 }) (i + 1) ks)
own-labels-are t i (PlaceholderTy ∷ ks) =
    ap (λ z. placeholder of_type i ∷ labels_from t.ty_vars t.const_vars t.region_vars z ks) (next-number i) ∙ ap (λ z. placeholder of_type i ∷ z) (own-labels-are t (i + 1) ks)
own-labels-are t i (PlaceholderConst ∷ ks) =
    ap (λ z. placeholder of_const i ∷ labels_from t.ty_vars t.const_vars t.region_vars z ks) (next-number i) ∙ ap (λ z. placeholder of_const i ∷ z) (own-labels-are t (i + 1) ks)

pub own-values-are : (kinds : List CanonicalVarKind) → map leaf_value (labels_from 0 0 0 0 kinds) ≡ own_values kinds
own-values-are kinds = ap (map leaf_value) (own-labels-are empty 0 kinds)

moved : (a b c : ℕ) → a + suc b ≡ (a + 1) + b
moved a b c = omega arith

types-are : (t : Table) (ks : List CanonicalVarKind) → t.ty_vars + types_in ks ≡ (with_each t ks).ty_vars
types-are t [] = omega arith
types-are t (Ty ∷ ks) = moved t.ty_vars (types_in ks) 0 ∙ types-are (record t { ty_vars = t.ty_vars + 1 }) ks
types-are t (Const ∷ ks) = types-are (record t { const_vars = t.const_vars + 1 }) ks
types-are t (Region ∷ ks) = types-are (record t { region_vars = t.region_vars + 1 }) ks
types-are t (PlaceholderTy ∷ ks) = types-are t ks
types-are t (PlaceholderConst ∷ ks) = types-are t ks

consts-are : (t : Table) (ks : List CanonicalVarKind) → t.const_vars + consts_in ks ≡ (with_each t ks).const_vars
consts-are t [] = omega arith
consts-are t (Const ∷ ks) = moved t.const_vars (consts_in ks) 0 ∙ consts-are (record t { const_vars = t.const_vars + 1 }) ks
consts-are t (Ty ∷ ks) = consts-are (record t { ty_vars = t.ty_vars + 1 }) ks
consts-are t (Region ∷ ks) = consts-are (record t { region_vars = t.region_vars + 1 }) ks
consts-are t (PlaceholderTy ∷ ks) = consts-are t ks
consts-are t (PlaceholderConst ∷ ks) = consts-are t ks

regions-are : (t : Table) (ks : List CanonicalVarKind) → t.region_vars + regions_in ks ≡ (with_each t ks).region_vars
regions-are t [] = omega arith
regions-are t (Region ∷ ks) = moved t.region_vars (regions_in ks) 0 ∙ regions-are (record t { region_vars = t.region_vars + 1 }) ks
regions-are t (Ty ∷ ks) = regions-are (record t { ty_vars = t.ty_vars + 1 }) ks
regions-are t (Const ∷ ks) = regions-are (record t { const_vars = t.const_vars + 1 }) ks
regions-are t (PlaceholderTy ∷ ks) = regions-are t ks
regions-are t (PlaceholderConst ∷ ks) = regions-are t ks

same-counts : (a b c d e f : ℕ) → a ≡ d → b ≡ e → c ≡ f
    → ◌≡◌ {A = TableTrees} (record { ty_vars = a; const_vars = b; region_vars = c; bindings = []; constraints = none }) (record { ty_vars = d; const_vars = e; region_vars = f; bindings = []; constraints = none })
same-counts a b c d e f p q r = cc

pub first-content-is : (kinds : List CanonicalVarKind) → first_content kinds ≡ own_table kinds
first-content-is kinds =
    same-counts _ _ _ _ _ _ (zero-plus (types_in kinds) ∙ types-are empty kinds) (zero-plus (consts_in kinds) ∙ consts-are empty kinds) (zero-plus (regions_in kinds) ∙ regions-are empty kinds)

-- ---- new unknowns
label-value : (t : TableTrees) (k : CanonicalVarKind) → leaf_value (root_label (next_unknown t k).trees) ≡ next_unknown t k
label-value t Ty = refl
label-value t k = refl

pub unknowns-are : (t : TableTrees) (i : ℕ) (ks : List CanonicalVarKind) → map leaf_value (labels_for t i ks) ≡ unknowns t ks
unknowns-are t i [] = refl
unknowns-are t i (k ∷ ks) = cons _ _ _ _ (label-value t k) (unknowns-are (with_unknown t k) (i + 1) ks)

pub unknown-table-is : (t : TableTrees) (i : ℕ) (ks : List CanonicalVarKind) → table_for unknown t i ks ≡ with_unknowns t ks
unknown-table-is t i [] = refl
unknown-table-is t i (k ∷ ks) = unknown-table-is (with_unknown t k) (i + 1) ks

pub map-append : (f : Label → Value) (xs ys : List Label) → map f (xs ++ ys) ≡ map f xs ++ map f ys
map-append f [] ys = refl
map-append f (x ∷ xs) ys = cons (f x) (f x) _ _ refl (map-append f xs ys)

-- ---- equations
pub turns-are : (todo : Worklist) (t : TableTrees) → in_turn todo t ≡ solved t todo
turns-are [] t = refl
turns-are (e ∷ todo) t = by (unified t (e ∷ [])) (λ u. turns-are todo u)
  where
    by : (o : Option TableTrees) → ((u : TableTrees) → in_turn todo u ≡ solved u todo) → and_then (in_turn todo) o ≡ option_and_then (λ u. solved u todo) o
    by None f = refl
    by (Some u) f = f u

-- ---- what the goal's variables stand for, where more labels follow
pub own-stay : (a b c i : ℕ) (kinds : List CanonicalVarKind) (more : List Label) → own_labels kinds (labels_from a b c i kinds ++ more) ≡ labels_from a b c i kinds
own-stay a b c i [] more = refl
own-stay a b c i (Ty ∷ ks) more = ap (λ z. infer of_type a ∷ z) (own-stay (suc a) b c (suc i) ks more)
own-stay a b c i (Const ∷ ks) more = ap (λ z. infer of_const b ∷ z) (own-stay a (suc b) c (suc i) ks more)
own-stay a b c i (Region ∷ ks) more = ap (λ z. infer of_lifetime c ∷ z) (own-stay a b (suc c) (suc i) ks more)
own-stay a b c i (PlaceholderTy ∷ ks) more = ap (λ z. placeholder of_type i ∷ z) (own-stay a b c (suc i) ks more)
own-stay a b c i (PlaceholderConst ∷ ks) more = ap (λ z. placeholder of_const i ∷ z) (own-stay a b c (suc i) ks more)
