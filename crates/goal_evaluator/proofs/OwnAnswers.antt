-- A complete response, as a function of terms.
use Rattle.std.specs.Prelude.{◌≡◌, List, [], ◌∷◌, map, Some, Result, Ok, Err, IfOk, refl}
use Rattle.std.proofs.Common.{ap, sym, ◌∙◌}
use Rattle.type_terms.specs.Promised.Label.{Label, Sort, of_type, of_const, of_lifetime}
use Rattle.type_terms.specs.Promised.Trees.{Trees, none, tree, ◌+++◌, sort_of, IsA}
use Rattle.type_terms.specs.Promised.Handles.{Entry, types, consts}
use Rattle.type_terms.specs.Terms.{Lawful}
use Rattle.type_terms.specs.Promised.Handles.{ArgHeld, ArgsHeld, arg_trees}
use Rattle.type_terms.specs.Kinds.{args_trees}
use Rattle.type_terms.specs.declared.kinds.GenericArgKind.{GenericArgKind}
use Rattle.type_terms.specs.declared.kinds.GenericArgKind.TheVariants.{Lifetime, Ty, Const}
use Rattle.type_terms.specs.Kept.{is-at}
use Rattle.infer_table.specs.Canonical.{CanonicalForm, canonical_form, HasNoCanonical}
use Rattle.infer_table.proofs.UnifyFacts.{region-sort}
use Rattle.infer_table.specs.Unification.{TableTrees, table_trees}
use Rattle.infer_table.specs.declared.canonical.CanonicalVarKind.{CanonicalVarKind}
use Rattle.infer_table.specs.declared.certainty.Certainty.{Certainty}
use Rattle.infer_table.specs.Values.{Value, value_of, values_of}
use Rattle.infer_table.proofs.InTurn.{row-of}
use Rattle.type_terms.specs.declared.Fault.{Fault}
use Rattle.infer_table.specs.Solutions.{Assignment, Solves, instance, resolved}
use Rattle.infer_table.specs.Content.{content}
use Rattle.infer_table.specs.Constraints.{constraints_trees}
use Rattle.infer_table.specs.declared.response.CanonicalResponse.{CanonicalResponse}
use Rattle.infer_table.specs.Responses.{AnswerTrees, answer_trees, as_goal, response_form, answer_leaves, numbered_by, ResponseHeld}
use Rattle.infer_table.specs.Covers.{Agrees, AreNumbered}
use Rattle.goal_evaluator.specs.Context.{Context}
use Rattle.goal_evaluator.specs.OwnAnswers.{known_trees, known_values, known_constraints, SaysWhatIsKnown, kinds_in, values_in, known_answer, answer_of}
use Rattle.infer_table.proofs.TypeBasics.{same-parts}

pub says-known : (old new : List Entry) (c : Context) (x : Result CanonicalResponse Fault)
    → IfOk x (λ r. ResponseHeld new r)
    → IfOk x (λ r. response_form new r ≡ canonical_form (as_goal (known_trees old c)))
    → IfOk x (λ r. args_trees new r.var_values.items ≡ numbered_by (answer_leaves (known_trees old c)) (known_values old c))
    → IfOk x (λ r. constraints_trees new r.region_constraints.items ≡ numbered_by (answer_leaves (known_trees old c)) (known_constraints old c))
    → IfOk x (λ r. HasNoCanonical (known_values old c) → (s : Assignment) → Solves s (content old c.table.values) → Agrees (args_trees new r.var_values.items) (instance s (args_trees old c.values)))
    → IfOk x (λ r. HasNoCanonical (known_values old c) → AreNumbered r.variables.items (args_trees new r.var_values.items))
    → IfOk x (λ r. SaysWhatIsKnown old new c r)
says-known old new c (Ok r) h f v k a n = record { held = h; form = f; values = v; constraints = k; agrees = a; numbered = n }
says-known old new c (Err e) h f v k a n = tt

-- ---- a row of terms, and its values
kinds-there : (ks : List CanonicalVarKind) → kinds_in (map Some ks) ≡ ks
kinds-there [] = refl
kinds-there (k ∷ ks) = ap (λ z. k ∷ z) (kinds-there ks)

abbrev as_value : Sort → Trees → Value
as_value s t = record { sort = s; trees = t }

first-value : (s : Sort) (l : Label) (c o rest : Trees) → sort_of l ≡ s → o ≡ none → values_in (tree l c o +++ rest) ≡ as_value s (tree l c o) ∷ values_in rest
first-value s l c o rest e f =
    ap (λ z. as_value (sort_of l) (tree l c none) ∷ values_in (z +++ rest)) f
    ∙ ap (λ z. as_value (sort_of l) (tree l c z) ∷ values_in rest) (sym f)
    ∙ ap (λ z. as_value z (tree l c o) ∷ values_in rest) e

type-value : (t rest : Trees) → IsA of_type t → values_in (t +++ rest) ≡ as_value of_type t ∷ values_in rest
type-value none rest h = absurd h
type-value (tree l c o) rest h = first-value of_type l c o rest h.0 h.1

const-value : (t rest : Trees) → IsA of_const t → values_in (t +++ rest) ≡ as_value of_const t ∷ values_in rest
const-value none rest h = absurd h
const-value (tree l c o) rest h = first-value of_const l c o rest h.0 h.1

arg-value : (es : List Entry) → Lawful es → (a : GenericArgKind) (rest : Trees) → ArgHeld es a → values_in (arg_trees es a +++ rest) ≡ value_of es a ∷ values_in rest
arg-value es law (Lifetime r) rest h = first-value of_lifetime _ none none rest (region-sort r) refl
arg-value es law (Ty t) rest h = type-value (arg_trees es (Ty t)) rest ((law.sorted t.0 _ (is-at es types t.0 h)).as_type refl)
arg-value es law (Const k) rest h = const-value (arg_trees es (Const k)) rest ((law.sorted k.0 _ (is-at es consts k.0 h)).as_const refl)

values-in-row : (es : List Entry) → Lawful es → (xs : List GenericArgKind) → ArgsHeld es xs → values_of es xs ≡ values_in (args_trees es xs)
values-in-row es law [] h = refl
values-in-row es law (x ∷ xs) h = ap (λ z. value_of es x ∷ z) (values-in-row es law xs h.1) ∙ sym (arg-value es law x (args_trees es xs) h.0)

-- ---- answers as trees
-- what is known is a function of the table's trees
pub known-is : (old new : List Entry) → Lawful new → (c : Context) (r : CanonicalResponse) (k : Certainty) → r.certainty ≡ k → SaysWhatIsKnown old new c r
    → answer_trees new r ≡ known_answer (values_of old c.values) (table_trees old c.table) k
known-is old new law c r k e h =
    let t = table_trees old c.table in
    let ls = answer_leaves (known_trees old c) in
    let kinds : r.variables.items ≡ kinds_in (canonical_form (as_goal (known_trees old c))).kinds = sym (kinds-there r.variables.items) ∙ ap (λ (f : CanonicalForm). kinds_in f.kinds) h.form in
    let values : values_of new r.var_values.items ≡ values_in (numbered_by ls (known_values old c)) = values-in-row new law r.var_values.items h.held.values ∙ ap values_in h.values in
    same-parts _ _ _ _ _ _ _ _ kinds e values h.constraints
    ∙ ap {B = AnswerTrees}
    (λ (row : Trees). record {
      kinds = kinds_in (canonical_form (as_goal (resolved t.bindings (row +++ t.constraints)))).kinds;
      certainty = k;
      values = values_in (numbered_by (answer_leaves (resolved t.bindings (row +++ t.constraints))) (resolved t.bindings row));
      constraints = numbered_by (answer_leaves (resolved t.bindings (row +++ t.constraints))) (resolved t.bindings t.constraints);
    }) (sym (row-of old c.values))

pub same-answer : (ks ls : List CanonicalVarKind) (vs ws : List Value) (t u : TableTrees) (c d : Certainty) → ks ≡ ls → vs ≡ ws → t ≡ u → c ≡ d → answer_of ks vs t c ≡ answer_of ls ws u d
same-answer ks ls vs ws t u c d e f g h = cc
