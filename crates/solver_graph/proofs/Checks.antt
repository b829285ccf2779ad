-- When a response in code has no values and constraints.
use Rattle.std.proofs.Common.{rules, ◌≡◌, ℕ, zero, suc, ◌+◌, ◌==◌, arith, Bool, true, false, not, ◌&&◌, List, [], ◌∷◌, length, refl, sym, ◌∙◌, ap, subst, Some}
use Rattle.std.proofs.lemmas.Bool.{eqb-true}
use Rattle.std.specs.Cmp.Lexicographic.{pointwise}
use Rattle.std.proofs.lemmas.Slice.Eq.{slice_eq-Decides}
use Rattle.infer_table.specs.declared.certainty.Certainty.TheVariants.{Maybe}
use Rattle.infer_table.specs.declared.certainty.MaybeCause.{MaybeCause}
use Rattle.infer_table.specs.contracts.canonical.CanonicalVarKindPartialEq.TheImpl.{ghosts as kind}
use Rattle.infer_table.specs.contracts.certainty.CertaintyPartialEq.TheImpl.{ghosts as certainty}
use Rattle.type_terms.specs.Promised.Label.{Sort, canonical}
use Rattle.type_terms.specs.Promised.Trees.{Trees, none, tree, leaf, is_sort}
use Rattle.type_terms.specs.Trees.{is_a, is_no_tree}
use Rattle.type_terms.specs.Promised.Handles.{Entry}
use Rattle.type_terms.specs.Made.{terms, is_made}
use Rattle.type_terms.specs.declared.kinds.GenericArgKind.{GenericArgKind}
use Rattle.infer_table.specs.declared.canonical.CanonicalVarKind.{CanonicalVarKind}
use Rattle.infer_table.specs.declared.certainty.Certainty.{Certainty}
use Rattle.infer_table.specs.declared.terms.RegionConstraint.{RegionConstraint}
use Rattle.infer_table.specs.Constraints.{constraints_trees}
use Rattle.infer_table.specs.declared.response.CanonicalResponse.{CanonicalResponse}
use Rattle.infer_table.specs.Leaves.{root_label, leaf_label}
use Rattle.infer_table.specs.Values.{Value, value_of, values_of}
use Rattle.infer_table.specs.Raw.{sort_of_kind, variable_value, variables_from}
use Rattle.infer_table.specs.Responses.{AnswerTrees, answer_trees}
use Rattle.goal_evaluator.specs.Lists.{Every}
use Rattle.goal_evaluator.specs.Responses.{is_this_variable, are_variables, says_nothing, is_identity_modulo_regions}
use Rattle.goal_evaluator.proofs.SameResponses.{certainty-eq}
use Rattle.goal_evaluator.specs.TableAnswers.{is_kind_of, is_variable_of, is_fitting, IsWellFormed, has_values, without_values}
use Rattle.goal_evaluator.specs.FrameTables.{kind_at}
use Rattle.type_terms.proofs.Made.{false-true, left, right, both, no-tree, made-ordinary}
use Rattle.goal_evaluator.proofs.TableBeginning.{sort-is}
use Rattle.goal_evaluator.proofs.Equating.{single-of}
use Rattle.infer_table.specs.Certainties.{is_certain}
use Rattle.goal_evaluator.specs.Tables.{frame_tables}
use Rattle.goal_frames.specs.Searches.{is_ambiguous_answer}
use Rattle.goal_evaluator.proofs.Filling.{same-values}
use Rattle.solver_graph.specs.Answers.{holds_nothing}
use Rattle.infer_table.proofs.TypeBasics.{kind-eq}
use Rattle.type_terms.proofs.NumberBasics.{place-here as here, number-self}
use Rattle.infer_table.proofs.Basics.{first-and-rest}
use Rattle.type_terms.proofs.BooleanBasics.{twice as not-not}

is-sort : (j k : Sort) → is_sort j k ≡ true → j ≡ k
is-sort j k h = search rules

value-cong : (s r : Sort) (t u : Trees) → s ≡ r → t ≡ u → ◌≡◌ {A = Value} (record { sort = s; trees = t }) (record { sort = r; trees = u })
value-cong s r t u e f = cc

-- a term over the variables of an answer whose root is variable i, of this kind
root-is : (all : List CanonicalVarKind) (i : ℕ) (k : CanonicalVarKind) (s : Sort) (t : Trees) → (is_a s t && is_made (is_variable_of all) terms t) ≡ true
    → kind_at all i ≡ Some k → is_this_variable i (root_label t) ≡ true → ◌≡◌ {A = Value} (record { sort = s; trees = t }) (variable_value k i)
root-is all i k s none h e v = absurd (false-true v)
root-is all i k s (tree (canonical r j) c o) h e v =
    let a : is_a s (tree (canonical r j) c o) ≡ true = left (is_a s (tree (canonical r j) c o)) _ h in
    let m = made-ordinary (is_variable_of all) (canonical r j) c o refl (right (is_a s (tree (canonical r j) c o)) _ h) in
    let number : i ≡ j = eqb-true i j v in
    let kind : is_kind_of r (Some k) ≡ true = ap (is_kind_of r) (sym e) ∙ ap (λ n. is_kind_of r (kind_at all n)) number ∙ m.0 in
    let sort : sort_of_kind k ≡ r = is-sort (sort_of_kind k) r kind in
    value-cong s (sort_of_kind k) (tree (canonical r j) c o) (leaf (canonical (sort_of_kind k) i)) (sym (sort-is s (canonical r j) c o a) ∙ sym sort)
    (ap (λ z. tree (canonical r j) z o) (no-tree c m.1) ∙ ap (λ z. tree (canonical r j) none z) (single-of s (tree (canonical r j) c o) a)
    ∙ ap (λ z. leaf (canonical z j)) (sym sort) ∙ ap (λ n. leaf (canonical (sort_of_kind k) n)) (sym number))
root-is all i k s (tree l c o) h e v = absurd (false-true v)

same-length : (n m : ℕ) → suc n ≡ suc m → n ≡ m
same-length n m h = omega (arith, h)

next : (i j : ℕ) → (i + 1) + j ≡ i + suc j
next i j = omega arith

-- ---- from the checks to the answer
module _ (es : List Entry) (all : List CanonicalVarKind) where
  values-are : (i : ℕ) (vs : List GenericArgKind) (ks : List CanonicalVarKind) → Every (λ v. is_fitting all v ≡ true) (values_of es vs) → length vs ≡ length ks
      → ((j : ℕ) → kind_at all (i + j) ≡ kind_at ks j) → are_variables es i vs ≡ true → values_of es vs ≡ variables_from i ks
  values-are i [] [] f n k v = refl
  values-are i [] (k ∷ ks) f n at v = cc
  values-are i (x ∷ vs) [] f n at v = cc
  values-are i (x ∷ vs) (k ∷ ks) f n at v =
      first-and-rest (value_of es x) (variable_value k i) (values_of es vs) (variables_from (i + 1) ks)
      (root-is all i k (value_of es x).sort (value_of es x).trees f.0 (ap (kind_at all) (here i) ∙ at zero) (left (is_this_variable i (leaf_label es x)) _ v))
      (values-are (i + 1) vs ks f.1 (same-length (length vs) (length ks) n) (λ j. ap (kind_at all) (next i j) ∙ at (suc j)) (right (is_this_variable i (leaf_label es x)) _ v))

  -- ---- and back
  variables-are : (i : ℕ) (vs : List GenericArgKind) (ks : List CanonicalVarKind) → values_of es vs ≡ variables_from i ks → (are_variables es i vs ≡ true) × (length vs ≡ length ks)
  variables-are i [] [] e = (refl, refl)
  variables-are i [] (k ∷ ks) e = cc
  variables-are i (x ∷ vs) [] e = cc
  variables-are i (x ∷ vs) (k ∷ ks) e =
      let first : value_of es x ≡ variable_value k i = cc in
      let rest : values_of es vs ≡ variables_from (i + 1) ks = cc in
      let more = variables-are (i + 1) vs ks rest in
      let label : leaf_label es x ≡ canonical (sort_of_kind k) i = ap (λ (v : Value). root_label v.trees) first in
      (both (is_this_variable i (leaf_label es x)) _ (ap (is_this_variable i) label ∙ number-self i) more.0, ap suc more.1)

no-constraints : (es : List Entry) (cs : List RegionConstraint) → constraints_trees es cs ≡ none → cs ≡ []
no-constraints es [] e = refl
no-constraints es (c ∷ cs) e = cc

none-of : {A : Type 0} (xs : List A) → length xs ≡ 0 → xs ≡ []
none-of [] e = refl
none-of (x ∷ xs) e = cc

no-length : {A : Type 0} (xs : List A) → (length xs == 0) ≡ true → xs ≡ []
no-length xs e = none-of xs (eqb-true (length xs) 0 e)

answer-cong : (ks js : List CanonicalVarKind) (c d : Certainty) (vs ws : List Value) (t u : Trees) → ks ≡ js → c ≡ d → vs ≡ ws → t ≡ u
    → ◌≡◌ {A = AnswerTrees} (record { kinds = ks; certainty = c; values = vs; constraints = t }) (record { kinds = js; certainty = d; values = ws; constraints = u })
answer-cong ks js c d vs ws t u e f g h = cc

module _ (es : List Entry) (r : CanonicalResponse) (kinds : List CanonicalVarKind) (c : Certainty) where
  pub silent-by : IsWellFormed (answer_trees es r) → r.certainty ≡ c → r.variables.items ≡ kinds → length r.var_values.items ≡ length kinds → says_nothing es r ≡ true
      → answer_trees es r ≡ without_values kinds c
  silent-by fits sure same many none-said =
      answer-cong _ _ _ _ _ _ _ _ same sure
      (values-are es kinds 0 r.var_values.items kinds (subst (λ ks. Every (λ v. is_fitting ks v ≡ true) (values_of es r.var_values.items)) same fits) many (λ j. ap (kind_at kinds) (from-zero j))
      (left (are_variables es 0 r.var_values.items) _ none-said))
      (ap (constraints_trees es) (no-length r.region_constraints.items (right (are_variables es 0 r.var_values.items) _ none-said)))
    where
      from-zero : (j : ℕ) → 0 + j ≡ j
      from-zero j = omega arith

  pub silent-says : answer_trees es r ≡ without_values kinds c → (r.certainty ≡ c) × (r.variables.items ≡ kinds) × (length r.var_values.items ≡ length kinds) × (says_nothing es r ≡ true)
  silent-says e =
      let vars = variables-are es kinds 0 r.var_values.items kinds (ap (λ a. a.values) e) in
      let gone = no-constraints es r.region_constraints.items (ap (λ a. a.constraints) e) in
      (ap (λ a. a.certainty) e, ap (λ a. a.kinds) e, vars.1, both (are_variables es 0 r.var_values.items) _ vars.0 (ap (λ (cs : List RegionConstraint). length cs == 0) gone))

-- ---- comparisons in code
negated : (b x : Bool) → x ≡ not b → x ≡ false → b ≡ true
negated true x e f = refl
negated false x e f = cc

clash : (b x : Bool) → x ≡ not b → x ≡ true → b ≡ true → ⊥
clash b x e f h = let g : not b ≡ true = sym e ∙ f in let k : not true ≡ true = ap not (sym h) ∙ g in false-true k

pub certainty-is : (a b : Certainty) (x : Bool) → x ≡ not (certainty.eq a b) → x ≡ false → a ≡ b
certainty-is a b x e f = (certainty-eq a b).0 (negated (certainty.eq a b) x e f)

pub kinds-same : (xs ys : List CanonicalVarKind) (x : Bool) → x ≡ not (pointwise kind.eq xs ys) → x ≡ false → xs ≡ ys
kinds-same xs ys x e f = (slice_eq-Decides kind-eq xs ys _ refl).0 (negated (pointwise kind.eq xs ys) x e f)

pub kinds-differ : (xs ys : List CanonicalVarKind) (x : Bool) → x ≡ not (pointwise kind.eq xs ys) → x ≡ true → xs ≡ ys → ⊥
kinds-differ xs ys x e f h = clash (pointwise kind.eq xs ys) x e f ((slice_eq-Decides kind-eq xs ys _ refl).1 h)

-- ---- answers that are made in code
pub raw-is : (es : List Entry) (r : CanonicalResponse) (ks : List CanonicalVarKind) (k : Certainty) → r.variables.items ≡ ks → r.certainty ≡ k → values_of es r.var_values.items ≡ variables_from 0 ks
    → r.region_constraints.items ≡ [] → answer_trees es r ≡ without_values ks k
raw-is es r ks k a b c d = answer-cong _ _ _ _ _ _ _ _ a b c (ap (constraints_trees es) d)

-- an answer that is not sure is ambiguous exactly if it holds nothing
pub ambiguous-is : (a : AnswerTrees) (cause : MaybeCause) → a.certainty ≡ Maybe cause → is_ambiguous_answer frame_tables (Some a) ≡ holds_nothing a
ambiguous-is a why e =
    ap (λ k. not (is_certain k) && not (has_values a) && not (not (is_no_tree a.constraints))) e ∙ ap (λ b. not (has_values a) && b) (not-not (is_no_tree a.constraints))

no-tree-length : (es : List Entry) (cs : List RegionConstraint) → (length cs == 0) ≡ is_no_tree (constraints_trees es cs)
no-tree-length es [] = refl
no-tree-length es (c ∷ cs) = by (length (c ∷ cs) == 0) refl
  where
    by : (b : Bool) → (length (c ∷ cs) == 0) ≡ b → b ≡ false
    by true e = let gone = no-length (c ∷ cs) e in cc
    by false e = refl

pub nothing-where : (es : List Entry) (r : CanonicalResponse) (empty : Bool) → IsWellFormed (answer_trees es r) → empty ≡ (length r.region_constraints.items == 0) → empty ≡ true
    → is_identity_modulo_regions 0 (values_of es r.var_values.items) ≡ holds_nothing (answer_trees es r)
nothing-where es r empty fits e h =
    sym (not-not (is_identity_modulo_regions 0 (values_of es r.var_values.items))) ∙ ap not (sym (same-values (answer_trees es r) fits)) ∙ sym (and-true (not (has_values (answer_trees es r))))
    ∙ ap (λ b. not (has_values (answer_trees es r)) && b) (sym h ∙ e ∙ no-tree-length es r.region_constraints.items)
  where
    and-true : (b : Bool) → (b && true) ≡ b
    and-true true = refl
    and-true false = refl

pub something-where : (es : List Entry) (r : CanonicalResponse) (empty : Bool) → empty ≡ (length r.region_constraints.items == 0) → empty ≡ false → false ≡ holds_nothing (answer_trees es r)
something-where es r empty e h = sym (ap (λ b. not (has_values (answer_trees es r)) && b) (sym (no-tree-length es r.region_constraints.items) ∙ sym e ∙ h) ∙ and-false (not (has_values (answer_trees es r))))
  where
    and-false : (b : Bool) → (b && false) ≡ false
    and-false true = refl
    and-false false = refl
