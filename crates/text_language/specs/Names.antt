-- The printed names of items and of parameters, of a query's variables, and of further variables.
use Rattle.std.specs.Prelude.{ℕ, suc, List, [], ◌∷◌, ◌++◌, map, length, slice_get, filter, nat_lt, codes, if◌then◌else◌}
use Rattle.std.specs.Option.{option_map_or}
use Rattle.type_terms.specs.Promised.Label.{Sort, of_type, of_const, of_lifetime, infer}
use Rattle.type_terms.specs.Promised.Trees.{Trees, none, tree, leaf, is_sort}
use Rattle.type_terms.specs.Codes.{same}
use Rattle.text_language.specs.Promised.Declarations.{Declarations, Question, Variable}
use Rattle.text_language.specs.Output.{Names, ValueText, type_text, with_unknown, unknown_text}

abbrev pub struct_text : Declarations → ℕ → List ℕ
struct_text d k = option_map_or (λ s. s.text) (slice_get d.structs k) []

abbrev pub trait_text : Declarations → ℕ → List ℕ
trait_text d k = option_map_or (λ t. t.text) (slice_get d.traits k) []

abbrev pub text_at : List (List ℕ) → ℕ → List ℕ
text_at ns k = option_map_or (λ n. n) (slice_get ns k) []

-- ---- a header that breaks the orphan rule: a variable is printed as the impl's parameter that it replaces. Those of
-- each kind are numbered from 0.
abbrev pub param_texts : List (List ℕ × Sort) → Sort → List (List ℕ)
param_texts ps s = map (λ p. p.0) (filter (λ p. is_sort p.1 s) ps)

abbrev pub header_names : Declarations → List (List ℕ × Sort) → Names
header_names d ps = record {
  of_struct = struct_text d;
  of_trait = trait_text d;
  of_param = λ s i. [];
  of_placeholder = λ s i. [];
  of_unknown = λ s i. text_at (param_texts ps s) i;
}

-- ---- the values of a query: one term for each variable, in their order
abbrev pub variables_of_kind : Sort → List Variable → List Variable
variables_of_kind s vs = filter (λ v. is_sort v.kind s) vs

-- The inference variables for the variables, in their order. Those of each kind are numbered from 0.
abbrev pub own_from : (types consts : ℕ) → List Variable → List Trees
own_from t c [] = []
own_from t c (v ∷ vs) = elim v.kind [ of_type ↦ leaf (infer of_type t) ∷ own_from (suc t) c vs | of_const ↦ leaf (infer of_const c) ∷ own_from t (suc c) vs | of_lifetime ↦ leaf (infer of_lifetime 0) ∷ own_from t c vs ]

abbrev pub own_unknowns : Question → List Trees
own_unknowns q = own_from 0 0 q.variables

-- The variables whose value is not their own inference variable.
abbrev pub valued : List Variable → List Trees → List Trees → List (Variable × Trees)
valued (v ∷ vs) (u ∷ us) (t ∷ ts) = if same u t then valued vs us ts else (v, t) ∷ valued vs us ts
valued _ _ _ = []

-- The inference variables that are not in the query, in the order in which they first occur in the line.
abbrev pub with_free : Question → Trees → List (Sort × ℕ) → List (Sort × ℕ)
with_free q none us = us
with_free q (tree (infer s i) c o) us = with_free q o (if nat_lt i (length (variables_of_kind s q.variables)) then us else with_unknown (infer s i) us)
with_free q (tree l c o) us = with_free q o (with_free q c us)

abbrev pub free_unknowns : Question → List (Variable × Trees) → List (Sort × ℕ) → List (Sort × ℕ)
free_unknowns q [] us = us
free_unknowns q (v ∷ vs) us = free_unknowns q vs (with_free q v.1 us)

abbrev pub question_unknown : Question → List (Sort × ℕ) → Sort → ℕ → List ℕ
question_unknown q us s i = option_map_or (λ v. codes "?" ++ v.text) (slice_get (variables_of_kind s q.variables) i) (unknown_text us s i)

abbrev pub question_names : Declarations → Question → List (Sort × ℕ) → Names
question_names d q us = record {
  of_struct = struct_text d;
  of_trait = trait_text d;
  of_param = λ s i. [];
  of_placeholder = λ s i. text_at q.params i;
  of_unknown = question_unknown q us;
}

abbrev pub value_texts : Declarations → Question → List (Variable × Trees) → List ValueText
value_texts d q vs = map (λ v. record { variable = v.0.text; term = type_text (question_names d q (free_unknowns q vs [])) v.1 }) vs

-- The values after `prove K: yes`, with these terms for the variables.
abbrev pub answer_values : Declarations → Question → List Trees → List ValueText
answer_values d q ts = value_texts d q (valued q.variables (own_unknowns q) ts)
