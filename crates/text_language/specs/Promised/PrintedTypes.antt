-- How types, constants and the values of a query's variables are printed.
use Rattle.std.specs.Prelude.{ℕ, ◌-◌, min, Bool, false, not, List, [], ◌∷◌, ◌++◌, map, filter, find, fold, length, take, drop, zip, scan, flat_map, count_by, slice_get, unwrap_or, codes, ◌==◌, ◌||◌, if◌then◌else◌}
use Rattle.std.specs.Fmt.{decimal}
use Rattle.std.specs.List.{join_by, list_any, range_with_len}
use Rattle.std.specs.Option.{option_map_or}
use Rattle.type_terms.specs.Promised.Label.{Label, Sort, of_lifetime, never, array, slice, tuple, dynamic, int, uint, adt, fn_ptr, auto_trait, value, ref, raw_pointer, principal, placeholder, infer}
use Rattle.type_terms.specs.Promised.Trees.{Trees, none, tree, leaf, sort_of, is_sort}
use Rattle.type_terms.specs.Codes.{same, same_label}
use Rattle.text_language.specs.Promised.Declarations.{Declarations, Question}
use Rattle.text_language.specs.Promised.Grammar.{primitive_names}

-- The text of a primitive type, of `!`, or of a variable with one of these names. It is empty for other labels.
abbrev pub label_text : List (List ℕ × Label) → Label → List ℕ
label_text names l = option_map_or (λ n. n.0) (find (λ n. same_label n.1 l) ((codes "!", never) ∷ primitive_names ++ names)) []

-- The arguments of a struct or trait in `<` and `>`. It is empty if there are none.
abbrev pub angle_list : List (List ℕ) → List ℕ
angle_list ts = if length ts == 0 then [] else codes "<" ++ join_by (λ t. t) (codes ", ") ts ++ codes ">"

-- The last of the texts.
abbrev pub final_text : List (List ℕ) → List ℕ
final_text ts = fold (λ _ t. t) [] ts

-- The last term is `()`.
abbrev pub has_unit_last : Trees → Bool
has_unit_last none = false
has_unit_last (tree l c o) = same (tree l c o) (leaf tuple) || has_unit_last o

module _ (d : Declarations) (params : List (List ℕ)) (names : List (List ℕ × Label)) where
  -- The text of a node, where c are its children and ts are the texts of these. Parameters of the query and variables
  -- have names. The output of a fn is omitted if it is `()`. An integer larger than the largest is printed as the
  -- largest.
  abbrev pub printed_node : Label → Trees → List (List ℕ) → List ℕ
  printed_node (int n) c ts = label_text names (int (min n 5))
  printed_node (uint n) c ts = label_text names (uint (min n 5))
  printed_node (adt s) c ts = option_map_or (λ i. i.text) (slice_get d.structs s) [] ++ angle_list ts
  printed_node (principal n t) c ts = option_map_or (λ i. i.text) (slice_get d.traits t) [] ++ angle_list ts
  printed_node (auto_trait t) c ts = option_map_or (λ i. i.text) (slice_get d.traits t) []
  printed_node (placeholder s i) c ts = unwrap_or (slice_get params i) []
  printed_node (value n) c ts = decimal n
  printed_node (ref b) c ts = codes "&" ++ (if b then codes "mut " else []) ++ final_text ts
  printed_node (raw_pointer b) c ts = codes "*" ++ (if b then codes "mut " else codes "const ") ++ final_text ts
  printed_node slice c ts = codes "[" ++ final_text ts ++ codes "]"
  printed_node array c ts = codes "[" ++ join_by (λ t. t) (codes "; ") ts ++ codes "]"
  printed_node tuple c ts = codes "(" ++ join_by (λ t. t) (codes ", ") ts ++ (if length ts == 1 then codes ",)" else codes ")")
  printed_node dynamic c ts = codes "dyn " ++ join_by (λ t. t) (codes " + ") ts
  printed_node (fn_ptr n) c ts =
      codes "fn(" ++ join_by (λ t. t) (codes ", ") (take (length ts - 1) ts) ++ codes ")" ++ (if has_unit_last c then [] else codes " -> " ++ final_text ts)
  printed_node l c ts = label_text names l

  -- The texts of the terms, in order, without lifetimes.
  abbrev pub printed_trees : Trees → List (List ℕ)
  printed_trees none = []
  printed_trees (tree l c o) = if is_sort (sort_of l) of_lifetime then printed_trees o else printed_node l c (printed_trees c) ∷ printed_trees o

-- The inference variables for variables of these kinds, in order. Those of each kind are numbered from 0. Lifetimes are
-- not printed and not counted.
abbrev pub counted_unknowns : List Sort → List Label
counted_unknowns ss = scan (λ before s. if is_sort s of_lifetime then before else s ∷ before) (λ before s. infer s (count_by (is_sort s) before)) [] ss

-- The inference variables in the terms, in order.
abbrev pub unknowns_within : Trees → List Label
unknowns_within none = []
unknowns_within (tree (infer s i) c o) = infer s i ∷ unknowns_within o
unknowns_within (tree l c o) = unknowns_within c ++ unknowns_within o

-- The text after `prove K: yes` or `maybe`, with these values for the variables of the query: ` ?x = T, ?y = U`. A variable is
-- omitted if its value is its own inference variable. In values, these inference variables have the names of their
-- variables. Further ones are ?1, ?2 and so on, in the order in which they first occur in the line.
abbrev pub yes_values_text : Declarations → Question → List Trees → List ℕ
yes_values_text d q ts =
    let own = counted_unknowns (map (λ v. v.kind) q.variables) in
    let values = filter (λ v. not (same (leaf v.0.1) v.1)) (zip (zip q.variables own) ts) in
    let found = flat_map (λ v. unknowns_within v.1) values in
    let unknowns = fold (λ us u. if is_sort (sort_of u) of_lifetime || list_any (same_label u) us then us else us ++ u ∷ []) own found in
    let names = zip (map (λ n. codes "?" ++ n) (map (λ v. v.text) q.variables ++ map decimal (range_with_len 1 (length found)))) unknowns in
    drop 1 (flat_map (λ v. codes ", ?" ++ v.0.0.text ++ codes " = " ++ final_text (printed_trees d q.params names v.1)) values)
