-- Types and values are printed as the definitions of the text give them.
use Rattle.std.proofs.Common.{◌≡◌, ℕ, suc, ◌≤◌, Bool, true, false, not, ◌||◌, List, [], ◌∷◌, ◌++◌, map, filter, fold, zip, flat_map, length, slice_get, is_some, codes, decimal, if◌then◌else◌, refl, sym, ap, ap₂, subst, ◌∙◌, append-nil, length-append, arith}
use Rattle.std.proofs.lemmas.List.{map-append}
use Rattle.std.specs.List.{list_any, range_with_len, AllByRecursion}
use Rattle.std.specs.Option.{option_map_or}
use Rattle.std.specs.Prelude.{Option, Some, None}
use Rattle.type_terms.specs.Promised.Label.{Label, Sort, of_type, of_const, of_lifetime, infer}
use Rattle.type_terms.specs.Promised.Trees.{Trees, none, tree, leaf, is_sort, sort_of}
use Rattle.type_terms.specs.Codes.{same, same_label}
use Rattle.text_language.specs.Promised.Declarations.{Declarations, Question, Variable}
use Rattle.text_language.specs.Output.{values_text, is_in, unknown_text}
use Rattle.text_language.specs.Names.{variables_of_kind, own_unknowns, valued, free_unknowns, question_unknown, question_names, value_texts, answer_values}
use Rattle.text_language.specs.Promised.PrintedTypes.{yes_values_text, counted_unknowns, unknowns_within, printed_trees, final_text}
use Rattle.text_language.proofs.SamePrintedTypes.{is_infer, OfUnknowns, lookup, Agrees, type-same, all-left, all-right}
use Rattle.text_language.proofs.SamePrintedNames.{labels_from, counted-from, own-name}
use Rattle.text_language.proofs.SamePrintedUnknowns.{label_of, added, IsListed, all-listed, length-listed, own_labels, all_labels, listed-or, free-same, free-name}
use Rattle.text_language.proofs.SamePrintedValues.{own_value, own-same, valued-same, HaveTexts, values-same}
use Rattle.type_terms.proofs.ListBasics.{map-length as length-mapped}

-- ---- only unknowns have names
abbrev AreUnknowns : List Label → Type 0
AreUnknowns ls = AllByRecursion (λ l. is_infer l ≡ true) ls

from-unknowns : (n m : ℕ) (ss : List Sort) → AreUnknowns (labels_from n m ss)
from-unknowns n m [] = tt
from-unknowns n m (of_type ∷ ss) = (refl, from-unknowns (suc n) m ss)
from-unknowns n m (of_const ∷ ss) = (refl, from-unknowns n (suc m) ss)
from-unknowns n m (of_lifetime ∷ ss) = (refl, from-unknowns n m ss)

counted-are : (ss : List Sort) → AreUnknowns (counted_unknowns ss)
counted-are ss = subst AreUnknowns (sym (counted-from ss)) (from-unknowns 0 0 ss)

named-are : (xs : List (List ℕ)) (ls : List Label) → AreUnknowns ls → OfUnknowns (zip xs ls)
named-are [] ls h = tt
named-are (x ∷ xs) [] h = tt
named-are (x ∷ xs) (l ∷ ls) h = (h.0, named-are xs ls h.1)

-- ---- the values of a question's variables
map-twice : {A B C : Type 0} (g : B → C) (f : A → B) (xs : List A) → map g (map f xs) ≡ map (λ x. g (f x)) xs
map-twice g f [] = refl
map-twice g f (x ∷ xs) = ap (λ ys. g (f x) ∷ ys) (map-twice g f xs)

chosen : {A : Type 0} (f : A → List ℕ) (o : Option A) (x y : List ℕ) → (is_some o ≡ false → x ≡ y) → option_map_or f o x ≡ option_map_or f o y
chosen f None x y h = h refl
chosen f (Some a) x y h = refl

are-added : (ls us : List Label) → AreUnknowns ls → AreUnknowns us → AreUnknowns (fold added us ls)
are-added [] us h g = g
are-added (l ∷ ls) us h g = are-added ls (added us l) h.1 (one (is_sort (sort_of l) of_lifetime || list_any (same_label l) us))
  where
    pushed : (us : List Label) → AreUnknowns us → AreUnknowns (us ++ l ∷ [])
    pushed [] e = (h.0, tt)
    pushed (u ∷ us) e = (e.0, pushed us e.1)

    one : (b : Bool) → AreUnknowns (if b then us else us ++ l ∷ [])
    one true = g
    one false = pushed us g

both-are : (xs ys : List Label) → AreUnknowns xs → AreUnknowns ys → AreUnknowns (xs ++ ys)
both-are [] ys h g = g
both-are (x ∷ xs) ys h g = (h.0, both-are xs ys h.1 g)

within-are : (t : Trees) → AreUnknowns (unknowns_within t)
within-are none = tt
within-are (tree (infer s i) c o) = (refl, within-are o)
within-are (tree l c o) = both-are (unknowns_within c) (unknowns_within o) (within-are c) (within-are o)

all-within : (vs : List ((Variable × Label) × Trees)) → AreUnknowns (flat_map (λ v. unknowns_within v.1) vs)
all-within [] = tt
all-within (v ∷ vs) = both-are (unknowns_within v.1) (flat_map (λ v. unknowns_within v.1) vs) (within-are v.1) (all-within vs)

module _ (d : Declarations) (q : Question) (ts : List Trees) where
  abbrev with_values : List ((Variable × Label) × Trees)
  with_values = filter (λ v. not (same (leaf v.0.1) v.1)) (zip (zip q.variables (own_labels q)) ts)

  abbrev found : List Label
  found = flat_map (λ v. unknowns_within v.1) with_values

  abbrev further : List (Sort × ℕ)
  further = free_unknowns q (map own_value with_values) []

  abbrev numbered : ℕ → List ℕ
  numbered n = codes "?" ++ decimal n

  abbrev variable_name : Variable → List ℕ
  variable_name v = codes "?" ++ v.text

  abbrev first_names : List (List ℕ)
  first_names = map (λ n. codes "?" ++ n) (map (λ v. v.text) q.variables ++ map decimal (range_with_len 1 (length found)))

  abbrev unknown_names : List (List ℕ × Label)
  unknown_names = zip first_names (fold added (own_labels q) found)

  first-same : first_names ≡ map variable_name q.variables ++ map numbered (range_with_len 1 (length found))
  first-same =
      map-append (λ n. codes "?" ++ n) (map (λ v. v.text) q.variables) (map decimal (range_with_len 1 (length found)))
      ∙ ap₂ (λ x y. x ++ y) (map-twice (λ n. codes "?" ++ n) (λ (v : Variable). v.text) q.variables) (map-twice (λ n. codes "?" ++ n) decimal (range_with_len 1 (length found)))

  all-same : fold added (own_labels q) found ≡ all_labels q further
  all-same = ap (λ us. fold added us found) (sym (append-nil (own_labels q))) ∙ free-same q with_values []

  short : length further ≤ length found
  short =
      let e = ap length all-same in
      let f = length-append (own_labels q) (map label_of further) in
      let g = length-listed (own_labels q) found in
      let h = length-mapped label_of further in
      omega arith

  unknown-name : (s : Sort) (i : ℕ) → is_sort s of_lifetime ≡ false → IsListed (fold added (own_labels q) found) (infer s i) → lookup unknown_names (infer s i) ≡ question_unknown q further s i
  unknown-name s i h listed =
      ap₂ (λ (xs : List (List ℕ)) (us : List Label). lookup (zip xs us) (infer s i)) first-same all-same
      ∙ own-name variable_name (λ v. v.kind) (map numbered (range_with_len 1 (length found))) (map label_of further) s h q.variables i
      ∙ chosen variable_name (slice_get (variables_of_kind s q.variables) i) (lookup (zip (map numbered (range_with_len 1 (length found))) (map label_of further)) (infer s i)) (unknown_text further s i)
      (λ e. free-name numbered s i (length found) 1 further
      (ap (λ b. b || is_in s i further) (sym e) ∙ sym (listed-or q s i further h) ∙ ap (list_any (same_label (infer s i))) (sym all-same) ∙ listed h)
      short ∙ ap numbered (omega arith))

  unknown-agrees : (l : Label) → IsListed (fold added (own_labels q) found) l → Agrees (question_unknown q further) unknown_names l
  unknown-agrees (infer of_type i) h = unknown-name of_type i refl h
  unknown-agrees (infer of_const i) h = unknown-name of_const i refl h
  unknown-agrees l h = tt

  unknowns-agree : (ls : List Label) → AllByRecursion (IsListed (fold added (own_labels q) found)) ls → AllByRecursion (Agrees (question_unknown q further) unknown_names) ls
  unknowns-agree [] h = tt
  unknowns-agree (l ∷ ls) h = (unknown-agrees l h.0, unknowns-agree ls h.1)

  abbrev term_text : Trees → List ℕ
  term_text t = final_text (printed_trees d q.params unknown_names t)

  names-are : OfUnknowns unknown_names
  names-are = named-are first_names (fold added (own_labels q) found) (are-added found (own_labels q) (all-within with_values) (counted-are (map (λ v. v.kind) q.variables)))

  have-texts : (vs : List ((Variable × Label) × Trees)) → AllByRecursion (Agrees (question_unknown q further) unknown_names) (flat_map (λ v. unknowns_within v.1) vs) → HaveTexts (question_names d q further) term_text vs
  have-texts [] h = tt
  have-texts (v ∷ vs) h =
      (type-same d q.params (question_unknown q further) unknown_names names-are v.1 (all-left _ (unknowns_within v.1) (flat_map (λ v. unknowns_within v.1) vs) h), have-texts vs (all-right _ (unknowns_within v.1) (flat_map (λ v. unknowns_within v.1) vs) h))

  with-values-same : valued q.variables (own_unknowns q) ts ≡ map own_value with_values
  with-values-same =
      ap (λ us. valued q.variables us ts) (own-same q.variables 0 0 ∙ ap (map leaf) (sym (counted-from (map (λ v. v.kind) q.variables))))
      ∙ valued-same q.variables (own_labels q) ts

  pub yes-values-text-is : yes_values_text d q ts ≡ values_text (answer_values d q ts)
  yes-values-text-is =
      values-same (question_names d q further) term_text with_values (have-texts with_values (unknowns-agree found (all-listed (own_labels q) found)))
      ∙ ap (λ vs. values_text (value_texts d q vs)) (sym with-values-same)
