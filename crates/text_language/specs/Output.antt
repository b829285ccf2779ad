-- The printed lines, as text.
use Rattle.std.specs.Prelude.{ℕ, suc, Bool, true, false, List, [], ◌∷◌, ◌++◌, map, Option, Some, None, codes, ◌==◌, ◌&&◌, if◌then◌else◌}
use Rattle.std.specs.Fmt.{decimal}
use Rattle.std.specs.List.{list_any}
use Rattle.type_terms.specs.Promised.Label.{Label, Sort, of_lifetime, bool, char, str, never, array, slice, tuple, dynamic, static, int, uint, adt, fn_ptr, auto_trait, value, ref, raw_pointer, principal, param, placeholder, infer, canonical, bound, predicate}
use Rattle.type_terms.specs.Promised.Trees.{Trees, none, tree, sort_of, is_sort}
use Rattle.type_terms.specs.Trees.{is_no_tree}

-- ---- types
-- A text for each struct, trait, parameter of a declaration or of a query, and variable.
pub record Names : Type 0 where
  pub of_struct : ℕ → List ℕ
  pub of_trait : ℕ → List ℕ
  pub of_param : Sort → ℕ → List ℕ
  pub of_placeholder : Sort → ℕ → List ℕ
  pub of_unknown : Sort → ℕ → List ℕ

-- The texts, with this one between each two.
abbrev pub between : List ℕ → List (List ℕ) → List ℕ
between c [] = []
between c (t ∷ []) = t
between c (t ∷ u ∷ ts) = t ++ c ++ between c (u ∷ ts)

abbrev pub angled : List (List ℕ) → List ℕ
angled [] = []
angled (t ∷ ts) = codes "<" ++ between (codes ", ") (t ∷ ts) ++ codes ">"

abbrev pub tuple_text : List (List ℕ) → List ℕ
tuple_text (t ∷ []) = codes "(" ++ t ++ codes ",)"
tuple_text ts = codes "(" ++ between (codes ", ") ts ++ codes ")"

-- The inputs of a fn. The last text is the output.
abbrev pub inputs : List (List ℕ) → List (List ℕ)
inputs [] = []
inputs (t ∷ []) = []
inputs (t ∷ u ∷ ts) = t ∷ inputs (u ∷ ts)

abbrev pub last_text : List (List ℕ) → List ℕ
last_text [] = []
last_text (t ∷ []) = t
last_text (t ∷ u ∷ ts) = last_text (u ∷ ts)

-- The last term is `()`.
abbrev pub is_unit : Label → Trees → Bool
is_unit tuple c = is_no_tree c
is_unit _ c = false

abbrev pub ends_in_unit : Trees → Bool
ends_in_unit none = false
ends_in_unit (tree l c o) = if is_no_tree o then is_unit l c else ends_in_unit o

-- The output of a fn after its inputs. It is empty for `()`.
abbrev pub output_part : Trees → List ℕ → List ℕ
output_part c t = if ends_in_unit c then [] else codes " -> " ++ t

abbrev pub int_name : ℕ → List ℕ
int_name n = if n == 0 then codes "8" else (if n == 1 then codes "16" else (if n == 2 then codes "32" else (if n == 3 then codes "64" else (if n == 4 then codes "128" else codes "size"))))

-- The text of a node, by the texts of its children.
abbrev pub node_text : Names → Label → Trees → List (List ℕ) → List ℕ
node_text N bool c ts = codes "bool"
node_text N char c ts = codes "char"
node_text N str c ts = codes "str"
node_text N never c ts = codes "!"
node_text N (int n) c ts = codes "i" ++ int_name n
node_text N (uint n) c ts = codes "u" ++ int_name n
node_text N (adt s) c ts = N.of_struct s ++ angled ts
node_text N (ref false) c ts = codes "&" ++ last_text ts
node_text N (ref true) c ts = codes "&mut " ++ last_text ts
node_text N (raw_pointer false) c ts = codes "*const " ++ last_text ts
node_text N (raw_pointer true) c ts = codes "*mut " ++ last_text ts
node_text N slice c ts = codes "[" ++ last_text ts ++ codes "]"
node_text N array c ts = codes "[" ++ between (codes "; ") ts ++ codes "]"
node_text N tuple c ts = tuple_text ts
node_text N (fn_ptr n) c ts = codes "fn(" ++ between (codes ", ") (inputs ts) ++ codes ")" ++ output_part c (last_text ts)
node_text N dynamic c ts = codes "dyn " ++ between (codes " + ") ts
node_text N (principal n t) c ts = N.of_trait t ++ angled ts
node_text N (auto_trait t) c ts = N.of_trait t
node_text N (value n) c ts = decimal n
node_text N (param s i) c ts = N.of_param s i
node_text N (placeholder s i) c ts = N.of_placeholder s i
node_text N (infer s i) c ts = N.of_unknown s i
-- Not printed.
node_text N static c ts = []
node_text N (canonical s i) c ts = []
node_text N (bound s k v) c ts = []
node_text N (predicate k) c ts = []

-- The texts of the terms, one after the other, without lifetimes.
abbrev pub texts : Names → Trees → List (List ℕ)
texts N none = []
texts N (tree l c o) = if is_sort (sort_of l) of_lifetime then texts N o else node_text N l c (texts N c) ∷ texts N o

-- The text of one type or constant.
abbrev pub type_text : Names → Trees → List ℕ
type_text N t = last_text (texts N t)

-- ---- values of a query's variables
-- The variable is in the list. The list has the inference variables that are not in the query, each once, in the order
-- in which they first occur.
abbrev pub is_in : Sort → ℕ → List (Sort × ℕ) → Bool
is_in s i us = list_any (λ u. is_sort u.0 s && (u.1 == i)) us

abbrev pub with_unknown : Label → List (Sort × ℕ) → List (Sort × ℕ)
with_unknown (infer of_lifetime i) us = us
with_unknown (infer s i) us = if is_in s i us then us else us ++ (s, i) ∷ []
with_unknown _ us = us

abbrev pub with_unknowns : Trees → List (Sort × ℕ) → List (Sort × ℕ)
with_unknowns none us = us
with_unknowns (tree l c o) us = with_unknowns o (with_unknowns c (with_unknown l us))

abbrev pub place_in : Sort → ℕ → List (Sort × ℕ) → ℕ
place_in s i [] = 0
place_in s i (u ∷ us) = if is_sort u.0 s && (u.1 == i) then 0 else suc (place_in s i us)

-- `?1`, `?2` and so on, in the order in which they first occur in the line.
abbrev pub unknown_text : List (Sort × ℕ) → Sort → ℕ → List ℕ
unknown_text us s i = codes "?" ++ decimal (suc (place_in s i us))

-- ---- lines
-- A value of a variable: `?x = T`.
pub record ValueText : Type 0 where
  pub variable : List ℕ
  pub term : List ℕ

-- A printed line. Crates have their names, impls and queries their numbers from 1, and types their texts.
pub data Answer : Type 0 where
  fault : (line number : ℕ) → Answer
  accepted : (name : List ℕ) → Answer
  nonlocal : (name : List ℕ) (impl : ℕ) → Answer
  uncovered : (name : List ℕ) (impl : ℕ) (param : List ℕ) (before : Option (List ℕ)) → Answer
  overlap : (name : List ℕ) (impl : ℕ) (other : List ℕ) (other_impl : ℕ) → Answer
  compatible : (name : List ℕ) → Answer
  breaking : (name : List ℕ) (impl : ℕ) → Answer
  held : (name : List ℕ) → Answer
  missing undecided : (name : List ℕ) (impl clause : ℕ) → Answer
  yes maybe : (question : ℕ) (values : List ValueText) → Answer
  unproved no unrefuted : (question : ℕ) → Answer

abbrev pub crate_start : List ℕ → List ℕ
crate_start n = codes "crate " ++ n ++ codes ": "

abbrev pub later_start : List ℕ → List ℕ
later_start n = codes "later " ++ n ++ codes ": "

abbrev pub supers_start : List ℕ → List ℕ
supers_start n = codes "supers " ++ n ++ codes ": "

-- An impl of the crate, and a supertrait of its header, numbered from 1.
abbrev pub clause_text : ℕ → ℕ → List ℕ
clause_text k j = codes " impl " ++ decimal k ++ codes " clause " ++ decimal j

abbrev pub prove_start : ℕ → List ℕ
prove_start q = codes "prove " ++ decimal q ++ codes ": "

abbrev pub refute_start : ℕ → List ℕ
refute_start q = codes "refute " ++ decimal q ++ codes ": "

abbrev pub value_text : ValueText → List ℕ
value_text v = codes "?" ++ v.variable ++ codes " = " ++ v.term

abbrev pub values_text : List ValueText → List ℕ
values_text [] = []
values_text (v ∷ vs) = codes " " ++ between (codes ", ") (map value_text (v ∷ vs))

abbrev pub before_text : Option (List ℕ) → List ℕ
before_text None = []
before_text (Some u) = codes " before " ++ u

abbrev pub answer_text : Answer → List ℕ
answer_text (fault l n) = codes "line " ++ decimal l ++ codes ": fault " ++ decimal n
answer_text (accepted n) = crate_start n ++ codes "accepted"
answer_text (nonlocal n k) = crate_start n ++ codes "orphan impl " ++ decimal k ++ codes " nonlocal"
answer_text (uncovered n k t u) = crate_start n ++ codes "orphan impl " ++ decimal k ++ codes " uncovered " ++ t ++ before_text u
answer_text (overlap n k o j) = crate_start n ++ codes "overlap impl " ++ decimal k ++ codes " with " ++ o ++ codes " " ++ decimal j
answer_text (compatible n) = later_start n ++ codes "compatible"
answer_text (breaking n k) = later_start n ++ codes "breaking impl " ++ decimal k
answer_text (held n) = supers_start n ++ codes "held"
answer_text (missing n k j) = supers_start n ++ codes "missing" ++ clause_text k j
answer_text (undecided n k j) = supers_start n ++ codes "undecided" ++ clause_text k j
answer_text (yes q vs) = prove_start q ++ codes "yes" ++ values_text vs
answer_text (maybe q vs) = prove_start q ++ codes "maybe" ++ values_text vs
answer_text (unproved q) = prove_start q ++ codes "unproved"
answer_text (no q) = refute_start q ++ codes "no"
answer_text (unrefuted q) = refute_start q ++ codes "open"

-- The line with its newline.
abbrev pub output_text : Answer → List ℕ
output_text a = answer_text a ++ 10 ∷ []
