-- The instances of a goal's values that a response covers, and tables that constrain only their own variables.
use Rattle.std.specs.Prelude.{◌≡◌, ◌<◌, ℕ, List, Some, option_map}
use Rattle.std.specs.List.{slice_get}
use Rattle.type_terms.specs.Promised.Label.{Sort, of_type, of_const, infer, canonical}
use Rattle.type_terms.specs.Promised.Trees.{Trees, none, tree, erase_label}
use Rattle.type_terms.specs.Promised.Handles.{Entry}
use Rattle.type_terms.specs.Kinds.{args_trees}
use Rattle.type_terms.specs.declared.kinds.GenericArgKind.{GenericArgKind}
use Rattle.infer_table.specs.Solutions.{Assignment, IsSorted, Binding, Solves}
use Rattle.infer_table.specs.Content.{Table, content, variables_of}
use Rattle.infer_table.specs.declared.canonical.CanonicalVarKind.{CanonicalVarKind}
use Rattle.infer_table.specs.declared.response.CanonicalResponse.{CanonicalResponse}
use Rattle.infer_table.specs.Raw.{sort_of_kind}

-- the trees of a response with assigned trees for its type and const variables, up to lifetimes
abbrev pub chosen : Assignment → Trees → Trees
chosen q none = none
chosen q (tree (canonical of_type i) c o) = tree (q of_type i).0 (q of_type i).1 (chosen q o)
chosen q (tree (canonical of_const i) c o) = tree (q of_const i).0 (q of_const i).1 (chosen q o)
chosen q (tree l c o) = tree (erase_label l) (chosen q c) (chosen q o)

-- a response with these values covers these instances of the goal's values: some assignment makes them equal
abbrev pub Agrees : Trees → Trees → Type 0
Agrees a v = (q : Assignment) × IsSorted q × (chosen q a ≡ v)

-- each variable in the trees of a response is a canonical leaf, of the kind that its number has
abbrev pub AreNumbered : List CanonicalVarKind → Trees → Type 0
AreNumbered ks none = Unit {0}
AreNumbered ks (tree (canonical s i) c o) = (option_map sort_of_kind (slice_get ks i) ≡ Some s) × (c ≡ none) × AreNumbered ks o
AreNumbered ks (tree (infer s v) c o) = ⊥
AreNumbered ks (tree l c o) = AreNumbered ks c × AreNumbered ks o

-- the number of each inference variable in the trees is less than the count of its kind
abbrev pub AreKnown : (Sort → ℕ) → Trees → Type 0
AreKnown counts none = Unit {0}
AreKnown counts (tree (infer s v) c o) = (v < counts s) × AreKnown counts c × AreKnown counts o
AreKnown counts (tree l c o) = AreKnown counts c × AreKnown counts o

-- the assignments are equal at the variables whose numbers are less than these counts
abbrev pub Continues : (Sort → ℕ) → Assignment → Assignment → Type 0
Continues counts s r = (k : Sort) (v : ℕ) → v < counts k → r k v ≡ s k v

-- the table constrains no other variables: each assignment that continues a solution is a solution
abbrev pub IsOfKnown : (Sort → ℕ) → List Binding → Type 0
IsOfKnown counts bs = (s r : Assignment) → Solves s bs → IsSorted r → Continues counts s r → Solves r bs

-- the solutions of the second table are those of the first, except at further variables
pub record HaveSameSolutions (counts : Sort → ℕ) (old new : List Binding) : Type 0 where
  pub forth : (s : Assignment) → Solves s old → (r : Assignment) × Continues counts s r × Solves r new
  pub back : (s : Assignment) → Solves s new → Solves s old

-- the response's variables are of its kinds, and the goal's values and the table are over the table's variables
pub record IsWellPosed (es : List Entry) (t : Table) (originals : List GenericArgKind) (r : CanonicalResponse) : Type 0 where
  pub numbered : AreNumbered r.variables.items (args_trees es r.var_values.items)
  pub values_known : AreKnown (variables_of t) (args_trees es originals)
  pub table_known : IsOfKnown (variables_of t) (content es t.values)
