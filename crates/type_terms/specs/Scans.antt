-- What a scan of a value finds.
use Rattle.std.specs.Prelude.{ℕ, ◌+◌, List, [], ◌∷◌, length, bit_and, leb, not, ◌||◌, ◌==◌, Bool, true, false}
use Rattle.type_terms.specs.Promised.Label.{Label, param, infer, bound, inside}
use Rattle.type_terms.specs.Promised.Trees.{Trees, none, tree, some_node}
use Rattle.type_terms.specs.Trees.{label_flags}
use Rattle.type_terms.specs.Pieces.{Piece}

-- Some node of the value passes the test.
abbrev pub some_node_of : (Label → Bool) → List Piece → Bool
some_node_of test [] = false
some_node_of test (p ∷ ps) = some_node test p.trees || some_node_of test ps

-- The label has one of these flags.
abbrev pub has_flag : ℕ → Label → Bool
has_flag wanted l = not (bit_and (label_flags l) wanted == 0)

-- The label is that of a parameter of any kind.
abbrev pub is_any_param : Label → Bool
is_any_param (param s i) = true
is_any_param _ = false

abbrev pub is_infer : Label → Bool
is_infer (infer s i) = true
is_infer _ = false

-- The label is that of a variable that is bound by binder k or by one further out.
abbrev pub is_bound_from : ℕ → Label → Bool
is_bound_from k (bound s n v) = leb k n
is_bound_from k _ = false

-- Some node of the terms is such a variable, where k is the number of the binder outside of the terms.
abbrev pub some_bound_from : ℕ → Trees → Bool
some_bound_from k none = false
some_bound_from k (tree l c o) = is_bound_from k l || some_bound_from (inside l k) c || some_bound_from k o

-- Some node of the value is such a variable.
abbrev pub some_bound_of : ℕ → List Piece → Bool
some_bound_of k [] = false
some_bound_of k (p ∷ ps) = some_bound_from (length p.counts + k) p.trees || some_bound_of k ps
