-- How many terms are made of types at most.
use Rattle.std.specs.Prelude.{ℕ, suc, ◌+◌, ◌*◌}
use Rattle.type_terms.specs.Promised.Trees.{Trees, none, tree}
use Rattle.type_terms.specs.Promised.Worlds.{Reference}

-- How many parts a term has. Each of them is a term, and may have a list of its parts.
abbrev pub parts : Trees → ℕ
parts none = 0
parts (tree l c o) = suc (parts c + parts o)

-- For a trait reference, the list of its arguments is one more.
abbrev pub reference_terms : Reference → ℕ
reference_terms r = 2 * parts r.args + 1
