-- The binders around a node.
use Rattle.std.specs.Prelude.{ℕ, List, [], ◌∷◌, replicate, reverse, ◌++◌}
use Rattle.type_terms.specs.declared.binders.Binders.{Binders, Outermost, Inside', Empty, Listed'}

-- How many lifetimes each binder binds, the innermost first.
abbrev pub counts_of : Binders → List ℕ
counts_of Outermost = []
counts_of (Inside' n p outer) = n ∷ counts_of outer
counts_of (Empty n) = replicate n 0
counts_of (Listed' ns p outer) = reverse ns.now ++ counts_of outer
