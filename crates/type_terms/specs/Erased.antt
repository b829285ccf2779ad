-- Terms without lifetimes, and impls whose parameters are covered.
use Rattle.std.specs.Prelude.{◌≡◌, ℕ, ◌<◌, Bool, true, false, ◌||◌, ◌==◌}
use Rattle.type_terms.specs.Promised.Label.{param}
use Rattle.type_terms.specs.Promised.Trees.{Trees, none, tree, erase}
use Rattle.type_terms.specs.Promised.Worlds.{World, Reference, ImplDecl}
use Rattle.type_terms.specs.Promised.Erased.{erased_world}
use Rattle.type_terms.specs.Promised.Proofs.{In}

-- The terms have no lifetimes but `'static`, and no binder of lifetimes. For example, `fn(&'static u8)`, but not
-- `for<'a> fn(&'a u8)`.
abbrev pub IsErasedTerm : Trees → Type 0
IsErasedTerm t = erase t ≡ t

-- No term of the world has lifetimes. Otherwise `impl Show for for<'a> fn(&'a u8)` and `impl Show for fn(&'static u8)`
-- would have no common instance.
abbrev pub IsTerms : World → Type 0
IsTerms W = erased_world W ≡ W

-- The terms mention parameter i.
abbrev pub mentions : ℕ → Trees → Bool
mentions i none = false
mentions i (tree (param s j) c o) = (i == j) || mentions i o
mentions i (tree l c o) = mentions i c || mentions i o

-- The parameters of the header are below the impl's number of parameters, and those of the where-clauses are in the
-- header. Texts ensure this of type and const parameters. Lifetimes are erased. Ruled out:
-- `impl<T> Show for u8 where T: Show`.
pub record IsCovered (i : ImplDecl) : Type 0 where
  pub below : (j : ℕ) → mentions j i.header.args ≡ true → j < i.params
  pub in_header : (k : Reference) → In k i.clauses → (j : ℕ) → mentions j k.args ≡ true → mentions j i.header.args ≡ true
