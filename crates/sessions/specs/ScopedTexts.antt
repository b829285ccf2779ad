-- What the impls of a text write is in scope of their crates.
use Rattle.std.specs.Prelude.{IsTrue, List, ◌++◌, map}
use Rattle.type_terms.specs.Promised.Proofs.{In}
use Rattle.type_terms.specs.Promised.Erased.{erased_reference}
use Rattle.type_terms.specs.Promised.Versions.{in_scope}
use Rattle.type_terms.specs.Promised.Worlds.{Reference}
use Rattle.text_language.specs.Promised.Declarations.{Declarations, NamedImpl}
use Rattle.sessions.specs.Promised.Promises.{view_in}
use Rattle.sessions.specs.Promised.Subjects.{IsOfText}

-- All impls of a text: those that its crates have, and those that later versions add.
abbrev pub written_impls : Declarations → List NamedImpl
written_impls d = d.impls ++ map (λ i. i.added) d.later_impls

-- The header and the where-clauses name only what the impl's crate sees of the text, and are written as the grammar says.
pub record IsInScope (d : Declarations) (i : NamedImpl) : Type 0 where
  pub header : IsTrue (in_scope (view_in d i.item.home) i.item.home (erased_reference i.item.header))
  pub clauses : (r : Reference) → In r i.item.clauses → IsTrue (in_scope (view_in d i.item.home) i.item.home (erased_reference r))

-- This holds for each impl of a text without a fault.
abbrev pub ImplsAreInScope : Type 0
ImplsAreInScope = (d : Declarations) → IsOfText d → (i : NamedImpl) → In i (written_impls d) → IsInScope d i
