-- The numbers of the impls that a crate sees of a text.
use Rattle.std.specs.Prelude.{◌≡◌, ℕ, List, length}
use Rattle.type_terms.specs.Promised.Proofs.{In}
use Rattle.type_terms.specs.Promised.Worlds.{ImplDecl}
use Rattle.type_terms.specs.Promised.Handles.{Entry}
use Rattle.declarations.specs.Items.{Items, IsAbove, written, declared}
use Rattle.text_language.specs.Promised.Declarations.{Declarations}
use Rattle.text_tables.specs.Numbered.{IsNumbered}
use Rattle.text_lowering.specs.Promised.SeenWorlds.{plainly_seen_from}

-- All are below n, and each number is that of one impl alone.
pub record HaveNumbersBelow (n : ℕ) (es : List Entry) (decls : Items) : Type 0 where
  pub above : IsAbove n decls
  pub own : (x y : ImplDecl) → In x (declared es decls).impls → In y (declared es decls).impls → x.name ≡ y.name → x ≡ y

-- If numbers are indices, they are below the number of all impls of the text.
abbrev pub ImplsAreNumbered : Type 0
ImplsAreNumbered =
    (d : Declarations) → IsNumbered d → (c : ℕ) (es : List Entry) (decls : Items) → written es decls ≡ plainly_seen_from d c → HaveNumbersBelow (length d.impls) es decls
