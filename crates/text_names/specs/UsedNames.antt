-- The names that occur in types where a type or a constant is expected.
use Rattle.std.specs.Prelude.{◌≡◌, ℕ, ◌||◌, List, [], ◌∷◌, ◌++◌, length, drop, map}
use Rattle.std.specs.Borrow.{Bor}
use Rattle.std.specs.List.{list_any}
use Rattle.std.specs.HashSet.{contains}
use Rattle.std.specs.Str.{bytes_eq}
use Rattle.type_terms.specs.Promised.Label.{Sort}
use Rattle.text_language.specs.Promised.Syntax.{TypeTree, Args, name_length}
use Rattle.text_language.specs.Promised.Declarations.{Declarations}
use Rattle.text_language.specs.Promised.Faults.{is_among}
use Rattle.text_language.specs.Faults.{is_name_use}
use Rattle.text_language.specs.Uses.{type_uses, args_uses}
use Rattle.text_lines.specs.TokenViews.{text_of}
use Rattle.text_lines.specs.Cells.{Cell, named_cell, array_cell, type_onto, args_onto}
use Rattle.text_names.specs.declared.name_set.NameSet.{NameSet}

abbrev pub name_of : Cell → List (List ℕ)
name_of (named_cell n start) = n ∷ []
name_of (array_cell (name_length n)) = n ∷ []
name_of _ = []

-- The names with those in these cells.
abbrev pub names_with : List Cell → List (List ℕ) → List (List ℕ)
names_with [] ns = ns
names_with (c ∷ cs) ns = names_with cs (name_of c ++ ns)

-- the set holds these names and no other
abbrev pub Holds : NameSet → List (List ℕ) → Type 0
Holds u ns = (n : Bor (List ℕ)) → is_among n.now (map text_of u.few.items) || contains (λ a b. bytes_eq a.now b.now) u.names n ≡ is_among n.now ns

-- The names in the cells of a type are those that it uses where a type or a constant is expected.
abbrev pub TypesUseNames : Type 0
TypesUseNames =
    (d : Declarations) (s : List (List (List ℕ))) (p : Sort) (t : TypeTree) (o : List Cell) (n : List ℕ) (ns : List (List ℕ))
    → is_among n (names_with (drop (length o) (type_onto t o)) ns) ≡ list_any (is_name_use n) (type_uses d s p t) || is_among n ns

abbrev pub ArgsUseNames : Type 0
ArgsUseNames =
    (d : Declarations) (s : List (List (List ℕ))) (ks : List Sort) (args : Args) (o : List Cell) (n : List ℕ) (ns : List (List ℕ))
    → is_among n (names_with (drop (length o) (args_onto args o)) ns) ≡ list_any (is_name_use n) (args_uses d s ks args) || is_among n ns
