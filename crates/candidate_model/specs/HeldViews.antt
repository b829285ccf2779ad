-- Views of declarations whose terms are of an interner: the conditions that remain to be checked.
use Rattle.std.specs.Prelude.{◌≡◌, Bool, true, ◌&&◌, not, List, map}
use Rattle.type_terms.specs.Promised.Trees.{some_node}
use Rattle.type_terms.specs.Promised.Worlds.{World, StructDecl}
use Rattle.type_terms.specs.Promised.LinkedSet.{is_stray}
use Rattle.type_terms.specs.LinkedSet.{all_written}
use Rattle.type_terms.specs.Promised.Handles.{Entry}
use Rattle.type_terms.specs.Terms.{Lawful}
use Rattle.declarations.specs.Items.{Items, declared}
use Rattle.declarations.specs.Held.{AreHeld}
use Rattle.candidate_model.specs.Declared.{parameters_are_sorted}
use Rattle.candidate_model.specs.DeclaredWell.{IsDeclaredWell, impls_are_determined, bounds_lead_down, are_distinct}

-- All open places are parameters. Parameters of where-clauses occur in headers, and have one kind there. Supertraits form no cycle. No two
-- structs have one name.
abbrev pub is_written_well : World → Bool
is_written_well V =
    all_written (λ t. not (some_node is_stray t)) V
    && (impls_are_determined V && (parameters_are_sorted V && (bounds_lead_down V && are_distinct (map (λ (x : StructDecl). x.name) V.structs))))

-- The other conditions hold of all declarations of an interner: terms are well-formed and without lifetimes, and a field is one term.
abbrev pub HeldIsDeclaredWell : Type 0
HeldIsDeclaredWell = (es : List Entry) → Lawful es → (d : Items) → AreHeld es d → is_written_well (declared es d) ≡ true → IsDeclaredWell (declared es d)
