-- The impls that later versions add, with their types as terms.
use Rattle.std.specs.Prelude.{ℕ, zero, List, map, length}
use Rattle.type_terms.specs.Promised.Label.{Sort}
use Rattle.type_terms.specs.Promised.Worlds.{ImplDecl}
use Rattle.text_language.specs.Promised.Declarations.{Declarations, section_impls}
use Rattle.type_terms.specs.Promised.Handles.{Entry}
use Rattle.declarations.specs.declared.items.ImplDef.{ImplDef}
use Rattle.declarations.specs.Applied.{sort_of_param}
use Rattle.declarations.specs.Items.{reference_in}
use Rattle.text_lowering.specs.Promised.SeenWorlds.{plain_impl}
use Rattle.text_lowering.specs.Seen.{param_sorts}

-- An added impl has a number in its section alone, so it is read without it: the number is 0.
abbrev pub unnumbered : ImplDecl → ImplDecl
unnumbered i = record i { name = zero }

-- The impls of section k of the text, in order, as rules are read from them: without binders, like those that a crate sees.
abbrev pub added_impls : Declarations → ℕ → List ImplDecl
added_impls d k = map (λ i. unnumbered (plain_impl i.item)) (section_impls d k)

-- The kinds of their parameters.
abbrev pub added_sorts : Declarations → ℕ → List (List Sort)
added_sorts d k = map param_sorts (section_impls d k)

-- ---- over the terms of an interner
abbrev pub added_in : List Entry → ImplDef → ImplDecl
added_in es def = record { name = zero; home = def.home.index; params = length def.params.items; header = reference_in es def.header; clauses = map (reference_in es) def.clauses.items }

abbrev pub sorts_of_added : ImplDef → List Sort
sorts_of_added def = map sort_of_param def.params.items
