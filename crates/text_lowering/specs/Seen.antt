-- What a crate sees of a text's declarations, and the kinds of the parameters of items over an interner.
use Rattle.std.specs.Prelude.{◌≡◌, ℕ, true, List, [], ◌∷◌, map, filter}
use Rattle.type_terms.specs.Promised.Label.{Sort, of_type}
use Rattle.type_terms.specs.Promised.Erased.{erased_world}
use Rattle.type_terms.specs.Promised.Worlds.{World, sees, view_of}
use Rattle.text_language.specs.Promised.Declarations as text
use Rattle.text_language.specs.Promised.Declarations.{world_of}
use Rattle.type_terms.specs.declared.AdtId.{AdtId}
use Rattle.type_terms.specs.declared.TraitId.{TraitId}
use Rattle.declarations.specs.declared.items.AdtDef.{AdtDef}
use Rattle.declarations.specs.declared.items.TraitDef.{TraitDef}
use Rattle.declarations.specs.Applied.{sort_of_param}
use Rattle.declarations.specs.Heads.{begins_declared}
use Rattle.declarations.specs.Items.{HeldImpl}
use Rattle.text_tables.specs.Numbered.{EachNumbered}

-- The same without lifetimes, as rules are read from it.
abbrev pub rules_seen_from : text.Declarations → ℕ → World
rules_seen_from d c = record (view_of (erased_world (world_of d)) c) { crates = [] }

-- ---- the kinds of an item's parameters
abbrev pub struct_sorts : AdtId × AdtDef → List Sort
struct_sorts x = map sort_of_param x.1.params.items

abbrev pub trait_sorts : TraitId × TraitDef → List Sort
trait_sorts x = map sort_of_param x.1.params.items

abbrev pub impl_sorts : HeldImpl → List Sort
impl_sorts i = map sort_of_param i.def.params.items

-- ---- the items that crate c sees; a trait has Self before its written parameters
abbrev pub struct_sorts_seen : text.Declarations → ℕ → List (List Sort)
struct_sorts_seen d c = map (λ s. s.kinds) (filter (λ s. sees (world_of d) c s.item.home) d.structs)

abbrev pub trait_sorts_seen : text.Declarations → ℕ → List (List Sort)
trait_sorts_seen d c = map (λ t. of_type ∷ t.kinds) (filter (λ t. sees (world_of d) c t.item.home) d.traits)

abbrev pub param_sorts : text.NamedImpl → List Sort
param_sorts i = map (λ p. p.1) i.params

abbrev pub impl_sorts_seen : text.Declarations → ℕ → List (List Sort)
impl_sorts_seen d c = map param_sorts (filter (λ i. sees (world_of d) c i.item.home) d.impls)

-- The self type of each impl is a parameter, or begins with no variable or placeholder.
abbrev pub BeginDeclared : text.Declarations → Type 0
BeginDeclared d = EachNumbered (λ k i. begins_declared i.item.header.args ≡ true) d.impls

-- The same for the impls that later versions add.
abbrev pub LaterBeginDeclared : text.Declarations → Type 0
LaterBeginDeclared d = EachNumbered (λ k i. begins_declared i.added.item.header.args ≡ true) d.later_impls
