-- How many terms are made at most of the declarations that a crate sees.
use Rattle.std.specs.Prelude.{ℕ, ◌+◌, ◌*◌, sum_by, if◌then◌else◌}
use Rattle.type_terms.specs.Promised.Worlds.{StructDecl, TraitDecl, ImplDecl, sees}
use Rattle.text_language.specs.Promised.Declarations as text
use Rattle.text_language.specs.Promised.Declarations.{world_of}
use Rattle.text_tables.specs.TermCounts.{parts, reference_terms}

abbrev pub struct_terms : StructDecl → ℕ
struct_terms x = 2 * sum_by parts x.fields

abbrev pub trait_terms : TraitDecl → ℕ
trait_terms x = sum_by reference_terms x.bounds

abbrev pub impl_terms : ImplDecl → ℕ
impl_terms x = reference_terms x.header + sum_by reference_terms x.clauses

-- ---- the items of a text that crate c sees
abbrev pub struct_terms_seen : text.Declarations → ℕ → text.NamedStruct → ℕ
struct_terms_seen d c s = if sees (world_of d) c s.item.home then struct_terms s.item else 0

abbrev pub trait_terms_seen : text.Declarations → ℕ → text.NamedTrait → ℕ
trait_terms_seen d c t = if sees (world_of d) c t.item.home then trait_terms t.item else 0

abbrev pub impl_terms_seen : text.Declarations → ℕ → text.NamedImpl → ℕ
impl_terms_seen d c i = if sees (world_of d) c i.item.home then impl_terms i.item else 0

-- An upper bound for the terms that are made of all that crate c sees.
abbrev pub most_terms : text.Declarations → ℕ → ℕ
most_terms d c = sum_by (struct_terms_seen d c) d.structs + sum_by (trait_terms_seen d c) d.traits + sum_by (impl_terms_seen d c) d.impls
