-- The tables of a text: what they declare, and when they agree with one another.
use Rattle.std.specs.Prelude.{◌≡◌, ℕ, suc, Bool, false, not, ◌&&◌, ◌||◌, nat_eq, List, [], ◌∷◌, ◌++◌, length, map, take, count_by, Option, Some, None, slice_get, unwrap_or, find, codes, ◌==◌}
use Rattle.std.specs.List.{list_any, starts_with}
use Rattle.std.specs.List.Sorted.{IsNonDecreasingBy}
use Rattle.std.specs.Option.{option_map, option_or}
use Rattle.std.specs.Str.{bytes_eq}
use Rattle.std.specs.HashMap.{get_by}
use Rattle.type_terms.specs.Promised.Worlds.{World, core, sees}
use Rattle.text_language.specs.Promised.Declarations.{Declarations, NamedCrate, NamedStruct, NamedTrait, NamedImpl, LaterImpl, Question, Known, a_crate, world_of, last_crate, last_later}
use Rattle.text_language.specs.Promised.Faults.{is_among, last_items}
use Rattle.type_terms.specs.declared.CrateId.{CrateId}
use Rattle.text_tables.specs.declared.tables.Tables.{Tables}
use Rattle.text_tables.specs.declared.declared.ImplEntry.{ImplEntry}
use Rattle.text_tables.specs.declared.declared.Named.{Named}
use Rattle.text_tables.specs.declared.declared.Named.TheVariants as named
use Rattle.text_tables.specs.Numbered.{EachNumbered, IsNumbered}
use Rattle.text_tables.specs.Made.{AreMade, ReferenceMade, ReferencesMade, is_type}
use Rattle.text_tables.specs.Views.{crate_of, struct_of, trait_of, impl_of, question_of, numbers_of, later_impl_of, check_of}

-- what the tables declare
abbrev pub declared : Tables → Declarations
declared t = record {
  crates = map crate_of t.crates.items;
  structs = map struct_of t.structs.items;
  traits = map trait_of t.traits.items;
  impls = map impl_of t.impls.items;
  questions = map question_of t.questions.items;
  sections = numbers_of t.sections.items;
  later_impls = map later_impl_of t.later_impls.items;
  checks = map check_of t.checks.items;
  in_section = t.in_section;
}

-- ---- added after what there is
abbrev pub with_crate : Declarations → NamedCrate → Declarations
with_crate d c = record d { crates = d.crates ++ c ∷ []; in_section = false }

abbrev pub with_struct : Declarations → NamedStruct → Declarations
with_struct d s = record d { structs = d.structs ++ s ∷ [] }

abbrev pub with_trait : Declarations → NamedTrait → Declarations
with_trait d t = record d { traits = d.traits ++ t ∷ [] }

abbrev pub with_impl : Declarations → NamedImpl → Declarations
with_impl d i = record d { impls = d.impls ++ i ∷ [] }

abbrev pub with_question : Declarations → Question → Declarations
with_question d q = record d { questions = d.questions ++ q ∷ [] }

abbrev pub with_later : Declarations → LaterImpl → Declarations
with_later d i = record d { later_impls = d.later_impls ++ i ∷ [] }

-- the crate `core` without its items
abbrev pub core_alone : Declarations
core_alone = record { crates = record { text = codes "core"; item = record { name = core; uses = [] } } ∷ []; structs = []; traits = []; impls = []; questions = []; sections = []; later_impls = []; checks = []; in_section = false }

-- a crate's number, its name, and the crates that it uses
abbrev pub new_crate : ℕ → List ℕ → List CrateId → NamedCrate
new_crate c n us = record { text = n; item = record { name = c; uses = numbers_of us } }

-- what the tables declare, with a crate of this name that uses these
abbrev pub with_new_crate : Tables → List ℕ → List CrateId → Declarations
with_new_crate t n us = with_crate (declared t) (new_crate (length t.crates.items) n us)

-- ---- the item of a name, by its number
pub data NamedItem : Type 0 where
  crate_item struct_item trait_item : (number : ℕ) → NamedItem

abbrev pub named_item : Named → NamedItem
named_item (named.Crate k) = crate_item k.index
named_item (named.Struct k) = struct_item k.index
named_item (named.Trait k) = trait_item k.index

abbrev pub crate_named : List NamedCrate → List ℕ → Option NamedItem
crate_named cs n = option_map (λ c. crate_item c.item.name) (find (λ c. bytes_eq c.text n) cs)

abbrev pub struct_named : List NamedStruct → List ℕ → Option NamedItem
struct_named ss n = option_map (λ s. struct_item s.item.name) (find (λ s. bytes_eq s.text n) ss)

abbrev pub trait_named : List NamedTrait → List ℕ → Option NamedItem
trait_named ts n = option_map (λ t. trait_item t.item.name) (find (λ t. bytes_eq t.text n) ts)

abbrev pub item_named : Declarations → List ℕ → Option NamedItem
item_named d n = option_or (crate_named d.crates n) (option_or (struct_named d.structs n) (trait_named d.traits n))

abbrev pub number_of_crate : Known → Option ℕ
number_of_crate (a_crate k) = Some k
number_of_crate _ = None

-- the name begins so, and is none of these
abbrev pub has_name_besides : (front : List ℕ) (names : List (List ℕ)) → List ℕ → Bool
has_name_besides front names n = starts_with nat_eq n front && not (is_among n names)

-- ---- the view of a crate
-- The list marks each crate that crate c sees. After its end nothing is marked.
abbrev pub MarksSeen : World → ℕ → List Bool → Type 0
MarksSeen W c row = (e : ℕ) → unwrap_or (slice_get row e) false ≡ sees W c e

-- a new crate that uses these sees `core` and what they see
abbrev pub will_see : World → List CrateId → ℕ → Bool
will_see W us e = (e == core) || list_any (λ u. sees W u.index e) us

-- how many impls of crate c are among these
abbrev pub impls_of : ℕ → List ImplEntry → ℕ
impls_of c is = count_by (λ i. i.owner.index == c) is

-- all cells are made as types or as arguments are
pub record AllCellsMade (t : Tables) : Type 0 where
  pub fields : EachNumbered (λ k s. AreMade is_type s.fields.items) t.structs.items
  pub bounds : EachNumbered (λ k x. ReferencesMade x.bounds.items) t.traits.items
  pub headers : EachNumbered (λ k i. ReferenceMade i.header) t.impls.items
  pub clauses : EachNumbered (λ k i. ReferencesMade i.clauses.items) t.impls.items
  pub asked : EachNumbered (λ k q. ReferencesMade (q.asked ∷ q.further.items)) t.questions.items
  pub given : EachNumbered (λ k q. ReferencesMade q.clauses.items) t.questions.items
  pub later_headers : EachNumbered (λ k i. ReferenceMade i.entry.header) t.later_impls.items
  pub later_clauses : EachNumbered (λ k i. ReferencesMade i.entry.clauses.items) t.later_impls.items

-- the tables agree with what they declare
pub record IsConsistent (t : Tables) : Type 0 where
  pub numbered : IsNumbered (declared t)
  pub ids : numbers_of t.ids.items ≡ map (λ c. c.id.index) t.crates.items
  pub asked : t.asked.items ≡ map (λ q. q.asked_how) t.questions.items
  pub rows : EachNumbered (λ c entry. MarksSeen (world_of (declared t)) c entry.sees.items) t.crates.items
  pub names : (n : List ℕ) → option_map named_item (get_by (λ k. bytes_eq n k.items) t.names) ≡ item_named (declared t) n
  pub numbers : EachNumbered (λ k i. i.number_in_crate ≡ impls_of i.owner.index (take (suc k) t.impls.items)) t.impls.items
  pub last_impls : t.last_impls ≡ impls_of (last_crate (declared t)) t.impls.items
  pub last_items : t.last_items ≡ last_items (declared t)
  pub last_later : t.last_later ≡ last_later (declared t)
  pub sections_rise : IsNonDecreasingBy (λ i. i.section) t.later_impls.items
  pub made : AllCellsMade t
