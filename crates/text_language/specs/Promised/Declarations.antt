-- What a text declares, and which queries and checks it contains.
use Rattle.std.specs.Prelude.{ℕ, ◌-◌, ◌==◌, if◌then◌else◌, Bool, List, ◌++◌, map, filter, length, count_by, slice_get, unwrap_or, Option, find}
use Rattle.std.specs.Option.{option_map, option_or}
use Rattle.std.specs.Str.{bytes_eq}
use Rattle.type_terms.specs.Promised.Label.{Sort, of_type, of_const, of_lifetime}
use Rattle.type_terms.specs.Promised.Worlds.{World, Reference, CrateDecl, StructDecl, TraitDecl, ImplDecl, core}
use Rattle.text_language.specs.Promised.Syntax.{Params}

-- A crate, with its name in the text.
pub record NamedCrate : Type 0 where
  pub text : List ℕ
  pub item : CrateDecl

-- A struct, with its name and the kinds of its parameters.
pub record NamedStruct : Type 0 where
  pub text : List ℕ
  pub kinds : List Sort
  pub item : StructDecl

-- A trait, with its name and the kinds of its parameters, without Self.
pub record NamedTrait : Type 0 where
  pub text : List ℕ
  pub kinds : List Sort
  pub item : TraitDecl

-- An impl, with the names and kinds of its parameters, by number.
pub record NamedImpl : Type 0 where
  pub params : List (List ℕ × Sort)
  pub item : ImplDecl

-- A variable of a query, with its name and its kind.
pub record Variable : Type 0 where
  pub text : List ℕ
  pub kind : Sort

-- A query. The line `prove in C R, S where E` asks whether R and S have proofs in crate C by the where-clauses E, with
-- the same values for their variables. The line `refute in C R, S` asks whether there are no such proofs in any set of
-- crates that C is linked with. In R and S, the parameters are placeholders, and the variables are inference variables.
-- Those of each kind are numbered from 0, in the order in which they first occur in the whole list.
pub record Question : Type 0 where
  pub is_refute : Bool
  pub asker : ℕ
  pub params : List (List ℕ)
  pub asked : Reference
  pub further : List Reference
  pub clauses : List Reference
  pub variables : List Variable

-- An impl that a later version of a crate adds, with the number of its section, from 0.
pub record LaterImpl : Type 0 where
  pub section : ℕ
  pub added : NamedImpl

-- A check of a text, in addition to the verdicts on its crates:
-- - of_later k c: the line `later C` for crate c, which begins section k
-- - of_supers c: the line `supers in C` for crate c
pub data Check : Type 0 where
  of_later : (section changed : ℕ) → Check
  of_supers : (asked : ℕ) → Check

-- The declarations of a text, in its order. Those of `core` come first.
pub record Declarations : Type 0 where
  pub crates : List NamedCrate
  pub structs : List NamedStruct
  pub traits : List NamedTrait
  pub impls : List NamedImpl
  pub questions : List Question
  -- `sections` lists the crate of each section. `later_impls` lists the impls of all sections. No view has these.
  pub sections : List ℕ
  pub later_impls : List LaterImpl
  pub checks : List Check
  -- The last `crate` or `later` line is a `later` line, so the next impl is of its section.
  pub in_section : Bool

-- The same declarations without names.
abbrev pub world_of : Declarations → World
world_of d = record { crates = map (λ c. c.item) d.crates; structs = map (λ s. s.item) d.structs; traits = map (λ t. t.item) d.traits; impls = map (λ i. i.item) d.impls }

-- ---- parameters
-- The kinds of the parameters: lifetimes, then types, then constants.
abbrev pub kinds_of : Params → List Sort
kinds_of p = map (λ _. of_lifetime) p.lifetimes ++ map (λ _. of_type) p.types ++ map (λ _. of_const) p.consts

-- The names of the parameters: lifetimes, then types, then constants.
abbrev pub names_of : Params → List (List ℕ)
names_of p = p.lifetimes ++ p.types ++ p.consts

-- ---- what a name means
-- A declared item: its number, its crate and the kinds of its parameters.
pub data Known : Type 0 where
  a_crate : (number : ℕ) → Known
  a_struct : (number home : ℕ) (kinds : List Sort) → Known
  a_trait : (number home : ℕ) (is_auto : Bool) (kinds : List Sort) → Known

-- The crate with this name, if there is one.
abbrev pub crate_known : List NamedCrate → List ℕ → Option Known
crate_known cs n = option_map (λ c. a_crate c.item.name) (find (λ c. bytes_eq c.text n) cs)

-- The struct with this name, if there is one.
abbrev pub struct_known : List NamedStruct → List ℕ → Option Known
struct_known ss n = option_map (λ s. a_struct s.item.name s.item.home s.kinds) (find (λ s. bytes_eq s.text n) ss)

-- The trait with this name, if there is one.
abbrev pub trait_known : List NamedTrait → List ℕ → Option Known
trait_known ts n = option_map (λ t. a_trait t.item.name t.item.home t.item.is_auto t.kinds) (find (λ t. bytes_eq t.text n) ts)

-- The item with this name, if there is one. No two items of a text have the same name, whether they are crates, structs
-- or traits.
abbrev pub known : Declarations → List ℕ → Option Known
known d n = option_or (crate_known d.crates n) (option_or (struct_known d.structs n) (trait_known d.traits n))

-- The last declared crate. The items of the next line are of this crate.
abbrev pub last_crate : Declarations → ℕ
last_crate d = length d.crates - 1

-- ---- sections
-- The crate of the last section.
abbrev pub last_changed : Declarations → ℕ
last_changed d = unwrap_or (slice_get d.sections (length d.sections - 1)) core

-- The number of impls of the last section.
abbrev pub last_later : Declarations → ℕ
last_later d = count_by (λ i. i.section == (length d.sections - 1)) d.later_impls

-- The crate of an impl on the next line: that of the last section within a section, otherwise the last declared crate.
abbrev pub impl_owner : Declarations → ℕ
impl_owner d = if d.in_section then last_changed d else last_crate d

-- The impls of section k, in order.
abbrev pub section_impls : Declarations → ℕ → List NamedImpl
section_impls d k = map (λ i. i.added) (filter (λ i. i.section == k) d.later_impls)
