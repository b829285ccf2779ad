-- Worlds: crates with their structs, traits and impls, and which of these a crate sees.
use Rattle.std.specs.Prelude.{ℕ, zero, suc, Bool, ◌||◌, ◌==◌, List, map, filter, length}
use Rattle.std.specs.List.{list_any}
use Rattle.type_terms.specs.Promised.Trees.{Trees, instantiate}

-- A trait reference: a trait with its self type and its further arguments. The self type is the first term of `args`.
-- For example, `u8: Conv<bool>` is the trait `Conv` with the terms `u8, bool` (rustc: `TraitRef`).
pub record Reference : Type 0 where
  pub trait : ℕ
  pub args : Trees

-- A struct with its home crate. Its fields mention its parameters by number, from 0. For example,
-- `fundamental struct Box<T>(*const T)` has one field, `*const T`, where T is parameter 0 (RFC 1023, `#[fundamental]`).
pub record StructDecl : Type 0 where
  pub name : ℕ
  pub home : ℕ
  pub is_fundamental : Bool
  pub fields : List Trees

-- A trait with the supertraits that its declaration lists. In these, parameter 0 is Self. For example,
-- `trait Sub<U>: Sup<U>` lists `Self: Sup<U>`, where U is parameter 1.
pub record TraitDecl : Type 0 where
  pub name : ℕ
  pub home : ℕ
  pub is_fundamental : Bool
  pub is_auto : Bool
  pub bounds : List Reference

-- An impl: its header is the trait reference that it implements. The header and the where-clauses mention its
-- parameters by number, from 0. All numbers are below `params`. For example, `impl<T> Show for V<T> where T: Show` has
-- one parameter, the header `V<T>: Show` and the clause `T: Show`.
pub record ImplDecl : Type 0 where
  pub name : ℕ
  pub home : ℕ
  pub params : ℕ
  pub header : Reference
  pub clauses : List Reference

-- A crate, with the crates that its `uses` lists.
pub record CrateDecl : Type 0 where
  pub name : ℕ
  pub uses : List ℕ

-- The declarations of several crates. Each item is named by a number.
pub record World : Type 0 where
  pub crates : List CrateDecl
  pub structs : List StructDecl
  pub traits : List TraitDecl
  pub impls : List ImplDecl

-- The number of the crate `core`. Every crate sees it.
abbrev pub core : ℕ
core = 0

-- The structs with this name.
abbrev pub structs_named : World → ℕ → List StructDecl
structs_named W s = filter (λ x. x.name == s) W.structs

-- The traits with this name.
abbrev pub traits_named : World → ℕ → List TraitDecl
traits_named W t = filter (λ x. x.name == t) W.traits

-- The crates with this name.
abbrev pub crates_named : World → ℕ → List CrateDecl
crates_named W c = filter (λ x. x.name == c) W.crates

-- Crate c sees crate d by at most n steps from a crate to one that it uses.
abbrev pub sees_within : ℕ → World → ℕ → ℕ → Bool
sees_within zero W c d = (c == d) || (d == core)
sees_within (suc n) W c d = (c == d) || (d == core) || list_any (λ x. list_any (λ u. sees_within n W u d) x.uses) (crates_named W c)

-- Crate c sees crate d:
-- - d is c itself, or
-- - d is `core`, or
-- - c uses d, directly or through other crates.
-- The number of crates bounds the number of steps.
abbrev pub sees : World → ℕ → ℕ → Bool
sees W c d = sees_within (length W.crates) W c d

-- The view of c: the items of all crates that c sees. A query in c is answered by the rules of this world.
abbrev pub view_of : World → ℕ → World
view_of W c = record {
  crates = filter (λ x. sees W c x.name) W.crates;
  structs = filter (λ x. sees W c x.home) W.structs;
  traits = filter (λ x. sees W c x.home) W.traits;
  impls = filter (λ x. sees W c x.home) W.impls;
}

-- The trait reference with the terms A for its parameters: an instance of it. For example, `V<T>: Show` with T = u8 is
-- `V<u8>: Show`.
abbrev pub with_args : Trees → Reference → Reference
with_args A r = record { trait = r.trait; args = instantiate zero A r.args }

-- Each of the trait references with the terms A for its parameters.
abbrev pub all_with_args : Trees → List Reference → List Reference
all_with_args A rs = map (with_args A) rs
