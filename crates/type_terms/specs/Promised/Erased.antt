-- Erased worlds: declarations whose terms have no lifetimes. A text's declarations have lifetimes. They are erased
-- before rules read them.
use Rattle.std.specs.Prelude.{map}
use Rattle.type_terms.specs.Promised.Trees.{erase}
use Rattle.type_terms.specs.Promised.Worlds.{World, Reference, StructDecl, TraitDecl, ImplDecl}

-- The trait reference without lifetimes. For example, `&'a u8: Show` and `&'static u8: Show` become equal.
abbrev pub erased_reference : Reference → Reference
erased_reference r = record { trait = r.trait; args = erase r.args }

-- The struct without lifetimes. For example, `struct S<'a>(&'a u8)` has the field `&'static u8`.
abbrev pub erased_struct : StructDecl → StructDecl
erased_struct x = record x { fields = map erase x.fields }

-- The trait without lifetimes. For example, `trait Bottom<'a>: Top<'a>` has the supertrait `Top<'static>`.
abbrev pub erased_trait : TraitDecl → TraitDecl
erased_trait x = record x { bounds = map erased_reference x.bounds }

-- The impl without lifetimes. Its parameters keep their numbers. For example, T is parameter 1 of
-- `impl<'a, T> Show for &'a T`, and of the erased impl as well.
abbrev pub erased_impl : ImplDecl → ImplDecl
erased_impl x = record x { header = erased_reference x.header; clauses = map erased_reference x.clauses }

-- The declarations without lifetimes. For example, `impl<'a, T> Show for &'a T` becomes `impl<T> Show for &'static T`,
-- where T is still parameter 1.
abbrev pub erased_world : World → World
erased_world W = record { crates = W.crates; structs = map erased_struct W.structs; traits = map erased_trait W.traits; impls = map erased_impl W.impls }
