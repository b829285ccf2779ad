-- Declarations and queries as goals are made of them: they bind no lifetimes. A lifetime that a `for<...>` binds is `'static`. So is a
-- parameter of an impl that occurs in its where-clauses alone, and each lifetime parameter in the fields of a struct and the bounds of a
-- trait. Up to lifetimes nothing changes.
use Rattle.std.specs.Prelude.{ℕ, zero, Bool, true, false, ◌==◌, map, if◌then◌else◌, []}
use Rattle.type_terms.specs.Promised.Label.{Label, of_lifetime, static, fn_ptr, principal, param, bound}
use Rattle.type_terms.specs.Promised.Trees.{Trees, none, tree, some_node}
use Rattle.type_terms.specs.Promised.Worlds.{World, Reference, StructDecl, TraitDecl, ImplDecl, view_of}
use Rattle.text_language.specs.Promised.Declarations as text
use Rattle.text_language.specs.Promised.Declarations.{world_of}

-- ---- labels and terms, with the lifetime parameters that are kept
abbrev pub plain_label : (ℕ → Bool) → Label → Label
plain_label kept (param of_lifetime i) = if kept i then param of_lifetime i else static
plain_label kept (bound of_lifetime k i) = static
plain_label kept (fn_ptr n) = fn_ptr zero
plain_label kept (principal n t) = principal zero t
plain_label kept l = l

-- The term without lifetimes and binder counts, but for the lifetime parameters that are kept.
abbrev pub plain : (ℕ → Bool) → Trees → Trees
plain kept none = none
plain kept (tree l c o) = tree (plain_label kept l) (plain kept c) (plain kept o)

-- The trait reference without lifetimes, but for the parameters that are kept.
abbrev pub plain_reference : (ℕ → Bool) → Reference → Reference
plain_reference kept r = record { trait = r.trait; args = plain kept r.args }

-- ---- queries, which have no parameters of this kind
abbrev pub all_kept : ℕ → Bool
all_kept i = true

-- The trait reference with all its lifetime parameters, and no others.
abbrev pub unbound_reference : Reference → Reference
unbound_reference r = plain_reference all_kept r

-- ---- declarations
abbrev pub none_kept : ℕ → Bool
none_kept i = false

-- The lifetime parameter with this number.
abbrev pub is_lifetime : ℕ → Label → Bool
is_lifetime i (param of_lifetime j) = i == j
is_lifetime i l = false

-- It occurs in the term.
abbrev pub stands_in : Trees → ℕ → Bool
stands_in t i = some_node (is_lifetime i) t

-- The struct without lifetimes in its fields.
abbrev pub plain_struct : StructDecl → StructDecl
plain_struct x = record x { fields = map (plain none_kept) x.fields }

-- The trait without lifetimes in its bounds.
abbrev pub plain_trait : TraitDecl → TraitDecl
plain_trait x = record x { bounds = map (plain_reference none_kept) x.bounds }

-- The impl without lifetimes, but for those parameters in its where-clauses that stand in its header.
abbrev pub plain_impl : ImplDecl → ImplDecl
plain_impl i = record i { header = unbound_reference i.header; clauses = map (plain_reference (stands_in i.header.args)) i.clauses }

-- The world without lifetimes, but for parameters of impls that stand in their headers.
abbrev pub plain_world : World → World
plain_world W = record W { structs = map plain_struct W.structs; traits = map plain_trait W.traits; impls = map plain_impl W.impls }

-- What crate c sees: the items of all crates that it sees. The crates themselves are left out, because rules do not read them.
abbrev pub seen_from : text.Declarations → ℕ → World
seen_from d c = record (view_of (world_of d) c) { crates = [] }

-- What crate c sees.
abbrev pub plainly_seen_from : text.Declarations → ℕ → World
plainly_seen_from d c = plain_world (seen_from d c)
