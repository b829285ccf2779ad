-- What contracts see of declarations, and the world that they declare.
use Rattle.std.specs.Prelude.{◌≡◌, ℕ, Bool, ◌<◌, ◌==◌, ◌&&◌, if◌then◌else◌, List, [], ◌∷◌, ◌++◌, map, filter, length, take, Option, None, Some}
use Rattle.type_terms.specs.Promised.Label.{Label}
use Rattle.type_terms.specs.Promised.Worlds.{World, Reference, StructDecl, TraitDecl, ImplDecl}
use Rattle.type_terms.specs.Promised.Erased.{erased_world}
use Rattle.type_terms.specs.Promised.Handles.{Entry, trees_at}
use Rattle.type_terms.specs.declared.AdtId.{AdtId}
use Rattle.type_terms.specs.declared.TraitId.{TraitId}
use Rattle.type_terms.specs.declared.ImplId.{ImplId}
use Rattle.term_folds.specs.declared.predicate.TraitRef.{TraitRef}
use Rattle.declarations.specs.declared.items.AdtDef.{AdtDef}
use Rattle.declarations.specs.declared.items.TraitDef.{TraitDef}
use Rattle.declarations.specs.declared.items.ImplDef.{ImplDef}
use Rattle.declarations.specs.Apart.{is_fixed}
use Rattle.declarations.specs.Heads.{head_of, inner_head_of, same_self}
use Rattle.declarations.specs.Promised.Elaboration.{Each}

-- An impl with its number, the head and the inner head of its self type, if it has them, and whether its header is fixed.
pub record HeldImpl : Type 0 where
  pub id : ImplId
  pub def : ImplDef
  pub self_head : Option Label
  pub inner_head : Option Label
  pub is_fixed : Bool

-- The local crate, and the structs, traits and impls that are visible to it, in the order in which they were added.
pub record Items : Type 0 where
  pub local : ℕ
  pub structs : List (AdtId × AdtDef)
  pub traits : List (TraitId × TraitDef)
  pub impls : List HeldImpl

-- One more struct.
abbrev pub with_struct : Items → AdtId × AdtDef → Items
with_struct d x = record d { structs = d.structs ++ x ∷ [] }

-- One more trait.
abbrev pub with_trait : Items → TraitId × TraitDef → Items
with_trait d x = record d { traits = d.traits ++ x ∷ [] }

-- One more impl.
abbrev pub with_impl : Items → HeldImpl → Items
with_impl d x = record d { impls = d.impls ++ x ∷ [] }

-- So many of the first structs, traits and impls.
abbrev pub first_items : ℕ → ℕ → ℕ → Items → Items
first_items s t i d = record d { structs = take s d.structs; traits = take t d.traits; impls = take i d.impls }

-- An impl with the heads that its self type has among the terms of an interner.
abbrev pub held_impl : List Entry → ImplId → ImplDef → HeldImpl
held_impl es i def =
    let args = trees_at es def.header.args.0 in
    record { id = i; def = def; self_head = head_of args; inner_head = inner_head_of args; is_fixed = is_fixed args }

-- The number is above the numbers of all impls.
abbrev pub IsAbove : ℕ → Items → Type 0
IsAbove n d = Each (λ i. i.id.index < n) d.impls

-- A trait reference, over the terms of an interner.
abbrev pub reference_in : List Entry → TraitRef → Reference
reference_in es r = record { trait = r.def_id.index; args = trees_at es r.args.0 }

-- A struct, over the terms of an interner.
abbrev pub struct_in : List Entry → AdtId × AdtDef → StructDecl
struct_in es x = record { name = x.0.index; home = x.1.home.index; is_fundamental = x.1.is_fundamental; fields = map (λ t. trees_at es t.0) x.1.fields.items }

-- A trait, over the terms of an interner.
abbrev pub trait_in : List Entry → TraitId × TraitDef → TraitDecl
trait_in es x = record { name = x.0.index; home = x.1.home.index; is_fundamental = x.1.is_fundamental; is_auto = x.1.is_auto; bounds = map (reference_in es) x.1.bounds.items }

-- An impl, over the terms of an interner.
abbrev pub impl_in : List Entry → ImplId → ImplDef → ImplDecl
impl_in es i def =
    record { name = i.index; home = def.home.index; params = length def.params.items; header = reference_in es def.header; clauses = map (reference_in es) def.clauses.items }

-- The declarations with lifetimes.
abbrev pub written : List Entry → Items → World
written es d = record { crates = []; structs = map (struct_in es) d.structs; traits = map (trait_in es) d.traits; impls = map (λ i. impl_in es i.id i.def) d.impls }

-- The world of the declarations without lifetimes, from which rules are read.
abbrev pub declared : List Entry → Items → World
declared es d = erased_world (written es d)

-- The numbers of the impls of a trait whose self type has this head. Without a head they are those whose self type is a parameter.
abbrev pub ids_with : ℕ → Option Label → List HeldImpl → List ImplId
ids_with t h is = map (λ i. i.id) (filter (λ i. (i.def.header.def_id.index == t) && same_self h i.self_head) is)

-- The numbers of the impls of a trait whose self type has this head. Without a head there are none.
abbrev pub ids_headed : ℕ → Option Label → List HeldImpl → List ImplId
ids_headed t None is = []
ids_headed t (Some l) is = ids_with t (Some l) is

-- The trait with a number.
abbrev pub trait_at : ℕ → List (TraitId × TraitDef) → Option TraitDef
trait_at n [] = None
trait_at n (x ∷ xs) = if n == x.0.index then Some x.1 else trait_at n xs

-- The struct with a number.
abbrev pub struct_at : ℕ → List (AdtId × AdtDef) → Option AdtDef
struct_at n [] = None
struct_at n (x ∷ xs) = if n == x.0.index then Some x.1 else struct_at n xs

-- The impl with a number.
abbrev pub impl_at : ℕ → List HeldImpl → Option ImplDef
impl_at n [] = None
impl_at n (i ∷ is) = if n == i.id.index then Some i.def else impl_at n is

-- The value, as f reads it, is the only item. Without a value there is none.
abbrev pub IsOnly : {R D : Type 0} → (R → D) → Option R → List D → Type 0
IsOnly f None ds = ds ≡ []
IsOnly f (Some v) ds = ds ≡ f v ∷ []
