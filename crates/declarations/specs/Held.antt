-- Declarations of this interner: their terms are in it.
use Rattle.std.specs.Prelude.{◌≡◌, true, List, length}
use Rattle.type_terms.specs.Promised.Handles.{Entry, Has, types, trees_at}
use Rattle.type_terms.specs.Terms.{args_lists}
use Rattle.term_folds.specs.declared.predicate.TraitRef.{TraitRef}
use Rattle.declarations.specs.declared.items.AdtDef.{AdtDef}
use Rattle.declarations.specs.declared.items.TraitDef.{TraitDef}
use Rattle.declarations.specs.declared.items.ImplDef.{ImplDef}
use Rattle.declarations.specs.Apart.{is_fixed}
use Rattle.declarations.specs.Heads.{head_of, inner_head_of, begins_declared}
use Rattle.declarations.specs.Promised.Elaboration.{Each}
use Rattle.declarations.specs.Unsizing.{field_trees, unsizing_flags}
use Rattle.declarations.specs.Items.{Items, HeldImpl}

-- The arguments of the trait reference are of this interner.
abbrev pub ReferenceHeld : List Entry → TraitRef → Type 0
ReferenceHeld es r = Has es args_lists r.args.0

-- The fields are of this interner, and the flags state which parameters are unsizing.
abbrev pub StructHeld : List Entry → AdtDef → Type 0
StructHeld es def = Each (λ t. Has es types t.0) def.fields.items × (def.unsizing_params.items ≡ unsizing_flags (field_trees es def.fields.items) (length def.params.items))

-- The supertraits are of this interner.
abbrev pub TraitHeld : List Entry → TraitDef → Type 0
TraitHeld es def = Each (ReferenceHeld es) def.bounds.items

-- The header and the where-clauses are of this interner, and the self type is a parameter or rigid.
pub record ImplHeld (es : List Entry) (def : ImplDef) : Type 0 where
  pub header : ReferenceHeld es def.header
  pub clauses : Each (ReferenceHeld es) def.clauses.items
  pub begins : begins_declared (trees_at es def.header.args.0) ≡ true

-- All items are of this interner. For each impl the stored heads are those of its self type, and `is_fixed` states whether its header is.
pub record AreHeld (es : List Entry) (d : Items) : Type 0 where
  pub structs : Each (λ x. StructHeld es x.1) d.structs
  pub traits : Each (λ x. TraitHeld es x.1) d.traits
  pub impls : Each (λ i. ImplHeld es i.def) d.impls
  pub heads : Each (λ (i : HeldImpl). i.self_head ≡ head_of (trees_at es i.def.header.args.0)) d.impls
  pub inner : Each (λ (i : HeldImpl). i.inner_head ≡ inner_head_of (trees_at es i.def.header.args.0)) d.impls
  pub fixed : Each (λ (i : HeldImpl). i.is_fixed ≡ is_fixed (trees_at es i.def.header.args.0)) d.impls
