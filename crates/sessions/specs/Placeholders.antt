-- Impls with placeholders in place of their parameters, over the terms of an interner.
use Rattle.std.specs.Prelude.{◌≡◌, ℕ, suc, List, [], ◌∷◌, map}
use Rattle.type_terms.specs.Promised.Label.{Sort, placeholder}
use Rattle.type_terms.specs.Promised.Supers.{opaque_reference}
use Rattle.type_terms.specs.Promised.Trees.{Trees, none, tree}
use Rattle.type_terms.specs.Promised.Handles.{Entry}
use Rattle.declarations.specs.Applied.{TraitRefsHeld, references_in}
use Rattle.declarations.specs.Held.{ReferenceHeld}
use Rattle.declarations.specs.Items.{reference_in}
use Rattle.declarations.specs.declared.items.ImplDef.{ImplDef}
use Rattle.sessions.specs.declared.placeholders.OpaqueImpl.{OpaqueImpl}

-- Placeholders of these kinds, numbered by their indices from n on: for `impl<'a, T, const N>` they are `'!0, !1, !2`.
abbrev pub placeholders_from : ℕ → List Sort → Trees
placeholders_from n [] = none
placeholders_from n (s ∷ ss) = tree (placeholder s n) none (placeholders_from (suc n) ss)

-- The impl's header and where-clauses, with its parameters as placeholders.
pub record IsOpaqueOf (old : List Entry) (def : ImplDef) (new : List Entry) (i : OpaqueImpl) : Type 0 where
  pub header : reference_in new i.header ≡ opaque_reference (reference_in old def.header)
  pub clauses : references_in new i.clauses.items ≡ map opaque_reference (references_in old def.clauses.items)
  pub header_held : ReferenceHeld new i.header
  pub clauses_held : TraitRefsHeld new i.clauses.items
