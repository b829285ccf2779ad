-- The impls that a text can declare.
use Rattle.std.specs.Prelude.{◌≡◌, false, List, map}
use Rattle.type_terms.specs.Promised.Trees.{some_node, erase}
use Rattle.type_terms.specs.Promised.Erased.{erased_impl}
use Rattle.type_terms.specs.Erased.{IsCovered}
use Rattle.type_terms.specs.Promised.LinkedSet.{is_stray}
use Rattle.type_terms.specs.Promised.Handles.{Entry, trees_at}
use Rattle.type_terms.specs.Terms.{Lawful}
use Rattle.type_terms.specs.declared.ImplId.{ImplId}
use Rattle.term_folds.specs.declared.predicate.TraitRef.{TraitRef}
use Rattle.infer_table.specs.Content.{Table}
use Rattle.declarations.specs.Applied.{sort_of_param, SpeaksOf}
use Rattle.declarations.specs.Held.{ImplHeld}
use Rattle.declarations.specs.Items.{impl_in}
use Rattle.declarations.specs.Promised.Elaboration.{Each}
use Rattle.declarations.specs.declared.items.ImplDef.{ImplDef}
use Rattle.overlap_check.specs.Fresh.{fresh_unknowns}
use Rattle.overlap_check.specs.Goals.{IsInstantiable}

-- Only parameters of the impl occur in its header and where-clauses, and no variables, placeholders or free bound terms. Each type or
-- constant parameter in a where-clause occurs in the header: `impl<T> Show for u8 where T: Num` is refused.
pub record IsWrittenWell (es : List Entry) (def : ImplDef) : Type 0 where
  pub header : SpeaksOf (map sort_of_param def.params.items) (trees_at es def.header.args.0)
  pub clauses : Each (λ (r : TraitRef). SpeaksOf (map sort_of_param def.params.items) (trees_at es r.args.0)) def.clauses.items
  pub plain_header : some_node is_stray (erase (trees_at es def.header.args.0)) ≡ false
  pub plain_clauses : Each (λ (r : TraitRef). some_node is_stray (erase (trees_at es r.args.0)) ≡ false) def.clauses.items
  pub covered : (id : ImplId) → IsCovered (erased_impl (impl_in es id def))

-- Fresh variables are arguments for all parameters of such an impl, whatever variables the table has.
abbrev pub WrittenIsInstantiable : Type 0
WrittenIsInstantiable =
    (es : List Entry) → Lawful es → (id : ImplId) (def : ImplDef) → ImplHeld es def → IsWrittenWell es def
    → (t : Table) → IsInstantiable (fresh_unknowns t (map sort_of_param def.params.items)) (impl_in es id def)
