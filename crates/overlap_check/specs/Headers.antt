-- Headers of impls with fresh variables for the parameters, and pairs of impls whose headers are equated.
use Rattle.std.specs.Prelude.{◌≡◌, zero, false, List, [], map, Some}
use Rattle.type_terms.specs.Promised.Label.{Sort}
use Rattle.type_terms.specs.Promised.Trees.{Trees, erase, instantiate, some_node}
use Rattle.type_terms.specs.Promised.Erased.{erased_impl}
use Rattle.type_terms.specs.Promised.Worlds.{Reference, with_args, all_with_args}
use Rattle.type_terms.specs.Promised.Answers.{CommonInstance, is_variable}
use Rattle.type_terms.specs.Promised.Handles.{Entry, Has, ArgsHeld, trees_at}
use Rattle.type_terms.specs.Kinds.{args_trees}
use Rattle.type_terms.specs.Terms.{args_lists}
use Rattle.type_terms.specs.declared.ImplId.{ImplId}
use Rattle.type_terms.specs.declared.kinds.GenericArgs.{GenericArgs}
use Rattle.type_terms.specs.declared.kinds.GenericArgKind.{GenericArgKind}
use Rattle.term_folds.specs.declared.predicate.TraitRef.{TraitRef}
use Rattle.infer_table.specs.Solutions.{Assignment, Binding, Equates, instance, resolved}
use Rattle.infer_table.specs.Applied.{solved_in_turn}
use Rattle.infer_table.specs.Canonical.{HasNoCanonical}
use Rattle.infer_table.specs.Content.{Table, content, variables_of, Ready, Grows}
use Rattle.infer_table.specs.Covers.{AreKnown, IsOfKnown}
use Rattle.infer_table.specs.Unification.{table_trees}
use Rattle.declarations.specs.Applied.{sort_of_param, references_in, TraitRefsHeld}
use Rattle.declarations.specs.Held.{ReferenceHeld}
use Rattle.declarations.specs.Items.{reference_in, impl_in}
use Rattle.declarations.specs.Promised.Elaboration.{Each}
use Rattle.declarations.specs.declared.items.ImplDef.{ImplDef}
use Rattle.overlap_check.specs.Fresh.{with_unknowns, fresh_unknowns}
use Rattle.overlap_check.specs.Goals.{unknown_kinds, HasGoals}
use Rattle.overlap_check.specs.declared.header.ImplHeader.{ImplHeader}
use Rattle.overlap_check.specs.declared.intersection.ImplIntersection.{ImplIntersection}

-- The kinds of an impl's parameters.
abbrev pub sorts_of_impl : ImplDef → List Sort
sorts_of_impl def = map sort_of_param def.params.items

-- The table's next variables, for these parameters.
abbrev pub unknowns_for : Table → ImplDef → Trees
unknowns_for t def = fresh_unknowns t (sorts_of_impl def)

-- The table with these variables.
abbrev pub with_unknowns_for : Table → ImplDef → Table
with_unknowns_for t def = with_unknowns t (sorts_of_impl def)

-- The list is that of the table's next variables for the impl's parameters.
pub record IsUnknownsFor (es : List Entry) (t : Table) (def : ImplDef) (list : GenericArgs) : Type 0 where
  pub held : Has es args_lists list.0
  pub are : trees_at es list.0 ≡ unknowns_for t def

-- The header is that of the impl, with the table's next variables for the parameters. The interner may have grown.
pub record IsHeaderOver (old : List Entry) (t : Table) (def : ImplDef) (new : List Entry) (h : ImplHeader) : Type 0 where
  pub unknowns : IsUnknownsFor new t def h.impl_args
  pub held : ReferenceHeld new h.trait_ref
  pub is : reference_in new h.trait_ref ≡ with_args (unknowns_for t def) (reference_in old def.header)

-- The arguments are those of the impl's header, with the table's next variables for the parameters. The interner may have grown.
pub record AreHeaderArgs (old : List Entry) (t : Table) (def : ImplDef) (new : List Entry) (list : GenericArgs) (args : List GenericArgKind) : Type 0 where
  pub unknowns : IsUnknownsFor new t def list
  pub held : ArgsHeld new args
  pub are : args_trees new args ≡ instantiate zero (unknowns_for t def) (trees_at old def.header.args.0)

-- The terms are arguments over an interner.
pub record AreArguments (es : List Entry) (ts : Trees) : Type 0 where
  pub args : List GenericArgKind
  pub held : ArgsHeld es args
  pub are : args_trees es args ≡ ts

-- The arguments of the header's trait reference.
abbrev pub args_at : List Entry → ImplHeader → Trees
args_at es h = trees_at es h.trait_ref.args.0

-- ---- pairs
-- The table without variables.
abbrev pub empty_table : Table
empty_table = record { ty_vars = 0; const_vars = 0; region_vars = 0; values = []; constraints = [] }

-- The table of a pair: with variables for the parameters of the first impl, and then for those of the second one.
abbrev pub pair_table : ImplDef → ImplDef → Table
pair_table w x = with_unknowns_for (with_unknowns_for empty_table w) x

-- The arguments of the first header, with these variables.
abbrev pub left_args : List Entry → ImplDef → Trees
left_args es w = instantiate zero (unknowns_for empty_table w) (trees_at es w.header.args.0)

-- The arguments of the second header, with these variables.
abbrev pub right_args : List Entry → ImplDef → ImplDef → Trees
right_args es w x = instantiate zero (unknowns_for (with_unknowns_for empty_table w) x) (trees_at es x.header.args.0)

-- The impls have no common instance. Their indices do not matter.
abbrev pub AreDisjointImpls : List Entry → ImplDef → ImplDef → Type 0
AreDisjointImpls es w x = (i j : ImplId) → CommonInstance (erased_impl (impl_in es i w)) (erased_impl (impl_in es j x)) → ⊥

-- The headers, with these variables for the parameters, are equated in this table: its solutions are the values that make them equal. The
-- table depends only on the headers as terms. The interner may have grown.
pub record AreEqualHeaders (old : List Entry) (w x : ImplDef) (new : List Entry) (u : Table) (left right : GenericArgs) : Type 0 where
  pub ready : Ready new u
  pub grows : Grows (pair_table w x) u
  pub left_unknowns : IsUnknownsFor new empty_table w left
  pub right_unknowns : IsUnknownsFor new (with_unknowns_for empty_table w) x right
  pub left_made : AreArguments new (left_args old w)
  pub right_made : AreArguments new (right_args old w x)
  pub one_trait : w.header.def_id.index ≡ x.header.def_id.index
  pub equates : Equates [] (content new u.values) (left_args old w) (right_args old w x)
  pub exact : solved_in_turn (table_trees new (pair_table w x)) (left_args old w) (right_args old w x) ≡ Some (table_trees new u)

-- A trait reference with the values of variables put in, without lifetimes.
abbrev pub resolved_reference : List Binding → Reference → Reference
resolved_reference bs r = record { trait = r.trait; args = erase (resolved bs r.args) }

-- A trait reference with assigned terms for its variables, without lifetimes.
abbrev pub with_instance : Assignment → Reference → Reference
with_instance s r = record { trait = r.trait; args = instance s r.args }

-- Trait references over a table as goals.
abbrev pub goals_over : List Entry → Table → List TraitRef → List Reference
goals_over es t rs = map (resolved_reference (content es t.values)) (references_in es rs)

-- The intersection of two impls has the goals of the pair. The indices of the impls do not matter. The interner may have grown.
pub record IsIntersection (old : List Entry) (w x : ImplDef) (new : List Entry) (found : ImplIntersection) : Type 0 where
  pub ready : Ready new found.table
  pub left_held : TraitRefsHeld new found.left.items
  pub right_held : TraitRefsHeld new found.right.items
  pub goals : (i j : ImplId) → HasGoals (erased_impl (impl_in old i w)) (erased_impl (impl_in old j x)) (unknown_kinds found.table)
      (goals_over new found.table found.left.items) (goals_over new found.table found.right.items)

-- The table is the result of equating the headers. The goals are the where-clauses, with its variables for the parameters.
pub record IsSolved (old : List Entry) (w x : ImplDef) (new : List Entry) (found : ImplIntersection) : Type 0 where
  pub table : solved_in_turn (table_trees new (pair_table w x)) (left_args old w) (right_args old w x) ≡ Some (table_trees new found.table)
  pub left : references_in new found.left.items ≡ all_with_args (unknowns_for empty_table w) (references_in old w.clauses.items)
  pub right : references_in new found.right.items ≡ all_with_args (unknowns_for (with_unknowns_for empty_table w) x) (references_in old x.clauses.items)

-- ---- the variables in goals are those of the table
-- No variables occur in the impl's terms: no inference variables, no canonical variables, and none for lifetimes.
pub record IsWithoutVariables (es : List Entry) (def : ImplDef) : Type 0 where
  pub header : some_node is_variable (trees_at es def.header.args.0) ≡ false
  pub clauses : Each (λ (r : TraitRef). some_node is_variable (trees_at es r.args.0) ≡ false) def.clauses.items

-- With the values of variables put in, only inference variables of the table occur in the trait reference, and no canonical variables.
pub record IsOfTable (es : List Entry) (t : Table) (r : TraitRef) : Type 0 where
  pub known : AreKnown (variables_of t) (resolved (content es t.values) (trees_at es r.args.0))
  pub clean : HasNoCanonical (resolved (content es t.values) (trees_at es r.args.0))

-- The same for all goals, and for the values in the table.
pub record IsPosed (es : List Entry) (found : ImplIntersection) : Type 0 where
  pub table : IsOfKnown (variables_of found.table) (content es found.table.values)
  pub left : Each (IsOfTable es found.table) found.left.items
  pub right : Each (IsOfTable es found.table) found.right.items
