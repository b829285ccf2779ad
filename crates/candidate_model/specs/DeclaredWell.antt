-- Views that are declared well: the conditions under which their rules decide goals, and tests of these conditions.
use Rattle.std.specs.Prelude.{◌≡◌, ◌==◌, ℕ, zero, suc, Bool, true, false, ◌&&◌, not, nat_lt, List, [], ◌∷◌, map, length}
use Rattle.std.specs.List.{list_all, list_any}
use Rattle.type_terms.specs.Promised.Label.{Label, param}
use Rattle.type_terms.specs.Promised.Trees.{Trees, none, tree, some_node}
use Rattle.type_terms.specs.Trees.{is_no_tree}
use Rattle.type_terms.specs.Promised.Worlds.{World, Reference, StructDecl, TraitDecl, ImplDecl, traits_named}
use Rattle.type_terms.specs.Promised.Core.{core_world}
use Rattle.candidate_model.specs.Candidates.{is_this_param}
use Rattle.candidate_model.specs.Declared.{is_declared_view, StructsAreOne, FieldsAreOne, BoundsAreErased, is_lifetime_parameter, parameters_are_sorted, LeadDown}
use Rattle.candidate_model.specs.Determined.{ImplsAreDetermined}
use Rattle.candidate_model.specs.Promised.Widths.{greatest}

-- The view is declared well.
pub record IsDeclaredWell (V : World) : Type 0 where
  -- Terms are well-formed and bind no lifetimes. They have parameters, but no variables and placeholders.
  pub terms : is_declared_view V ≡ true
  -- A parameter in a where-clause of an impl occurs in the impl's header, with the same kind.
  pub determined : ImplsAreDetermined V
  -- A parameter in a header is declared by the impl, and has one kind there.
  pub sorted : parameters_are_sorted V ≡ true
  -- No lifetime parameter occurs in the bounds of traits.
  pub erased : BoundsAreErased V
  -- Each supertrait has a lower rank than the trait, so no trait is its own supertrait.
  pub rank : ℕ → ℕ
  pub acyclic : LeadDown V rank
  -- No two structs have one name, and a field is one term.
  pub one_struct : StructsAreOne V
  pub one_field : FieldsAreOne V

-- ---- tests
-- A parameter that does not occur in the header with its kind.
abbrev pub is_loose : Trees → Label → Bool
is_loose header (param s i) = not (some_node (is_this_param s i) header)
is_loose header l = false

abbrev pub impls_are_determined : World → Bool
impls_are_determined V = list_all (λ (i : ImplDecl). list_all (λ (c : Reference). not (some_node (is_loose i.header.args) c.args)) i.clauses) V.impls

abbrev pub bounds_are_erased : World → Bool
bounds_are_erased V = list_all (λ (x : TraitDecl). list_all (λ (b : Reference). not (some_node is_lifetime_parameter b.args)) x.bounds) V.traits

-- The length of the longest chain of supertraits from a trait, cut off at n.
abbrev pub height_within : ℕ → World → ℕ → ℕ
height_within zero V t = zero
height_within (suc n) V t = greatest (λ (x : TraitDecl). greatest (λ (b : Reference). suc (height_within n V b.trait)) x.bounds) (traits_named V t)

-- The same, cut off at the number of traits. No chain is longer if supertraits form no cycle.
abbrev pub height_in : World → ℕ → ℕ
height_in V t = height_within (length V.traits) V t

abbrev pub bounds_lead_down : World → Bool
bounds_lead_down V = list_all (λ (x : TraitDecl). list_all (λ (b : Reference). nat_lt (height_in V b.trait) (height_in V x.name)) x.bounds) V.traits

abbrev pub are_distinct : List ℕ → Bool
are_distinct [] = true
are_distinct (n ∷ ns) = not (list_any (λ k. k == n) ns) && are_distinct ns

abbrev pub is_single : Trees → Bool
is_single none = false
is_single (tree l c o) = is_no_tree o

abbrev pub is_declared_well : World → Bool
is_declared_well V =
    is_declared_view V
    && (impls_are_determined V
    && (parameters_are_sorted V
    && (bounds_are_erased V
    && (bounds_lead_down V
    && (are_distinct (map (λ (x : StructDecl). x.name) V.structs) && list_all (λ (x : StructDecl). list_all is_single x.fields) V.structs)))))

-- A view that passes the tests is declared well.
abbrev pub TestsTell : Type 0
TestsTell = (V : World) → is_declared_well V ≡ true → IsDeclaredWell V

-- `core` passes the tests.
abbrev pub CoreIsDeclaredWell : Type 0
CoreIsDeclaredWell = is_declared_well core_world ≡ true
