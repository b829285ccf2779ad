-- What is found of the types and bounds of a line.
use Rattle.std.specs.Prelude.{◌≡◌, false, List, [], map, nat_lt}
use Rattle.type_terms.specs.Promised.Label.{of_type}
use Rattle.text_language.specs.Promised.Syntax.{TypeTree, named, Bound}
use Rattle.text_language.specs.Promised.Declarations.{known}
use Rattle.text_language.specs.Faults.{variables_in, depth_limit}
use Rattle.text_language.specs.Lowering.{trait_number}
use Rattle.text_language.specs.Uses.{type_uses, type_depth, bound_uses, bound_depth, kinds_of_trait}
use Rattle.text_lines.specs.Cells.{Cell, type_onto}
use Rattle.text_names.specs.Machine.{Sight, seen_items, params, findings, Found}
use Rattle.text_names.specs.Resolved.{type_before, args_before}
use Rattle.text_names.specs.Views.{variable_in, resolved_in}
use Rattle.text_names.specs.declared.resolve.Resolved.{Resolved}
use Rattle.text_names.specs.declared.resolve.ResolvedBound.{ResolvedBound}

abbrev pub nothing_found : Found
nothing_found = record {
  faults = record { takes_names = false; uses_unknown = false; uses_hidden = false; uses_other_sort = false; uses_own = false; has_bad_dyn = false; passes_limit = false };
  variables = [];
  is_deep = false;
  cells = [];
}

-- what the definitions say of a type
abbrev pub type_found : Sight → TypeTree → Found
type_found v t = record {
  faults = findings v (type_uses (seen_items v) [] of_type t);
  variables = variables_in (type_uses (seen_items v) [] of_type t);
  is_deep = nat_lt depth_limit (type_depth (seen_items v) t);
  cells = type_before (seen_items v) (params v) [] of_type t [];
}

-- What the definitions say of a bound. The cells are those of its arguments.
abbrev pub bound_found : Sight → Bound → Found
bound_found v b = record {
  faults = findings v (bound_uses (seen_items v) b);
  variables = variables_in (bound_uses (seen_items v) b);
  is_deep = nat_lt depth_limit (bound_depth (seen_items v) b);
  cells = args_before (seen_items v) (params v) [] (kinds_of_trait (known (seen_items v) b.trait)) b.args [];
}

abbrev pub found_in : Resolved → Found
found_in r = record { faults = r.faults; variables = map variable_in r.variables.items; is_deep = r.is_deep; cells = map resolved_in r.cells.items }

-- Whichever type is the last among the cells, this was found of it.
abbrev pub ResolvesType : Sight → List Cell → Resolved → Type 0
ResolvesType v cells r = (t : TypeTree) (before : List Cell) → cells ≡ type_onto t before → found_in r ≡ type_found v t

-- Whichever bound is the last among the cells, as the type of its name and arguments, this was found of it.
abbrev pub ResolvesBound : Sight → List Cell → ResolvedBound → Type 0
ResolvesBound v cells r =
    (b : Bound) (before : List Cell) → cells ≡ type_onto (named b.trait b.args) before → (found_in r.resolved ≡ bound_found v b) × (r.trait_number ≡ trait_number (known (seen_items v) b.trait))
