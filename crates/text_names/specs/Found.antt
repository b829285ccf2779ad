-- What is found of the types and bounds of a line.
use Rattle.std.specs.Prelude.{◌≡◌, ℕ, List, [], ◌∷◌, ◌++◌, map, nat_lt}
use Rattle.std.specs.List.{flat_map}
use Rattle.text_language.specs.Faults.{variables_in, depth_limit}
use Rattle.text_language.specs.Promised.Declarations.{known}
use Rattle.text_language.specs.Lowering.{trait_number}
use Rattle.text_language.specs.Uses.{Use, greatest_number}
use Rattle.text_lines.specs.Cells.{Cell}
use Rattle.text_lines.specs.LineParts.{LinePart, type_part, bound_part, PartStands, part_uses, part_depth}
use Rattle.text_lines.specs.Places.{EachOf}
use Rattle.text_lines.specs.declared.parts.LinePart as places
use Rattle.text_names.specs.Machine.{Sight, seen_items, findings}
use Rattle.text_names.specs.Resolving.{type_found, bound_found}
use Rattle.text_names.specs.Views.{resolved_in, variable_in}
use Rattle.text_names.specs.declared.parts.PartsFound.{PartsFound}
use Rattle.text_names.specs.declared.parts.ResolvedPart.{ResolvedPart}

-- The uses of these types and bounds.
abbrev pub uses_of : Sight → List LinePart → List Use
uses_of v ps = flat_map (part_uses (seen_items v)) ps

abbrev pub depth_of : Sight → List LinePart → ℕ
depth_of v ps = greatest_number (map (part_depth (seen_items v)) ps)

-- The type resolves to these cells, and the bound to its trait's number and the cells of its arguments.
abbrev pub Resolves : Sight → LinePart → ResolvedPart → Type 0
Resolves v (type_part t) r = map resolved_in r.cells.items ≡ (type_found v t).cells
Resolves v (bound_part b) r = (map resolved_in r.cells.items ≡ (bound_found v b).cells) × (r.trait_number ≡ trait_number (known (seen_items v) b.trait))

-- This was found of these types and bounds.
pub record IsFound (v : Sight) (ps : List LinePart) (found : PartsFound) : Type 0 where
  pub faults : found.faults ≡ findings v (uses_of v ps)
  pub variables : map variable_in found.variables.items ≡ variables_in (uses_of v ps)
  pub is_deep : found.is_deep ≡ nat_lt depth_limit (depth_of v ps)
  pub parts : EachOf (Resolves v) ps found.parts.items

-- Whichever types and bounds these are, this was found of them.
abbrev pub FindsParts : Sight → List Cell → List places.LinePart → PartsFound → Type 0
FindsParts v cells at found = (ps : List LinePart) → EachOf (PartStands cells) ps at → IsFound v ps found

-- If the first was found of some, the second is found with one more after them.
abbrev pub AddsPart : Sight → List Cell → places.LinePart → PartsFound → PartsFound → Type 0
AddsPart v cells at old new = (ps : List LinePart) (p : LinePart) → PartStands cells p at → IsFound v ps old → IsFound v (ps ++ p ∷ []) new
