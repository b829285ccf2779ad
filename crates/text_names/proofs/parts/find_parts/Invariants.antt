use Rattle.std.proofs.Common.{List, drop}
use Rattle.text_lines.specs.TypeViews.{cells_in}
use Rattle.text_lines.specs.LineParts.{LinePart, PartStands}
use Rattle.text_lines.specs.Places.{EachOf}
use Rattle.text_names.proofs.Finding.{Going}
use Rattle.text_names.proofs.parts.find_parts.Given as goal

abbrev pub invariant-loop-part : goal.invariant-loop-part
invariant-loop-part g l = (ps : List LinePart) → EachOf (PartStands (cells_in l.cells)) ps l.parts → Going (g.N.Names.sight l.names) (cells_in l.cells) ps (drop l.part-index l.parts) l.found
