use Rattle.std.proofs.Common.{[], map, drop}
use Rattle.text_language.specs.Promised.Syntax.{Types, Line}
use Rattle.text_language.specs.Uses.{types_uses}
use Rattle.text_language.specs.Promised.Faults.{with_own}
use Rattle.text_lines.specs.Faultless.{UsesFit}
use Rattle.text_lines.specs.LineParts.{type_part}
use Rattle.text_lines.specs.Statement.{type_list}
use Rattle.text_lines.specs.Places.{EachOf}
use Rattle.text_parser.specs.Kept.{IsSightOf, IsReadAs}
use Rattle.text_parser.specs.Numbering.{meanings}
use Rattle.text_parser.proofs.KeptTypes.{Fields}
use Rattle.text_parser.proofs.parts.field_cells.Given as goal

abbrev pub invariant-loop-field : goal.invariant-loop-field
invariant-loop-field g l =
    (line : Line) (fs : Types) → IsSightOf (g.N.Names.sight l.names) line → EachOf (IsReadAs (g.N.Names.sight l.names)) (map type_part (type_list fs)) l.fields
    → UsesFit (g.N.Names.sight l.names).before line (types_uses (with_own (g.N.Names.sight l.names).before line) [] fs)
    → Fields (g.N.Names.sight l.names) (meanings (g.N.Names.sight l.names) l.numbering) line fs (drop l.field-index l.fields) l.kept.items
