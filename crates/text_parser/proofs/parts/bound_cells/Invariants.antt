use Rattle.std.proofs.Common.{List, map, drop}
use Rattle.type_terms.specs.Promised.Label.{of_type, param}
use Rattle.type_terms.specs.Promised.Trees.{leaf}
use Rattle.text_language.specs.Lowering.{bound_with_self}
use Rattle.text_parser.specs.declared.numbering.Numbering.TheVariants.{Item}
use Rattle.text_language.specs.Promised.Syntax.{Bound, Line}
use Rattle.text_lines.specs.LineParts.{bound_part}
use Rattle.text_lines.specs.Places.{EachOf}
use Rattle.text_parser.specs.Kept.{IsSightOf, IsReadAs}
use Rattle.text_parser.specs.Laws.{AllOf, BoundFits}
use Rattle.text_parser.specs.Numbering.{meanings}
use Rattle.text_parser.proofs.KeptTypes.{References}
use Rattle.text_parser.proofs.parts.bound_cells.Given as goal

abbrev pub invariant-loop-bound : goal.invariant-loop-bound
invariant-loop-bound g l =
    (line : Line) (bs : List Bound) → IsSightOf (g.N.Names.sight l.names) line → EachOf (IsReadAs (g.N.Names.sight l.names)) (map bound_part bs) l.bounds → AllOf (BoundFits (g.N.Names.sight l.names).before line) bs
    → References (λ b r. IsReadAs (g.N.Names.sight l.names) (bound_part b) r) (BoundFits (g.N.Names.sight l.names).before line) (bound_with_self (meanings (g.N.Names.sight l.names) (Item 1)) (leaf (param of_type 0))) bs (drop l.bound-index l.bounds) l.references.items
