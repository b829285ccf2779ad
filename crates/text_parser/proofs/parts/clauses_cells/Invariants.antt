use Rattle.std.proofs.Common.{List, length}
use Rattle.std.specs.List.{flat_map}
use Rattle.text_language.specs.Promised.Syntax.{Clause, Line}
use Rattle.text_lines.specs.LineParts.{clause_parts}
use Rattle.text_lines.specs.Places.{EachOf}
use Rattle.text_parser.specs.Kept.{IsSightOf, IsReadAs}
use Rattle.text_parser.specs.Laws.{AllOf, ClauseFits}
use Rattle.text_parser.specs.Numbering.{meanings}
use Rattle.text_parser.proofs.KeptTypes.{Clauses}
use Rattle.text_parser.proofs.parts.clauses_cells.Given as goal

abbrev pub invariant-loop-rest : goal.invariant-loop-rest
invariant-loop-rest g l =
    (line : Line) (ks : List Clause) → IsSightOf (g.N.Names.sight l.names) line → EachOf (IsReadAs (g.N.Names.sight l.names)) (flat_map clause_parts ks) l.parts → AllOf (ClauseFits (g.N.Names.sight l.names).before line) ks
    → Clauses (g.N.Names.sight l.names) (meanings (g.N.Names.sight l.names) l.numbering) line ks l.rest l.references.items

abbrev pub decreases-loop-rest : goal.decreases-loop-rest
decreases-loop-rest g l = length l.rest
