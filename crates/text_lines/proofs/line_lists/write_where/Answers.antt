use Rattle.std.specs.List.{flat_map}
use Rattle.text_lines.specs.LineLists.{clause_lists}
use Rattle.text_lines.specs.WrittenViews.{clauses_in}
use Rattle.text_lines.proofs.Pieces.{where-written}
use Rattle.text_lines.proofs.line_lists.write_where.Goals as goal

pub returns : goal.returns
returns c = where-written c.write_clauses.result c.args.out.now.items c.write_clauses.new.out.items (flat_map clause_lists (clauses_in c.args.clauses.now)) c.write_clauses.ensures
