use Rattle.std.proofs.Common.{[], ◌∷◌}
use Rattle.std.specs.List.{flat_map}
use Rattle.text_language.specs.Words.{comma}
use Rattle.text_language.specs.Tokens.{sign}
use Rattle.text_lines.specs.LineLists.{asked_lists}
use Rattle.text_lines.specs.WrittenViews.{clause_of, clauses_in}
use Rattle.text_lines.proofs.Pieces.{queries-written, asked-filled}
use Rattle.text_lines.proofs.line_lists.write_all_queries.Goals as goal

pub returns : goal.returns
returns c =
    let k = clause_of c.args.asked.now in
    queries-written c.write_queries.result c.args.out.now.items c.write_query.new.out.items c.write_queries.new.out.items [] (sign comma ∷ []) (asked_lists k) (flat_map asked_lists (clauses_in c.args.further.now)) (asked-filled k)
    c.in_ok-write_query.ensures c.write_queries.ensures
