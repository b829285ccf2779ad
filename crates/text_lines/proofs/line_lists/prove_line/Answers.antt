use Rattle.std.proofs.Common.{◌∷◌}
use Rattle.std.specs.List.{flat_map}
use Rattle.text_language.specs.Words.{prove_word}
use Rattle.text_language.specs.Syntax.{where_spelling}
use Rattle.text_lines.specs.LineLists.{params_list, asked_lists, clause_lists}
use Rattle.text_lines.specs.Views.{params_in}
use Rattle.text_lines.specs.WrittenViews.{clause_of, clauses_in}
use Rattle.text_lines.proofs.Pieces.{prove-line-is, all-filled}
use Rattle.text_lines.proofs.line_lists.prove_line.Goals as goal

pub returns : goal.returns
returns c =
    let k = clause_of c.args.asked.now in
    let ks = clauses_in c.args.further.now in
    prove-line-is c.new-out.result.items c.write_asker.new.out.items c.write_all_queries.new.out.items c.write_where.new.out.items prove_word c.args.crate_name.now (params_list (params_in c.args.params.now))
    (where_spelling (flat_map clause_lists (clauses_in c.args.clauses.now))) (flat_map asked_lists (k ∷ ks)) (all-filled k ks) c.new-out.ensures.items c.in_ok-write_asker.ensures c.in_ok-write_all_queries.ensures
    c.in_ok-write_where.ensures
