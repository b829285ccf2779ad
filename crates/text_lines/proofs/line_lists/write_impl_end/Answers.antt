use Rattle.std.specs.List.{flat_map}
use Rattle.text_lines.specs.TokenViews.{tokens_in}
use Rattle.text_lines.specs.LineLists.{clause_lists}
use Rattle.text_lines.specs.WrittenViews.{clauses_in}
use Rattle.text_lines.proofs.Pieces.{impl-end-written}
use Rattle.text_lines.proofs.line_lists.write_impl_end.Goals as goal

pub returns : goal.returns
returns c =
    impl-end-written c.write_clauses.result c.args.out.now.items c.write.new.out.items c.write_clauses.new.out.items (tokens_in c.args.subject.now) (flat_map clause_lists (clauses_in c.args.clauses.now))
    c.in_ok-write.ensures c.write_clauses.ensures
