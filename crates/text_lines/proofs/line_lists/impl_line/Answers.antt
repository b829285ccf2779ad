use Rattle.text_lines.specs.TokenViews.{tokens_in}
use Rattle.text_lines.specs.LineLists.{params_list, plain_list, impl_end}
use Rattle.text_lines.specs.Views.{params_in}
use Rattle.text_lines.specs.WrittenViews.{bound_of, clauses_in}
use Rattle.text_lines.proofs.Pieces.{impl-line-is}
use Rattle.text_lines.proofs.line_lists.impl_line.Goals as goal

pub returns : goal.returns
returns c =
    impl-line-is c.new-out.result.items c.write_impl.new.out.items c.write_plain.new.out.items c.write_impl_end.new.out.items (params_list (params_in c.args.params.now)) (plain_list (bound_of c.args.header.now.bound))
    (impl_end (tokens_in c.args.header.now.subject.now) (clauses_in c.args.clauses.now)) c.new-out.ensures.items c.in_ok-write_impl.ensures c.in_ok-write_plain.ensures c.in_ok-write_impl_end.ensures
