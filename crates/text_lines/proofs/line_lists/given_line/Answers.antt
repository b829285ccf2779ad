use Rattle.text_lines.specs.TokenViews.{tokens_in}
use Rattle.text_lines.specs.LineLists.{params_list, companion_list, impl_end}
use Rattle.text_lines.specs.Views.{params_in}
use Rattle.text_lines.specs.WrittenViews.{binding_of, bound_of, clauses_in}
use Rattle.text_lines.proofs.Pieces.{impl-line-is}
use Rattle.text_lines.proofs.line_lists.given_line.Goals as goal

pub returns : goal.returns
returns c =
    impl-line-is c.new-out.result.items c.write_impl.new.out.items c.write_companion.new.out.items c.write_impl_end.new.out.items (params_list (params_in c.args.params.now)) (companion_list (bound_of c.args.header.now.bound) (binding_of c.args.given.now))
    (impl_end (tokens_in c.args.header.now.subject.now) (clauses_in c.args.clauses.now)) c.new-out.ensures.items c.in_ok-write_impl.ensures c.in_ok-write_companion.ensures c.in_ok-write_impl_end.ensures
