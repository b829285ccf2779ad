use Rattle.text_lines.specs.LineLists.{params_list}
use Rattle.text_lines.specs.Views.{params_in}
use Rattle.text_lines.proofs.Pieces.{impl-written}
use Rattle.text_lines.proofs.line_lists.write_impl.Goals as goal

pub returns : goal.returns
returns c =
    impl-written c.write_params.result c.args.out.now.items c.write.new.out.items c.write_params.new.out.items (params_list (params_in c.args.params.now)) c.in_ok-write.ensures c.write_params.ensures
