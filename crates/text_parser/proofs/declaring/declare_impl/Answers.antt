use Rattle.std.proofs.lemmas.Result.{on_ok_weaker}
use Rattle.text_lines.specs.Views.{params_in, statement_of}
use Rattle.text_tables.specs.Tables.{declared}
use Rattle.text_parser.proofs.Adding.{impl-is, impl-adds}
use Rattle.text_parser.proofs.declaring.declare_impl.Goals as goal

pub impl_references-requires-clause-line : goal.impl_references-requires-clause-line
impl_references-requires-clause-line c = impl-is (statement_of c.args.read.now.statement) (params_in c.args.params.now) c.requires.line

pub returns-clause-added : goal.returns-clause-added
returns-clause-added c =
    on_ok_weaker c.add_impl.result
    (impl-adds (declared c.args.tables.now) (declared c.add_impl.new.self) c.args.read.now (params_in c.args.params.now) c.in_ok-named.named.items c.in_ok-made.made.header
    c.in_ok-made.made.clauses.items c.requires.line c.in_ok-named.ensures c.in_ok-made.ensures.header c.in_ok-made.ensures.clauses)
    c.add_impl.ensures.added
