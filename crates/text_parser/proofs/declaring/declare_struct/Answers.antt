use Rattle.std.proofs.Common.{refl}
use Rattle.std.proofs.lemmas.Result.{on_ok_weaker}
use Rattle.text_lines.specs.Statement.{struct_statement}
use Rattle.text_lines.specs.Views.{params_in, statement_of}
use Rattle.text_tables.specs.Tables.{declared}
use Rattle.text_parser.proofs.Adding.{new-name, struct-said, struct-is, struct-adds}
use Rattle.text_parser.proofs.declaring.declare_struct.Goals as goal

pub struct_fields-requires-clause-line : goal.struct_fields-requires-clause-line
struct_fields-requires-clause-line c = struct-is (statement_of c.args.read.now.statement) c.args.head.is_fundamental c.args.head.name.now (params_in c.args.head.params.now) c.requires.line

pub add_struct-requires-clause-new : goal.add_struct-requires-clause-new
add_struct-requires-clause-new c =
    let (ss, line) = struct-said (statement_of c.args.read.now.statement) c.args.head.is_fundamental c.args.head.name.now (params_in c.args.head.params.now) c.requires.line in
    new-name (declared c.args.tables.now) c.args.read.now (struct_statement c.args.head.is_fundamental c.args.head.name.now (params_in c.args.head.params.now) ss) c.args.head.name.now c.requires.judged.faultless line refl

pub returns-clause-added : goal.returns-clause-added
returns-clause-added c =
    on_ok_weaker c.add_struct.result
    (struct-adds (declared c.args.tables.now) (declared c.add_struct.new.self) c.args.read.now c.args.head.is_fundamental c.args.head.name.now (params_in c.args.head.params.now)
    c.in_ok-kinds.kinds.items c.in_ok-cells.cells.items c.requires.line c.in_ok-kinds.ensures c.in_ok-cells.ensures.are)
    c.add_struct.ensures.added
