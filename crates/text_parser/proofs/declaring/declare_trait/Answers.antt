use Rattle.std.proofs.Common.{refl}
use Rattle.std.proofs.lemmas.Result.{on_ok_weaker}
use Rattle.text_lines.specs.Statement.{trait_statement}
use Rattle.text_lines.specs.Views.{params_in, statement_of}
use Rattle.text_tables.specs.Tables.{declared}
use Rattle.text_parser.proofs.Adding.{new-name, trait-said, trait-is, trait-adds}
use Rattle.text_parser.proofs.declaring.declare_trait.Goals as goal

pub trait_bounds-requires-clause-line : goal.trait_bounds-requires-clause-line
trait_bounds-requires-clause-line c = trait-is (statement_of c.args.read.now.statement) c.args.head.is_fundamental c.args.head.is_auto c.args.head.name.now (params_in c.args.head.params.now) c.requires.line

pub add_trait-requires-clause-new : goal.add_trait-requires-clause-new
add_trait-requires-clause-new c =
    let (ss, line) = trait-said (statement_of c.args.read.now.statement) c.args.head.is_fundamental c.args.head.is_auto c.args.head.name.now (params_in c.args.head.params.now) c.requires.line in
    new-name (declared c.args.tables.now) c.args.read.now (trait_statement c.args.head.is_fundamental c.args.head.is_auto c.args.head.name.now (params_in c.args.head.params.now) ss) c.args.head.name.now c.requires.judged.faultless line refl

pub returns-clause-added : goal.returns-clause-added
returns-clause-added c =
    on_ok_weaker c.add_trait.result
    (trait-adds (declared c.args.tables.now) (declared c.add_trait.new.self) c.args.read.now c.args.head.is_fundamental c.args.head.is_auto c.args.head.name.now (params_in c.args.head.params.now)
    c.in_ok-kinds.kinds.items c.in_ok-references.references.items c.requires.line c.in_ok-kinds.ensures c.in_ok-references.ensures.are)
    c.add_trait.ensures.added
