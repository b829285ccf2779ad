use Rattle.std.proofs.Common.{◌∙◌}
use Rattle.text_tables.specs.Tables.{declared}
use Rattle.text_parser.proofs.OwnFaults.{lacks-none, lacks-some}
use Rattle.text_parser.proofs.own_faults.lacks_types.Goals as goal

pub returns-in-None : goal.returns-in-None
returns-in-None c = λ l r. lacks-none (declared c.args.tables.now) l (c.in-None.ensures l r)

pub returns-in_ok-header-in-Some : goal.returns-in_ok-header-in-Some
returns-in_ok-header-in-Some c = λ l r.
    c.leaves_out.ensures ∙ lacks-some (declared c.args.tables.now) l c.in-Some.name.now c.in_ok-header-in-Some.header (c.in-Some.ensures l r) c.in_ok-header-in-Some.ensures
