use Rattle.std.proofs.Common.{◌∙◌}
use Rattle.text_tables.specs.Tables.{declared}
use Rattle.text_parser.proofs.OwnFaults.{header-none, header-some}
use Rattle.text_parser.proofs.own_faults.is_ill_bound.Goals as goal

pub returns-in-None : goal.returns-in-None
returns-in-None c = λ w r. c.is_ill_bound-is_ill.ensures w r ∙ header-none (declared c.args.tables.now) w _ c.in-None.is (c.in_ok-header_names.ensures w r)

pub returns-in-Some : goal.returns-in-Some
returns-in-Some c = λ w r.
    header-some (declared c.args.tables.now) w _ c.in-Some.header c.leaves_out-lacks.result c.is_ill_bound-is_ill.result c.in-Some.is (c.in_ok-header_names.ensures w r) c.leaves_out-lacks.ensures (c.is_ill_bound-is_ill.ensures w r)
