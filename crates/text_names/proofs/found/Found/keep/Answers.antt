use Rattle.std.proofs.Common.{[]}
use Rattle.text_names.specs.Views.{variables_onto}
use Rattle.text_names.proofs.Stacks.{found-kept}
use Rattle.text_names.proofs.found.Found.keep.Goals as goal

pub returns-in_ok-push : goal.returns-in_ok-push
returns-in_ok-push c =
    found-kept c.self.inside.faults (variables_onto c.self.inside.variables.items []) c.self.inside.is_deep c.self.inside.cells.items c.push.new.self.items c.args.cell c.args.self.now c.args.is_kept
    c.in_ok-push.ensures.items c.self.view_is c.if-is_kept.true
