use Rattle.std.proofs.Common.{[]}
use Rattle.text_names.specs.Views.{resolved_onto}
use Rattle.text_names.proofs.Stacks.{found-variable}
use Rattle.text_names.proofs.found.Found.note_variable.Goals as goal

pub returns : goal.returns
returns c =
    found-variable c.self.inside.faults c.self.inside.variables.items c.push.new.self.items c.self.inside.is_deep (resolved_onto c.self.inside.cells.items []) (record { name = c.args.name; sort = c.args.sort }) c.args.self.now
    c.in_ok-push.ensures.items c.self.view_is
