use Rattle.std.proofs.Common.{map}
use Rattle.text_names.specs.Views.{variable_in}
use Rattle.text_names.proofs.variables.are_of_two_kinds.Goals as goal

pub returns : goal.returns
returns c = c.any_in.ensures (map variable_in c.args.variables.now) c.in_ok-others.ensures
