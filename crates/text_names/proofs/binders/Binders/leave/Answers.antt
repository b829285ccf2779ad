use Rattle.std.proofs.Common.{◌∙◌, ap, true}
use Rattle.text_names.specs.Machine.{outer_scope}
use Rattle.text_names.proofs.Scopes.{scope-pop}
use Rattle.text_names.proofs.binders.Binders.leave.Goals as goal

pub returns : goal.returns
returns c = scope-pop c.self.inside.binders.items c.pop.new.self.items c.pop.result c.pop.ensures.items (rw c.self.inside.binders.ok.0 at c.pop.ensures.variant) ∙ ap (outer_scope true) c.self.view_is
