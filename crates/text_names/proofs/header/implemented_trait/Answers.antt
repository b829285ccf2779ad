use Rattle.std.proofs.Common.{◌∙◌, ap, take}
use Rattle.text_lines.specs.TypeViews.{cells_in}
use Rattle.text_names.specs.Header.{last_name}
use Rattle.text_names.proofs.Headers.{read-trait, no-trait}
use Rattle.text_names.proofs.header.implemented_trait.Goals as goal

pub returns-in-Some : goal.returns-in-Some
returns-in-Some c l h = c.last_name.ensures ∙ ap (λ z. last_name (take c.in-Some.header.bound.end (cells_in z))) c.deref.ensures.value ∙ read-trait l c.args.read.now c.in-Some.header h c.in-Some.ensures

pub returns-in-None : goal.returns-in-None
returns-in-None c l h = no-trait l c.args.read.now h c.in-None.ensures
