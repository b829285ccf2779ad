use Rattle.std.proofs.Common.{◌∙◌, ap, take}
use Rattle.text_lines.specs.TypeViews.{cells_in}
use Rattle.text_names.specs.Header.{last_name}
use Rattle.text_names.proofs.Headers.{read-built, no-built}
use Rattle.text_names.proofs.header.implements_built_in.Goals as goal

pub returns-in-Some : goal.returns-in-Some
returns-in-Some g c l h = c.is_built_in_trait.ensures ∙ read-built (g.N.Names.sight c.args.names.now) l c.args.read.now c.in-Some.header _ c.requires h c.in-Some.ensures (c.last_name.ensures ∙ ap (λ z. last_name (take c.in-Some.header.bound.end (cells_in z))) c.deref.ensures.value)

pub returns-in-None : goal.returns-in-None
returns-in-None g c l h = no-built (g.N.Names.sight c.args.names.now).before l c.args.read.now h c.in-None.ensures
