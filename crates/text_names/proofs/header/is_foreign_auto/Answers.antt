use Rattle.std.proofs.Common.{◌∙◌, ap, take}
use Rattle.text_lines.specs.TypeViews.{cells_in}
use Rattle.text_names.specs.Header.{last_name}
use Rattle.text_names.proofs.Headers.{read-foreign, no-foreign}
use Rattle.text_names.proofs.header.is_foreign_auto.Goals as goal

pub returns-in-Some : goal.returns-in-Some
returns-in-Some g c l h =
    c.is_foreign.ensures ∙ read-foreign (g.N.Names.sight c.args.names.now) l c.args.read.now c.in-Some.header _ _ c.requires h c.in-Some.ensures (c.last_name-name.ensures ∙ ap (λ z. last_name (take c.in-Some.header.bound.end (cells_in z))) c.deref.ensures.value) (c.last_name-subject.ensures ∙ ap (λ z. last_name (take c.in-Some.header.subject.end (cells_in z))) c.deref-in-Some.ensures.value)

pub returns-in-None : goal.returns-in-None
returns-in-None g c l h = no-foreign (g.N.Names.sight c.args.names.now).before l c.args.read.now h c.in-None.ensures
