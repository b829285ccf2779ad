use Rattle.std.proofs.Common.{ap, ◌∙◌, [], ◌∷◌, map}
use Rattle.text_lines.specs.TokenViews.{text_of}
use Rattle.text_names.specs.Views.{scope_onto}
use Rattle.text_names.proofs.Scopes.{scope-push}
use Rattle.text_names.proofs.binders.Binders.enter.Goals as goal

pub returns : goal.returns
returns c = ap (λ x. scope_onto x []) c.in_ok-push.ensures.items ∙ scope-push c.self.inside.binders.items c.args.names [] ∙ ap (λ s. map text_of c.args.names.items ∷ s) c.self.view_is
