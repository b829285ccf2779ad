use Rattle.std.proofs.Common.{◌∙◌, Some, ap}
use Rattle.sessions.specs.Promised.Subjects.{Subject}
use Rattle.celtisdarts_c.proofs.Calls.{trait-named}
use Rattle.celtisdarts_c.proofs.call.named_trait.Goals as goal

pub returns-in-Some-clause-named : goal.returns-in-Some-clause-named
returns-in-Some-clause-named c =
    let on = ap (λ (s : Subject). s.declarations) (c.behind-session.view_is ∙ c.session.ensures) in
    let f = c.in-Some-Trait in
    trait-named c.behind-session.inside.workspace.now c.args.session.now.subject.declarations c.args.name.now c.known.result f.id f.owner f.field-0-2 f.params on c.known.ensures (f.is ∙ ap Some f.field-0-is)
