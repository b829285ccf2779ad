use Rattle.std.proofs.Common.{◌∙◌, Some, ap, refl}
use Rattle.sessions.specs.Promised.Subjects.{Subject}
use Rattle.celtisdarts_c.proofs.Calls.{struct-named}
use Rattle.celtisdarts_c.proofs.call.named_type.Goals as goal

pub returns-then-take-clause-named : goal.returns-then-take-clause-named
returns-then-take-clause-named c =
    let on = ap (λ (s : Subject). s.declarations) (c.behind-session.view_is ∙ c.session.ensures) in
    let f = c.in-Some-Struct in
    (struct-named c.behind-session.inside.workspace.now c.args.session.now.subject.declarations c.args.name.now c.known.result f.id f.owner f.params on c.known.ensures (f.is ∙ ap Some f.field-0-is), refl)
