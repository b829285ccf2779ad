use Rattle.std.proofs.Common.{ap, sym, ◌∙◌}
use Rattle.std.specs.Prelude.{map}
use Rattle.text_tables.specs.Views.{asked_of, question_of}
use Rattle.text_tables.proofs.Each.{map-map}
use Rattle.text_tables.proofs.workspace.Workspace.questions.Goals as goal

pub returns : goal.returns
returns c =
    let questions = c.self.inside.tables.questions.items in
    ap (map asked_of) (c.deref.ensures.value ∙ c.self.invariant.0.asked) ∙ map-map asked_of (λ q. q.asked_how) questions ∙ sym (map-map (λ q. (q.is_refute, q.asker)) question_of questions) ∙ ap (λ d. map (λ q. (q.is_refute, q.asker)) d.questions) c.self.view_is
