use Rattle.std.proofs.Common.{ap, length, sym, ◌∙◌, ℕ, Bool, arith}
use Rattle.std.proofs.lemmas.List.{length-map}
use Rattle.sessions.specs.TextLanguage.Promised.Declarations.{Question}
use Rattle.sessions.specs.TextTables.Views.{asked_of, check_of}
use Rattle.coherence.proofs.kept.no_lines.Goals as goal

pub returns : goal.returns
returns c limit = record {
  checks = record {
    for_each = c.in_ok-checks.ensures ∙ sym (length-map c.checks.result.now check_of) ∙ ap length c.checks.ensures;
    are = λ b n h a. absurd (omega arith);
  };
  questions = record {
    for_each = c.in_ok-questions.ensures ∙ sym (length-map c.questions.result.now asked_of) ∙ ap length c.questions.ensures ∙ length-map {B = Bool × ℕ} c.args.workspace.now.questions (λ (q : Question). (q.is_refute, q.asker));
    are = λ b n h a. absurd (omega arith);
  };
}
