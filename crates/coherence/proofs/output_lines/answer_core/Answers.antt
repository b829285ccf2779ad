use Rattle.std.proofs.Common.{◌∙◌, ◌+◌, ◌==◌, ℕ, length, sym, subst, arith, OnOk}
use Rattle.std.proofs.lemmas.Bool.{eqb-true}
use Rattle.sessions.proofs.TypeTerms.Walking.{left, right}
use Rattle.coherence.specs.Groups.{IsCheckedIn, IsAskedIn}
use Rattle.coherence.specs.KeptLines.{IsCheckLineOf, IsLineOf, KeepsLines}
use Rattle.coherence.proofs.KeptLines.{one-crate-more, check-there, question-there}
use Rattle.coherence.proofs.output_lines.answer_core.Goals as goal

pub returns-then-is_empty : goal.returns-then-is_empty
returns-then-is_empty g c =
    let d = c.args.workspace.now in
    let g = c.args.group.now in
    let limit = c.args.limits.depth in
    let lines = c.args.lines.now in
    let kept = c.requires.kept in
    let both = sym c.is_empty.ensures ∙ c.if-is_empty.true in
    let no_checks = eqb-true (length g.checks.items) 0 (left (length g.checks.items == 0) (length g.questions.items == 0) both) in
    let no_questions = eqb-true (length g.questions.items) 0 (right (length g.checks.items == 0) (length g.questions.items == 0) both) in
    record {
      kept = record {
        checks = one-crate-more (length d.checks) (IsCheckedIn d) (IsCheckLineOf limit d) 0 g.checks.items lines.checks.items c.requires.group.checks (check-there d) kept.checks.for_each kept.checks.are
            (λ i k h e. absurd (omega (arith, no_checks, h)));
        questions = one-crate-more (length d.questions) (IsAskedIn d) (IsLineOf limit d) 0 g.questions.items lines.questions.items c.requires.group.questions (question-there d) kept.questions.for_each kept.questions.are
            (λ i k h e. absurd (omega (arith, no_questions, h)));
      };
    }

pub returns : goal.returns
returns g c =
    let s = c.in_ok-session.session in
    let kept : (n k : ℕ) → Type 0 = λ n k. OnOk c.keep_answers.result (KeepsLines n c.args.workspace.now (k + 1) c.keep_answers.new.lines) in
    record {
      kept =
          subst (λ k. kept c.args.limits.depth k) (c.in_ok-session.ensures.of_crate ∙ c.crate_at.ensures)
          (subst (λ n. kept n s.of_crate) c.in_ok-session.ensures.depth c.keep_answers.ensures.kept);
    }
