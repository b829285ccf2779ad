use Rattle.std.proofs.Common.{◌+◌, length, subst, sym}
use Rattle.std.proofs.lemmas.Result.{on_ok_weaker}
use Rattle.coherence.specs.Groups.{IsCheckedIn, IsAskedIn, ArePlacesWhere}
use Rattle.coherence.specs.KeptLines.{KeepsQuestions}
use Rattle.coherence.proofs.KeptLines.{stays-on}
use Rattle.coherence.proofs.kept.keep_answers.Goals as goal

pub keep_checks-requires-clause-places : goal.keep_checks-requires-clause-places
keep_checks-requires-clause-places g c = subst (ArePlacesWhere (length c.args.workspace.now.checks) (IsCheckedIn c.args.workspace.now c.args.session.now.of_crate)) (sym c.deref.ensures.value) c.requires.group.checks

pub keep_questions-requires-clause-places : goal.keep_questions-requires-clause-places
keep_questions-requires-clause-places g c =
    let d = c.args.workspace.now in
    subst (λ k. ArePlacesWhere (length d.questions) (IsAskedIn d k) c.deref-2.result.now) (sym c.in_ok-keep_checks.ensures.stays.of_crate)
    (subst (ArePlacesWhere (length d.questions) (IsAskedIn d c.args.session.now.of_crate)) (sym c.deref-2.ensures.value) c.requires.group.questions)

pub keep_questions-requires-clause-kept : goal.keep_questions-requires-clause-kept
keep_questions-requires-clause-kept g c =
    let d = c.args.workspace.now in
    let s = c.in_ok-keep_checks.ensures.stays in
    subst (λ k. KeepsQuestions c.keep_checks.new.session.depth d k c.args.lines.now.questions.items) (sym s.of_crate)
    (subst (λ n. KeepsQuestions n d c.args.session.now.of_crate c.args.lines.now.questions.items) (sym s.depth) c.requires.kept.questions)

pub returns-clause-kept : goal.returns-clause-kept
returns-clause-kept g c =
    let d = c.args.workspace.now in
    let s = c.in_ok-keep_checks.ensures.stays in
    let after = c.keep_questions.new.lines.items in
    on_ok_weaker c.keep_questions.result
    (λ k. record {
      checks = c.in_ok-keep_checks.ensures.kept;
      questions = subst (λ b. KeepsQuestions c.args.session.now.depth d (b + 1) after) s.of_crate
          (subst (λ n. KeepsQuestions n d (c.keep_checks.new.session.of_crate + 1) after) s.depth k);
    })
    c.keep_questions.ensures.kept

pub returns-clause-stays : goal.returns-clause-stays
returns-clause-stays g c = stays-on _ _ _ c.in_ok-keep_checks.ensures.stays c.keep_questions.ensures.stays
