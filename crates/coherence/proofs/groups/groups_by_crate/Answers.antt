use Rattle.std.proofs.Common.{arith, ap, length, subst, ◌≡◌, ℕ, Bool}
use Rattle.std.proofs.lemmas.List.{length-map}
use Rattle.sessions.specs.TextTables.Views.{asked_of}
use Rattle.sessions.specs.TextLanguage.Promised.Declarations.{Question}
use Rattle.coherence.specs.Groups.{AreGroups}
use Rattle.coherence.proofs.groups.groups_by_crate.Goals as goal

pub returns : goal.returns
returns c =
    let e : c.loop-place.place ≡ length c.args.workspace.now.questions =
    omega (arith, c.loop-place-test.false, c.loop-place.auto.place-end, ap length c.questions-place-end.ensures, length-map c.questions-place-end.result.now asked_of, length-map {B = Bool × ℕ} c.args.workspace.now.questions (λ (q : Question). (q.is_refute, q.asker))) in
    subst (λ n. AreGroups (length c.args.workspace.now.checks) n c.args.workspace.now c.loop-place.groups.items) e c.loop-place.invariant
