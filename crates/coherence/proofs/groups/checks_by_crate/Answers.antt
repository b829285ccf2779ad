use Rattle.std.proofs.Common.{arith, ap, length, subst, ◌≡◌}
use Rattle.std.proofs.lemmas.List.{length-map}
use Rattle.sessions.specs.TextTables.Views.{check_of}
use Rattle.coherence.specs.Groups.{AreGroups}
use Rattle.coherence.proofs.groups.checks_by_crate.Goals as goal

pub returns : goal.returns
returns c =
    let e : c.loop-place.place ≡ length c.args.workspace.now.checks =
    omega (arith, c.loop-place-test.false, c.loop-place.auto.place-end, ap length c.checks-place-end.ensures, length-map c.checks-place-end.result.now check_of) in
    subst (λ n. AreGroups n 0 c.args.workspace.now c.loop-place.groups.items) e c.loop-place.invariant
