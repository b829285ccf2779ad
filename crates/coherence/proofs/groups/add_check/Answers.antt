use Rattle.std.proofs.Common.{arith, refl}
use Rattle.std.proofs.lemmas.Option.{slice_get_read}
use Rattle.coherence.proofs.Grouping.{check-added}
use Rattle.coherence.proofs.KeptLines.{checked-there}
use Rattle.coherence.proofs.groups.add_check.Goals as goal

pub index_mut-requires : goal.index_mut-requires
index_mut-requires c =
    let d = c.args.workspace.now in
    let a = c.checked_at-checked.ensures in
    let home = checked-there d a.0 c.requires.numbered (c.requires.numbered.checks c.args.place a.0 a.1) in
    omega (arith, home, a.2, c.requires.groups.for_each)

pub returns : goal.returns
returns c =
    let d = c.args.workspace.now in
    let gs = c.args.groups.now.items in
    let a = c.checked_at-checked.ensures in
    let home = checked-there d a.0 c.requires.numbered (c.requires.numbered.checks c.args.place a.0 a.1) in
    let within = slice_get_read gs _ c.checked_at-checked.result.index c.index_mut.result.now refl (omega (arith, home, a.2, c.requires.groups.for_each)) c.index_mut.ensures.value in
    check-added d c.args.place 0 c.checked_at-checked.result.index gs c.index_mut.result.now _ c.requires.groups a within c.in_ok-push.ensures.items refl
