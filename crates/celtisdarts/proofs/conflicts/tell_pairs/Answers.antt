use Rattle.std.proofs.Common.{rules, ◌≡◌, true}
use Rattle.coherence.proofs.KeptLines.{stays-on}
use Rattle.celtisdarts.proofs.conflicts.tell_pairs.Goals as goal

pub tell_later_pair-requires : goal.tell_later_pair-requires
tell_later_pair-requires c =
    let b : c.in_ok-judge.field-0 ≡ true = search rules in
    c.in_ok-judge.ensures.overlap b

pub returns-then-count-eq-LIST_LIMIT : goal.returns-then-count-eq-LIST_LIMIT
returns-then-count-eq-LIST_LIMIT c = stays-on _ _ _ c.loop-pair.invariant c.judge.ensures.stays
