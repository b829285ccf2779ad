use Rattle.std.proofs.Common.{◌≡◌, drop}
use Rattle.text_names.proofs.Places.{place_from}
use Rattle.text_names.proofs.binders.place_in.Given as goal

abbrev pub invariant-loop-i : goal.invariant-loop-i
invariant-loop-i l = place_from l.name 0 l.names ≡ place_from l.name l.i (drop l.i l.names)
