use Rattle.std.proofs.Common.{◌≡◌, take, map}
use Rattle.text_lines.specs.TokenViews.{text_of}
use Rattle.text_language.specs.Uses.{crate_use}
use Rattle.text_names.specs.Machine.{findings}
use Rattle.text_names.proofs.line.crate_names.Given as goal

abbrev pub invariant-loop-name : goal.invariant-loop-name
invariant-loop-name g l = l.faults ≡ findings (g.N.Names.sight l.names) (map crate_use (map text_of (take l.name-index l.crates)))
