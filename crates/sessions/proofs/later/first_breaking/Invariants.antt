use Rattle.std.proofs.Common.{map}
use Rattle.declarations.specs.Items.{declared}
use Rattle.sessions.specs.Later.{header_in}
use Rattle.sessions.proofs.LaterChecks.{AddableUpTo}
use Rattle.sessions.proofs.later.first_breaking.Given as goal

abbrev pub invariant-loop-index : goal.invariant-loop-index
invariant-loop-index l = AddableUpTo (declared l.cx.entries l.declarations) l.declarations.local (map (header_in l.cx.entries) l.impls) l.index
