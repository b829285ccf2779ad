use Rattle.std.proofs.Common.{ℕ, Vec, Global}
use Rattle.text_parser.specs.TextNames.FaultNumbers.{fault_number}
use Rattle.coherence.specs.LineSources.{lines_given}
use Rattle.coherence.proofs.SourceLines.{fault-next}
use Rattle.coherence.proofs.output_lines.next_of.Goals as goal

pub returns-in_ok-next_of_fault-in-Fault-clause-line : goal.returns-in_ok-next_of_fault-in-Fault-clause-line
returns-in_ok-next_of_fault-in-Fault-clause-line g c =
    let given = c.in_ok-next_of_fault-in-Fault in
    let found = c.in-Fault.found in
    rw c.in-Fault.is (fault-next (λ (v : Vec ℕ Global). v.items) c.args.limits.depth found.line (fault_number found.kind) (lines_given c.args.given.now) (lines_given c.next_of_fault.new.given) given.field-0 given.ensures.line given.ensures.counts)
