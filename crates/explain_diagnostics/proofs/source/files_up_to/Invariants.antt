use Rattle.std.proofs.Common.{◌≡◌, ◌≤◌, length, false}
use Rattle.std.specs.List.{AllWithin}
use Rattle.explain_diagnostics.specs.Files.{begins_by}
use Rattle.explain_diagnostics.proofs.source.files_up_to.Given as goal

abbrev pub invariant-loop-count : goal.invariant-loop-count
invariant-loop-count l = (l.count ≤ length l.parts) × AllWithin (λ p. begins_by l.line p ≡ false) l.parts l.count (length l.parts)

abbrev pub decreases-loop-count : goal.decreases-loop-count
decreases-loop-count l = l.count
