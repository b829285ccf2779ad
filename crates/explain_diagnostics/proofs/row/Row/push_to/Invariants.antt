use Rattle.std.proofs.Common.{◌≡◌, ◌≤◌, ◌+◌, false, string_len}
use Rattle.explain_diagnostics.specs.declared.row.Ink.TheVariants.{Plain}
use Rattle.explain_diagnostics.proofs.row.Row.push_to.Given as goal

abbrev pub invariant-loop-column : goal.invariant-loop-column
invariant-loop-column l = l.has_colors ≡ false → (l.ink ≡ Plain) × (string_len l.out.text ≤ string_len l.fn.out.text + l.column-index)
