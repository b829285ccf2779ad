use Rattle.std.proofs.Common.{sym, ap, ◌∙◌}
use Rattle.structural_traits.specs.Constituents.{last_of}
use Rattle.structural_traits.proofs.Trees.{last-is}
use Rattle.structural_traits.proofs.constituents.last_alone.Goals as goal

pub returns-in_ok-vec-in-Some-clause-is : goal.returns-in_ok-vec-in-Some-clause-is
returns-in_ok-vec-in-Some-clause-is c = c.in_ok-vec-in-Some.ensures.items ∙ sym (ap last_of c.in-Some.ensures.cases.0 ∙ last-is c.in-Some.field-0-1.now c.in-Some.last.now)
