use Rattle.std.proofs.Common.{◌∙◌, ap, sym, arith}
use Rattle.session_inference.specs.Shapes.{are_types}
use Rattle.session_inference.proofs.Shapes.{all-types, not-types, take-whole}
use Rattle.session_inference.proofs.shape.types_of.Goals as goal

pub returns-in_default : goal.returns-in_default
returns-in_default c = record { are = tt; all = sym (not-types c.args.parts.now c.parts.part-index _ c.parts-test.true (λ t e. c.in_default.not-Ty t (c.part-item.is ∙ e))) }

pub returns-clause-all : goal.returns-clause-all
returns-clause-all c = sym (ap are_types (sym (c.parts.invariant ∙ take-whole c.parts.part-index c.args.parts.now (omega (arith, c.parts-test.false)))) ∙ all-types c.parts.tys.items)
