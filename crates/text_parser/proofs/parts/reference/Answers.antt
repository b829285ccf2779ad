use Rattle.std.proofs.Common.{subst}
use Rattle.text_parser.specs.Kept.{KeepsType}
use Rattle.text_parser.proofs.KeptTypes.{reference-kept}
use Rattle.text_parser.proofs.parts.reference.Goals as goal

pub returns : goal.returns
returns c v e n =
    reference-kept v e c.args.subject.now c.args.bound.now c.push_type.new.kept.items c.in_ok-made.made
    (subst (λ x. KeepsType v e c.args.subject.now x c.push_type.new.kept.items) c.in_ok-own.ensures.items (c.in_ok-push_type.ensures v e n)) (c.in_ok-made.ensures v e n)
