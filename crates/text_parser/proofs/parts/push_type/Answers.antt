use Rattle.std.proofs.Common.{subst, map}
use Rattle.text_names.specs.Views.{resolved_in}
use Rattle.text_parser.specs.Keeping.{AddsCells}
use Rattle.text_parser.proofs.KeptTypes.{type-kept}
use Rattle.text_parser.proofs.parts.push_type.Goals as goal

pub returns : goal.returns
returns c v e n =
    type-kept v e c.args.part.now c.args.kept.now.items c.push_cells.new.kept.items
    (subst (λ x. AddsCells e (map resolved_in x) c.args.kept.now.items c.push_cells.new.kept.items) c.deref.ensures.value (c.in_ok-push_cells.ensures e n))
