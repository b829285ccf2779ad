use Rattle.std.proofs.Common.{subst, map}
use Rattle.text_names.specs.Views.{resolved_in}
use Rattle.text_parser.specs.Keeping.{AddsCells}
use Rattle.text_parser.proofs.KeptTypes.{bound-kept}
use Rattle.text_parser.proofs.parts.with_self.Goals as goal

pub returns : goal.returns
returns c v e n =
    bound-kept v e c.args.bound.now c.args.subject.items (record { trait_id = c.trait_id.result; args = c.push_cells.new.kept })
    (subst (λ x. AddsCells e (map resolved_in x) c.args.subject.items c.push_cells.new.kept.items) c.deref.ensures.value (c.in_ok-push_cells.ensures e n)) c.trait_id.ensures
