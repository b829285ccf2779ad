use Rattle.std.proofs.Common.{ap, ◌∙◌, ◌++◌, ◌∷◌, []}
use Rattle.text_tables.specs.declared.cell.TermCell.TheVariants.{Param}
use Rattle.text_parser.proofs.KeptTypes.{self-kept}
use Rattle.text_parser.proofs.parts.self_cells.Goals as goal

pub returns : goal.returns
returns c = self-kept c.push.new.self.items (c.in_ok-push.ensures.items ∙ ap (λ x. x ++ Param 0 ∷ []) c.new-cells.ensures.items)
