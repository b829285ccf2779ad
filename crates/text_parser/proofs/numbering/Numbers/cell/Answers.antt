use Rattle.std.proofs.Common.{subst, sym}
use Rattle.text_names.specs.Views.{resolved_in}
use Rattle.text_parser.specs.Numbering.{CellStands}
use Rattle.text_parser.proofs.numbering.Numbers.cell.Goals as goal

pub returns-in-Param-clause-stands : goal.returns-in-Param-clause-stands
returns-in-Param-clause-stands c e n = subst (λ x. CellStands e c.args.autos (resolved_in x) c.param.result) (sym c.in-Param.is) (c.param.ensures.stands e c.args.autos c.in-Param.inside n)

pub returns-in-Variable-clause-stands : goal.returns-in-Variable-clause-stands
returns-in-Variable-clause-stands c e n = subst (λ x. CellStands e c.args.autos (resolved_in x) c.variable.result) (sym c.in-Variable.is) (c.variable.ensures.stands e c.args.autos n)
