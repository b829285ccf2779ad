use Rattle.std.proofs.Common.{◌<◌, IfSome, length, map, ap, subst, ◌∙◌}
use Rattle.text_lines.specs.Views.{statement_of}
use Rattle.text_parser.specs.BareLines.{sort_of_param}
use Rattle.text_parser.proofs.Ordering.{kinds-of-bare}
use Rattle.text_parser.proofs.line_tables.LineTables.new.Goals as goal

pub invariant_of-result : goal.invariant_of-result
invariant_of-result c = record {
  looking_said = c.looking_crate-looking.ensures.number;
  looking_there = λ crate is. subst (λ o. IfSome o (λ x. x.index < length c.args.before.crates)) is c.looking_crate-looking.ensures.there;
  kinds_said = c.in_ok-kinds.ensures ∙ ap (map sort_of_param) c.params.ensures ∙ kinds-of-bare (statement_of c.args.statement.now) c.requires.ordered;
}
