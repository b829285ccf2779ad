use Rattle.std.proofs.Common.{ap, sym, subst, ◌∙◌}
use Rattle.text_lines.specs.Views.{statement_of}
use Rattle.text_parser.specs.BareLines.{bare_line}
use Rattle.text_parser.specs.Sights.{sight_of}
use Rattle.text_parser.proofs.Ordering.{Ordered, line-ordered}
use Rattle.text_parser.proofs.Sighted.{sighted}
use Rattle.text_tables.specs.Tables.{declared}
use Rattle.text_parser.proofs.entries.names_of.Goals as goal
use Rattle.type_terms.proofs.TypeBasics.{both-ok}

pub new-requires-2 : goal.new-requires-2
new-requires-2 c = record { ordered = subst Ordered (sym c.requires.read.1.0) (line-ordered c.requires.read.0) }

pub returns : goal.returns
returns c =
    both-ok _ _ _ c.new-2.result
    (λ names b s. sighted (declared c.args.tables.now) c.args.read.now (sight_of names) (b ∙ c.new.ensures) (ap (λ x. bare_line (statement_of x)) s))
    c.new-2.ensures.before c.new-2.ensures.statement
