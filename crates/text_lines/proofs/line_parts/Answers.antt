use Rattle.text_lines.proofs.PartsOfLines.{parts-stand, uses-of-parts, asked-of-parts, depth-of-parts}
use Rattle.text_lines.proofs.line_parts.Goals as goal

pub returns-clause-stand : goal.returns-clause-stand
returns-clause-stand c = parts-stand

pub returns-clause-uses : goal.returns-clause-uses
returns-clause-uses c = uses-of-parts

pub returns-clause-asked : goal.returns-clause-asked
returns-clause-asked c = asked-of-parts

pub returns-clause-depth : goal.returns-clause-depth
returns-clause-depth c = depth-of-parts
