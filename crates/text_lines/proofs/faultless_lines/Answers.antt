use Rattle.text_lines.proofs.NoFault.{passes-tests, declares-new, uses-crates, belongs-to-crate}
use Rattle.text_lines.proofs.FittingUses.{faultless-uses, faultless-limits}
use Rattle.text_lines.proofs.faultless_lines.Goals as goal

pub returns-clause-tests : goal.returns-clause-tests
returns-clause-tests c = passes-tests

pub returns-clause-names : goal.returns-clause-names
returns-clause-names c = declares-new

pub returns-clause-crates : goal.returns-clause-crates
returns-clause-crates c = uses-crates

pub returns-clause-homes : goal.returns-clause-homes
returns-clause-homes c = belongs-to-crate

pub returns-clause-uses : goal.returns-clause-uses
returns-clause-uses c = faultless-uses

pub returns-clause-limits : goal.returns-clause-limits
returns-clause-limits c = faultless-limits
