use Rattle.text_lines.proofs.LineLists.{lists-are}
use Rattle.text_lines.proofs.ListsRead.{plain-lines}
use Rattle.text_lines.proofs.WrittenLines.{written-takes, written-again}
use Rattle.text_lines.proofs.written_lines.Goals as goal

pub returns-clause-found : goal.returns-clause-found
returns-clause-found c = written-takes

pub returns-clause-reads : goal.returns-clause-reads
returns-clause-reads c = written-again

pub returns-clause-lists : goal.returns-clause-lists
returns-clause-lists c = lists-are

pub returns-clause-plain : goal.returns-clause-plain
returns-clause-plain c = plain-lines
