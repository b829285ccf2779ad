use Rattle.text_lines.proofs.MachineLaws.{finds, machine_reads, machine_reads_bound, refuses}
use Rattle.text_lines.proofs.machine_laws.Goals as goal

pub returns-clause-finds : goal.returns-clause-finds
returns-clause-finds c = finds

pub returns-clause-reads : goal.returns-clause-reads
returns-clause-reads c = machine_reads

pub returns-clause-refuses : goal.returns-clause-refuses
returns-clause-refuses c = refuses

pub returns-clause-bounds : goal.returns-clause-bounds
returns-clause-bounds c = machine_reads_bound
