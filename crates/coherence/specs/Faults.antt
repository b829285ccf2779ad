-- The fault of a run if a session has one.
use Rattle.sessions.specs.TypeTerms.declared.Fault.{Fault}
use Rattle.sessions.specs.TypeTerms.declared.Fault.TheVariants as wants
use Rattle.coherence.specs.declared.status.RunFault.{RunFault}
use Rattle.coherence.specs.declared.status.RunFault.TheVariants as faults

abbrev pub of_fault : Fault → RunFault
of_fault wants.Memory = faults.Memory
of_fault wants.Full = faults.Full
