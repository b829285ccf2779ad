use Rattle.coherence.proofs.Asking.{served}
use Rattle.coherence.proofs.asker.Asker.inferring.Goals as goal

pub resumed-requires-clause-parsed : goal.resumed-requires-clause-parsed
resumed-requires-clause-parsed c =
    let i = c.self.inside in
    served i.workspace i.text_length i.kept.limits i.kept.left.items c.self.invariant
