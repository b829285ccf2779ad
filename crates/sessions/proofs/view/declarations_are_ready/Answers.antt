use Rattle.sessions.proofs.Readying.{texts-ready}
use Rattle.sessions.proofs.view.declarations_are_ready.Goals as goal

pub returns : goal.returns
returns c = texts-ready c.texts_are_declared_well.ensures c.fields_speak_of_parameters.ensures c.impls_speak_of_parameters.ensures.kinds c.bounds_are_applied.ensures
