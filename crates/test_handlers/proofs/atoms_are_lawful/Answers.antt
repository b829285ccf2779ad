use Rattle.test_handlers.proofs.AtomTables.{atoms_are_lawful}
use Rattle.test_handlers.proofs.atoms_are_lawful.Goals as goal

pub returns : goal.returns
returns c = atoms_are_lawful
