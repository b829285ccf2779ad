use Rattle.text_names.proofs.StandingLaws as laws
use Rattle.text_names.proofs.cells_stand.Goals as goal

pub returns : goal.returns
returns c = laws.cells_stand
