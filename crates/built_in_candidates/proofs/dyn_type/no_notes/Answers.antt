use Rattle.std.proofs.Common.{sym, subst}
use Rattle.built_in_candidates.specs.Noted.{IsElaborated}
use Rattle.built_in_candidates.proofs.Noted.{none-noted}
use Rattle.built_in_candidates.proofs.dyn_type.no_notes.Goals as goal

pub returns : goal.returns
returns c = λ es d later k. subst (IsElaborated later d) (sym c.new.ensures.items) (none-noted later d)
