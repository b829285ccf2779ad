use Rattle.std.proofs.Common.{sym, ◌∙◌}
use Rattle.type_terms.proofs.ScanFacts.{or_none}
use Rattle.type_terms.proofs.visitable_ext.TysTypeVisitableExt.flags.Goals as goal

pub returns : goal.returns
returns c = c.flags.ensures ∙ sym (or_none _)
