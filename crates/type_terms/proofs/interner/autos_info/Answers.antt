use Rattle.std.proofs.Common.{sym}
use Rattle.type_terms.proofs.InfoFacts.{info-autos}
use Rattle.type_terms.proofs.interner.autos_info.Goals as goal

pub returns-in-len1-up : goal.returns-in-len1-up
returns-in-len1-up c = sym (info-autos c.args.autos.now c.in-len1-up.len_at_least)
