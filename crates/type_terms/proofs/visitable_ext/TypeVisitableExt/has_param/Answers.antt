use Rattle.std.proofs.Common.{◌∙◌}
use Rattle.type_terms.proofs.ScanFacts.{scan-params}
use Rattle.type_terms.proofs.visitable_ext.TypeVisitableExt.has_param.Goals as goal

pub returns : goal.returns
returns g c = c.has_type_flags.ensures ∙ scan-params (g.Self.TypeVisitable.pieces c.args.self c.args.cx.now.entries)
