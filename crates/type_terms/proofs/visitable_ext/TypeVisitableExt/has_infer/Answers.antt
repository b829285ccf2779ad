use Rattle.std.proofs.Common.{◌∙◌}
use Rattle.type_terms.proofs.ScanFacts.{scan-infers}
use Rattle.type_terms.proofs.visitable_ext.TypeVisitableExt.has_infer.Goals as goal

pub returns : goal.returns
returns g c = c.has_type_flags.ensures ∙ scan-infers (g.Self.TypeVisitable.pieces c.args.self c.args.cx.now.entries)
