use Rattle.std.proofs.Common.{ap, sym, ◌∙◌, bit_and, not, ◌==◌}
use Rattle.type_terms.proofs.ScanFacts.{scan-flags}
use Rattle.type_terms.proofs.visitable_ext.TypeVisitableExt.has_type_flags.Goals as goal

pub returns : goal.returns
returns g c =
    ap (λ n. not (bit_and n c.args.flags.0 == 0)) c.flags.ensures ∙ sym (scan-flags c.args.flags.0 (g.Self.TypeVisitable.pieces c.args.self c.args.cx.now.entries))
