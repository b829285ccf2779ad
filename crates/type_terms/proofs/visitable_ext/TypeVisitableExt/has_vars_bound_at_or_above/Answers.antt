use Rattle.std.proofs.Common.{ap, sym, ◌∙◌, ltb}
use Rattle.type_terms.proofs.ScanFacts.{scan-binder}
use Rattle.type_terms.proofs.visitable_ext.TypeVisitableExt.has_vars_bound_at_or_above.Goals as goal

pub returns : goal.returns
returns g c =
    ap (λ n. ltb c.args.binder.index n) c.outer_exclusive_binder.ensures ∙ sym (scan-binder c.args.binder.index (g.Self.TypeVisitable.pieces c.args.self c.args.cx.now.entries))
