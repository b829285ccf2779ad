use Rattle.std.proofs.Common.{sym, ◌∙◌}
use Rattle.type_terms.specs.Promised.Label.{principal}
use Rattle.type_terms.specs.Promised.Handles.{trees_at}
use Rattle.type_terms.proofs.InfoFacts.{info-binder, principal-info}
use Rattle.type_terms.proofs.interner.Interner.principal_info.Goals as goal

pub returns-in-Some : goal.returns-in-Some
returns-in-Some c =
    let p = c.in-Some.principal in
    rw c.in-Some.is
    (c.binder.ensures ∙ sym (principal-info p.bound_vars p.def_id.index c.info.result)
    ∙ info-binder (principal p.bound_vars p.def_id.index) (trees_at c.args.self.now.entries p.args.0) c.info.result c.info.ensures.is)
