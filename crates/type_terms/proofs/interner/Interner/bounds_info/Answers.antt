use Rattle.std.proofs.Common.{◌∙◌, ap}
use Rattle.type_terms.specs.Infos.{info_of}
use Rattle.type_terms.specs.Kinds.{principal_trees, autos_trees}
use Rattle.type_terms.proofs.InfoFacts.{info-joined}
use Rattle.type_terms.proofs.interner.Interner.bounds_info.Goals as goal

pub returns : goal.returns
returns c =
    let autos = c.autos_info.ensures ∙ ap (λ xs. info_of (autos_trees xs)) c.deref.ensures.value in
    c.join.ensures
    ∙ info-joined (principal_trees c.args.self.now.entries c.args.bounds.now.principal) (autos_trees c.args.bounds.now.autos.items) _ _ c.principal_info.ensures autos
