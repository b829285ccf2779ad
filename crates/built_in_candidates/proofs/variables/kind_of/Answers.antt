use Rattle.std.proofs.Common.{◌∙◌}
use Rattle.term_folds.proofs.ParamFacts.{copied-get}
use Rattle.built_in_candidates.proofs.FoundKinds.{kind-found}
use Rattle.built_in_candidates.proofs.variables.kind_of.Goals as goal

pub returns : goal.returns
returns c =
    let ks = c.args.kinds.now in
    let i = c.args.variable.index in
    c.copied.ensures ∙ copied-get ks i c.get.result c.get.ensures.lookup.0 c.get.ensures.lookup.1 ∙ kind-found ks i
