use Rattle.infer_table.specs.Content.{content}
use Rattle.type_terms.specs.Promised.Handles.{arg_trees}
use Rattle.term_folds.proofs.FoldFacts.{ok-map}
use Rattle.infer_table.proofs.Resolutions.{only-piece}
use Rattle.infer_table.proofs.resolving.resolve_arg.Goals as goal

pub returns-in-None-clause-resolved : goal.returns-in-None-clause-resolved
returns-in-None-clause-resolved c =
    let es = c.args.cx.now.entries in
    ok-map c.eager_resolve_vars.result c.eager_resolve_vars.ensures.resolved
    (λ a h. only-piece (content es c.args.table.now.values) (arg_trees es c.args.arg) (arg_trees c.eager_resolve_vars.new.cx.entries a) h)
