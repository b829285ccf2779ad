use Rattle.proof_checker.proofs.Statics.{static-ok}
use Rattle.proof_checker.proofs.lifetimes.without_lifetimes.Goals as goal

pub returns-clause-is : goal.returns-clause-is
returns-clause-is c =
    static-ok c.args.cx.now.entries c.fold_regions.new.cx.entries c.args.reference c.fold_regions.result c.fold_regions.ensures.outline c.fold_regions.ensures.replaced

pub returns-clause-terms : goal.returns-clause-terms
returns-clause-terms c = c.fold_regions.ensures.terms
