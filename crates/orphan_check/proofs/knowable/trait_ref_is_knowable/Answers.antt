use Rattle.orphan_check.proofs.Exactness.{knowable-exact}
use Rattle.orphan_check.proofs.knowable.trait_ref_is_knowable.Goals as goal

pub returns-clause-exact : goal.returns-clause-exact
returns-clause-exact g c = λ same.
    knowable-exact c.args.context.now.cx.now.entries c.lawful.ensures c.args.context.now.decls.now c.args.context.now.infcx.now c.requires.ready (g.N.Normalize.answers c.args.normalize.now) c.args.limit c.args.trait_ref c.requires.held same
    c.knowable_by_walks.result c.knowable_by_walks.ensures
