use Rattle.orphan_check.proofs.Exactness.{orphan-exact}
use Rattle.orphan_check.proofs.orphan.orphan_check_trait_ref.Goals as goal

pub returns-clause-exact : goal.returns-clause-exact
returns-clause-exact g c = λ same.
    orphan-exact c.args.context.now.cx.now.entries c.lawful.ensures c.args.context.now.decls.now c.args.context.now.infcx.now c.requires.ready (g.N.Normalize.answers c.args.normalize.now) c.args.limit c.args.trait_ref c.requires.held same c.args.in_crate
    c.orphan_check.result c.orphan_check.ensures.answers
