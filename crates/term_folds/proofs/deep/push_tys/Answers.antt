use Rattle.type_terms.proofs.Items.{ty-held-at}
use Rattle.term_folds.proofs.deep.push_tys.Goals as goal

pub loop-ty-init : goal.loop-ty-init
loop-ty-init c = (c.requires.todo, c.tys-ty-items.ensures.held)

pub push-requires-clause-held : goal.push-requires-clause-held
push-requires-clause-held c =
    let xs = c.tys-ty-items.result.now in
    ty-held-at c.args.cx.now.entries xs c.loop-ty.ty-index (record { 0 = 0 }) c.loop-ty.invariant.1 c.loop-ty-test.true
