use Rattle.type_terms.proofs.Items.{arg-held-at}
use Rattle.term_folds.proofs.deep.push_args.Goals as goal

pub loop-arg-init : goal.loop-arg-init
loop-arg-init c = (c.requires.todo, c.args-arg-items.ensures.held)

pub push_arg-requires-clause-held : goal.push_arg-requires-clause-held
push_arg-requires-clause-held c =
    let xs = c.args-arg-items.result.now in
    let x = c.arg-item.result in
    rw c.arg-item.is (arg-held-at c.args.cx.now.entries xs c.loop-arg.arg-index x c.loop-arg.invariant.1 c.loop-arg-test.true)
