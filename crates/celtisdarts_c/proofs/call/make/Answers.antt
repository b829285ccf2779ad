use Rattle.celtisdarts_c.proofs.Slots.{refused-so, stays-itself}
use Rattle.celtisdarts_c.proofs.call.make.Goals as goal

pub returns-in_err-ids-clause-refused : goal.returns-in_err-ids-clause-refused
returns-in_err-ids-clause-refused c = refused-so c.from_residual.result _ (stays-itself c.args.session.now)

pub returns-in_err-operation-clause-refused : goal.returns-in_err-operation-clause-refused
returns-in_err-operation-clause-refused c = refused-so c.from_residual-in_err-operation.result _ (stays-itself c.args.session.now)
