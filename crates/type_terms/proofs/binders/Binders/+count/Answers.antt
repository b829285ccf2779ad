use Rattle.std.proofs.Common.{sym, arith}
use Rattle.type_terms.proofs.BinderFacts.{count-within, count-past}
use Rattle.type_terms.proofs.binders.Binders.+count.Goals as goal

pub returns-then-binder-count : goal.returns-then-binder-count
returns-then-binder-count t c = rw c.in-Empty.is (sym (count-within c.in-Empty.count c.args.binder.index 0 c.if-binder-count.true))

pub returns-else-binder-count : goal.returns-else-binder-count
returns-else-binder-count t c = rw c.in-Empty.is (sym (count-past c.in-Empty.count c.args.binder.index 0 (omega (arith, c.if-binder-count.false))))
