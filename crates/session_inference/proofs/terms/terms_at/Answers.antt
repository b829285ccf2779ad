use Rattle.std.proofs.Common.{refl}
use Rattle.session_inference.proofs.Lists.{all-found, one-more}
use Rattle.session_inference.proofs.terms.terms_at.Goals as goal

pub ids-init : goal.ids-init
ids-init c = rw c.new-list.ensures.items refl

pub ids-preserved : goal.ids-preserved
ids-preserved c =
    rw c.in_ok-push.ensures.items
    (one-more c.args.terms.now c.args.ids.now c.ids.list.items c.ids.id-index (record { index = 0 }) c.in_ok-term.term c.ids-test.true c.ids.invariant c.in_ok-term.ensures.there)

pub returns-clause-there : goal.returns-clause-there
returns-clause-there c = all-found c.args.terms.now c.args.ids.now c.ids.list.items c.ids.id-index c.ids-test.false c.ids.invariant
