use Rattle.std.proofs.Common.{◌∙◌, Some, ap, subst}
use Rattle.std.specs.Prelude.{IfSome}
use Rattle.sessions.specs.Declarations.Items.{declared, reference_in}
use Rattle.explain_sessions.specs.Adding.{MayWrite}
use Rattle.explain_sessions.proofs.adding.adder_in.Goals as goal

pub returns-in-Some-User : goal.returns-in-Some-User
returns-in-Some-User c = λ u.
    let es = c.args.cx.now.entries in
    let d = c.args.declarations.now in
    subst (λ o. IfSome o (MayWrite (declared es d) d.local (reference_in es c.args.reference))) (c.in-Some-User.is ∙ ap Some c.in-Some-User.field-0-is) (c.adder_of.ensures es u)

pub returns-then-sees_all : goal.returns-then-sees_all
returns-then-sees_all c = λ u.
    let es = c.args.cx.now.entries in
    let d = c.args.declarations.now in
    subst (λ o. IfSome o (MayWrite (declared es d) d.local (reference_in es c.args.reference))) (c.in-Some-Owner.is ∙ ap Some c.in-Some-Owner.field-0-is) (c.adder_of.ensures es u)
