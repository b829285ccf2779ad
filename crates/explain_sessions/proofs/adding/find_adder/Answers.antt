use Rattle.std.proofs.Common.{Some, sym, subst}
use Rattle.std.specs.Prelude.{IfSome, ℕ}
use Rattle.sessions.specs.TypeTerms.Promised.Worlds.{World}
use Rattle.sessions.specs.Declarations.Held.{ReferenceHeld}
use Rattle.sessions.specs.Declarations.Items.{declared, reference_in}
use Rattle.sessions.specs.Promised.Promises.{view_in}
use Rattle.sessions.specs.Promised.Subjects.{Subject}
use Rattle.explain_sessions.specs.Adding.{MayWrite}
use Rattle.explain_sessions.specs.Unseen.{IsUnseen}
use Rattle.explain_sessions.proofs.adding.find_adder.Goals as goal

pub adder_in-requires : goal.adder_in-requires
adder_in-requires c = subst (λ (s : Subject). ReferenceHeld s.terms c.args.reference) (sym c.session.view_is) c.requires.held

pub returns : goal.returns
returns c =
    let i = c.session.inside in
    let es = i.search.cx.interner.entries in
    let d = i.search.cx.handler.declarations in
    let r = reference_in es c.args.reference in
    let unseen = subst (λ (k : ℕ). IsUnseen (declared es d) k r (Some c.args.conflict)) (sym c.session.invariant.session.view.local)
    (subst (λ (V : World). IsUnseen V i.crate_id.index r (Some c.args.conflict)) (sym c.session.invariant.session.view.rules)
    (subst (λ (s : Subject). IsUnseen (view_in s.declarations s.of_crate) s.of_crate (reference_in s.terms c.args.reference) (Some c.args.conflict)) (sym c.session.view_is) c.requires.unseen)) in
    subst (λ (s : Subject). IfSome c.adder_in.result (MayWrite (view_in s.declarations s.of_crate) s.of_crate (reference_in s.terms c.args.reference))) c.session.view_is
    (subst (λ (V : World). IfSome c.adder_in.result (MayWrite V i.crate_id.index r)) c.session.invariant.session.view.rules
    (subst (λ (k : ℕ). IfSome c.adder_in.result (MayWrite (declared es d) k r)) c.session.invariant.session.view.local (c.adder_in.ensures unseen)))
