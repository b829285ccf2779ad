use Rattle.std.proofs.Common.{sym, subst}
use Rattle.std.specs.Prelude.{IfOk, ℕ}
use Rattle.sessions.specs.TypeTerms.Promised.Worlds.{World}
use Rattle.sessions.specs.Declarations.Held.{ReferenceHeld}
use Rattle.sessions.specs.Declarations.Items.{declared, reference_in}
use Rattle.sessions.specs.Promised.Promises.{view_in}
use Rattle.sessions.specs.Promised.Subjects.{Subject}
use Rattle.explain_sessions.specs.Unseen.{IsUnseen}
use Rattle.explain_sessions.proofs.unseen.unseen_crates.Goals as goal

pub conflict_of-requires : goal.conflict_of-requires
conflict_of-requires c = subst (λ (s : Subject). ReferenceHeld s.terms c.args.reference) (sym c.session.view_is) c.requires

pub returns : goal.returns
returns c =
    let i = c.session.inside in
    let r = reference_in i.search.cx.interner.entries c.args.reference in
    subst (λ (s : Subject). IfOk c.conflict_of.result (IsUnseen (view_in s.declarations s.of_crate) s.of_crate (reference_in s.terms c.args.reference))) c.session.view_is
    (subst (λ (V : World). IfOk c.conflict_of.result (IsUnseen V i.crate_id.index r)) c.session.invariant.session.view.rules
    (subst (λ (k : ℕ). IfOk c.conflict_of.result (IsUnseen (declared i.search.cx.interner.entries i.search.cx.handler.declarations) k r)) c.session.invariant.session.view.local c.conflict_of.ensures))
