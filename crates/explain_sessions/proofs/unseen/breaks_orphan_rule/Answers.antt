use Rattle.std.proofs.Common.{◌≡◌, ap, sym, subst}
use Rattle.std.specs.Prelude.{ℕ, not}
use Rattle.sessions.specs.TypeTerms.Promised.Walks.{keeps_orphan_rule}
use Rattle.sessions.specs.TypeTerms.Promised.Worlds.{World}
use Rattle.sessions.specs.Declarations.Held.{ReferenceHeld}
use Rattle.sessions.specs.Declarations.Items.{declared, reference_in}
use Rattle.sessions.specs.Promised.Promises.{view_in}
use Rattle.sessions.specs.Promised.Subjects.{Subject}
use Rattle.explain_sessions.proofs.unseen.breaks_orphan_rule.Goals as goal

pub keeps_orphan_rule-requires : goal.keeps_orphan_rule-requires
keeps_orphan_rule-requires c = subst (λ (s : Subject). ReferenceHeld s.terms c.args.header) (sym c.session.view_is) c.requires

pub returns : goal.returns
returns c =
    let i = c.session.inside in
    let b = c.keeps_orphan_rule.result in
    subst (λ (s : Subject). not b ≡ not (keeps_orphan_rule (view_in s.declarations s.of_crate) s.of_crate (reference_in s.terms c.args.header))) c.session.view_is
    (subst (λ (V : World). not b ≡ not (keeps_orphan_rule V i.crate_id.index (reference_in i.search.cx.interner.entries c.args.header))) c.session.invariant.session.view.rules
    (subst (λ (k : ℕ). not b ≡ not (keeps_orphan_rule (declared i.search.cx.interner.entries i.search.cx.handler.declarations) k (reference_in i.search.cx.interner.entries c.args.header))) c.session.invariant.session.view.local
    (ap not c.keeps_orphan_rule.ensures)))
