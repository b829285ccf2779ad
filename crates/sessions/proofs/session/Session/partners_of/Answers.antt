use Rattle.std.proofs.Common.{refl, sym, subst}
use Rattle.std.specs.Prelude.{IfOk}
use Rattle.type_terms.specs.Promised.Worlds.{World}
use Rattle.pair_checks.specs.ByTrait.{ListsImpls}
use Rattle.sessions.specs.Checking.{ListsSeen, HavePartnersSeen}
use Rattle.sessions.specs.Promised.Promises.{view_in}
use Rattle.sessions.specs.Promised.Subjects.{Subject}
use Rattle.sessions.proofs.PairChecks.{pair-here}
use Rattle.sessions.proofs.Posing.{over-ok}
use Rattle.sessions.proofs.session.Session.partners_of.Goals as goal

pub partners_of-requires-clause-held : goal.partners_of-requires-clause-held
partners_of-requires-clause-held c = c.self.invariant.session.rest.ready.handler.held

pub partners_of-requires-clause-listed : goal.partners_of-requires-clause-listed
partners_of-requires-clause-listed c =
    let i = c.self.inside in
    let m = c.args.impls.now in
    subst (λ (V : World). ListsImpls V i.search.cx.handler.declarations.local m) (sym c.self.invariant.session.view.rules)
    (subst (λ n. ListsImpls (view_in i.workspace.now i.crate_id.index) n m) (sym c.self.invariant.session.view.local) (subst (λ (s : Subject). ListsSeen s m) (sym c.self.view_is) c.requires))

pub returns : goal.returns
returns c =
    let i = c.self.inside in
    let k = c.args.later.index in
    subst (λ (s : Subject). IfOk c.partners_of.result (λ ids. HavePartnersSeen s k ids.items)) c.self.view_is
    (over-ok c.partners_of.result
    (λ ids have x y p e m. have x y (pair-here i.workspace.now i.crate_id.index i.limits.depth i.search.cx i.search.graph i.search.cache c.self.invariant.session k y.name x y (record { pair = p; later = e; earlier = refl })).pair e m) c.partners_of.ensures)
