use Rattle.std.proofs.Common.{◌≡◌, sym, subst, length}
use Rattle.std.specs.Prelude.{IfOk}
use Rattle.type_terms.specs.Promised.Worlds.{World}
use Rattle.declarations.specs.Items.{IsAbove}
use Rattle.text_tables.specs.Numbered.{IsNumbered}
use Rattle.pair_checks.specs.ByTrait.{ListsImpls}
use Rattle.sessions.specs.Checking.{ListsSeen}
use Rattle.sessions.specs.Promised.Promises.{view_in}
use Rattle.sessions.specs.Promised.Subjects.{Subject}
use Rattle.sessions.proofs.ImplNumbers.{numbers-below}
use Rattle.sessions.proofs.session.Session.impls_by_trait.Goals as goal

pub of_declarations-requires-clause-held : goal.of_declarations-requires-clause-held
of_declarations-requires-clause-held c = c.self.invariant.session.rest.ready.handler.held

pub of_declarations-requires-clause-numbered : goal.of_declarations-requires-clause-numbered
of_declarations-requires-clause-numbered c =
    let i = c.self.inside in
    let own : IsNumbered i.workspace.now = subst (λ (s : Subject). IsNumbered s.declarations) (sym c.self.view_is) c.requires.numbered in
    let end : c.args.end ≡ length i.workspace.now.impls = subst (λ (s : Subject). c.args.end ≡ length s.declarations.impls) (sym c.self.view_is) c.requires.end in
    subst (λ n. IsAbove n i.search.cx.handler.declarations) (sym end) (numbers-below i.workspace.now i.crate_id.index own i.search.cx.interner.entries i.search.cx.handler.declarations c.self.invariant.session.view.rules)

pub returns : goal.returns
returns c =
    let i = c.self.inside in
    subst (λ (s : Subject). IfOk c.of_declarations.result (ListsSeen s)) c.self.view_is
    (subst (λ n. IfOk c.of_declarations.result (ListsImpls (view_in i.workspace.now i.crate_id.index) n)) c.self.invariant.session.view.local
    (subst (λ (V : World). IfOk c.of_declarations.result (ListsImpls V i.search.cx.handler.declarations.local)) c.self.invariant.session.view.rules c.of_declarations.ensures))
