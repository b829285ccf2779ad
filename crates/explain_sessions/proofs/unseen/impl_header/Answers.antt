use Rattle.std.proofs.Common.{ℕ, Option, Some, None, List, map, ap, subst}
use Rattle.sessions.specs.TypeTerms.Promised.Erased.{erased_reference}
use Rattle.sessions.specs.TypeTerms.Promised.Handles.{Entry}
use Rattle.sessions.specs.TypeTerms.Promised.Worlds.{World, ImplDecl}
use Rattle.sessions.specs.TermFolds.declared.predicate.TraitRef.{TraitRef}
use Rattle.sessions.specs.Declarations.Held.{ReferenceHeld}
use Rattle.sessions.specs.Declarations.Items.{IsOnly, reference_in}
use Rattle.sessions.specs.Promised.Promises.{view_in}
use Rattle.sessions.specs.Promised.Subjects.{Subject}
use Rattle.explain_sessions.specs.Unseen.{headers_named}
use Rattle.explain_sessions.proofs.unseen.impl_header.Goals as goal

-- The header, if there is one, is that of the only impl with the number.
abbrev IsOnlyHeader : List Entry → World → ℕ → Option TraitRef → Type 0
IsOnlyHeader es V n r = IsOnly (λ (h : TraitRef). erased_reference (reference_in es h)) r (headers_named V n)

pub returns-in-Some-clause-held : goal.returns-in-Some-clause-held
returns-in-Some-clause-held c = subst (λ (s : Subject). ReferenceHeld s.terms c.in-Some.def.now.header) c.session.view_is (c.in-Some.ensures.held c.session.inside.search.cx.interner.entries c.session.invariant.session.rest.ready.handler.held).header

pub returns-in-Some-clause-is : goal.returns-in-Some-clause-is
returns-in-Some-clause-is c =
    let es = c.session.inside.search.cx.interner.entries in
    let n = c.args.id.index in
    let r = Some c.in-Some.def.now.header in
    subst (λ (s : Subject). IsOnlyHeader s.terms (view_in s.declarations s.of_crate) n r) c.session.view_is
    (subst (λ (V : World). IsOnlyHeader es V n r) c.session.invariant.session.view.rules
    (ap (map (λ (x : ImplDecl). x.header)) (c.in-Some.ensures.found es)))

pub returns-in-None-clause-is : goal.returns-in-None-clause-is
returns-in-None-clause-is c =
    let es = c.session.inside.search.cx.interner.entries in
    let n = c.args.id.index in
    subst (λ (s : Subject). IsOnlyHeader s.terms (view_in s.declarations s.of_crate) n None) c.session.view_is
    (subst (λ (V : World). IsOnlyHeader es V n None) c.session.invariant.session.view.rules
    (ap (map (λ (x : ImplDecl). x.header)) (c.in-None.ensures.found es)))
