use Rattle.std.proofs.Common.{◌≡◌, Some, ap, sym, subst}
use Rattle.std.specs.List.{slice_get}
use Rattle.sessions.specs.TypeTerms.Promised.Worlds.{World}
use Rattle.sessions.specs.Declarations.Held.{ReferenceHeld}
use Rattle.sessions.specs.ProofChecker.Steps.{term_of}
use Rattle.sessions.specs.Promised.Promises.{view_in}
use Rattle.sessions.specs.Promised.Subjects.{Subject}
use Rattle.explain_sessions.specs.Rules.{HasNoRow, HasNoRowAt}
use Rattle.explain_sessions.proofs.RuleCandidates.{there-held}
use Rattle.explain_sessions.proofs.fitting.no_built_in_rule_fits.Goals as goal

pub has_no_row-requires : goal.has_no_row-requires
has_no_row-requires c =
    subst (λ (s : Subject). ReferenceHeld s.terms c.in-Some.reference) (sym c.session.view_is)
    (there-held c.args.session.now.terms c.args.walk.now.references.items c.args.place c.in-Some.reference c.requires (subst (λ l. slice_get l c.args.place ≡ Some c.in-Some.reference) c.deref.ensures.value c.in-Some.ensures))

pub returns-in-Some : goal.returns-in-Some
returns-in-Some c = λ q.
    let i = c.session.inside in
    let r = c.in-Some.reference in
    let rs = c.args.walk.now.references.items in
    let at = subst (λ l. slice_get l c.args.place ≡ Some r) c.deref.ensures.value c.in-Some.ensures in
    let cs = (view_in i.workspace.now i.crate_id.index).crates in
    subst (λ (s : Subject). HasNoRowAt s.terms (view_in s.declarations s.of_crate) rs c.args.place) c.session.view_is
    (r, at, subst (λ (V : World). HasNoRow V (term_of i.search.cx.interner.entries r)) (ap (λ (V : World). record V { crates = cs }) c.session.invariant.session.view.rules) (c.has_no_row.ensures q cs))
