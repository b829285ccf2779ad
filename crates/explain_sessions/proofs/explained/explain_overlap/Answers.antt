use Rattle.std.proofs.Common.{◌≡◌, true, ap, sym, subst}
use Rattle.std.specs.Prelude.{IfOk, IfSome}
use Rattle.sessions.specs.TypeTerms.Promised.Worlds.{World}
use Rattle.sessions.specs.ProofChecker.Steps.{term_of}
use Rattle.sessions.proofs.ProofChecker.Results.{mapped-some}
use Rattle.sessions.specs.Promised.Promises.{view_in}
use Rattle.sessions.specs.Promised.Subjects.{Subject}
use Rattle.explain_sessions.specs.Rules.{HasRulesByBoth}
use Rattle.explain_sessions.proofs.RuleCandidates.{both-aside}
use Rattle.sessions.specs.Checking.{HaveOwnNumbers, rules_in}
use Rattle.sessions.proofs.ImplNumbers.{own-numbers}
use Rattle.sessions.proofs.Keeping.{session-rests}
use Rattle.explain_sessions.proofs.Staying.{kept-within, stays}
use Rattle.explain_sessions.proofs.explained.explain_overlap.Goals as goal

pub walk_pair-requires-clause-rest : goal.walk_pair-requires-clause-rest
walk_pair-requires-clause-rest c = session-rests c.session.inside.workspace.now c.session.inside.crate_id.index c.session.inside.limits.depth c.session.inside.search.cx c.session.inside.search.graph c.session.inside.search.cache c.session.invariant.session

pub walk_pair-requires-clause-numbers : goal.walk_pair-requires-clause-numbers
walk_pair-requires-clause-numbers c = subst HaveOwnNumbers (sym c.session.invariant.session.view.rules) (own-numbers c.session.inside.workspace.now c.session.inside.crate_id.index c.crates.ensures.numbered)

pub invariant_of-session : goal.invariant_of-session
invariant_of-session c = kept-within c.session.inside.workspace.now c.session.inside.crate_id.index c.session.inside.limits.depth c.session.inside.limits.handles c.session.inside.search.cx c.walk_pair.new.search.cx c.session.inside.search.graph c.walk_pair.new.search.graph c.session.inside.search.cache c.walk_pair.new.search.cache c.session.invariant c.walk_pair.ensures.rests

pub returns-clause-stays : goal.returns-clause-stays
returns-clause-stays c = stays c.session.inside.workspace.now c.session.inside.crate_id.index c.session.inside.limits.depth c.session.inside.limits.handles c.session.inside.search.cx c.walk_pair.new.search.cx c.session.inside.search.graph c.walk_pair.new.search.graph _ c.session.view_is c.walk_pair.ensures.rests.keeps

pub returns-clause-rules : goal.returns-clause-rules
returns-clause-rules c =
    let i = c.session.inside in
    let new = c.walk_pair.new.search.cx.interner.entries in
    let cs = (view_in i.workspace.now i.crate_id.index).crates in
    subst (λ (s : Subject). IfOk c.walk_pair.result (λ o. IfSome o (λ p. p.is_checked ≡ true → HasRulesByBoth (view_in s.declarations s.of_crate) (term_of new p.common) c.args.later.index c.args.earlier.index))) c.session.view_is
    (mapped-some _ _ c.walk_pair.result
    (λ p f q. subst (λ (V : World). HasRulesByBoth V (term_of new p.common) c.args.later.index c.args.earlier.index) (ap (λ (V : World). record V { crates = cs }) c.session.invariant.session.view.rules)
    (both-aside (rules_in i.search.cx) cs (term_of new p.common) c.args.later.index c.args.earlier.index (f q)))
    c.walk_pair.ensures.rules)
