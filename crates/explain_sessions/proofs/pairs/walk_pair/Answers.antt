use Rattle.std.proofs.Common.{◌≡◌, true, refl, ap, ◌∙◌, sym, subst}
use Rattle.std.specs.Prelude.{IfSome}
use Rattle.sessions.specs.TypeTerms.Kept.{has-later}
use Rattle.sessions.specs.TypeTerms.Terms.{args_lists}
use Rattle.sessions.specs.Declarations.Held.{ReferenceHeld}
use Rattle.sessions.specs.ProofChecker.Steps.{term_of}
use Rattle.sessions.proofs.ProofChecker.Later.{term-same}
use Rattle.sessions.specs.Checking.{HaveOwnNumbers, IsFoundAt, rules_in}
use Rattle.explain_sessions.specs.Rules.{HasRulesByBoth}
use Rattle.explain_sessions.proofs.RuleCandidates.{both-moved}
use Rattle.explain_sessions.proofs.Rests.{advanced-further, rests-advanced, rests-further, rules-grown}
use Rattle.explain_sessions.proofs.pairs.walk_pair.Goals as goal

pub common_header_at-requires : goal.common_header_at-requires
common_header_at-requires c = record { ready = c.requires.rest.ready }

pub returns-in_err-common-clause-rests : goal.returns-in_err-common-clause-rests
returns-in_err-common-clause-rests c = rests-advanced c.args.search.now.graph.root_depth c.args.search.now.cx c.common_header_at.new.cx c.args.search.now.graph c.args.search.now.cache c.requires.rest c.common_header_at.ensures.advances

pub returns-in_default-clause-rests : goal.returns-in_default-clause-rests
returns-in_default-clause-rests c = rests-advanced c.args.search.now.graph.root_depth c.args.search.now.cx c.common_header_at.new.cx c.args.search.now.graph c.args.search.now.cache c.requires.rest c.common_header_at.ensures.advances

pub intersection_at-requires-clause-ready : goal.intersection_at-requires-clause-ready
intersection_at-requires-clause-ready c = c.common_header_at.ensures.advances.ready

pub intersection_at-requires-clause-numbers : goal.intersection_at-requires-clause-numbers
intersection_at-requires-clause-numbers c = subst HaveOwnNumbers (sym (rules-grown c.args.search.now.cx c.common_header_at.new.cx c.requires.rest.ready c.common_header_at.ensures.advances)) c.requires.numbers

pub returns-in_err-found-clause-rests : goal.returns-in_err-found-clause-rests
returns-in_err-found-clause-rests c = rests-advanced c.args.search.now.graph.root_depth c.args.search.now.cx c.intersection_at.new.cx c.args.search.now.graph c.args.search.now.cache c.requires.rest (advanced-further c.args.search.now.cx c.common_header_at.new.cx c.intersection_at.new.cx c.common_header_at.ensures.advances c.intersection_at.ensures.advances)

pub returns-in_default-2-clause-rests : goal.returns-in_default-2-clause-rests
returns-in_default-2-clause-rests c = rests-advanced c.args.search.now.graph.root_depth c.args.search.now.cx c.intersection_at.new.cx c.args.search.now.graph c.args.search.now.cache c.requires.rest (advanced-further c.args.search.now.cx c.common_header_at.new.cx c.intersection_at.new.cx c.common_header_at.ensures.advances c.intersection_at.ensures.advances)

pub walk_intersection-requires-clause-rest : goal.walk_intersection-requires-clause-rest
walk_intersection-requires-clause-rest c = (rests-advanced c.args.search.now.graph.root_depth c.args.search.now.cx c.intersection_at.new.cx c.args.search.now.graph c.args.search.now.cache c.requires.rest (advanced-further c.args.search.now.cx c.common_header_at.new.cx c.intersection_at.new.cx c.common_header_at.ensures.advances c.intersection_at.ensures.advances)).rest

pub walk_intersection-requires-clause-table : goal.walk_intersection-requires-clause-table
walk_intersection-requires-clause-table c = (subst (λ o. IfSome o (IsFoundAt c.common_header_at.new.cx.interner.entries c.common_header_at.new.cx.handler.declarations c.args.later c.args.earlier c.intersection_at.new.cx.interner.entries)) c.in-Some-2.is c.in_ok-found.ensures.found).intersection.ready

pub walk_intersection-requires-clause-left : goal.walk_intersection-requires-clause-left
walk_intersection-requires-clause-left c = (subst (λ o. IfSome o (IsFoundAt c.common_header_at.new.cx.interner.entries c.common_header_at.new.cx.handler.declarations c.args.later c.args.earlier c.intersection_at.new.cx.interner.entries)) c.in-Some-2.is c.in_ok-found.ensures.found).intersection.left_held

pub walk_intersection-requires-clause-right : goal.walk_intersection-requires-clause-right
walk_intersection-requires-clause-right c = (subst (λ o. IfSome o (IsFoundAt c.common_header_at.new.cx.interner.entries c.common_header_at.new.cx.handler.declarations c.args.later c.args.earlier c.intersection_at.new.cx.interner.entries)) c.in-Some-2.is c.in_ok-found.ensures.found).intersection.right_held

pub walk_intersection-requires-clause-common : goal.walk_intersection-requires-clause-common
walk_intersection-requires-clause-common c =
    let mid = c.common_header_at.new.cx.interner.entries in
    has-later mid c.intersection_at.new.cx.interner.entries c.intersection_at.ensures.advances.entries args_lists c.in-Some.common.0.args.0
    (subst (λ o. IfSome o (λ x. ReferenceHeld mid x.0)) c.in-Some.is c.in_ok-common.ensures.held)

pub returns-in_err-pair-clause-rests : goal.returns-in_err-pair-clause-rests
returns-in_err-pair-clause-rests c = rests-further c.args.search.now.graph.root_depth c.args.search.now.cx c.intersection_at.new.cx c.walk_intersection.new.search.cx c.args.search.now.graph c.walk_intersection.new.search.graph c.args.search.now.cache c.walk_intersection.new.search.cache (rests-advanced c.args.search.now.graph.root_depth c.args.search.now.cx c.intersection_at.new.cx c.args.search.now.graph c.args.search.now.cache c.requires.rest (advanced-further c.args.search.now.cx c.common_header_at.new.cx c.intersection_at.new.cx c.common_header_at.ensures.advances c.intersection_at.ensures.advances)) (c.walk_intersection.ensures.rests)

pub returns-clause-rests : goal.returns-clause-rests
returns-clause-rests c = rests-further c.args.search.now.graph.root_depth c.args.search.now.cx c.intersection_at.new.cx c.walk_intersection.new.search.cx c.args.search.now.graph c.walk_intersection.new.search.graph c.args.search.now.cache c.walk_intersection.new.search.cache (rests-advanced c.args.search.now.graph.root_depth c.args.search.now.cx c.intersection_at.new.cx c.args.search.now.graph c.args.search.now.cache c.requires.rest (advanced-further c.args.search.now.cx c.common_header_at.new.cx c.intersection_at.new.cx c.common_header_at.ensures.advances c.intersection_at.ensures.advances)) (c.walk_intersection.ensures.rests)

pub returns-clause-rules : goal.returns-clause-rules
returns-clause-rules c = λ q.
    let mid = c.common_header_at.new.cx.interner.entries in
    let next = c.intersection_at.new.cx.interner.entries in
    let new = c.walk_intersection.new.search.cx.interner.entries in
    let x = c.in-Some.common in
    let held = subst (λ o. IfSome o (λ x. ReferenceHeld mid x.0)) c.in-Some.is c.in_ok-common.ensures.held in
    let rules = subst (λ o. IfSome o (λ x. x.1 ≡ true → HasRulesByBoth (rules_in c.args.search.now.cx) (term_of mid x.0) c.args.later.index c.args.earlier.index)) c.in-Some.is c.in_ok-common.ensures.rules in
    let same = c.in_ok-pair.ensures.common in
    both-moved (rules_in c.args.search.now.cx) (rules_in c.args.search.now.cx) refl (term_of mid x.0) (term_of new c.in_ok-pair.pair.common)
    (sym (ap (term_of new) same.0 ∙ term-same mid new (λ i e h. c.walk_intersection.ensures.rests.keeps i e (c.intersection_at.ensures.advances.entries i e h)) x.0 held))
    c.args.later.index c.args.earlier.index (rules (sym same.1 ∙ q))
