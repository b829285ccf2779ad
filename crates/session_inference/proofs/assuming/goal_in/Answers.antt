use Rattle.std.proofs.Common.{◌∙◌, ap, subst, sym}
use Rattle.type_terms.specs.Kept.{args-held-later, has-later}
use Rattle.type_terms.specs.Promised.Handles.{Has, Keeps}
use Rattle.type_terms.specs.Promised.Worlds.{World}
use Rattle.type_terms.specs.Terms.{args_lists}
use Rattle.term_folds.specs.declared.predicate.TraitRef.{TraitRef}
use Rattle.declarations.specs.Applied.{references_in}
use Rattle.declarations.specs.Items.{written}
use Rattle.declarations.specs.Promised.Elaboration.{elaborate}
use Rattle.sessions.specs.Questions.{where_clauses}
use Rattle.sessions.proofs.HandedOn.{reference-later}
use Rattle.sessions.proofs.Posing.{goal-held, same-asked}
use Rattle.session_inference.proofs.Assumed.{bounds-later, written-same}
use Rattle.session_inference.proofs.assuming.goal_in.Goals as goal

pub assumed_in-requires-clause-terms : goal.assumed_in-requires-clause-terms
assumed_in-requires-clause-terms c =
    args-held-later c.args.cx.now.interner.entries c.reference_at.new.cx.interner.entries c.reference_at.ensures.advances.entries c.args.stated.terms.now c.requires.terms

pub returns-in_err-clauses-clause-advances : goal.returns-in_err-clauses-clause-advances
returns-in_err-clauses-clause-advances c =
    let further = c.context_laws.ensures.further in
    further c.args.cx.now c.assumed_in.new.cx c.elaborate_in.new.cx
    (further c.args.cx.now c.reference_at.new.cx c.assumed_in.new.cx c.reference_at.ensures.advances c.assumed_in.ensures.advances) c.elaborate_in.ensures.advances

pub returns-clause-held : goal.returns-clause-held
returns-clause-held c =
    let fs = c.elaborate_in.new.cx.interner.entries in
    let keeps : Keeps c.reference_at.new.cx.interner.entries fs = λ i e h. c.elaborate_in.ensures.advances.entries i e (c.assumed_in.ensures.advances.entries i e h) in
    goal-held fs c.in_ok-goal.goal c.in_ok-clauses.clauses.items c.in_ok-clauses.ensures.held (c.in_ok-goal.ensures.clauses ∙ ap where_clauses c.deref-3.ensures.value)
    (subst (λ (r : TraitRef). Has fs args_lists r.args.0) (sym c.in_ok-goal.ensures.asked) (has-later c.reference_at.new.cx.interner.entries fs keeps args_lists c.in_ok-asked.asked.args.0 c.in_ok-asked.ensures.held))

pub returns-clause-is : goal.returns-clause-is
returns-clause-is c =
    let x = c.args.cx.now in
    let y = c.assumed_in.new.cx in
    let es = x.interner.entries in
    let ns = c.reference_at.new.cx.interner.entries in
    let fs = c.elaborate_in.new.cx.interner.entries in
    let ts = c.args.stated.terms.now in
    let qs = c.args.stated.assumptions.now in
    let keeps : Keeps c.reference_at.new.cx.interner.entries fs = λ i e h. c.elaborate_in.ensures.advances.entries i e (c.assumed_in.ensures.advances.entries i e h) in
    let seen = written-same x y c.requires.ready (c.context_laws.ensures.further x c.reference_at.new.cx y c.reference_at.ensures.advances c.assumed_in.ensures.advances) in
    let assumed = ap (references_in y.interner.entries) c.deref-2.ensures.value ∙ c.in_ok-assumed.ensures.are ∙ bounds-later es ns c.reference_at.ensures.advances.entries ts c.requires.terms qs in
    let clauses = c.in_ok-clauses.ensures.are
    ∙ ap (λ (V : World). elaborate V (references_in y.interner.entries c.deref-2.result.now)) seen
    ∙ ap (elaborate (written es x.handler.declarations)) assumed in
    c.references_are_goals.ensures fs c.in_ok-goal.goal c.in_ok-clauses.clauses.items c.in_ok-asked.asked (c.in_ok-goal.ensures.clauses ∙ ap where_clauses c.deref-3.ensures.value) c.in_ok-goal.ensures.asked
    ∙ same-asked _ _ _ _ clauses (reference-later ns fs keeps c.in_ok-asked.asked c.in_ok-asked.ensures.held ∙ c.in_ok-asked.ensures.is)
