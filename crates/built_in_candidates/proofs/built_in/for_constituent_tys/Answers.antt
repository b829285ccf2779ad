use Rattle.std.proofs.Common.{[], ◌∷◌, map, ap, sym, ◌∙◌, subst}
use Rattle.goal_evaluator.specs.Lists.{Every}
use Rattle.goal_evaluator.specs.Readings.{EquationHeld}
use Rattle.goal_evaluator.specs.StepReadings.{equation_read}
use Rattle.infer_table.proofs.Numbers.{goal-held-later}
use Rattle.declarations.specs.Applied.{references_in, TraitRefsHeld}
use Rattle.candidate_model.specs.Candidates.{by_rule}
use Rattle.built_in_candidates.specs.Goals.{asked_of}
use Rattle.structural_traits.specs.Constituents.{AreConstituents, types_asked}
use Rattle.built_in_candidates.proofs.Asking.{asked-later, none-written, one-written}
use Rattle.built_in_candidates.proofs.built_in.for_constituent_tys.Goals as goal

pub returns-in_ok-candidate-in-Some-clause-held : goal.returns-in_ok-candidate-in-Some-clause-held
returns-in_ok-candidate-in-Some-clause-held c =
    let old = c.args.cx.now.entries in
    let new = c.types_asked.new.cx.entries in
    c.in_ok-candidate-in-Some.ensures.held new (goal-held-later old new c.types_asked.ensures.terms.grew.keeps c.args.goal.now.goal c.requires.goal)
    (subst (Every (EquationHeld new)) (sym c.new.ensures.items) tt) (subst (TraitRefsHeld new) (sym c.deref-in-Some.ensures.value) c.in_ok-premises-in-Some.ensures.held)

pub returns-in_ok-candidate-in-Some-clause-is : goal.returns-in_ok-candidate-in-Some-clause-is
returns-in_ok-candidate-in-Some-clause-is c = λ V us h.
    let old = c.args.cx.now.entries in
    let new = c.types_asked.new.cx.entries in
    let g = c.args.goal.now in
    let t = c.args.def_id.index in
    let given = subst (AreConstituents (λ v. v.items) old t us) c.in-Some.is h in
    let premises = c.deref-in-Some.result.now in
    let made = c.in_ok-candidate-in-Some.ensures.is new V
    ∙ ap (λ l. by_rule V (asked_of new g) c.args.source (map (equation_read new) l) (references_in new premises)) c.new.ensures.items
    ∙ ap (λ a. by_rule V a c.args.source [] (references_in new premises)) (asked-later old new c.types_asked.ensures.terms.grew.keeps g c.requires.goal)
    ∙ ap (λ ps. by_rule V (asked_of old g) c.args.source [] ps)
    (ap (references_in new) c.deref-in-Some.ensures.value ∙ c.in_ok-premises-in-Some.ensures.are ∙ ap (types_asked old t) c.deref.ensures.value) in
    ap (λ x. x ∷ []) made ∙ one-written V (asked_of old g) c.args.source us (types_asked old t c.in-Some.tys.items) given

pub returns-in-None-clause-is : goal.returns-in-None-clause-is
returns-in-None-clause-is c = λ V us h.
    none-written V (asked_of c.args.cx.now.entries c.args.goal.now) c.args.source us (subst (AreConstituents (λ v. v.items) c.args.cx.now.entries c.args.def_id.index us) c.in-None.is h)
