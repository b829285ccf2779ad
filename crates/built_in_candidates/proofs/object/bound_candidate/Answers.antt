use Rattle.std.proofs.Common.{map, sym, ap, ◌∙◌, subst}
use Rattle.type_terms.specs.Promised.Handles.{Keeps, trees_at}
use Rattle.type_terms.specs.Terms.{args_lists}
use Rattle.type_terms.specs.Kept.{trees-later}
use Rattle.infer_table.proofs.Numbers.{goal-held-later}
use Rattle.infer_table.proofs.StepFacts.{keeps-trans}
use Rattle.goal_evaluator.specs.declared.candidate.CandidateSource.TheVariants.{BuiltinImpl}
use Rattle.goal_evaluator.specs.StepReadings.{equation_read}
use Rattle.declarations.specs.Items.{written}
use Rattle.declarations.specs.Applied.{references_in, TraitRefsHeld}
use Rattle.candidate_model.specs.Candidates.{by_rule, all_equal}
use Rattle.built_in_candidates.specs.Goals.{asked_of}
use Rattle.built_in_candidates.proofs.Asking.{asked-later}
use Rattle.declarations.proofs.Bounded.{all-same}
use Rattle.declarations.proofs.Growth.{references-kept}
use Rattle.built_in_candidates.proofs.object.bound_candidate.Goals as goal
use Rattle.type_terms.proofs.TypeBasics.{if-ok}

pub returns-clause-held : goal.returns-clause-held
returns-clause-held c =
    let old = c.args.cx.now.entries in
    let mid = c.supertraits.new.cx.entries in
    let new = c.relate_args.new.cx.entries in
    let kept : Keeps old new = keeps-trans old mid new c.supertraits.ensures.terms.grew.keeps c.relate_args.ensures.terms.grew.keeps in
    if-ok _ _ c.by_rule.result
    (λ s h.
    h new (goal-held-later old new kept c.args.goal.now.goal c.requires.goal) c.in_ok-equations.ensures.held
    (subst (TraitRefsHeld new) (sym c.deref.ensures.value) (references-kept mid new c.relate_args.ensures.terms.grew.keeps c.in_ok-supertraits.supertraits.items c.in_ok-supertraits.ensures.held)))
    c.by_rule.ensures.held

pub returns-clause-is : goal.returns-clause-is
returns-clause-is c =
    let old = c.args.cx.now.entries in
    let mid = c.supertraits.new.cx.entries in
    let new = c.relate_args.new.cx.entries in
    let kept : Keeps old new = keeps-trans old mid new c.supertraits.ensures.terms.grew.keeps c.relate_args.ensures.terms.grew.keeps in
    let V = written old c.args.declarations.now in
    let g = c.args.goal.now in
    let a = asked_of old g in
    let source = BuiltinImpl c.args.source in
    let asked = trees-later old mid c.supertraits.ensures.terms.grew.keeps args_lists g.goal.predicate.trait_ref.args.0 c.requires.goal.predicate in
    let bound = trees-later old mid c.supertraits.ensures.terms.grew.keeps args_lists c.args.bound.args.0 c.requires.bound in
    let supers = ap (references_in new) c.deref.ensures.value ∙ all-same mid new c.relate_args.ensures.terms.grew.keeps c.in_ok-supertraits.supertraits.items c.in_ok-supertraits.ensures.held
    ∙ c.in_ok-supertraits.ensures.are in
    if-ok _ _ c.by_rule.result
    (λ s is.
    is new V
    ∙ ap (λ x. by_rule V x source (map (equation_read new) c.in_ok-equations.equations.items) (references_in new c.deref.result.now)) (asked-later old new kept g c.requires.goal)
    ∙ ap (λ l. by_rule V a source l (references_in new c.deref.result.now)) (c.in_ok-equations.ensures.are ∙ ap (λ t. all_equal t (trees_at mid c.args.bound.args.0)) asked ∙ ap (all_equal a.reference.args) bound)
    ∙ ap (by_rule V a source (all_equal a.reference.args (trees_at old c.args.bound.args.0))) supers)
    c.by_rule.ensures.is
