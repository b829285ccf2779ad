use Rattle.std.proofs.Common.{[], map, ap, sym, ◌∙◌, subst, Some}
use Rattle.std.specs.Prelude.{option_map}
use Rattle.std.specs.List.{slice_get}
use Rattle.infer_table.proofs.Numbers.{goal-held-later}
use Rattle.goal_evaluator.specs.declared.candidate.CandidateSource.TheVariants.{ParamEnv}
use Rattle.goal_evaluator.specs.StepReadings.{equation_read}
use Rattle.declarations.specs.Applied.{TraitRefsHeld}
use Rattle.candidate_model.specs.Candidates.{by_rule, all_equal}
use Rattle.type_terms.specs.Promised.Handles.{trees_at}
use Rattle.built_in_candidates.specs.Goals.{asked_of}
use Rattle.declarations.specs.Items.{reference_in}
use Rattle.candidate_assembly.specs.Clauses.{references_to}
use Rattle.built_in_candidates.proofs.Asking.{asked-later}
use Rattle.candidate_assembly.proofs.Clauses.{references-held, held-at, clause-at, of_clause}
use Rattle.candidate_assembly.proofs.param_env.consider_param_env_candidate.Goals as goal

pub clause_source-requires : goal.clause_source-requires
clause_source-requires c =
    let es = c.args.cx.now.entries in
    let q = reference_in es c.args.goal.now.goal.predicate.trait_ref in
    held-at es (references_to es q c.deref.result.now) c.args.place c.in-Some.trait_ref
    (subst (λ l. TraitRefsHeld es (references_to es q l)) (sym c.deref.ensures.value) (references-held es q c.args.goal.now.goal.param_env.items c.requires.environment)) c.in-Some.ensures

pub relate_args-requires-clause-right : goal.relate_args-requires-clause-right
relate_args-requires-clause-right c =
    let es = c.args.cx.now.entries in
    let q = reference_in es c.args.goal.now.goal.predicate.trait_ref in
    held-at es (references_to es q c.deref.result.now) c.args.place c.in-Some.trait_ref
    (subst (λ l. TraitRefsHeld es (references_to es q l)) (sym c.deref.ensures.value) (references-held es q c.args.goal.now.goal.param_env.items c.requires.environment)) c.in-Some.ensures

pub returns-in_ok-candidate-in-Some-clause-held : goal.returns-in_ok-candidate-in-Some-clause-held
returns-in_ok-candidate-in-Some-clause-held c =
    c.in_ok-candidate-in-Some.ensures.held c.relate_args.new.cx.entries
    (goal-held-later c.args.cx.now.entries c.relate_args.new.cx.entries c.relate_args.ensures.terms.grew.keeps c.args.goal.now.goal c.requires) c.in_ok-equations-in-Some.ensures.held tt

pub returns-in_ok-candidate-in-Some-clause-is : goal.returns-in_ok-candidate-in-Some-clause-is
returns-in_ok-candidate-in-Some-clause-is c = λ V.
    let old = c.args.cx.now.entries in
    let new = c.relate_args.new.cx.entries in
    let g = c.args.goal.now in
    let a = asked_of old g in
    let equations = c.in_ok-equations-in-Some.equations.items in
    let made = c.in_ok-candidate-in-Some.ensures.is new V
    ∙ ap (λ x. by_rule V x (ParamEnv c.clause_source.result) (map (equation_read new) equations) []) (asked-later old new c.relate_args.ensures.terms.grew.keeps g c.requires)
    ∙ ap (λ l. by_rule V a (ParamEnv c.clause_source.result) l []) c.in_ok-equations-in-Some.ensures.are
    ∙ ap (λ s. by_rule V a (ParamEnv s) (all_equal (trees_at old g.goal.predicate.trait_ref.args.0) (trees_at old c.in-Some.trait_ref.args.0)) []) c.clause_source.ensures in
    let found = clause-at V old a g.goal.param_env.items c.args.place
    ∙ ap (option_map (of_clause V old a)) (ap (λ l. slice_get (references_to old a.reference l) c.args.place) (sym c.deref.ensures.value) ∙ sym c.in-Some.ensures) in
    ap Some made ∙ sym found

pub returns-in-None-clause-is : goal.returns-in-None-clause-is
returns-in-None-clause-is c = λ V.
    let old = c.args.cx.now.entries in
    let g = c.args.goal.now in
    let a = asked_of old g in
    sym (clause-at V old a g.goal.param_env.items c.args.place
    ∙ ap (option_map (of_clause V old a)) (ap (λ l. slice_get (references_to old a.reference l) c.args.place) (sym c.deref.ensures.value) ∙ sym c.in-None.ensures))
