use Rattle.std.proofs.Common.{[], ◌∷◌, map, ap, ◌∙◌}
use Rattle.type_terms.specs.Trees.{outer_binder}
use Rattle.type_terms.specs.Promised.Rules.{with_unsizing}
use Rattle.type_terms.specs.Promised.Handles.{types, trees_at, Keeps}
use Rattle.type_terms.specs.Terms.{args_lists}
use Rattle.term_folds.specs.Arguments.{first_misfit}
use Rattle.type_terms.specs.Kept.{has-later, trees-later}
use Rattle.infer_table.proofs.Numbers.{goal-held-later}
use Rattle.goal_evaluator.specs.StepReadings.{equation_read}
use Rattle.declarations.specs.Applied.{references_in}
use Rattle.declarations.specs.Unsizing.{field_trees}
use Rattle.candidate_model.specs.Candidates.{by_rule, misc, all_equal}
use Rattle.built_in_candidates.specs.Goals.{asked_of}
use Rattle.built_in_candidates.specs.Unsizing.{tail_asked}
use Rattle.built_in_candidates.proofs.Asking.{asked-later}
use Rattle.built_in_candidates.proofs.Pairs.{equations-later, equations-held-later}
use Rattle.built_in_candidates.proofs.unsize_struct.struct_candidate.Goals as goal
use Rattle.type_terms.proofs.TypeBasics.{if-ok}

pub tail_unsizes-requires-clause-tail : goal.tail_unsizes-requires-clause-tail
tail_unsizes-requires-clause-tail c = has-later c.args.cx.now.entries c.unsizing_equations.new.cx.entries c.unsizing_equations.ensures.terms.grew.keeps types c.args.tail.0 c.requires.tail

pub tail_unsizes-requires-clause-args : goal.tail_unsizes-requires-clause-args
tail_unsizes-requires-clause-args c = has-later c.args.cx.now.entries c.unsizing_equations.new.cx.entries c.unsizing_equations.ensures.terms.grew.keeps args_lists c.args.args.own.0 c.requires.args

pub tail_unsizes-requires-clause-target : goal.tail_unsizes-requires-clause-target
tail_unsizes-requires-clause-target c = has-later c.args.cx.now.entries c.unsizing_equations.new.cx.entries c.unsizing_equations.ensures.terms.grew.keeps args_lists c.args.args.target.0 c.requires.target

pub tail_unsizes-requires-clause-closed : goal.tail_unsizes-requires-clause-closed
tail_unsizes-requires-clause-closed c =
    ap outer_binder (trees-later c.args.cx.now.entries c.unsizing_equations.new.cx.entries c.unsizing_equations.ensures.terms.grew.keeps args_lists c.args.args.own.0 c.requires.args) ∙ c.requires.fit.closed

pub tail_unsizes-requires-clause-target_closed : goal.tail_unsizes-requires-clause-target_closed
tail_unsizes-requires-clause-target_closed c =
    ap outer_binder (trees-later c.args.cx.now.entries c.unsizing_equations.new.cx.entries c.unsizing_equations.ensures.terms.grew.keeps args_lists c.args.args.target.0 c.requires.target) ∙ c.requires.target_fit.closed

pub tail_unsizes-requires-clause-fits : goal.tail_unsizes-requires-clause-fits
tail_unsizes-requires-clause-fits c =
    let old = c.args.cx.now.entries in
    let mid = c.unsizing_equations.new.cx.entries in
    let k = c.unsizing_equations.ensures.terms.grew.keeps in
    ap (λ t. first_misfit t (trees_at mid c.args.tail.0)) (trees-later old mid k args_lists c.args.args.own.0 c.requires.args)
    ∙ ap (first_misfit (trees_at old c.args.args.own.0)) (trees-later old mid k types c.args.tail.0 c.requires.tail) ∙ c.requires.tail_fits

pub tail_unsizes-requires-clause-target_fits : goal.tail_unsizes-requires-clause-target_fits
tail_unsizes-requires-clause-target_fits c =
    let old = c.args.cx.now.entries in
    let mid = c.unsizing_equations.new.cx.entries in
    let k = c.unsizing_equations.ensures.terms.grew.keeps in
    ap (λ t. first_misfit t (trees_at mid c.args.tail.0)) (trees-later old mid k args_lists c.args.args.target.0 c.requires.target)
    ∙ ap (first_misfit (trees_at old c.args.args.target.0)) (trees-later old mid k types c.args.tail.0 c.requires.tail) ∙ c.requires.target_tail_fits

pub returns-clause-held : goal.returns-clause-held
returns-clause-held c =
    let old = c.args.cx.now.entries in
    let mid = c.unsizing_equations.new.cx.entries in
    let new = c.tail_unsizes.new.cx.entries in
    let k : Keeps old new = λ i e h. c.tail_unsizes.ensures.terms.grew.keeps i e (c.unsizing_equations.ensures.terms.grew.keeps i e h) in
    if-ok _ _ c.by_rule.result
    (λ s h.
    h new (goal-held-later old new k c.args.goal.now.goal c.requires.goal)
    (equations-held-later mid new c.tail_unsizes.ensures.terms.grew.keeps c.in_ok-equations.equations.items c.in_ok-equations.ensures.held) (c.in_ok-premise.ensures.held, tt))
    c.by_rule.ensures.held

pub returns-clause-is : goal.returns-clause-is
returns-clause-is c =
    let old = c.args.cx.now.entries in
    let mid = c.unsizing_equations.new.cx.entries in
    let new = c.tail_unsizes.new.cx.entries in
    let k = c.unsizing_equations.ensures.terms.grew.keeps in
    let whole : Keeps old new = λ i e h. c.tail_unsizes.ensures.terms.grew.keeps i e (k i e h) in
    let g = c.args.goal.now in
    let b = trees_at old c.args.args.own.0 in
    let d = trees_at old c.args.args.target.0 in
    let f = trees_at old c.args.tail.0 in
    let eqs = c.in_ok-equations.equations.items in
    let fs = field_trees old c.args.def.now.fields.items in
    let equations = equations-later mid new c.tail_unsizes.ensures.terms.grew.keeps eqs c.in_ok-equations.ensures.held ∙ c.in_ok-equations.ensures.are in
    let premise = c.in_ok-premise.ensures.is
    ∙ ap (λ x. tail_asked x (trees_at mid c.args.args.target.0) (trees_at mid c.args.tail.0)) (trees-later old mid k args_lists c.args.args.own.0 c.requires.args)
    ∙ ap (λ x. tail_asked b x (trees_at mid c.args.tail.0)) (trees-later old mid k args_lists c.args.args.target.0 c.requires.target)
    ∙ ap (tail_asked b d) (trees-later old mid k types c.args.tail.0 c.requires.tail) in
    if-ok _ _ c.by_rule.result
    (λ s is. λ V.
    is new V
    ∙ ap (λ a. by_rule V a misc (map (equation_read new) eqs) (references_in new (c.in_ok-premise.premise ∷ []))) (asked-later old new whole g c.requires.goal)
    ∙ ap (λ l. by_rule V (asked_of old g) misc l (references_in new (c.in_ok-premise.premise ∷ []))) equations
    ∙ ap (λ r. by_rule V (asked_of old g) misc (all_equal (with_unsizing fs 0 b d) d) (r ∷ [])) premise)
    c.by_rule.ensures.is
