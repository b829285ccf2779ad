use Rattle.std.proofs.Common.{map, ap, sym, ◌∙◌, subst}
use Rattle.type_terms.specs.Promised.Label.{tuple}
use Rattle.type_terms.specs.Promised.Trees.{tree, none}
use Rattle.type_terms.specs.Promised.Rules.{but_last, last_asked, sized}
use Rattle.type_terms.specs.Promised.Handles.{types, trees_at, Keeps}
use Rattle.type_terms.specs.Terms.{type_lists}
use Rattle.type_terms.specs.Promised.Handles.{arg_trees}
use Rattle.type_terms.specs.Kept.{has-later, trees-later, arg-held-later, arg-trees-later}
use Rattle.infer_table.specs.Values.{sort_of_arg}
use Rattle.infer_table.proofs.Numbers.{goal-held-later}
use Rattle.goal_evaluator.specs.Lists.{Every}
use Rattle.goal_evaluator.specs.Readings.{EquationHeld}
use Rattle.goal_evaluator.specs.StepReadings.{equation_read}
use Rattle.declarations.specs.Applied.{references_in, TraitRefsHeld}
use Rattle.candidate_model.specs.Candidates.{by_rule, misc, all_equal}
use Rattle.built_in_candidates.specs.Goals.{asked_of}
use Rattle.built_in_candidates.proofs.Asking.{asked-later}
use Rattle.built_in_candidates.proofs.Pairs.{arg-tree}
use Rattle.built_in_candidates.proofs.FnPointers.{equation-made}
use Rattle.built_in_candidates.proofs.calls.call_candidate.Goals as goal
use Rattle.type_terms.proofs.TypeBasics.{if-ok}

pub output_is_sized-requires : goal.output_is_sized-requires
output_is_sized-requires c = has-later c.args.cx.now.entries c.tupled_inputs.new.cx.entries c.tupled_inputs.ensures.terms.grew.keeps type_lists c.args.inputs_and_output.0 c.requires.signature

pub returns-clause-held : goal.returns-clause-held
returns-clause-held c =
    let old = c.args.cx.now.entries in
    let mid = c.tupled_inputs.new.cx.entries in
    let new = c.output_is_sized.new.cx.entries in
    let k : Keeps old new = λ i e h. c.output_is_sized.ensures.terms.grew.keeps i e (c.tupled_inputs.ensures.terms.grew.keeps i e h) in
    if-ok _ _ c.by_rule.result
    (λ s h.
    h new (goal-held-later old new k c.args.goal.now.goal c.requires.goal)
    (subst (Every (EquationHeld new)) (sym c.in_ok-equations.ensures.items)
    ((has-later mid new c.output_is_sized.ensures.terms.grew.keeps types c.in_ok-inputs.inputs.0 c.in_ok-inputs.ensures.held, arg-held-later old new k c.args.arguments c.requires.arguments), tt))
    (subst (TraitRefsHeld new) (sym c.deref.ensures.value) c.in_ok-premises.ensures.held))
    c.by_rule.ensures.held

pub returns-clause-is : goal.returns-clause-is
returns-clause-is c =
    let old = c.args.cx.now.entries in
    let mid = c.tupled_inputs.new.cx.entries in
    let new = c.output_is_sized.new.cx.entries in
    let k : Keeps old new = λ i e h. c.output_is_sized.ensures.terms.grew.keeps i e (c.tupled_inputs.ensures.terms.grew.keeps i e h) in
    let g = c.args.goal.now in
    let A = c.args.arguments in
    let ts = trees_at old c.args.inputs_and_output.0 in
    let X = but_last ts in
    let eqs = c.in_ok-equations.equations.items in
    let ps = c.deref.result.now in
    let tupled = trees-later mid new c.output_is_sized.ensures.terms.grew.keeps types c.in_ok-inputs.inputs.0 c.in_ok-inputs.ensures.held ∙ c.in_ok-inputs.ensures.is in
    let equations = ap (map (equation_read new)) c.in_ok-equations.ensures.items
    ∙ equation-made X (trees_at new c.in_ok-inputs.inputs.0) (sort_of_arg A) (arg_trees new A) tupled (arg-tree new c.lawful.ensures A (arg-held-later old new k A c.requires.arguments))
    ∙ ap (all_equal (tree tuple X none)) (arg-trees-later old new k A c.requires.arguments) in
    let premises = ap (references_in new) c.deref.ensures.value ∙ c.in_ok-premises.ensures.are
    ∙ ap (last_asked sized) (trees-later old mid c.tupled_inputs.ensures.terms.grew.keeps type_lists c.args.inputs_and_output.0 c.requires.signature) in
    if-ok _ _ c.by_rule.result
    (λ s is. λ V.
    is new V
    ∙ ap (λ a. by_rule V a misc (map (equation_read new) eqs) (references_in new ps)) (asked-later old new k g c.requires.goal)
    ∙ ap (λ l. by_rule V (asked_of old g) misc l (references_in new ps)) equations
    ∙ ap (by_rule V (asked_of old g) misc (all_equal (tree tuple X none) (arg_trees old A))) premises)
    c.by_rule.ensures.is
