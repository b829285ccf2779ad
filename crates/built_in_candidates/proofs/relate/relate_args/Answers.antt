use Rattle.std.proofs.Common.{◌≡◌, [], ◌∷◌, ◌++◌, map, sym, ap, ◌∙◌, subst}
use Rattle.type_terms.specs.Terms.{args_lists}
use Rattle.type_terms.specs.Promised.Handles.{trees_at}
use Rattle.type_terms.specs.Kinds.{args_trees}
use Rattle.type_terms.specs.Kept.{trees-is}
use Rattle.goal_evaluator.specs.Lists.{Every}
use Rattle.goal_evaluator.specs.Readings.{EquationHeld}
use Rattle.goal_evaluator.specs.StepReadings.{equation_read}
use Rattle.candidate_model.specs.Candidates.{all_equal}
use Rattle.goal_evaluator.proofs.Contexts.{every-more}
use Rattle.built_in_candidates.specs.Equations.{never_if}
use Rattle.built_in_candidates.proofs.Lists.{map-push}
use Rattle.built_in_candidates.proofs.Pairs.{equations-later, equations-held-later}
use Rattle.built_in_candidates.proofs.relate.relate_args.Goals as goal
use Rattle.type_terms.proofs.ListBasics.{append-none}

pub returns-then-is_longer-clause-held : goal.returns-then-is_longer-clause-held
returns-then-is_longer-clause-held c =
    let old = c.args.cx.now.entries in
    let new = c.never_met.new.cx.entries in
    let paired = c.in_ok-equations.ensures.are old c.lawful.ensures c.args-2.ensures.held c.args-3.ensures.held in
    subst (Every (EquationHeld new)) (sym c.in_ok-push.ensures.items)
    (every-more (EquationHeld new) c.in_ok-equations.equations.items c.in_ok-never.never (equations-held-later old new c.never_met.ensures.terms.grew.keeps c.in_ok-equations.equations.items paired.0) c.in_ok-never.ensures.held)

pub returns-then-is_longer-clause-are : goal.returns-then-is_longer-clause-are
returns-then-is_longer-clause-are c =
    let old = c.args.cx.now.entries in
    let new = c.never_met.new.cx.entries in
    let items = c.in_ok-equations.equations.items in
    let never = c.in_ok-never.never in
    let xs = c.args-2.result.now in
    let ys = c.args-3.result.now in
    let paired = c.in_ok-equations.ensures.are old c.lawful.ensures c.args-2.ensures.held c.args-3.ensures.held in
    let all = subst (λ b. map (equation_read old) items ++ never_if b ≡ all_equal (args_trees old xs) (args_trees old ys)) c.if-is_longer.true paired.1 in
    ap (map (equation_read new)) c.in_ok-push.ensures.items
    ∙ sym (append-none (map (equation_read new) (items ++ never ∷ []))) ∙ map-push (equation_read new) items never []
    ∙ ap (λ l. l ++ equation_read new never ∷ []) (equations-later old new c.never_met.ensures.terms.grew.keeps items paired.0)
    ∙ ap (λ x. map (equation_read old) items ++ x ∷ []) c.in_ok-never.ensures.is
    ∙ all ∙ ap (λ t. all_equal t (args_trees old ys)) (sym (trees-is old args_lists c.args.left.0 _ c.args-2.ensures.is))
    ∙ ap (all_equal (trees_at old c.args.left.0)) (sym (trees-is old args_lists c.args.right.0 _ c.args-3.ensures.is))

pub returns-clause-held : goal.returns-clause-held
returns-clause-held c = (c.in_ok-equations.ensures.are c.args.cx.now.entries c.lawful.ensures c.args-2.ensures.held c.args-3.ensures.held).0

pub returns-clause-are : goal.returns-clause-are
returns-clause-are c =
    let old = c.args.cx.now.entries in
    let items = c.in_ok-equations.equations.items in
    let xs = c.args-2.result.now in
    let ys = c.args-3.result.now in
    let paired = c.in_ok-equations.ensures.are old c.lawful.ensures c.args-2.ensures.held c.args-3.ensures.held in
    let all = subst (λ b. map (equation_read old) items ++ never_if b ≡ all_equal (args_trees old xs) (args_trees old ys)) c.if-is_longer.false paired.1 in
    sym (append-none (map (equation_read old) items)) ∙ all
    ∙ ap (λ t. all_equal t (args_trees old ys)) (sym (trees-is old args_lists c.args.left.0 _ c.args-2.ensures.is))
    ∙ ap (all_equal (trees_at old c.args.left.0)) (sym (trees-is old args_lists c.args.right.0 _ c.args-3.ensures.is))
