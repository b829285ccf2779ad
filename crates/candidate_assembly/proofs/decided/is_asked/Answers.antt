use Rattle.std.proofs.Common.{sym, ap, ◌∙◌, false}
use Rattle.type_terms.specs.Promised.Handles.{trees_at}
use Rattle.type_terms.specs.Made.{terms, is_made}
use Rattle.infer_table.specs.Goals.{environment_trees}
use Rattle.goal_evaluator.specs.Variables.{is_variable_over}
use Rattle.candidate_model.specs.Asking.{are_clauses}
use Rattle.candidate_assembly.proofs.Deciding.{asked-by, not-over, all-over}
use Rattle.candidate_assembly.proofs.decided.is_asked.Goals as goal

pub returns-then-not-args_are_over : goal.returns-then-not-args_are_over
returns-then-not-args_are_over c =
    let es = c.args.cx.now.entries in
    let d = c.args.declarations.now in
    let g = c.args.goal.now in
    let T = trees_at es g.goal.predicate.trait_ref.args.0 in
    let over = sym (c.args_are_over.ensures ∙ ap (λ ks. is_made (is_variable_over ks) terms T) c.deref.ensures.value) ∙ c.if-not-args_are_over.true in
    asked-by es d g false (not-over es d g (sym c.reference_is_declared.ensures ∙ c.if-not-reference_is_declared.false) over)

pub returns : goal.returns
returns c =
    let es = c.args.cx.now.entries in
    let d = c.args.declarations.now in
    let g = c.args.goal.now in
    let T = trees_at es g.goal.predicate.trait_ref.args.0 in
    let over = sym (c.args_are_over.ensures ∙ ap (λ ks. is_made (is_variable_over ks) terms T) c.deref.ensures.value) ∙ c.if-not-args_are_over.false in
    let clauses = c.clauses_are_over.ensures ∙ ap (λ ks. are_clauses ks (environment_trees es c.deref-3.result.now)) c.deref-2.ensures.value
    ∙ ap (λ l. are_clauses g.variables.items (environment_trees es l)) c.deref-3.ensures.value in
    asked-by es d g c.clauses_are_over.result
    (all-over es d g (sym c.reference_is_declared.ensures ∙ c.if-not-reference_is_declared.false) over (sym c.begins_with_types.ensures ∙ c.if-not-begins_with_types.false)
    c.clauses_are_over.result clauses)
