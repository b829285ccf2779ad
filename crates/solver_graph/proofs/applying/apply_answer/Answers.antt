use Rattle.std.proofs.Common.{rules, ◌≡◌, true, sym, ◌∙◌, ap}
use Rattle.infer_table.specs.Content.{content}
use Rattle.infer_table.specs.Unification.{table_trees}
use Rattle.infer_table.proofs.EquationFacts.{solved-sorted}
use Rattle.infer_table.specs.Values.{values_of}
use Rattle.infer_table.specs.Answers.{is_answer_to, have_same_sorts}
use Rattle.infer_table.specs.Responses.{answer_trees}
use Rattle.solver_graph.proofs.Answers.{agrees-with, well-posed}
use Rattle.solver_graph.proofs.Putting.{put-applied, on-ok}
use Rattle.solver_graph.proofs.applying.apply_answer.Goals as goal

pub returns-clause-exact : goal.returns-clause-exact
returns-clause-exact c =
    let es = c.args.cx.now.entries in
    let b : c.have_same_sorts.result ≡ true = search rules in
    let d : c.deref.result.now ≡ c.args.answer.now.var_values.items = search rules in
    let yes : is_answer_to (values_of es c.args.values.now) (answer_trees es c.args.answer.now) ≡ true =
    ap (λ xs. have_same_sorts (values_of es c.args.values.now) (values_of es xs)) (sym d) ∙ sym (c.have_same_sorts.ensures es) ∙ b
    in
    on-ok c.instantiate_and_apply_query_response.result
    (λ h. put-applied (table_trees es c.args.table.now) (values_of es c.args.values.now) (answer_trees es c.args.answer.now) c.requires.well_formed yes ∙ h) c.instantiate_and_apply_query_response.ensures.exact

pub returns-clause-refusal : goal.returns-clause-refusal
returns-clause-refusal c = λ e.
    let es = c.args.cx.now.entries in
    let b : c.have_same_sorts.result ≡ true = search rules in
    let d : c.deref.result.now ≡ c.args.answer.now.var_values.items = search rules in
    let yes : is_answer_to (values_of es c.args.values.now) (answer_trees es c.args.answer.now) ≡ true =
    ap (λ xs. have_same_sorts (values_of es c.args.values.now) (values_of es xs)) (sym d) ∙ sym (c.have_same_sorts.ensures es) ∙ b
    in
    put-applied (table_trees es c.args.table.now) (values_of es c.args.values.now) (answer_trees es c.args.answer.now) c.requires.well_formed yes
    ∙ c.instantiate_and_apply_query_response.ensures.refusal e

pub returns-clause-narrows : goal.returns-clause-narrows
returns-clause-narrows c = on-ok c.instantiate_and_apply_query_response.result (λ q s h. (q.only s h).0) c.instantiate_and_apply_query_response.ensures.equates

pub returns-clause-kept : goal.returns-clause-kept
returns-clause-kept c =
    let es = c.args.cx.now.entries in
    let b : c.have_same_sorts.result ≡ true = search rules in
    let d : c.deref.result.now ≡ c.args.answer.now.var_values.items = search rules in
    let yes : is_answer_to (values_of es c.args.values.now) (answer_trees es c.args.answer.now) ≡ true =
    ap (λ xs. have_same_sorts (values_of es c.args.values.now) (values_of es xs)) (sym d) ∙ sym (c.have_same_sorts.ensures es) ∙ b
    in
    on-ok c.instantiate_and_apply_query_response.result
    (λ k g e x y z s h p.
    k (well-posed es c.lawful.ensures c.args.table.now c.args.values.now c.args.answer.now g c.requires.leaves e c.requires.well_formed x y z) s h
    (agrees-with es c.lawful.ensures s (solved-sorted s (content es c.args.table.now.values) h) c.args.answer.now c.args.values.now g c.requires.answer.values c.requires.values c.requires.leaves e yes p))
    c.instantiate_and_apply_query_response.ensures.kept

pub returns-clause-accepted : goal.returns-clause-accepted
returns-clause-accepted c = λ n g e x y z s h p.
    let es = c.args.cx.now.entries in
    let b : c.have_same_sorts.result ≡ true = search rules in
    let d : c.deref.result.now ≡ c.args.answer.now.var_values.items = search rules in
    let yes : is_answer_to (values_of es c.args.values.now) (answer_trees es c.args.answer.now) ≡ true =
    ap (λ xs. have_same_sorts (values_of es c.args.values.now) (values_of es xs)) (sym d) ∙ sym (c.have_same_sorts.ensures es) ∙ b
    in
    c.instantiate_and_apply_query_response.ensures.accepted n (well-posed es c.lawful.ensures c.args.table.now c.args.values.now c.args.answer.now g c.requires.leaves e c.requires.well_formed x y z) s h
    (agrees-with es c.lawful.ensures s (solved-sorted s (content es c.args.table.now.values) h) c.args.answer.now c.args.values.now g c.requires.answer.values c.requires.values c.requires.leaves e yes p)
