use Rattle.std.proofs.Common.{ap, ◌∙◌, sym, not}
use Rattle.type_terms.specs.Promised.Handles.{arg_trees}
use Rattle.type_terms.specs.Promised.Handles.{trees_at}
use Rattle.type_terms.specs.Promised.Trees.{some_node}
use Rattle.declarations.specs.Items.{written}
use Rattle.sessions.specs.Foreign.{is_foreign_term, question_in}
use Rattle.sessions.proofs.Foreign.{type-foreign, type-rest}
use Rattle.sessions.proofs.own_values.value_is_own.Goals as goal

pub returns-then-ty_is_declared : goal.returns-then-ty_is_declared
returns-then-ty_is_declared c =
    let es = c.args.cx.now.entries in
    let V = written es c.args.declarations.now in
    let rs = question_in es c.args.asked.reference c.args.asked.clauses.now in
    ap not c.ty_strays.ensures ∙ type-rest V rs (trees_at es c.in-Ty.ty.0) (sym c.ty_is_declared.ensures ∙ c.if-ty_is_declared.true)
    ∙ ap (λ v. not (some_node (is_foreign_term V rs) (arg_trees es v))) (sym c.in-Ty.is)

pub returns-else-ty_is_declared : goal.returns-else-ty_is_declared
returns-else-ty_is_declared c =
    let es = c.args.cx.now.entries in
    let V = written es c.args.declarations.now in
    let rs = question_in es c.args.asked.reference c.args.asked.clauses.now in
    c.if-ty_is_declared.false ∙ type-foreign V rs (trees_at es c.in-Ty.ty.0) (sym c.ty_is_declared.ensures ∙ c.if-ty_is_declared.false)
    ∙ ap (λ v. not (some_node (is_foreign_term V rs) (arg_trees es v))) (sym c.in-Ty.is)

pub returns-in-Const : goal.returns-in-Const
returns-in-Const c =
    let es = c.args.cx.now.entries in
    let V = written es c.args.declarations.now in
    let rs = question_in es c.args.asked.reference c.args.asked.clauses.now in
    c.const_is_own.ensures V ∙ ap (λ v. not (some_node (is_foreign_term V rs) (arg_trees es v))) (sym c.in-Const.is)
