use Rattle.std.proofs.Common.{sym, ◌∙◌, map}
use Rattle.type_terms.specs.Promised.Handles.{arg_trees}
use Rattle.declarations.specs.Items.{written}
use Rattle.sessions.specs.Foreign.{are_own_terms, question_in}
use Rattle.sessions.proofs.Foreign.{held-value, foreign-found, own-next, own-all}
use Rattle.sessions.proofs.own_values.values_are_own.Goals as goal
use Rattle.type_terms.proofs.ListBasics.{empty-is}

pub value_is_own-requires-clause-value : goal.value_is_own-requires-clause-value
value_is_own-requires-clause-value c =
    let es = c.args.cx.now.entries in
    let V = written es c.args.declarations.now in
    let rs = question_in es c.args.asked.reference c.args.asked.clauses.now in
    (held-value es V rs c.values.left.now (are_own_terms V rs (map (arg_trees es) c.args.values.now)) c.in-Some.value.now c.in-Some.others.now c.in-Some.ensures.cases.0 c.values.invariant.0).0

pub returns-then-not-value_is_own : goal.returns-then-not-value_is_own
returns-then-not-value_is_own c =
    let es = c.args.cx.now.entries in
    let V = written es c.args.declarations.now in
    let rs = question_in es c.args.asked.reference c.args.asked.clauses.now in
    foreign-found es V rs c.values.left.now (are_own_terms V rs (map (arg_trees es) c.args.values.now)) c.in-Some.value.now c.in-Some.others.now c.in-Some.ensures.cases.0 c.values.invariant.1
    (sym c.value_is_own.ensures ∙ c.if-not-value_is_own.true)

pub values-preserved : goal.values-preserved
values-preserved c =
    let es = c.args.cx.now.entries in
    let V = written es c.args.declarations.now in
    let rs = question_in es c.args.asked.reference c.args.asked.clauses.now in
    let b = are_own_terms V rs (map (arg_trees es) c.args.values.now) in (
      (held-value es V rs c.values.left.now b c.in-Some.value.now c.in-Some.others.now c.in-Some.ensures.cases.0 c.values.invariant.0).1,
      own-next es V rs c.values.left.now b c.in-Some.value.now c.in-Some.others.now c.in-Some.ensures.cases.0 c.values.invariant.1 (sym c.value_is_own.ensures ∙ c.if-not-value_is_own.false),
    )

pub returns : goal.returns
returns c =
    let es = c.args.cx.now.entries in
    let V = written es c.args.declarations.now in
    let rs = question_in es c.args.asked.reference c.args.asked.clauses.now in
    own-all es V rs c.values.left.now (are_own_terms V rs (map (arg_trees es) c.args.values.now)) (empty-is c.values.left.now c.in_default.ensures.cases) c.values.invariant.1
