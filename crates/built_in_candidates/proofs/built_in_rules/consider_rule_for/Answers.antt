use Rattle.std.proofs.Common.{ap, sym, ◌∙◌}
use Rattle.declarations.specs.Items.{written}
use Rattle.built_in_candidates.specs.Goals.{asked_of}
use Rattle.built_in_candidates.specs.BuiltInRules.{of_rule}
use Rattle.built_in_candidates.proofs.built_in_rules.consider_rule_for.Goals as goal
use Rattle.type_terms.proofs.TypeBasics.{if-ok}

pub returns-in-CopyClone-clause-is : goal.returns-in-CopyClone-clause-is
returns-in-CopyClone-clause-is c =
    let V = written c.args.cx.now.entries c.args.declarations.now in
    let a = asked_of c.args.cx.now.entries c.args.goal.now in
    if-ok _ _ c.consider_builtin_copy_clone_candidate.result (λ o is. is V ∙ ap (of_rule V a) (sym c.in-CopyClone.is)) c.consider_builtin_copy_clone_candidate.ensures.is

pub returns-in-Tuple-clause-is : goal.returns-in-Tuple-clause-is
returns-in-Tuple-clause-is c =
    let V = written c.args.cx.now.entries c.args.declarations.now in
    let a = asked_of c.args.cx.now.entries c.args.goal.now in
    if-ok _ _ c.consider_builtin_tuple_candidate.result (λ o is. is V ∙ ap (of_rule V a) (sym c.in-Tuple.is)) c.consider_builtin_tuple_candidate.ensures.is

pub returns-in-FnPtr-clause-is : goal.returns-in-FnPtr-clause-is
returns-in-FnPtr-clause-is c =
    let V = written c.args.cx.now.entries c.args.declarations.now in
    let a = asked_of c.args.cx.now.entries c.args.goal.now in
    if-ok _ _ c.consider_builtin_fn_ptr_trait_candidate.result (λ o is. is V ∙ ap (of_rule V a) (sym c.in-FnPtr.is)) c.consider_builtin_fn_ptr_trait_candidate.ensures.is

pub returns-in-Calls-clause-is : goal.returns-in-Calls-clause-is
returns-in-Calls-clause-is c =
    let V = written c.args.cx.now.entries c.args.declarations.now in
    let a = asked_of c.args.cx.now.entries c.args.goal.now in
    if-ok _ _ c.consider_builtin_fn_trait_candidates.result (λ o is. is V ∙ ap (of_rule V a) (sym c.in-Calls.is)) c.consider_builtin_fn_trait_candidates.ensures.is
