use Rattle.std.proofs.Common.{ap, sym, ◌∙◌}
use Rattle.declarations.specs.Items.{written}
use Rattle.candidate_model.specs.Candidates.{if_so}
use Rattle.built_in_candidates.specs.Goals.{asked_of}
use Rattle.built_in_candidates.specs.BuiltInRules.{of_rule}
use Rattle.built_in_candidates.proofs.built_in_rules.consider_rule.Goals as goal
use Rattle.type_terms.proofs.TypeBasics.{if-ok}

pub returns-then-speaks_of-clause-is : goal.returns-then-speaks_of-clause-is
returns-then-speaks_of-clause-is c =
    let es = c.args.cx.now.entries in
    let V = written es c.args.declarations.now in
    let a = asked_of es c.args.goal.now in
    if-ok _ _ c.consider_rule_for.result
    (λ o is. is ∙ ap (λ b. if_so b (of_rule V a c.args.rule)) (sym c.if-speaks_of.true ∙ c.speaks_of.ensures es))
    c.consider_rule_for.ensures.is

pub returns-else-speaks_of-clause-is : goal.returns-else-speaks_of-clause-is
returns-else-speaks_of-clause-is c =
    let es = c.args.cx.now.entries in
    let V = written es c.args.declarations.now in
    let a = asked_of es c.args.goal.now in
    ap (λ b. if_so b (of_rule V a c.args.rule)) (sym c.if-speaks_of.false ∙ c.speaks_of.ensures es)
