use Rattle.std.proofs.Common.{◌++◌, ap, sym, ◌∙◌}
use Rattle.std.specs.List.{slice_get}
use Rattle.declarations.specs.Items.{written}
use Rattle.declarations.proofs.Elaborating.{have-bounds-later}
use Rattle.type_terms.proofs.Grown.{grew-on}
use Rattle.built_in_candidates.specs.Goals.{asked_of}
use Rattle.built_in_candidates.specs.BuiltInRules.{by_rules}
use Rattle.built_in_candidates.proofs.Later.{considered-later, plain-later, object-later, unsizing-later}
use Rattle.built_in_candidates.proofs.RuleAfterRule.{rule-read, unsize-read}
use Rattle.built_in_candidates.proofs.built_in_rules.consider_builtin_candidate.Goals as goal
use Rattle.type_terms.proofs.TypeBasics.{if-ok}
use Rattle.type_terms.proofs.ListBasics.{empty-is}

pub consider_rule-requires-clause-considered : goal.consider_rule-requires-clause-considered
consider_rule-requires-clause-considered c =
    considered-later c.args.cx.now.entries c.rules.cx.entries c.rules.invariant.grew.keeps c.args.declarations.now c.args.goal.now c.requires.considered.goal c.requires.considered

pub consider_rule-requires-clause-impls : goal.consider_rule-requires-clause-impls
consider_rule-requires-clause-impls c =
    plain-later c.args.cx.now.entries c.rules.cx.entries c.rules.invariant.grew.keeps c.args.declarations.now c.requires.considered.declared c.requires.impls

pub consider_builtin_unsize_candidate-requires-clause-considered : goal.consider_builtin_unsize_candidate-requires-clause-considered
consider_builtin_unsize_candidate-requires-clause-considered c =
    considered-later c.args.cx.now.entries c.rules.cx.entries c.rules.invariant.grew.keeps c.args.declarations.now c.args.goal.now c.requires.considered.goal c.requires.considered

pub consider_builtin_unsize_candidate-requires-clause-bounds : goal.consider_builtin_unsize_candidate-requires-clause-bounds
consider_builtin_unsize_candidate-requires-clause-bounds c =
    have-bounds-later c.args.cx.now.entries c.rules.cx.entries c.rules.invariant.grew.keeps c.args.declarations.now c.requires.considered.declared c.requires.bounds

pub consider_builtin_unsize_candidate-requires-clause-object : goal.consider_builtin_unsize_candidate-requires-clause-object
consider_builtin_unsize_candidate-requires-clause-object c =
    object-later c.args.cx.now.entries c.rules.cx.entries c.rules.invariant.grew.keeps c.args.declarations.now c.args.goal.now c.requires.considered.goal c.requires.object

pub consider_builtin_unsize_candidate-requires-clause-unsizing : goal.consider_builtin_unsize_candidate-requires-clause-unsizing
consider_builtin_unsize_candidate-requires-clause-unsizing c =
    unsizing-later c.args.cx.now.entries c.rules.cx.entries c.rules.invariant.grew.keeps c.args.declarations.now c.args.goal.now c.requires.considered.goal c.requires.unsizing

-- the candidate by the next rule, read as the definitions read the goal
pub rules-preserved-in-Some-place_behind : goal.rules-preserved-in-Some-place_behind
rules-preserved-in-Some-place_behind c =
    let old = c.args.cx.now.entries in
    let now = c.rules.cx.entries in
    let next = c.consider_rule.new.cx.entries in
    let inv = c.rules.invariant in
    let d = c.args.declarations.now in
    let g = c.args.goal.now in
    let V = written old d in
    let a = asked_of old g in
    let t = g.goal.predicate.trait_ref.def_id.index in
    let o = c.in_ok-candidate.candidate in
    let rule = c.in-Some.rule.now in
    let others = c.in-Some.others.now in
    let is = rule-read old now next inv.grew.keeps d g c.requires.considered.declared c.requires.considered.goal o rule c.in_ok-candidate.ensures.is in
    record {
      grew = grew-on inv.grew c.consider_rule.ensures.terms.grew;
      at = sym (c.in-Some-place_behind.ensures V t next (by_rules V a others)) ∙ ap (λ l. slice_get (l ++ by_rules V a others) c.rules.before) is
          ∙ ap (λ l. slice_get (by_rules V a l) c.rules.before) (sym c.in-Some.ensures.cases.0) ∙ inv.at;
    }

pub rules-preserved : goal.rules-preserved
rules-preserved c =
    let old = c.args.cx.now.entries in
    let now = c.rules.cx.entries in
    let next = c.consider_rule.new.cx.entries in
    let inv = c.rules.invariant in
    let d = c.args.declarations.now in
    let g = c.args.goal.now in
    let V = written old d in
    let a = asked_of old g in
    let t = g.goal.predicate.trait_ref.def_id.index in
    let o = c.in_ok-candidate.candidate in
    let rule = c.in-Some.rule.now in
    let others = c.in-Some.others.now in
    let is = rule-read old now next inv.grew.keeps d g c.requires.considered.declared c.requires.considered.goal o rule c.in_ok-candidate.ensures.is in
    record {
      grew = grew-on inv.grew c.consider_rule.ensures.terms.grew;
      at = sym (c.in-Some-place_behind.ensures V t next (by_rules V a others)) ∙ ap (λ l. slice_get (l ++ by_rules V a others) c.rules.before) is
          ∙ ap (λ l. slice_get (by_rules V a l) c.rules.before) (sym c.in-Some.ensures.cases.0) ∙ inv.at;
    }

pub returns-in-None-clause-is : goal.returns-in-None-clause-is
returns-in-None-clause-is c =
    let old = c.args.cx.now.entries in
    let now = c.rules.cx.entries in
    let next = c.consider_rule.new.cx.entries in
    let inv = c.rules.invariant in
    let d = c.args.declarations.now in
    let g = c.args.goal.now in
    let V = written old d in
    let a = asked_of old g in
    let t = g.goal.predicate.trait_ref.def_id.index in
    let o = c.in_ok-candidate.candidate in
    let rule = c.in-Some.rule.now in
    let others = c.in-Some.others.now in
    let is = rule-read old now next inv.grew.keeps d g c.requires.considered.declared c.requires.considered.goal o rule c.in_ok-candidate.ensures.is in
    sym (c.in-None.ensures V t next (by_rules V a others)) ∙ ap (λ l. slice_get (l ++ by_rules V a others) c.rules.before) is
    ∙ ap (λ l. slice_get (by_rules V a l) c.rules.before) (sym c.in-Some.ensures.cases.0) ∙ inv.at

pub returns-clause-is : goal.returns-clause-is
returns-clause-is c =
    let old = c.args.cx.now.entries in
    let now = c.rules.cx.entries in
    let new = c.consider_builtin_unsize_candidate.new.cx.entries in
    let inv = c.rules.invariant in
    let d = c.args.declarations.now in
    let g = c.args.goal.now in
    let V = written old d in
    let a = asked_of old g in
    if-ok _ _ c.consider_builtin_unsize_candidate.result
    (λ o is.
    unsize-read old now new inv.grew.keeps d g c.requires.considered.declared c.requires.considered.goal o c.rules.before is
    ∙ ap (λ l. slice_get (by_rules V a l) c.rules.before) (sym (empty-is c.rules.left.now c.in_default.ensures.cases)) ∙ inv.at)
    c.consider_builtin_unsize_candidate.ensures.is
