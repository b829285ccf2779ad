use Rattle.std.proofs.Common.{ap, ◌∙◌, subst}
use Rattle.text_lines.specs.Views.{statement_of}
use Rattle.text_lines.specs.Says.{is_loaded, refutes_some}
use Rattle.text_lines.proofs.WhatIsSaid.{tests-agree}
use Rattle.text_names.specs.Speaks.{Speaks}
use Rattle.text_names.proofs.LineTests.{line-findings}
use Rattle.text_names.proofs.Judging.{misplaced-is, taken-is, own-is, stray-is, tests-are}
use Rattle.text_names.proofs.judge.tests_of.Goals as goal

pub returns : goal.returns
returns g c l h is =
    let v = g.N.Names.sight c.args.names.now in
    let d = v.before in
    let s = statement_of c.args.read.now.statement in
    let sp = subst (Speaks v.line) h.0 c.requires in
    let found = c.args.found.now in
    let f = c.faults-faults.result in
    let ef = c.faults-faults.ensures ∙ line-findings v l found sp is in
    tests-are d l _ (misplaced-is d l s c.is_misplaced.result h.0 c.is_misplaced.ensures)
    (taken-is v l s c.in_ok-takes_own.takes_own f sp h.0 c.in_ok-takes_own.ensures ef)
    (ap (λ z. z.uses_unknown) ef) (ap (λ z. z.uses_hidden) ef) (ap (λ z. z.uses_other_sort) ef)
    (c.in_ok-has_free_param.ensures d l h)
    (own-is d l s c.is_trait.result f h.0 c.is_trait.ensures ef)
    (c.is_loaded_auto.ensures ∙ ap is_loaded h.0 ∙ (tests-agree l).2)
    (c.is_foreign_auto.ensures l h) (c.implements_built_in.ensures l h)
    (stray-is v l found c.in_ok-has_stray_variable.has_stray_variable sp is c.in_ok-has_stray_variable.ensures)
    (c.refutes_params.ensures ∙ ap refutes_some h.0 ∙ (tests-agree l).3)
    (ap (λ z. z.has_bad_dyn) ef)
    (c.in_ok-passes_limit.ensures l h is)
