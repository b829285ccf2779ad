use Rattle.std.proofs.Common.{◌≡◌, ◌∙◌, ap, sym, Some, subst}
use Rattle.std.specs.List.{slice_get}
use Rattle.std.proofs.lemmas.Option.{slice_get-get_or}
use Rattle.sessions.proofs.ProofChecker.Results.{mapped}
use Rattle.explain_sessions.proofs.rules.is_rule_at.Goals as goal

pub returns-clause-rule : goal.returns-clause-rule
returns-clause-rule c =
    let n = c.in-Some.node.now in
    let k = c.in-Some-get.candidate.now in
    let first = slice_get-get_or c.deref.result.now c.args.at.0 n c.in-Some.ensures.lookup.3.0 ∙ ap Some (sym (c.in-Some.ensures.lookup.3.1 n)) in
    let second = slice_get-get_or c.deref-2.result.now c.args.at.1 k c.in-Some-get.ensures.lookup.3.0 ∙ ap Some (sym (c.in-Some-get.ensures.lookup.3.1 k)) in
    mapped _ _ c.is_rule.result
    (λ b f q. (
      n,
      subst (λ l. slice_get l c.args.at.0 ≡ Some n) c.deref.ensures.value first,
      k,
      subst (λ l. slice_get l c.args.at.1 ≡ Some k) c.deref-2.ensures.value second,
      f q,
    ))
    c.is_rule.ensures.rule
