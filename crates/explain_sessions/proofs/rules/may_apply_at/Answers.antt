use Rattle.std.proofs.Common.{◌≡◌, ◌∙◌, ap, sym, Some, subst}
use Rattle.std.specs.List.{slice_get}
use Rattle.std.proofs.lemmas.Option.{slice_get-get_or}
use Rattle.sessions.proofs.ProofChecker.Results.{mapped}
use Rattle.explain_sessions.proofs.RuleCandidates.{there-held}
use Rattle.explain_sessions.proofs.rules.may_apply_at.Goals as goal

pub may_follow-requires-clause-reference : goal.may_follow-requires-clause-reference
may_follow-requires-clause-reference c =
    let r = c.in-Some-reference_at.reference in
    there-held c.args.cx.now.entries c.args.walk.now.references.items c.args.at.0 r c.requires.walked (subst (λ l. slice_get l c.args.at.0 ≡ Some r) c.deref-3.ensures.value c.in-Some-reference_at.ensures)

pub returns-in-Impl-clause-may : goal.returns-in-Impl-clause-may
returns-in-Impl-clause-may c =
    let n = c.in-Some.node.now in
    let k = c.in-Some-get.candidate.now in
    let r = c.in-Some-reference_at.reference in
    let first = slice_get-get_or c.deref.result.now c.args.at.0 n c.in-Some.ensures.lookup.3.0 ∙ ap Some (sym (c.in-Some.ensures.lookup.3.1 n)) in
    let second = slice_get-get_or c.deref-2.result.now c.args.at.1 k c.in-Some-get.ensures.lookup.3.0 ∙ ap Some (sym (c.in-Some-get.ensures.lookup.3.1 k)) in
    mapped _ _ c.may_follow.result
    (λ b f q. (
      n,
      subst (λ l. slice_get l c.args.at.0 ≡ Some n) c.deref.ensures.value first,
      k,
      subst (λ l. slice_get l c.args.at.1 ≡ Some k) c.deref-2.ensures.value second,
      (record {
        reference = r;
        goal = subst (λ l. slice_get l c.args.at.0 ≡ Some r) c.deref-3.ensures.value c.in-Some-reference_at.ensures;
        number = c.in-Impl.id;
        source = c.in-Impl.is;
        rule = f q;
      }),
    ))
    c.may_follow.ensures.rule
