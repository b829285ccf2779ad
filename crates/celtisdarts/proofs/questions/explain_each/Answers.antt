use Rattle.std.proofs.Common.{sym, subst}
use Rattle.explain_texts.specs.Sessions.Promised.Subjects.{AsksProof}
use Rattle.explain_texts.specs.TypeTerms.Kept.{args-held-later}
use Rattle.coherence.proofs.KeptLines.{stays-on}
use Rattle.celtisdarts.proofs.questions.explain_each.Goals as goal

pub explain_bound-requires-clause-asked : goal.explain_bound-requires-clause-asked
explain_bound-requires-clause-asked c =
    let old = c.args.session.now in
    let new = c.loop-bound.session in
    let same = c.loop-bound.invariant in
    let q = c.requires.asked.0 in
    (q, subst (λ d. AsksProof d new.of_crate c.args.yes.number q) (sym same.declarations) (subst (λ k. AsksProof old.declarations k c.args.yes.number q) (sym same.of_crate) c.requires.asked.1))

pub explain_bound-requires-clause-values : goal.explain_bound-requires-clause-values
explain_bound-requires-clause-values c = args-held-later c.args.session.now.terms c.loop-bound.session.terms c.loop-bound.invariant.terms c.args.yes.values.now c.requires.values

pub loop-bound-preserved : goal.loop-bound-preserved
loop-bound-preserved c = stays-on _ _ _ c.loop-bound.invariant c.explain_bound.ensures
