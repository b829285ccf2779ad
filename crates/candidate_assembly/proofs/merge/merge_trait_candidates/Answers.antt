use Rattle.std.proofs.Common.{sym, subst, IfOk}
use Rattle.std.proofs.lemmas.Result.{IfOk-weaker}
use Rattle.infer_table.specs.declared.certainty.TypingMode.{TypingMode}
use Rattle.candidate_assembly.specs.Merging.{end_in, IsEnd}
use Rattle.candidate_assembly.proofs.Ends.{end-all}
use Rattle.candidate_assembly.proofs.merge.merge_trait_candidates.Goals as goal

pub returns-in-Coherence-clause-is : goal.returns-in-Coherence-clause-is
returns-in-Coherence-clause-is c =
    let es = c.args.cx.now.entries in
    let new = c.merge_from.new.cx.entries in
    subst (λ (m : TypingMode). IfOk c.merge_from.result (IsEnd (end_in m c.args.variables.now) es c.args.done.now new)) (sym c.in-Coherence.is)
    (IfOk-weaker c.merge_from.result _ _ (end-all es new c.args.variables.now c.args.done.now) c.merge_from.ensures.is)
