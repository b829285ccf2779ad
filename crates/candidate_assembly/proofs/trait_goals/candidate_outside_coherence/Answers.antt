use Rattle.std.proofs.Common.{if◌then◌else◌, sym, ◌∙◌, ap, None}
use Rattle.std.proofs.lemmas.Result.{IfOk-weaker}
use Rattle.goal_evaluator.specs.Merge.{or_else}
use Rattle.built_in_candidates.proofs.Noted.{always-ok, noted-later}
use Rattle.candidate_assembly.specs.Nexts.{early_in, late_in}
use Rattle.candidate_assembly.proofs.Settled.{settled-is}
use Rattle.candidate_assembly.proofs.Taken.{or-none}
use Rattle.candidate_assembly.proofs.trait_goals.candidate_outside_coherence.Goals as goal

pub returns-then-is_settled-clause-is : goal.returns-then-is_settled-clause-is
returns-then-is_settled-clause-is c =
    let es = c.args.cx.now.entries in
    let d = c.args.declarations.now in
    let g = c.args.goal.now in
    IfOk-weaker c.early_candidate.result _ _
    (λ o p seen s t. p seen s t ∙ sym (or-none (early_in es d g seen))
    ∙ ap (λ b. or_else (early_in es d g seen) (if b then None else late_in es d g seen)) (sym c.if-is_settled.true ∙ c.is_settled.ensures ∙ settled-is es c.args.done.now seen s))
    c.early_candidate.ensures.is

pub returns-else-is_settled-clause-is : goal.returns-else-is_settled-clause-is
returns-else-is_settled-clause-is c =
    let es = c.args.cx.now.entries in
    let d = c.args.declarations.now in
    let g = c.args.goal.now in
    IfOk-weaker c.early_or_late_candidate.result _ _
    (λ o p seen s t. p seen s t ∙ ap (λ b. or_else (early_in es d g seen) (if b then None else late_in es d g seen)) (sym c.if-is_settled.false ∙ c.is_settled.ensures ∙ settled-is es c.args.done.now seen s))
    c.early_or_late_candidate.ensures.is

pub returns-then-is_settled-clause-notes : goal.returns-then-is_settled-clause-notes
returns-then-is_settled-clause-notes c =
    always-ok c.early_candidate.result (noted-later c.args.cx.now.entries c.early_candidate.new.cx.entries c.args.declarations.now c.args.notes.now.items c.early_candidate.ensures.terms.grew.keeps c.requires.notes)
