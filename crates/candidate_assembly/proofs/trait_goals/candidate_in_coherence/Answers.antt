use Rattle.std.proofs.Common.{not, ◌&&◌, sym, ◌∙◌, Some}
use Rattle.std.proofs.lemmas.Result.{IfOk-weaker}
use Rattle.declarations.specs.Items.{written}
use Rattle.candidate_model.specs.Candidates.{unknowable}
use Rattle.candidate_model.specs.Knowing.{is_knowable}
use Rattle.candidate_model.specs.Solver.{holds_from}
use Rattle.built_in_candidates.specs.Goals.{asked_of}
use Rattle.built_in_candidates.proofs.Noted.{noted-later}
use Rattle.candidate_assembly.specs.Nexts.{early_or_late_in}
use Rattle.candidate_assembly.specs.Sections.{is_first_step, is_unknowable}
use Rattle.candidate_assembly.proofs.DecidedGoals.{inside-same, inside-none}
use Rattle.candidate_assembly.proofs.Shown.{holds}
use Rattle.candidate_assembly.proofs.trait_goals.candidate_in_coherence.Goals as goal

pub returns-then-unknowable_holds-clause-is : goal.returns-then-unknowable_holds-clause-is
returns-then-unknowable_holds-clause-is c = λ seen s t.
    let es = c.args.cx.now.entries in
    let d = c.args.declarations.now in
    let g = c.args.goal.now in
    let V = written es d in
    let a = asked_of es g in
    inside-none (is_first_step seen && not (is_knowable V d.local a.reference)) (holds_from is_unknowable seen) (Some (unknowable V a)) (early_or_late_in es d g seen)
    (sym (c.in_ok-begins_unknowable.ensures.is seen s) ∙ c.if-branch.false) (sym (holds is_unknowable es c.args.done.now seen s) ∙ sym c.unknowable_holds.ensures ∙ c.if-unknowable_holds.true)

pub returns-clause-is : goal.returns-clause-is
returns-clause-is c =
    let es = c.args.cx.now.entries in
    let d = c.args.declarations.now in
    let g = c.args.goal.now in
    let V = written es d in
    let a = asked_of es g in
    IfOk-weaker c.early_or_late_candidate.result _ _
    (λ o p seen s t.
    p seen s t
    ∙ inside-same (is_first_step seen && not (is_knowable V d.local a.reference)) (holds_from is_unknowable seen) (Some (unknowable V a)) (early_or_late_in es d g seen)
    (sym (c.in_ok-begins_unknowable.ensures.is seen s) ∙ c.if-branch.false) (sym (holds is_unknowable es c.args.done.now seen s) ∙ sym c.unknowable_holds.ensures ∙ c.if-unknowable_holds.false))
    c.early_or_late_candidate.ensures.is

pub returns-then-branch-clause-notes : goal.returns-then-branch-clause-notes
returns-then-branch-clause-notes c =
    noted-later c.args.cx.now.entries c.consider_coherence_unknowable_candidate.new.cx.entries c.args.declarations.now c.args.notes.now.items c.in_ok-candidate.ensures.terms.grew.keeps c.requires.notes
