use Rattle.std.proofs.Common.{◌≡◌, sym, ◌∙◌, ap, option_map}
use Rattle.std.proofs.lemmas.Result.{IfOk-weaker}
use Rattle.goal_frames.proofs.Later.{considered-later}
use Rattle.type_terms.proofs.Grown.{grew-on}
use Rattle.declarations.specs.Items.{written}
use Rattle.built_in_candidates.specs.Goals.{candidate_of}
use Rattle.built_in_candidates.proofs.Noted.{noted-later}
use Rattle.candidate_assembly.specs.Nexts.{early_in, late_in}
use Rattle.candidate_assembly.specs.Sections.{late}
use Rattle.candidate_assembly.proofs.DecidedGoals.{decided-later, histories-later, first-of, second-of}
use Rattle.candidate_assembly.proofs.trait_goals.early_or_late_candidate.Goals as goal

pub late_candidate-requires-clause-decided : goal.late_candidate-requires-clause-decided
late_candidate-requires-clause-decided c =
    decided-later c.args.cx.now.entries c.early_candidate.new.cx.entries c.in_ok-candidate.ensures.terms.grew.keeps c.args.declarations.now c.args.goal.now c.requires.decided

pub late_candidate-requires-clause-done : goal.late_candidate-requires-clause-done
late_candidate-requires-clause-done c = considered-later c.args.cx.now.entries c.early_candidate.new.cx.entries c.in_ok-candidate.ensures.terms.grew.keeps c.args.done.now c.requires.done

pub late_candidate-requires-clause-notes : goal.late_candidate-requires-clause-notes
late_candidate-requires-clause-notes c =
    noted-later c.args.cx.now.entries c.early_candidate.new.cx.entries c.args.declarations.now c.args.notes.now.items c.in_ok-candidate.ensures.terms.grew.keeps c.requires.notes

pub returns-in-Some-clause-notes : goal.returns-in-Some-clause-notes
returns-in-Some-clause-notes c =
    noted-later c.args.cx.now.entries c.early_candidate.new.cx.entries c.args.declarations.now c.args.notes.now.items c.in_ok-candidate.ensures.terms.grew.keeps c.requires.notes

pub returns-in-None-clause-terms : goal.returns-in-None-clause-terms
returns-in-None-clause-terms c = record {
  grew = grew-on c.in_ok-candidate.ensures.terms.grew c.late_candidate.ensures.terms.grew;
  full = c.late_candidate.ensures.terms.full;
}

pub returns-in-Some-clause-is : goal.returns-in-Some-clause-is
returns-in-Some-clause-is c = λ seen s t.
    let es = c.args.cx.now.entries in
    let d = c.args.declarations.now in
    let g = c.args.goal.now in
    let new = c.early_candidate.new.cx.entries in
    let at = candidate_of (written es d) g.goal.predicate.trait_ref.def_id.index new in
    first-of (at c.in-Some.candidate) (early_in es d g seen) (late_in es d g seen) (ap (option_map at) (sym c.in-Some.is) ∙ c.in_ok-candidate.ensures.is seen s t)

pub returns-in-None-clause-is : goal.returns-in-None-clause-is
returns-in-None-clause-is c =
    let es = c.args.cx.now.entries in
    let d = c.args.declarations.now in
    let g = c.args.goal.now in
    let mid = c.early_candidate.new.cx.entries in
    let new = c.late_candidate.new.cx.entries in
    let trait = g.goal.predicate.trait_ref.def_id.index in
    IfOk-weaker c.late_candidate.result _ _
    (λ o p. λ seen s t.
    second-of (early_in es d g seen) (late_in es d g seen) (option_map (candidate_of (written es d) trait new) o)
    (ap (option_map (candidate_of (written es d) trait mid)) (sym c.in-None.is) ∙ c.in_ok-candidate.ensures.is seen s t)
    (histories-later es mid c.in_ok-candidate.ensures.terms.grew.keeps d g c.requires.decided c.args.done.now c.requires.done (λ W b z. option_map (candidate_of W trait new) o ≡ late W b z) p seen s t))
    c.late_candidate.ensures.is
