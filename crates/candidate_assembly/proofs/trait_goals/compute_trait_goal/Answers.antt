use Rattle.std.proofs.Common.{sym, ◌∙◌, ap, option_map}
use Rattle.std.proofs.lemmas.Result.{IfOk-weaker}
use Rattle.goal_evaluator.specs.Plans.{wanted}
use Rattle.goal_evaluator.specs.Tables.{frame_tables}
use Rattle.goal_frames.proofs.Later.{shown-later, considered-later, considered-fits-later}
use Rattle.declarations.specs.Items.{written}
use Rattle.built_in_candidates.specs.Goals.{candidate_of}
use Rattle.built_in_candidates.proofs.Noted.{always-ok, noted-later}
use Rattle.candidate_assembly.specs.Merging.{end_in}
use Rattle.candidate_assembly.specs.Nexts.{mode_at_end}
use Rattle.candidate_assembly.proofs.TraitGoals.{considers, answers, candidate-fits}
use Rattle.candidate_assembly.proofs.trait_goals.compute_trait_goal.Goals as goal

pub merge_trait_candidates-requires-clause-held : goal.merge_trait_candidates-requires-clause-held
merge_trait_candidates-requires-clause-held c = considered-later c.args.cx.now.entries c.assemble_and_evaluate_candidates.new.cx.entries c.in_ok-candidate.ensures.terms.grew.keeps c.args.done.now c.requires.done

pub merge_trait_candidates-requires-clause-fits : goal.merge_trait_candidates-requires-clause-fits
merge_trait_candidates-requires-clause-fits c = considered-fits-later c.args.cx.now.entries c.assemble_and_evaluate_candidates.new.cx.entries c.in_ok-candidate.ensures.terms.grew.keeps c.args.done.now c.requires.done c.requires.fits

pub returns-in-Some-clause-fits : goal.returns-in-Some-clause-fits
returns-in-Some-clause-fits c =
    let es = c.args.cx.now.entries in
    let d = c.args.declarations.now in
    let g = c.args.goal.now in
    let new = c.assemble_and_evaluate_candidates.new.cx.entries in
    let h = c.requires.history in
    candidate-fits es d g c.requires.ready c.stays_decided-decided.result c.stays_decided-decided.ensures new c.in-Some.candidate h.0
    (ap (option_map (candidate_of (written es d) g.goal.predicate.trait_ref.def_id.index new)) (sym c.in-Some.is) ∙ c.in_ok-candidate.ensures.is h.0 h.1 h.2)

pub returns-in-Some-clause-next : goal.returns-in-Some-clause-next
returns-in-Some-clause-next c = λ seen s t.
    let es = c.args.cx.now.entries in
    let d = c.args.declarations.now in
    let g = c.args.goal.now in
    let at = candidate_of (written es d) g.goal.predicate.trait_ref.def_id.index c.assemble_and_evaluate_candidates.new.cx.entries in
    considers es d g c.stays_decided-decided.result c.stays_decided-decided.ensures seen t (at c.in-Some.candidate) (ap (option_map at) (sym c.in-Some.is) ∙ c.in_ok-candidate.ensures.is seen s t)

pub returns-in-None-clause-next : goal.returns-in-None-clause-next
returns-in-None-clause-next c =
    let es = c.args.cx.now.entries in
    let d = c.args.declarations.now in
    let g = c.args.goal.now in
    let mid = c.assemble_and_evaluate_candidates.new.cx.entries in
    let at = candidate_of (written es d) g.goal.predicate.trait_ref.def_id.index mid in
    let b = c.stays_decided-decided.result in
    IfOk-weaker c.merge_trait_candidates.result _ _
    (λ step p seen s t.
    p seen (shown-later es mid c.in_ok-candidate.ensures.terms.grew.keeps c.args.done.now c.requires.done ∙ s) _
    ∙ ap (λ mode. wanted frame_tables (end_in mode c.deref.result.now seen)) c.mode_at_end-mode.ensures
    ∙ ap (λ ks. wanted frame_tables (end_in (mode_at_end g.mode b) ks seen)) c.deref.ensures.value
    ∙ answers es d g b c.stays_decided-decided.ensures seen t (ap (option_map at) (sym c.in-None.is) ∙ c.in_ok-candidate.ensures.is seen s t))
    c.merge_trait_candidates.ensures.is

pub returns-in-None-clause-notes : goal.returns-in-None-clause-notes
returns-in-None-clause-notes c =
    let mid = c.assemble_and_evaluate_candidates.new.cx.entries in
    always-ok c.merge_trait_candidates.result
    (noted-later mid c.merge_trait_candidates.new.cx.entries c.args.declarations.now c.assemble_and_evaluate_candidates.new.notes.items c.merge_trait_candidates.ensures.terms.grew.keeps c.in_ok-candidate.ensures.notes)
