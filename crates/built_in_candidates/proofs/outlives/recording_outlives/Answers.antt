use Rattle.std.proofs.Common.{Some, sym, ◌∙◌, ap, subst, IfSome, option_map}
use Rattle.type_terms.specs.Promised.Handles.{trees_at}
use Rattle.goal_evaluator.specs.Readings.{SpecHeld}
use Rattle.candidate_model.specs.Candidates.{recording, lifetime_of, outlives}
use Rattle.built_in_candidates.specs.Goals.{candidate_of}
use Rattle.built_in_candidates.proofs.Lifetimes.{recording-none}
use Rattle.built_in_candidates.proofs.outlives.recording_outlives.Goals as goal

pub returns-in_ok-recording-in-Some-Some-clause-is : goal.returns-in_ok-recording-in-Some-Some-clause-is
returns-in_ok-recording-in-Some-Some-clause-is c = λ V t.
    let es = c.args.cx.now.entries in
    let S = trees_at es c.args.self_ty.0 in
    let r = outlives S (lifetime_of S) (lifetime_of (trees_at es c.args.target.0)) in
    ap Some (c.in_ok-recording-in-Some-Some.ensures.is V t es ∙ ap (λ z. recording z (candidate_of V t es c.in-Some-Some.candidate)) c.in-Some-Some.ensures.is)
    ∙ ap (λ o. option_map (recording r) (option_map (candidate_of V t es) o)) (sym c.in-Some-Some.is-0)

pub returns-in_ok-recording-in-Some-Some-clause-held : goal.returns-in_ok-recording-in-Some-Some-clause-held
returns-in_ok-recording-in-Some-Some-clause-held c =
    let es = c.args.cx.now.entries in
    c.in_ok-recording-in-Some-Some.ensures.held es (subst (λ o. IfSome o (SpecHeld es)) c.in-Some-Some.is-0 c.requires.candidate) c.in-Some-Some.ensures.held

pub returns-in-Some-None-clause-is : goal.returns-in-Some-None-clause-is
returns-in-Some-None-clause-is c = λ V t.
    let es = c.args.cx.now.entries in
    let S = trees_at es c.args.self_ty.0 in
    let r = outlives S (lifetime_of S) (lifetime_of (trees_at es c.args.target.0)) in
    ap Some (recording-none (candidate_of V t es c.in-Some-None.candidate) ∙ ap (λ z. recording z (candidate_of V t es c.in-Some-None.candidate)) c.in-Some-None.ensures.is)
    ∙ ap (λ o. option_map (recording r) (option_map (candidate_of V t es) o)) (sym c.in-Some-None.is-0)
