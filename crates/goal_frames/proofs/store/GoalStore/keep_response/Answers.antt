use Rattle.std.proofs.Common.{◌≡◌, ◌∙◌, ap, sym, subst, Some, option_map, List, Err}
use Rattle.std.specs.List.{slice_get}
use Rattle.type_terms.specs.declared.Fault.TheVariants.{Memory, Full}
use Rattle.infer_table.specs.declared.response.CanonicalResponse.{CanonicalResponse}
use Rattle.infer_table.specs.Responses.{ResponseHeld, answer_trees}
use Rattle.goal_frames.proofs.Answers.{same-answers}
use Rattle.goal_frames.proofs.Keeping.{handed-on, handed-error, ok-not-err, stands-response, new-response, no-response, same-response, added-response, response-stays, response-is, says-the-same}
use Rattle.goal_frames.proofs.store.GoalStore.keep_response.Goals as goal
use Rattle.type_terms.proofs.TypeBasics.{on-err}

-- ---- where it is kept
pub returns-clause-is : goal.returns-clause-is
returns-clause-is c = stands-response c.keep.new.kept.keys c.in_ok-place.place c.args.response c.in_ok-place.ensures.is

pub returns-clause-answer : goal.returns-clause-answer
returns-clause-answer c = λ es.
    let s = stands-response c.keep.new.kept.keys c.in_ok-place.place c.args.response c.in_ok-place.ensures.is in
    ap (option_map (answer_trees es)) s.1 ∙ ap Some (sym (same-answers es c.args.response s.0 s.2))

pub returns-clause-grows : goal.returns-clause-grows
returns-clause-grows c = record {
  responses = λ i a at. response-stays c.args.self.now.responses.keys c.keep.new.kept.keys c.args.response c.in_ok-place.ensures.keys i.0 a at;
  inputs = λ i a at. at;
}

pub returns-clause-adds : goal.returns-clause-adds
returns-clause-adds c = added-response c.args.self.now c.keep.new.kept.keys c.args.response c.in_ok-place.ensures.keys

pub returns-clause-held : goal.returns-clause-held
returns-clause-held c = λ es h held. record {
  responses = λ i a at. response-is (ResponseHeld es) c.args.self.now.responses.keys c.keep.new.kept.keys c.args.response c.in_ok-place.ensures.keys h i.0 a (held.responses i a) at;
  inputs = λ i a at. held.inputs i a at;
}

pub returns-clause-found : goal.returns-clause-found
returns-clause-found c = λ i at. same-response c.args.self.now c.keep.new.kept.keys c.args.response c.in_ok-place.place c.keep.ensures.unique c.in_ok-place.ensures.keys c.in_ok-place.ensures.is i at

pub returns-clause-known : goal.returns-clause-known
returns-clause-known c = λ es i law held h q.
    same-response c.args.self.now c.keep.new.kept.keys c.args.response c.in_ok-place.place c.keep.ensures.unique c.in_ok-place.ensures.keys c.in_ok-place.ensures.is i (says-the-same es law c.args.self.now held i c.args.response h q)

pub returns-clause-refuses : goal.returns-clause-refuses
returns-clause-refuses c = λ full new. absurd (ok-not-err _ _ (c.in_ok-place.ensures.refuses full (no-response c.args.self.now c.args.response new)))

-- ---- where it is refused
pub returns-in_err-place-clause-grows : goal.returns-in_err-place-clause-grows
returns-in_err-place-clause-grows c = record {
  responses = λ i a at. subst (λ (ks : List CanonicalResponse). slice_get ks i.0 ≡ Some a) (sym c.in_err-place.ensures.refused) at;
  inputs = λ i a at. at;
}

pub returns-in_err-place-clause-held : goal.returns-in_err-place-clause-held
returns-in_err-place-clause-held c = λ es h held. record {
  responses = λ i a at. held.responses i a (subst (λ (ks : List CanonicalResponse). slice_get ks i.0 ≡ Some a) c.in_err-place.ensures.refused at);
  inputs = λ i a at. held.inputs i a at;
}

pub returns-in_err-place-clause-found : goal.returns-in_err-place-clause-found
returns-in_err-place-clause-found c = λ i at. absurd (new-response c.args.self.now c.args.response c.in_err-place.ensures.absent i at)

pub returns-in_err-place-clause-known : goal.returns-in_err-place-clause-known
returns-in_err-place-clause-known c = λ es i law held h q. absurd (new-response c.args.self.now c.args.response c.in_err-place.ensures.absent i (says-the-same es law c.args.self.now held i c.args.response h q))

pub returns-in_err-place-clause-absent : goal.returns-in_err-place-clause-absent
returns-in_err-place-clause-absent c = on-err _ c.from_residual.result (new-response c.args.self.now c.args.response c.in_err-place.ensures.absent)

pub returns-in_err-place-clause-full : goal.returns-in_err-place-clause-full
returns-in_err-place-clause-full c = λ q. handed-on Full c.from_residual.result c.from_residual.ensures.1 (λ p. c.in_err-place.ensures.full (ap Err p)) q

pub returns-in_err-place-clause-memory : goal.returns-in_err-place-clause-memory
returns-in_err-place-clause-memory c = λ q. handed-on Memory c.from_residual.result c.from_residual.ensures.1 (λ p. c.in_err-place.ensures.memory (ap Err p)) q

pub returns-in_err-place-clause-refuses : goal.returns-in_err-place-clause-refuses
returns-in_err-place-clause-refuses c = λ full new. handed-error Full c.from_residual.result c.from_residual.ensures.1 (c.in_err-place.ensures.refuses full (no-response c.args.self.now c.args.response new))
