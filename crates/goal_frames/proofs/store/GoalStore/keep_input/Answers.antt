use Rattle.std.proofs.Common.{◌≡◌, ◌∙◌, ap, sym, subst, Some, option_map, List, Err}
use Rattle.std.specs.List.{slice_get}
use Rattle.type_terms.specs.declared.Fault.TheVariants.{Memory, Full}
use Rattle.infer_table.specs.declared.input.CanonicalInput.{CanonicalInput}
use Rattle.infer_table.specs.Goals.{GoalHeld}
use Rattle.goal_frames.specs.Stores.{asked_goal}
use Rattle.goal_frames.proofs.Numbers.{same-goals, asks-renamed}
use Rattle.goal_frames.proofs.Keeping.{handed-on, handed-error, ok-not-err, stands-input, new-input, no-input, same-input, added-input, input-stays, input-is, asks-the-same}
use Rattle.goal_frames.proofs.store.GoalStore.keep_input.Goals as goal
use Rattle.type_terms.proofs.TypeBasics.{on-err}

-- ---- where it is kept
pub returns-clause-is : goal.returns-clause-is
returns-clause-is c = stands-input c.keep.new.kept.keys c.in_ok-place.place c.args.input c.in_ok-place.ensures.is

pub returns-clause-goal : goal.returns-clause-goal
returns-clause-goal c = λ es.
    let s = stands-input c.keep.new.kept.keys c.in_ok-place.place c.args.input c.in_ok-place.ensures.is in
    ap (option_map (asked_goal es)) s.1 ∙ ap Some (sym (same-goals es c.args.input s.0 s.2))

pub returns-clause-grows : goal.returns-clause-grows
returns-clause-grows c = record {
  inputs = λ i a at. input-stays c.args.self.now.inputs.keys c.keep.new.kept.keys c.args.input c.in_ok-place.ensures.keys i.0 a at;
  responses = λ i a at. at;
}

pub returns-clause-adds : goal.returns-clause-adds
returns-clause-adds c = added-input c.args.self.now c.keep.new.kept.keys c.args.input c.in_ok-place.ensures.keys

pub returns-clause-held : goal.returns-clause-held
returns-clause-held c = λ es h held. record {
  inputs = λ i a at. input-is (λ (a : CanonicalInput). GoalHeld es a.goal) c.args.self.now.inputs.keys c.keep.new.kept.keys c.args.input c.in_ok-place.ensures.keys h i.0 a (held.inputs i a) at;
  responses = λ i a at. held.responses i a at;
}

pub returns-clause-found : goal.returns-clause-found
returns-clause-found c = λ i at. same-input c.args.self.now c.keep.new.kept.keys c.args.input c.in_ok-place.place c.keep.ensures.unique c.in_ok-place.ensures.keys c.in_ok-place.ensures.is i at

pub returns-clause-known : goal.returns-clause-known
returns-clause-known c = λ es i law held h q.
    same-input c.args.self.now c.keep.new.kept.keys c.args.input c.in_ok-place.place c.keep.ensures.unique c.in_ok-place.ensures.keys c.in_ok-place.ensures.is i (asks-the-same es law c.args.self.now held i c.args.input h q)

pub returns-clause-renamed : goal.returns-clause-renamed
returns-clause-renamed c = λ es i g h law held is q r.
    same-input c.args.self.now c.keep.new.kept.keys c.args.input c.in_ok-place.place c.keep.ensures.unique c.in_ok-place.ensures.keys c.in_ok-place.ensures.is i
    (asks-the-same es law c.args.self.now held i c.args.input is.held (asks-renamed es c.args.self.now i g h c.args.input is q r))

pub returns-clause-refuses : goal.returns-clause-refuses
returns-clause-refuses c = λ full new. absurd (ok-not-err _ _ (c.in_ok-place.ensures.refuses full (no-input c.args.self.now c.args.input new)))

-- ---- where it is refused
pub returns-in_err-place-clause-grows : goal.returns-in_err-place-clause-grows
returns-in_err-place-clause-grows c = record {
  inputs = λ i a at. subst (λ (ks : List CanonicalInput). slice_get ks i.0 ≡ Some a) (sym c.in_err-place.ensures.refused) at;
  responses = λ i a at. at;
}

pub returns-in_err-place-clause-held : goal.returns-in_err-place-clause-held
returns-in_err-place-clause-held c = λ es h held. record {
  inputs = λ i a at. held.inputs i a (subst (λ (ks : List CanonicalInput). slice_get ks i.0 ≡ Some a) c.in_err-place.ensures.refused at);
  responses = λ i a at. held.responses i a at;
}

pub returns-in_err-place-clause-found : goal.returns-in_err-place-clause-found
returns-in_err-place-clause-found c = λ i at. absurd (new-input c.args.self.now c.args.input c.in_err-place.ensures.absent i at)

pub returns-in_err-place-clause-known : goal.returns-in_err-place-clause-known
returns-in_err-place-clause-known c = λ es i law held h q. absurd (new-input c.args.self.now c.args.input c.in_err-place.ensures.absent i (asks-the-same es law c.args.self.now held i c.args.input h q))

pub returns-in_err-place-clause-renamed : goal.returns-in_err-place-clause-renamed
returns-in_err-place-clause-renamed c = λ es i g h law held is q r.
    absurd (new-input c.args.self.now c.args.input c.in_err-place.ensures.absent i (asks-the-same es law c.args.self.now held i c.args.input is.held (asks-renamed es c.args.self.now i g h c.args.input is q r)))

pub returns-in_err-place-clause-absent : goal.returns-in_err-place-clause-absent
returns-in_err-place-clause-absent c = on-err _ c.from_residual.result (new-input c.args.self.now c.args.input c.in_err-place.ensures.absent)

pub returns-in_err-place-clause-full : goal.returns-in_err-place-clause-full
returns-in_err-place-clause-full c = λ q. handed-on Full c.from_residual.result c.from_residual.ensures.1 (λ p. c.in_err-place.ensures.full (ap Err p)) q

pub returns-in_err-place-clause-memory : goal.returns-in_err-place-clause-memory
returns-in_err-place-clause-memory c = λ q. handed-on Memory c.from_residual.result c.from_residual.ensures.1 (λ p. c.in_err-place.ensures.memory (ap Err p)) q

pub returns-in_err-place-clause-refuses : goal.returns-in_err-place-clause-refuses
returns-in_err-place-clause-refuses c = λ full new. handed-error Full c.from_residual.result c.from_residual.ensures.1 (c.in_err-place.ensures.refuses full (no-input c.args.self.now c.args.input new))
