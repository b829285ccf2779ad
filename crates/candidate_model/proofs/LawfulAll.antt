-- Where the candidates by `dyn` targets, impls and object bounds are sound, and all are narrow, all are lawful.
use Rattle.std.proofs.Common.{◌≡◌, ◌==◌, Bool, true, false, if◌then◌else◌, List, [], ◌∷◌, ◌++◌, Some}
use Rattle.type_terms.specs.Promised.Rules.{unsize, unsize_to_dyn_rules}
use Rattle.infer_table.specs.Canonical.{CanonicalForm}
use Rattle.goal_evaluator.specs.Lists.{Every}
use Rattle.candidate_model.specs.Meaning.{ViewMeaning}
use Rattle.candidate_model.specs.Declared.{is_declared_view}
use Rattle.candidate_model.specs.Asking.{GoalOverKinds, goal_over_kinds, self_of, next_of, begins_unknown}
use Rattle.candidate_model.specs.Candidates.{Candidate, built_in, by_sized, by_copy, by_auto, by_tuple, by_fn_ptr, by_call, by_unsize, by_impls, by_objects, unsure, misc, if_so, as_written, unsize_array_of, upcasts_of, unsize_struct_of, unsize_known, unsizing_outlives, unsize_recording}
use Rattle.candidate_model.specs.Lawful.{IsSoundFor}
use Rattle.candidate_model.proofs.Premises.{other_candidates, premised_candidates, SoundAndNarrowIsLawful}
use Rattle.candidate_model.proofs.CandidateKinds.{every-split}
use Rattle.candidate_model.proofs.LawfulCandidates.{each-lawful}
use Rattle.candidate_model.proofs.Recording.{every-recorded}
use Rattle.candidate_model.proofs.SoundRows.{sized-sound, copy-sound, auto-sound, tuple-sound, fn-ptr-sound}
use Rattle.candidate_model.proofs.SoundCalls.{call-sound}
use Rattle.candidate_model.proofs.SoundUnsizing.{unsizing-is-sound}
use Rattle.goal_evaluator.proofs.Basics.{every-append}

module _ (m : ViewMeaning) (declared : is_declared_view m.view ≡ true) (f : CanonicalForm) (a : GoalOverKinds) (is : goal_over_kinds m.view f ≡ Some a) where
  abbrev Sound : Candidate → Type 0
  Sound c = IsSoundFor m f a c

  abbrev to_dyn : List Candidate
  to_dyn = as_written m.view a misc (unsize_to_dyn_rules m.view (self_of a))

  abbrev upcasts : List Candidate
  upcasts = upcasts_of m.view a (self_of a)

  abbrev arrays : List Candidate
  arrays = unsize_array_of m.view a (self_of a)

  abbrev structs : List Candidate
  structs = unsize_struct_of m.view a (self_of a)

  unsize-sound : (b c : Bool) → Every Sound (if_so b (to_dyn ++ upcasts)) → Every Sound (if_so b (arrays ++ structs)) → Every Sound (if_so b (if c then unsure ∷ [] else unsize_recording m.view a))
  unsize-sound true true e g = (λ y. absurd (cc), tt)
  unsize-sound true false e g =
      let d = every-split Sound to_dyn upcasts e in
      let h = every-split Sound arrays structs g in
      every-recorded (unsizing_outlives a.reference.args) Sound (λ c s. s) (unsize_known m.view a (self_of a))
      (every-append Sound arrays (to_dyn ++ (upcasts ++ structs)) h.0 (every-append Sound to_dyn (upcasts ++ structs) d.0 (every-append Sound upcasts structs d.1 h.1)))
  unsize-sound false c e g = tt

  all-sound : Every Sound (premised_candidates m a) → Every Sound (other_candidates m a)
  all-sound premised =
      let s = every-split Sound (if_so (a.reference.trait == unsize) (to_dyn ++ upcasts)) (by_impls m.view a m.view.impls ++ by_objects m.view a) premised in
      every-append Sound (built_in m.view a) (by_impls m.view a m.view.impls ++ by_objects m.view a)
      (every-append Sound (by_sized m.view a) _ (sized-sound m declared f a is)
      (every-append Sound (by_copy m.view a) _ (copy-sound m declared f a is)
      (every-append Sound (by_auto m.view a) _ (auto-sound m declared f a is)
      (every-append Sound (by_tuple m.view a) _ (tuple-sound m declared f a is)
      (every-append Sound (by_fn_ptr m.view a) _ (fn-ptr-sound m declared f a is)
      (every-append Sound (by_call m.view a) (by_unsize m.view a) (call-sound m declared f a is)
      (unsize-sound (a.reference.trait == unsize) (begins_unknown a.kinds (next_of (self_of a))) s.0 (unsizing-is-sound m declared f a is))))))))
      s.1

pub sound-and-narrow-is-lawful : SoundAndNarrowIsLawful
sound-and-narrow-is-lawful m declared determined sound narrow applicable same mode f a is known = each-lawful applicable same m declared determined mode f a is (all-sound m declared f a is (sound f a is known)) (narrow f a is)
