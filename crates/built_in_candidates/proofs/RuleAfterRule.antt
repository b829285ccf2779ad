-- Candidates by built-in rules, as the definitions read the goal before the interner grew.
use Rattle.std.proofs.Common.{◌≡◌, ℕ, List, sym, ap, ◌∙◌, Option, option_map}
use Rattle.std.specs.List.{slice_get}
use Rattle.type_terms.specs.Promised.Handles.{Entry, Keeps}
use Rattle.infer_table.specs.declared.input.CanonicalInput.{CanonicalInput}
use Rattle.infer_table.specs.Goals.{GoalHeld}
use Rattle.goal_evaluator.specs.declared.candidate.CandidateSpec.{CandidateSpec}
use Rattle.declarations.specs.Held.{AreHeld}
use Rattle.declarations.specs.Items.{Items, written}
use Rattle.declarations.proofs.Growth.{all-written}
use Rattle.candidate_model.specs.Candidates.{by_unsize}
use Rattle.built_in_candidates.specs.declared.built_in_rules.BuiltInRule.{BuiltInRule}
use Rattle.built_in_candidates.specs.BuiltInRules.{by_the_rule}
use Rattle.built_in_candidates.specs.Constituents.{candidates_of}
use Rattle.built_in_candidates.specs.Goals.{asked_of, candidate_of}
use Rattle.built_in_candidates.proofs.Asking.{asked-later}

module _ (old now new : List Entry) (k : Keeps old now) (d : Items) (g : CanonicalInput) (h : AreHeld old d) (held : GoalHeld old g.goal) where
  abbrev t : ℕ
  t = g.goal.predicate.trait_ref.def_id.index

  pub rule-read : (o : Option CandidateSpec) (r : BuiltInRule) → candidates_of (written now d) t new o ≡ by_the_rule (written now d) (asked_of now g) r
      → candidates_of (written old d) t new o ≡ by_the_rule (written old d) (asked_of old g) r
  rule-read o r is =
      ap (λ W. candidates_of W t new o) (sym (all-written old now k d h)) ∙ is ∙ ap (λ W. by_the_rule W (asked_of now g) r) (all-written old now k d h)
      ∙ ap (λ a. by_the_rule (written old d) a r) (asked-later old now k g held)

  pub unsize-read : (o : Option CandidateSpec) (n : ℕ) → option_map (candidate_of (written now d) t new) o ≡ slice_get (by_unsize (written now d) (asked_of now g)) n
      → option_map (candidate_of (written old d) t new) o ≡ slice_get (by_unsize (written old d) (asked_of old g)) n
  unsize-read o n is =
      ap (λ W. option_map (candidate_of W t new) o) (sym (all-written old now k d h)) ∙ is ∙ ap (λ W. slice_get (by_unsize W (asked_of now g)) n) (all-written old now k d h)
      ∙ ap (λ a. slice_get (by_unsize (written old d) a) n) (asked-later old now k g held)
