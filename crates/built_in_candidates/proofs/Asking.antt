-- Goals and candidates while the interner grows.
use Rattle.std.proofs.Common.{◌≡◌, List, [], ◌∷◌, refl, sym, ap}
use Rattle.type_terms.specs.Promised.Trees.{Trees}
use Rattle.type_terms.specs.Promised.Worlds.{World, Reference}
use Rattle.type_terms.specs.Promised.Rules.{Rule}
use Rattle.type_terms.specs.Promised.Handles.{Entry, Keeps}
use Rattle.infer_table.specs.declared.input.CanonicalInput.{CanonicalInput}
use Rattle.infer_table.specs.Goals.{GoalHeld}
use Rattle.infer_table.proofs.Numbers.{environment-later}
use Rattle.goal_evaluator.specs.declared.candidate.CandidateSource.{CandidateSource}
use Rattle.declarations.proofs.Growth.{reference-same}
use Rattle.candidate_model.specs.Asking.{GoalOverKinds}
use Rattle.candidate_model.specs.Candidates.{as_written, by_rule}
use Rattle.built_in_candidates.specs.Goals.{asked_of}
use Rattle.structural_traits.specs.Constituents.{premises_of}

pub asked-later : (old new : List Entry) → Keeps old new → (g : CanonicalInput) → GoalHeld old g.goal → asked_of new g ≡ asked_of old g
asked-later old new k g h =
    same _ _ _ _ (environment-later old new k g.goal.param_env.items h.environment) (reference-same old new k g.goal.predicate.trait_ref h.predicate)
  where
    same : (s t : Trees) (q r : Reference) → s ≡ t → q ≡ r
        → ◌≡◌ {A = GoalOverKinds} (record { kinds = g.variables.items; environment = s; reference = q }) (record { kinds = g.variables.items; environment = t; reference = r })
    same s t q r e f = cc

-- what rules ask makes their candidates
pub none-written : (V : World) (a : GoalOverKinds) (s : CandidateSource) (us : List Rule) → premises_of us ≡ [] → [] ≡ as_written V a s us
none-written V a s [] e = refl
none-written V a s (u ∷ us) e = absurd cc

pub one-written : (V : World) (a : GoalOverKinds) (s : CandidateSource) (us : List Rule) (ps : List Reference) → premises_of us ≡ ps ∷ [] → by_rule V a s [] ps ∷ [] ≡ as_written V a s us
one-written V a s [] ps e = absurd cc
one-written V a s (u ∷ []) ps e = let q : u.premises ≡ ps = cc in ap (λ z. by_rule V a s [] z ∷ []) (sym q)
one-written V a s (u ∷ v ∷ us) ps e = absurd cc
