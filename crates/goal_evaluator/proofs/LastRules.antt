-- A proof ends with a rule whose premises have proofs.
use Rattle.std.proofs.Common.{Bool, true, false, if◌then◌else◌, List, [], ◌∷◌, ◌⊎◌, inl, inr, sym, subst}
use Rattle.goal_evaluator.specs.Lists.{Every, IsAmong}
use Rattle.goal_evaluator.specs.Proof.{EntriesContinue, facts, FactHasProof}
use Rattle.goal_evaluator.proofs.ListLaws.{Every-mono}

module _ (Fact : Type 0) (FollowsBy : Fact → List Fact → Type 0) (coinductive : Fact → Bool) where
  abbrev Concludes : List Fact → Fact → Type 0
  Concludes all f = (premises : List Fact) × FollowsBy f premises × Every (λ p. IsAmong p all) premises

  premises_among : (all earlier : List Fact) (kind : Bool) (ps : List Fact) → ((p : Fact) → IsAmong p earlier → IsAmong p all)
      → Every (λ p. IsAmong p (if kind then all else earlier)) ps → Every (λ p. IsAmong p all) ps
  premises_among all earlier true ps sub e = e
  premises_among all earlier false ps sub e = Every-mono (λ p. IsAmong p earlier) (λ p. IsAmong p all) sub ps e

  concludes : (all earlier : List Fact) (entries : List (Fact × List Fact)) → EntriesContinue Fact FollowsBy coinductive all earlier entries
      → ((p : Fact) → IsAmong p earlier ⊎ IsAmong p (facts Fact FollowsBy coinductive entries) → IsAmong p all)
      → (f : Fact) → IsAmong f (facts Fact FollowsBy coinductive entries) → Concludes all f
  concludes all earlier [] c sub f i = absurd i
  concludes all earlier (e ∷ entries) c sub f (inl x) =
      subst (Concludes all) (sym x) (e.1, c.0, premises_among all earlier (coinductive e.0) e.1 (λ p i. sub p (inl i)) c.1)
  concludes all earlier (e ∷ entries) c sub f (inr i) =
      concludes all (e.0 ∷ earlier) entries c.2 (λ p j. elim j [ inl k ↦ elim k [ inl x ↦ sub p (inr (inl x)) | inr y ↦ sub p (inl y) ] | inr k ↦ sub p (inr (inr k)) ]) f i

  pub last_rule : (f : Fact) → FactHasProof Fact FollowsBy coinductive f → (premises : List Fact) × FollowsBy f premises × Every (FactHasProof Fact FollowsBy coinductive) premises
  last_rule f h =
      let all = facts Fact FollowsBy coinductive h.0 in
      let x = concludes all [] h.0 h.1 (λ p i. elim i [ inl a ↦ absurd a | inr b ↦ b ]) f h.2 in
      (x.0, x.1, Every-mono (λ p. IsAmong p all) (FactHasProof Fact FollowsBy coinductive) (λ p i. (h.0, h.1, i)) x.0 x.2)
