-- Small facts about the types of the code.
use Rattle.std.proofs.Common.{List, ℕ, ◌≡◌, Some, [], ◌∷◌, zero, subst, suc}
use Rattle.goal_evaluator.specs.FrameTables.{kind_at}
use Rattle.goal_evaluator.specs.Lists.{Every}
use Rattle.goal_frames.specs.Rules.{IsUnknown}
use Rattle.infer_table.specs.declared.canonical.CanonicalVarKind.{CanonicalVarKind}

pub unknown-kind : (ks : List CanonicalVarKind) → Every IsUnknown ks → (i : ℕ) (k : CanonicalVarKind) → kind_at ks i ≡ Some k → IsUnknown k
unknown-kind [] h i k e = absurd (cc)
unknown-kind (j ∷ ks) h zero k e = subst IsUnknown (same e) h.0
  where
    same : Some j ≡ Some k → j ≡ k
    same e = cc
unknown-kind (j ∷ ks) h (suc i) k e = unknown-kind ks h.1 i k e
