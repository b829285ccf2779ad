-- The kinds of a canonical goal's variables are all known.
use Rattle.std.proofs.Common.{◌≡◌, List, [], ◌∷◌, map, refl, ◌∙◌, ap, Some}
use Rattle.infer_table.specs.declared.canonical.CanonicalVarKind.{CanonicalVarKind}
use Rattle.goal_evaluator.specs.Handler.{Handled}
use Rattle.goal_evaluator.specs.TableOperations.{begin}
use Rattle.goal_evaluator.specs.Tables.{frame_tables}
use Rattle.goal_evaluator.specs.FrameTables.{kinds_known}

pub all-known : (ks : List CanonicalVarKind) → kinds_known (map Some ks) ≡ ks
all-known [] = refl
all-known (k ∷ ks) = ap (λ xs. k ∷ xs) (all-known ks)

pub begins-known : (h : Handled frame_tables) (ks : List CanonicalVarKind) → h.begin ≡ begin (kinds_known (map Some ks)) → h.begin ≡ begin ks
begins-known h ks e = e ∙ ap begin (all-known ks)
