-- The types that a walk met are the interner's, each at its place.
use Rattle.std.proofs.Common.{ℕ, zero, suc, ◌<◌, List, [], ◌∷◌, length, slice_index_or, arith}
use Rattle.explain_sessions.specs.TypeTerms.Promised.Handles.{Entry}
use Rattle.explain_sessions.specs.TypeTerms.declared.kinds.Ty.{Ty}
use Rattle.explain_sessions.specs.OrphanCheck.Promised.Errors.{LeavesHeld, TypeHeld}
use Rattle.explain_sessions.specs.OrphanCheck.declared.errors.IsFirstInputType.{IsFirstInputType}

pub met-held : (es : List Entry) (ps : List (Ty × IsFirstInputType)) (k : ℕ) (d : Ty × IsFirstInputType) → LeavesHeld es ps → k < length ps → TypeHeld es (slice_index_or ps k d).0
met-held es [] k d h lt = absurd (omega (arith, lt))
met-held es (p ∷ ps) zero d h lt = h.0
met-held es (p ∷ ps) (suc k) d h lt = met-held es ps k d h.1 (omega (arith, lt))
