-- The arguments of a list are the interner's, each at its place.
use Rattle.std.proofs.Common.{ℕ, zero, suc, ◌<◌, List, [], ◌∷◌, length, slice_index_or, arith}
use Rattle.explain_sessions.specs.TypeTerms.Promised.Handles.{Entry}
use Rattle.explain_sessions.specs.TypeTerms.Promised.Handles.{ArgHeld, ArgsHeld}
use Rattle.explain_sessions.specs.TypeTerms.declared.kinds.GenericArgKind.{GenericArgKind}

pub arg-held : (es : List Entry) (xs : List GenericArgKind) (k : ℕ) (d : GenericArgKind) → ArgsHeld es xs → k < length xs → ArgHeld es (slice_index_or xs k d)
arg-held es [] k d h lt = absurd (omega (arith, lt))
arg-held es (x ∷ xs) zero d h lt = h.0
arg-held es (x ∷ xs) (suc k) d h lt = arg-held es xs k d h.1 (omega (arith, lt))
