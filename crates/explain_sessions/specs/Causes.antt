-- Why a later version of a crate may not add an impl.
use Rattle.std.specs.Prelude.{◌≡◌, ◌-◌, ℕ, true, false, ◌||◌, List, Option, Some, None, slice_get}
use Rattle.sessions.specs.TypeTerms.Promised.Versions.{is_addable, open_walk_meets_param}
use Rattle.sessions.specs.TypeTerms.Promised.Walks.{keeps_orphan_rule, trait_is}
use Rattle.sessions.specs.TypeTerms.Promised.Worlds.{World, Reference}
use Rattle.explain_sessions.specs.declared.breaking.BreakingCause.{BreakingCause}
use Rattle.explain_sessions.specs.declared.breaking.BreakingCause.TheVariants.{Orphan, ReliedOn, OpenWalk}

-- Crate c of V may add an impl with this header, or this is why it may not.
abbrev pub IsCauseOf : World → ℕ → Reference → Option BreakingCause → Type 0
IsCauseOf V c h None = is_addable V c h ≡ true
IsCauseOf V c h (Some Orphan) = keeps_orphan_rule V c h ≡ false
IsCauseOf V c h (Some ReliedOn) = (trait_is (λ x. x.is_fundamental) V h.trait || trait_is (λ x. x.is_auto) V h.trait) ≡ true
IsCauseOf V c h (Some OpenWalk) = open_walk_meets_param V h ≡ true

-- A cause is that of the header with this number, counted from 1.
abbrev pub IsCauseAt : World → ℕ → List Reference → ℕ → Option BreakingCause → Type 0
IsCauseAt V c hs n None = Unit {0}
IsCauseAt V c hs n (Some cause) = (h : Reference) × (slice_get hs (n - 1) ≡ Some h) × IsCauseOf V c h (Some cause)
