-- Which crates outside the view may have an impl for a trait reference, and the headers of impls that are seen.
use Rattle.std.specs.Prelude.{◌≡◌, ℕ, true, false, List, map, Option, Some, None}
use Rattle.sessions.specs.TypeTerms.Promised.Walks.{is_known_in}
use Rattle.sessions.specs.TypeTerms.Promised.Worlds.{World, Reference}
use Rattle.sessions.specs.Declarations.Relevant.{impls_named}
use Rattle.sessions.specs.OrphanCheck.Knowing.{meets_open, is_knowable, is_written_in}
use Rattle.sessions.specs.OrphanCheck.declared.errors.Conflict.{Conflict}
use Rattle.sessions.specs.OrphanCheck.declared.errors.Conflict.TheVariants.{Upstream, Downstream}

-- None: the trait reference is knowable in crate c of V. Or a crate that uses c: a parameter or variable comes before any type of c. Or a
-- later version of another crate: no parameter or variable comes first, and the trait reference is not knowable.
abbrev pub IsUnseen : World → ℕ → Reference → Option Conflict → Type 0
IsUnseen V c r None = is_written_in V r ≡ true → is_knowable V c r ≡ true
IsUnseen V c r (Some Downstream) = meets_open V r ≡ true
IsUnseen V c r (Some Upstream) = (meets_open V r ≡ false) × (is_known_in V c r ≡ false)

-- The headers of the impls of V with a number.
abbrev pub headers_named : World → ℕ → List Reference
headers_named V n = map (λ i. i.header) (impls_named V n)
