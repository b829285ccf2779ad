-- The impls that a verdict or a check names are there.
use Rattle.std.proofs.Common.{◌≡◌, ℕ, ◌-◌, ◌<◌, ◌≤◌, length, sym, ap, ◌∙◌, subst, arith}
use Rattle.std.proofs.lemmas.Option.{slice_get_within}
use Rattle.sessions.specs.TypeTerms.Promised.Worlds.{ImplDecl, sees, view_of}
use Rattle.sessions.specs.TypeTerms.Promised.Erased.{erased_world, erased_impl}
use Rattle.sessions.specs.TypeTerms.Promised.Proofs.{In}
use Rattle.sessions.proofs.TypeTerms.Members.{in-filter}
use Rattle.sessions.specs.TextLanguage.Promised.Declarations.{Declarations, NamedImpl, section_impls, world_of}
use Rattle.sessions.specs.TextTables.Numbered.{IsNumbered}
use Rattle.sessions.specs.Promised.Promises.{IsVerdictOf, view_in}
use Rattle.sessions.specs.Promised.Releases.{IsFirstBreaking, StopsAt}
use Rattle.sessions.specs.Verdicts.{Verdict, accepted, orphan, overlap}
use Rattle.coherence.specs.KeptLines.{NamesImpls}
use Rattle.coherence.proofs.ImplParams.{unmapped as mapped}

-- an impl that a crate sees has its place for its number
place : (d : Declarations) (c : ℕ) (i : ImplDecl) → IsNumbered d → In i (view_in d c).impls → i.name < length d.impls
place d c i n h =
    let W = erased_world (world_of d) in
    let seen = in-filter (λ (x : ImplDecl). sees W c x.home) W.impls i h in
    let written = mapped erased_impl (world_of d).impls seen.0.0 i seen.0.1 in
    let named = mapped (λ (x : NamedImpl). x.item) d.impls seen.0.0 written.0 written.1 in
    let number : i.name ≡ seen.0.0 = ap (λ (x : ImplDecl). x.name) (sym written.2) ∙ ap (λ (x : ImplDecl). x.name) (sym named.2) ∙ (n.impls seen.0.0 named.0 named.1).0 in
    subst (λ k. k < length d.impls) (sym number) (slice_get_within d.impls seen.0.0 named.0 named.1)

pub names : (limit : ℕ) (d : Declarations) (c : ℕ) (v : Verdict) → IsNumbered d → IsVerdictOf limit d c v → NamesImpls d v
names limit d c accepted n h = tt
names limit d c (orphan k e) n h = subst (λ m. m < length d.impls) h.number (place d c h.found n h.broken.stands)
names limit d c (overlap k j) n h = (
  subst (λ m. m < length d.impls) h.1.later_number (place d c h.1.later n h.1.pair.stands),
  subst (λ m. m < length d.impls) h.1.earlier_number (place d c h.1.earlier n h.1.pair.partner),
)

-- so is the impl at which a check of supertraits stops
declared-place : (d : Declarations) (c : ℕ) (i : ImplDecl) → IsNumbered d → In i (view_of (world_of d) c).impls → i.name < length d.impls
declared-place d c i n h =
    let W = world_of d in
    let seen = in-filter (λ (x : ImplDecl). sees W c x.home) W.impls i h in
    let named = mapped (λ (x : NamedImpl). x.item) d.impls seen.0.0 i seen.0.1 in
    let number : i.name ≡ seen.0.0 = ap (λ (x : ImplDecl). x.name) (sym named.2) ∙ (n.impls seen.0.0 named.0 named.1).0 in
    subst (λ k. k < length d.impls) (sym number) (slice_get_within d.impls seen.0.0 named.0 named.1)

pub names-stopped : (limit : ℕ) (d : Declarations) (c k j : ℕ) → IsNumbered d → StopsAt limit d c k j → k < length d.impls
names-stopped limit d c k j n h = subst (λ m. m < length d.impls) h.stops.named (declared-place d c h.stops.found n h.stops.stands)

-- and the first impl of a section that may not be added
pub names-added : (d : Declarations) (c k n : ℕ) → IsFirstBreaking d c k n → n ≤ length (section_impls d k)
names-added d c k n h = let within = slice_get_within (section_impls d k) (n - 1) h.found h.there in omega (arith, within)
