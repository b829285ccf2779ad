-- Who may write an impl that is not seen, so that its line has no fault of its trait, and keeps the orphan rule of its crate.
use Rattle.std.specs.Prelude.{◌≡◌, ℕ, Bool, true, false, not, ◌&&◌, ◌==◌}
use Rattle.std.specs.List.{list_any}
use Rattle.sessions.specs.TypeTerms.Promised.Erased.{erased_reference}
use Rattle.sessions.specs.TypeTerms.Promised.Rules.{is_auto}
use Rattle.sessions.specs.TypeTerms.Promised.Walks.{keeps_orphan_rule}
use Rattle.sessions.specs.TypeTerms.Promised.Worlds.{World, Reference}
use Rattle.sessions.specs.TextLanguage.Promised.Faults.{built_in_traits}
use Rattle.sessions.specs.OrphanCheck.Knowing.{meets_open}
use Rattle.explain_sessions.specs.Rules.{HasNoImpl, IsInstanceOf}
use Rattle.explain_sessions.specs.declared.adding.Adder.{Adder}
use Rattle.explain_sessions.specs.declared.adding.Adder.TheVariants.{User, Owner}

-- Impls of the trait may be written, whatever they are for: it is none that has built-in rules alone, and no auto trait.
abbrev pub may_have_impls : World → ℕ → Bool
may_have_impls V t = not (list_any (λ x. x == t) built_in_traits) && not (is_auto V t)

-- Such an impl may be written. A crate that uses c writes it with a struct of its own in an open place, which stands before any type of c; and
-- another crate d than c may write it as it stands.
abbrev pub MayWrite : World → ℕ → Reference → Adder → Type 0
MayWrite V c r User = (may_have_impls V r.trait ≡ true) × (meets_open V r ≡ true)
MayWrite V c r (Owner d) = (may_have_impls V r.trait ≡ true) × ((d.index == c) ≡ false) × (keeps_orphan_rule V d.index r ≡ true)

-- No impl of V has a rule for this instance of r, so an impl of it overlaps none of them.
abbrev pub HasFreeInstance : World → Reference → Type 0
HasFreeInstance V r = (q : Reference) × IsInstanceOf r q × HasNoImpl V q

-- Such an impl may be written, and some instance of r has no impl that c sees. That they are one instance is not said.
abbrev pub MayAdd : World → ℕ → Reference → Adder → Type 0
MayAdd V c r a = MayWrite V c r a × HasFreeInstance V (erased_reference r)
