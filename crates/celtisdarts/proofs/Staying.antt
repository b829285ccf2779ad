-- Calls of a session, one after the other.
use Rattle.std.proofs.Common.{◌≡◌, ◌∙◌, ℕ, Bool, ap, sym, subst}
use Rattle.coherence.proofs.KeptLines.{stays-on}
use Rattle.explain_texts.specs.Sessions.Checking.{HasJudged, IsJudgedAt}
use Rattle.explain_texts.specs.Sessions.Promised.Promises.{view_in}
use Rattle.explain_texts.specs.Sessions.Promised.Subjects.{Subject, StaysOn}

-- what a crate sees
pub same-view : (a b : Subject) → StaysOn a b → view_in a.declarations a.of_crate ≡ view_in b.declarations b.of_crate
same-view a b x = ap (λ d. view_in d a.of_crate) (sym x.declarations) ∙ ap (view_in b.declarations) (sym x.of_crate)

-- what was judged
pub judged-after : (a b : Subject) → StaysOn a b → (k j : ℕ) (r : Bool) → HasJudged a k j r → HasJudged b k j r
judged-after a b x k j r h =
    subst (λ n. IsJudgedAt n (view_in b.declarations b.of_crate) b.of_crate k j r) (sym x.depth)
    (subst (λ c. IsJudgedAt a.depth (view_in b.declarations c) c k j r) (sym x.of_crate)
    (subst (λ d. IsJudgedAt a.depth (view_in d a.of_crate) a.of_crate k j r) (sym x.declarations) h))

-- three calls
pub stays-after : (a b c d : Subject) → StaysOn a b → StaysOn b c → StaysOn c d → StaysOn a d
stays-after a b c d x y z = stays-on a c d (stays-on a b c x y) z
