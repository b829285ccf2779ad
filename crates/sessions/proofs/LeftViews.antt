-- What a session leaves of the text that it was made on.
use Rattle.std.proofs.Common.{◌≡◌, ℕ, sym, subst}
use Rattle.text_language.specs.Promised.Declarations.{Declarations}
use Rattle.sessions.specs.SeenViews.{IsViewOf, IsLeftView}
use Rattle.sessions.specs.Promised.Subjects.{Subject}
use Rattle.sessions.specs.declared.seen_view.SeenView.{SeenView}

pub left-view : (s : Subject) (d : Declarations) (handles : ℕ) (v : SeenView) → s.declarations ≡ d → s.handles ≡ handles → IsViewOf s.declarations s.of_crate s.handles v → IsLeftView d handles v
left-view s d handles v text room h =
    subst (λ (x : Declarations). IsViewOf x v.crate_id.index handles v) text
    (subst (λ n. IsViewOf s.declarations v.crate_id.index n v) room (subst (λ c. IsViewOf s.declarations c s.handles v) (sym h.crate) h))
