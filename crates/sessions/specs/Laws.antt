-- Laws of the values of queries.
use Rattle.std.specs.Prelude.{◌≡◌, List}
use Rattle.type_terms.specs.Promised.Label.{Sort}
use Rattle.type_terms.specs.Promised.Trees.{Trees, erase}
use Rattle.type_terms.specs.Promised.Handles.{Entry}
use Rattle.infer_table.specs.Content.{Table, content, Ready, IsProper}
use Rattle.infer_table.specs.Covers.{AreKnown}
use Rattle.infer_table.specs.Solutions.{Assignment, Solves, instance, resolved}
use Rattle.sessions.specs.Tables.{count_of}
use Rattle.sessions.specs.Values.{values_in}
use Rattle.type_terms.specs.Promised.Questions.{FitKinds, filled}

abbrev pub UnboundStandForThemselves : Type 0
UnboundStandForThemselves =
    (es : List Entry) (t : Table) → Ready es t
    → (s : Assignment) × Solves s (content es t.values) × ((x : Trees) → IsProper x → instance s x ≡ erase (resolved (content es t.values) x))

abbrev pub ValuesFill : Type 0
ValuesFill =
    (es : List Entry) (t : Table) → Ready es t → (ks : List Sort) → let ts = values_in (content es t.values) ks in
    FitKinds ks ts
    × ((x : Trees) → IsProper x → AreKnown (λ s. count_of s ks) x → filled ks ts (erase x) ≡ erase (resolved (content es t.values) x))
