-- The crates of a text without a fault, as a set.
use Rattle.std.specs.Prelude.{ℕ, ◌<◌, IsTrue, List, map, length}
use Rattle.type_terms.specs.Promised.Worlds.{core}
use Rattle.type_terms.specs.Renumbering.{view_at}
use Rattle.type_terms.specs.Promised.LinkedSet.{JoinedSet, dyns_rise}
use Rattle.type_terms.specs.LinkedSet.{all_written}
use Rattle.text_language.specs.Promised.Declarations.{Declarations}
use Rattle.type_terms.specs.Promised.Verdicts.{KeepsOrphanRule}
use Rattle.sessions.specs.Promised.Promises.{view_in}
use Rattle.sessions.specs.Promised.Subjects.{IsOfText}
use Rattle.sessions.specs.Promised.CoherentTexts.{text_world}

-- The text's crates but `core` keep the orphan rule, as accepted ones do.
abbrev pub CratesKeepOrphanRule : Declarations → Type 0
CratesKeepOrphanRule d = (c : ℕ) → core < c → c < length d.crates → KeepsOrphanRule (view_in d c) c

-- If all crates of a text without a fault keep the orphan rule, they are a joined set, with the views of any of them.
abbrev pub TextsAreJoined : Type 0
TextsAreJoined =
    (d : Declarations) → IsOfText d → CratesKeepOrphanRule d → (cs : List ℕ) → JoinedSet (text_world d) (map (view_at (text_world d)) cs) (λ n. n)

-- Each `dyn` of a text without a fault lists its auto traits in the order in which the text declares them.
abbrev pub TextsListInOrder : Type 0
TextsListInOrder = (d : Declarations) → IsOfText d → IsTrue (all_written dyns_rise (text_world d))
