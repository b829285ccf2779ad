-- What a session leaves.
use Rattle.std.specs.Prelude.{◌≡◌, ◌<◌, ℕ, length}
use Rattle.declarations.specs.Items.{declared}
use Rattle.text_language.specs.Promised.Declarations.{Declarations}
use Rattle.text_lowering.specs.Ready.{AreSeen}
use Rattle.text_lowering.specs.Seen.{rules_seen_from}
use Rattle.candidate_assembly.specs.Ready.{AreReadyDeclarations}
use Rattle.sessions.specs.declared.seen_view.SeenView.{SeenView}

-- What crate c sees of the text: as it is written, with the kinds of its parameters, and as rules are read from it. It is ready for the
-- solver, over the terms of an interner with this limit.
pub record IsViewOf (d : Declarations) (c handles : ℕ) (view : SeenView) : Type 0 where
  pub crate : view.crate_id.index ≡ c
  pub seen : AreSeen view.interner.entries view.declarations d c
  pub rules : declared view.interner.entries view.declarations ≡ rules_seen_from d c
  pub local : view.declarations.local ≡ c
  pub ready : AreReadyDeclarations view.interner.entries view.declarations
  pub limit : view.interner.limit ≡ handles
  pub declared : c < length d.crates

-- What a session with this limit of handles has left: what its crate sees.
abbrev pub IsLeftView : Declarations → ℕ → SeenView → Type 0
IsLeftView d handles view = IsViewOf d view.crate_id.index handles view
