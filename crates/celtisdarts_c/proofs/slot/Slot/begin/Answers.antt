use Rattle.std.proofs.Common.{◌≡◌, Some, refl, subst}
use Rattle.celtisdarts_c.specs.Slots.{SlotState}
use Rattle.celtisdarts_c.proofs.slot.Slot.begin.Goals as goal

pub returns-in-Ok-clause-begun : goal.returns-in-Ok-clause-begun
returns-in-Ok-clause-begun c = λ e. (c.in-Some.asker, subst (λ (s : SlotState). s.asker ≡ Some c.in-Some.asker) c.self.view_is c.in-Some.is, c.in-Ok.begun, refl, c.in-Ok.ensures.begun)
