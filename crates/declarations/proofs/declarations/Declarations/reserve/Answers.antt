use Rattle.std.proofs.Common.{refl}
use Rattle.declarations.proofs.Sound.{still-sound, same-entries}
use Rattle.declarations.proofs.declarations.Declarations.reserve.Goals as goal

pub invariant_of-self-in_err-reserve-3 : goal.invariant_of-self-in_err-reserve-3
invariant_of-self-in_err-reserve-3 c = still-sound c.self.inside _ c.reserve-3.ensures.entries (λ k. refl) c.self.invariant

pub invariant_of-self-in_err-reserve-4 : goal.invariant_of-self-in_err-reserve-4
invariant_of-self-in_err-reserve-4 c = still-sound c.self.inside _ c.reserve-3.ensures.entries (same-entries c.self.inside.keys c.reserve-4.new.self c.reserve-4.ensures.entries) c.self.invariant

pub invariant_of-self-2 : goal.invariant_of-self-2
invariant_of-self-2 c = still-sound c.self.inside _ c.reserve-3.ensures.entries (same-entries c.self.inside.keys c.reserve-4.new.self c.reserve-4.ensures.entries) c.self.invariant
