use Rattle.std.proofs.Common.{List, ℕ, subst}
use Rattle.celtisdarts_c.specs.Told.{IsAtFront, IsTooShort}
use Rattle.celtisdarts_c.proofs.slot.shown.Goals as goal

pub returns-then-tell-clause-told : goal.returns-then-tell-clause-told
returns-then-tell-clause-told c =
    λ e. (c.in-Ok.text, c.in-Ok.is, subst (λ (t : List ℕ). IsAtFront t c.tell.new.buffer c.tell.new.needed) c.deref.ensures.value (c.tell.ensures.told c.if-tell.true))

pub returns-clause-short : goal.returns-clause-short
returns-clause-short c =
    λ e. (c.in-Ok.text, c.in-Ok.is, subst (λ (t : List ℕ). IsTooShort t c.args.buffer.now c.tell.new.needed) c.deref.ensures.value (c.tell.ensures.short c.if-tell.false))
