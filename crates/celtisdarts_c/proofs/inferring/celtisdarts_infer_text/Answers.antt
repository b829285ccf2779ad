use Rattle.std.proofs.Common.{◌∙◌, subst}
use Rattle.celtisdarts_c.specs.Inferred.{IsTermText}
use Rattle.celtisdarts_c.specs.Slots.{SlotState}
use Rattle.celtisdarts_c.specs.Told.{Tells, TellsLength}
use Rattle.celtisdarts_c.proofs.inferring.celtisdarts_infer_text.Goals as goal

pub returns-clause-told : goal.returns-clause-told
returns-clause-told c =
    λ e.
    subst (λ (s : SlotState). Tells (IsTermText s c.args.term) c.show-word.new.buffer c.show-word.new.needed) (c.deref_mut.ensures.value ∙ c.replace-slot.ensures.old) (c.show-word.ensures.told e)

pub returns-clause-short : goal.returns-clause-short
returns-clause-short c =
    λ e.
    subst (λ (s : SlotState). TellsLength (IsTermText s c.args.term) c.args.buffer.now c.show-word.new.needed) (c.deref_mut.ensures.value ∙ c.replace-slot.ensures.old) (c.show-word.ensures.short e)
