use Rattle.std.proofs.Common.{◌∙◌, sym, subst}
use Rattle.celtisdarts_c.specs.Inferred.{HasBegunIn}
use Rattle.celtisdarts_c.specs.Slots.{SlotState}
use Rattle.celtisdarts_c.proofs.inferring.celtisdarts_infer_begin.Goals as goal

pub returns-clause-begun : goal.returns-clause-begun
returns-clause-begun c =
    λ e.
    subst (λ (t : SlotState). HasBegunIn c.args.handle.now.value c.args.number t) (sym c.replace.ensures.new)
    (subst (λ (s : SlotState). HasBegunIn s c.args.number c.begin-word.new.self) (c.deref_mut.ensures.value ∙ c.replace-slot.ensures.old) (c.begin-word.ensures.begun e))
