use Rattle.std.proofs.Common.{◌∙◌, sym, subst}
use Rattle.celtisdarts_c.specs.Inferred.{HasInferred, HasNoSolutionIn, LacksAnythingIn, StaysAsItWasIn}
use Rattle.celtisdarts_c.specs.Slots.{SlotState}
use Rattle.celtisdarts_c.specs.declared.call.Call.{Call}
use Rattle.celtisdarts_c.proofs.Slots.{stays-itself}
use Rattle.celtisdarts_c.proofs.inferring.celtisdarts_infer.Goals as goal

pub returns-clause-done : goal.returns-clause-done
returns-clause-done c =
    let call : Call = record { operation = c.args.operation; name = c.args.name; terms = c.args.terms; number = c.args.number } in
    λ e.
    subst (λ (t : SlotState). HasInferred c.args.handle.now.value call t c.infer-word.new.given) (sym c.replace.ensures.new)
    (subst (λ (s : SlotState). HasInferred s call c.infer-word.new.self c.infer-word.new.given) (c.deref_mut.ensures.value ∙ c.replace-slot.ensures.old) (c.infer-word.ensures.done e))

pub returns-clause-no_solution : goal.returns-clause-no_solution
returns-clause-no_solution c =
    let call : Call = record { operation = c.args.operation; name = c.args.name; terms = c.args.terms; number = c.args.number } in
    λ e. subst (λ (s : SlotState). HasNoSolutionIn s call) (c.deref_mut.ensures.value ∙ c.replace-slot.ensures.old) (c.infer-word.ensures.no_solution e)

pub returns-clause-no_term : goal.returns-clause-no_term
returns-clause-no_term c =
    let call : Call = record { operation = c.args.operation; name = c.args.name; terms = c.args.terms; number = c.args.number } in
    λ e. subst (λ (s : SlotState). LacksAnythingIn s call) (c.deref_mut.ensures.value ∙ c.replace-slot.ensures.old) (c.infer-word.ensures.no_term e)

pub returns-clause-refused : goal.returns-clause-refused
returns-clause-refused c =
    λ e f.
    subst (λ (t : SlotState). StaysAsItWasIn c.args.handle.now.value t) (sym c.replace.ensures.new)
    (subst (λ (s : SlotState). StaysAsItWasIn s c.infer-word.new.self) (c.deref_mut.ensures.value ∙ c.replace-slot.ensures.old) (c.infer-word.ensures.refused e f))

pub returns-in_default-clause-refused : goal.returns-in_default-clause-refused
returns-in_default-clause-refused c = λ e f v is. (v, is, stays-itself v)
