-- The output is what `answer` promises; its definitions are large, so they are handed on, and not looked into.
use Rattle.std.proofs.Common.{subst, refl}
use Rattle.coherence.specs.Promised.Told.{IsToldText}
use Rattle.celtisdarts_c.specs.Outputs.{status_word}
use Rattle.celtisdarts_c.specs.Told.{IsAtFront, IsTooShort}
use Rattle.celtisdarts_c.proofs.whole.celtisdarts_run.Goals as goal

pub returns-then-tell-clause-told : goal.returns-then-tell-clause-told
returns-then-tell-clause-told c _ =
    let output = c.in-Ok.output in (
      output.text.items,
      (output.status, subst (λ n. IsToldText n c.args.text.now output.status output.text.items) c.in-Some.ensures.depth c.in-Ok.ensures.whole, c.status_word.ensures),
      subst (λ text. IsAtFront text c.tell.new.buffer c.tell.new.needed) c.deref.ensures.value (c.tell.ensures.told c.if-tell.true),
    )

pub returns-clause-short : goal.returns-clause-short
returns-clause-short c _ =
    let output = c.in-Ok.output in (
      output.text.items,
      (
        status_word output.status,
        (output.status, subst (λ n. IsToldText n c.args.text.now output.status output.text.items) c.in-Some.ensures.depth c.in-Ok.ensures.whole, refl),
      ),
      subst (λ text. IsTooShort text c.args.buffer.now c.tell.new.needed) c.deref.ensures.value (c.tell.ensures.short c.if-tell.false),
    )
