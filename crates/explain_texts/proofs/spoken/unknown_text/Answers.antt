use Rattle.std.proofs.Common.{sym, subst}
use Rattle.explain_sessions.specs.TypeTerms.Promised.Handles.{ArgHeld}
use Rattle.explain_texts.proofs.HeldArgs.{arg-held}
use Rattle.explain_texts.proofs.spoken.unknown_text.Goals as goal

pub text_if_unknown-requires : goal.text_if_unknown-requires
text_if_unknown-requires c =
    let es = c.args.cx.now.entries in
    let held = arg-held es c.args-arg-items.result.now c.loop-arg.arg-index c.arg-item.result c.args-arg-items.ensures.held c.loop-arg-test.true in
    subst (ArgHeld es) (sym c.arg-item.is) held
