use Rattle.std.proofs.Common.{sym, subst}
use Rattle.explain_sessions.specs.TypeTerms.Promised.Handles.{ArgHeld}
use Rattle.explain_texts.proofs.HeldArgs.{arg-held}
use Rattle.explain_texts.proofs.spoken.bound_text.Goals as goal

pub push_arg-requires : goal.push_arg-requires
push_arg-requires c =
    let es = c.args.cx.now.entries in
    let held = arg-held es c.args-arg-items.result.now c.loop-place.place c.arg-item.result c.args-arg-items.ensures.held c.loop-place-test.true in
    subst (ArgHeld es) (sym c.arg-item.is) held
