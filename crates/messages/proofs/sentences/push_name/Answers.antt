use Rattle.std.proofs.Common.{sym, arith}
use Rattle.std.proofs.lemmas.List.{length-take-le}
use Rattle.messages.proofs.sentences.push_name.Goals as goal

pub slice_bounds-push_shown-end : goal.slice_bounds-push_shown-end
slice_bounds-push_shown-end c = sym (length-take-le 120 c.args.name.now (omega (arith, c.if-name-le-TYPE_LIMIT.false)))
