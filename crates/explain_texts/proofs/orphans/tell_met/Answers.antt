use Rattle.explain_texts.proofs.MetTypes.{met-held}
use Rattle.explain_texts.proofs.orphans.tell_met.Goals as goal

pub tell_met_type-requires : goal.tell_met_type-requires
tell_met_type-requires c = met-held c.args.cx.now.entries c.args.types.now c.loop-place.place _ c.requires c.loop-place-test.true
