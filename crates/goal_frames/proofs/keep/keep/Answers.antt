use Rattle.std.proofs.Common.{sym, get_or}
use Rattle.std.proofs.lemmas.List.Quantifiers.{position-Some}
use Rattle.std.proofs.lemmas.Option.{slice_get-get_or}
use Rattle.goal_frames.proofs.keep.keep.Goals as goal

pub returns-in-Some-clause-is : goal.returns-in-Some-clause-is
returns-in-Some-clause-is g c =
    let keys = c.args.kept.now.keys in
    let found = position-Some _ keys c.in-Some.place c.args.value (sym c.in-Some.ensures.index) in
    (get_or keys c.in-Some.place c.args.value, slice_get-get_or keys c.in-Some.place c.args.value found.0, found.1)
