use Rattle.std.proofs.Common.{get_or}
use Rattle.std.proofs.lemmas.Option.{slice_get-get_or}
use Rattle.search_paths.specs.declared.dependencies.CycleHead.{CycleHead}
use Rattle.search_paths.proofs.HeadFacts.{head_found}
use Rattle.search_paths.proofs.dependencies.place_from.Goals as goal

pub returns-then-heads-place-clause-found : goal.returns-then-heads-place-clause-found
returns-then-heads-place-clause-found c =
    let none : CycleHead = record { index = 0; paths = record { 0 = 0 } } in
    (get_or c.args.heads.now c.loop-place.place none, slice_get-get_or c.args.heads.now c.loop-place.place none c.loop-place-test.true, c.if-heads-place.true)

pub returns-clause-found : goal.returns-clause-found
returns-clause-found c = head_found c.args.heads.now c.args.index c.place_of.result c.place_of.ensures.first
