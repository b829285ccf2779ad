use Rattle.std.proofs.Common.{◌≡◌, List, Some, eqb, sym, ◌∙◌, rules}
use Rattle.std.proofs.lemmas.Fn.{filter_same}
use Rattle.std.specs.List.{position}
use Rattle.search_paths.specs.declared.dependencies.CycleHead.{CycleHead}
use Rattle.search_paths.proofs.HeadFacts.{rests_filter, rests_absent, first_of}
use Rattle.search_paths.proofs.ReadHeads.{paths_to-others}
use Rattle.search_paths.proofs.dependencies.take_head.Goals as goal

pub returns-clause-rests : goal.returns-clause-rests
returns-clause-rests c = λ other.
    let kept = filter_same _ _ _ (λ x b f' k. search rules) _ _ c.retain.ensures.filtered in
    rw kept (rests_filter c.args.heads.now.items c.args.index other)

pub returns-clause-taken : goal.returns-clause-taken
returns-clause-taken c =
    let hs : List CycleHead = c.args.heads.now.items in
    let head : CycleHead = c.index.result.now in
    let found : position (λ (head : CycleHead). eqb head.index c.args.index) hs ≡ Some c.in_ok-place.place = sym (c.in_ok-place.ensures.first ∙ (λ i. position (λ (head : CycleHead). eqb head.index c.args.index) (c.deref.ensures.value i))) in
    first_of hs c.args.index c.in_ok-place.place head found c.index.ensures

pub returns-in_err-place-clause-rests : goal.returns-in_err-place-clause-rests
returns-in_err-place-clause-rests c = λ other.
    rests_absent c.args.heads.now.items c.args.index other (rw c.deref.ensures.value at c.in_err-place.ensures.absent)

pub returns-clause-others : goal.returns-clause-others
returns-clause-others c = λ other apart.
    let kept = filter_same _ _ _ (λ x b f' k. search rules) _ _ c.retain.ensures.filtered in
    rw kept (paths_to-others c.args.heads.now.items c.args.index other apart)
