use Rattle.std.proofs.Common.{◌≡◌, List, Some, cond, eqb, ◌∷◌, [], ap, sym, refl, ◌∙◌}
use Rattle.std.proofs.lemmas.Option.{same_Some, slice_get_read, slice_get_within}
use Rattle.std.specs.List.{slice_get}
use Rattle.std.specs.Int.RustNames.{bit_or}
use Rattle.search_paths.specs.declared.dependencies.CycleHead.{CycleHead}
use Rattle.search_paths.specs.Heads.{paths_to}
use Rattle.search_paths.proofs.HeadFacts.{paths_to-set, paths_to-append, rests_set, rests_append}
use Rattle.search_paths.proofs.dependencies.add_head.Goals as goal

pub returns-in-Some-clause-united : goal.returns-in-Some-clause-united
returns-in-Some-clause-united c = λ place.
    let hs : List CycleHead = c.args.heads.now.items in
    let known : CycleHead = c.index_mut.result.now in
    let found = rw c.deref.ensures.value at c.in-Some.ensures.found in
    let inside = slice_get_within hs c.in-Some.place found.0 found.1 in
    let is : known ≡ _ = c.index_mut.ensures.value in
    let read : slice_get hs c.in-Some.place ≡ Some known = slice_get_read _ _ _ _ refl inside is in
    let same : known.index ≡ c.args.head.index = ap (λ (head : CycleHead). head.index) (same_Some known found.0 (sym read ∙ found.1)) ∙ found.2 in
    paths_to-set hs c.in-Some.place known _ c.args.head.paths.0 place inside is refl (c.insert.ensures tt)
    ∙ ap (λ i. bit_or (paths_to hs place) (cond (eqb i place) (bit_or c.args.head.paths.0 0) 0)) same

pub returns-in_ok-push-in-None-clause-united : goal.returns-in_ok-push-in-None-clause-united
returns-in_ok-push-in-None-clause-united c = λ place.
    ap (λ hs. paths_to hs place) c.in_ok-push-in-None.ensures.items ∙ paths_to-append c.args.heads.now.items (c.args.head ∷ []) place

pub returns-in-Some-clause-rests : goal.returns-in-Some-clause-rests
returns-in-Some-clause-rests c =
    let hs : List CycleHead = c.args.heads.now.items in
    let known : CycleHead = c.index_mut.result.now in
    let found = rw c.deref.ensures.value at c.in-Some.ensures.found in
    let inside = slice_get_within hs c.in-Some.place found.0 found.1 in
    let is : known ≡ _ = c.index_mut.ensures.value in
    let read : slice_get hs c.in-Some.place ≡ Some known = slice_get_read _ _ _ _ refl inside is in
    let same : known.index ≡ c.args.head.index = ap (λ (head : CycleHead). head.index) (same_Some known found.0 (sym read ∙ found.1)) ∙ found.2 in
    rests_set hs c.in-Some.place known _ c.args.head inside is refl same

pub returns-in_ok-push-in-None-clause-rests : goal.returns-in_ok-push-in-None-clause-rests
returns-in_ok-push-in-None-clause-rests c = rw c.in_ok-push-in-None.ensures.items (rests_append c.args.heads.now.items (c.args.head ∷ []))
