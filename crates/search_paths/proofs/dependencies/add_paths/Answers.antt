use Rattle.std.proofs.Common.{◌≡◌, All, List, Some, cond, eqb, ap, sym, refl, ◌∙◌}
use Rattle.std.proofs.lemmas.Option.{same_Some, slice_get_read, slice_get_within}
use Rattle.std.specs.List.{slice_get}
use Rattle.std.specs.Int.RustNames.{bit_or}
use Rattle.search_paths.specs.declared.dependencies.CycleHead.{CycleHead}
use Rattle.search_paths.specs.Heads.{paths_to}
use Rattle.search_paths.proofs.HeadFacts.{paths_to-set, indices-set, rests_absent, other_adds}
use Rattle.search_paths.proofs.dependencies.add_paths.Goals as goal

pub returns-in-Some-clause-same : goal.returns-in-Some-clause-same
returns-in-Some-clause-same c =
    let hs : List CycleHead = c.args.heads.now.items in
    let known : CycleHead = c.index_mut.result.now in
    let found = rw c.deref.ensures.value at c.in-Some.ensures.found in
    let inside = slice_get_within hs c.in-Some.place found.0 found.1 in
    indices-set hs c.in-Some.place known _ inside c.index_mut.ensures.value refl

pub returns-in-Some-clause-counted : goal.returns-in-Some-clause-counted
returns-in-Some-clause-counted c = λ place there.
    let hs : List CycleHead = c.args.heads.now.items in
    let known : CycleHead = c.index_mut.result.now in
    let found = rw c.deref.ensures.value at c.in-Some.ensures.found in
    let inside = slice_get_within hs c.in-Some.place found.0 found.1 in
    let is : known ≡ _ = c.index_mut.ensures.value in
    let read : slice_get hs c.in-Some.place ≡ Some known = slice_get_read _ _ _ _ refl inside is in
    let same : known.index ≡ c.args.read.index = ap (λ (head : CycleHead). head.index) (same_Some known found.0 (sym read ∙ found.1)) ∙ found.2 in
    paths_to-set hs c.in-Some.place known _ c.args.read.paths.0 place inside is refl (c.insert.ensures tt)
    ∙ ap (λ i. bit_or (paths_to hs place) (cond (eqb i place) (bit_or c.args.read.paths.0 0) 0)) same

pub returns-in-None-clause-counted : goal.returns-in-None-clause-counted
returns-in-None-clause-counted c = λ place there.
    let hs : List CycleHead = c.args.heads.now.items in
    let absent : All (λ head. head.index ≡ c.args.read.index → ⊥) hs = rw c.deref.ensures.value at c.in-None.ensures.absent in
    sym (other_adds c.args.read (paths_to hs place) place (λ e. (((rests_absent hs c.args.read.index place absent).0) there).1 e))
