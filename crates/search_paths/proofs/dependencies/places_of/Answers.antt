use Rattle.std.proofs.Common.{◌≡◌, ◌+◌, ◌<◌, ◌++◌, ◌∷◌, [], ℕ, List, length, take, get_or, add-one, ap, sym, ◌∙◌}
use Rattle.std.proofs.Math.Seq.{take-suc}
use Rattle.search_paths.specs.declared.dependencies.CycleHead.{CycleHead}
use Rattle.search_paths.specs.KeptPaths.{indices}
use Rattle.search_paths.proofs.HeadFacts.{indices-append}
use Rattle.search_paths.proofs.dependencies.places_of.Goals as goal

pub loop-head-preserved : goal.loop-head-preserved
loop-head-preserved c =
    let heads : List CycleHead = c.args.heads.now in
    let i : ℕ = c.loop-head.head-index in
    let test : i < length heads = c.loop-head-test.true in
    let head : CycleHead = get_or heads i record { index = 0; paths = record { 0 = 0 } } in
    let longer : take (i + 1) heads ≡ take i heads ++ head ∷ [] = rw add-one (take-suc heads i record { index = 0; paths = record { 0 = 0 } } test) in
    c.in_ok-push.ensures.items ∙ ap (λ xs. xs ++ head.index ∷ []) c.loop-head.invariant ∙ sym (ap indices longer ∙ indices-append (take i heads) (head ∷ []))
