use Rattle.std.proofs.Common.{◌≡◌, ◌+◌, ◌<◌, ◌++◌, ◌∷◌, [], ℕ, List, length, take, get_or, add-one, ap, sym, ◌∙◌}
use Rattle.std.proofs.lemmas.List.{append_assoc}
use Rattle.std.proofs.Math.Seq.{take-suc}
use Rattle.search_paths.specs.KeptPaths.{indices}
use Rattle.search_paths.specs.Heads.{paths_to}
use Rattle.search_paths.proofs.HeadFacts.{indices-append, paths_to-append, unread_adds}
use Rattle.search_paths.proofs.dependencies.rest_on.Goals as goal

pub loop-place-preserved : goal.loop-place-preserved
loop-place-preserved c =
    let places : List ℕ = c.args.places.now in
    let i : ℕ = c.loop-place.place-index in
    let test : i < length places = c.loop-place-test.true in
    let place : ℕ = get_or places i 0 in
    let longer : take (i + 1) places ≡ take i places ++ place ∷ [] = rw add-one (take-suc places i 0 test) in
    let first = indices c.args.heads.now.items in
    record {
      added = ap indices c.in_ok-push.ensures.items ∙ indices-append c.loop-place.heads.items _ ∙ ap (λ xs. xs ++ place ∷ []) c.loop-place.invariant.added
          ∙ append_assoc first (take i places) (place ∷ []) ∙ ap (λ xs. first ++ xs) (sym longer);
      unread = λ other. ap (λ hs. paths_to hs other) c.in_ok-push.ensures.items ∙ paths_to-append c.loop-place.heads.items _ other ∙ unread_adds _ (paths_to c.loop-place.heads.items other) other (c.empty.ensures tt) ∙ c.loop-place.invariant.unread other;
    }
