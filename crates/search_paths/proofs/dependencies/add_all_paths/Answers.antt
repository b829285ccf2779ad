use Rattle.std.proofs.Common.{◌≡◌, ◌+◌, ◌<◌, ℕ, List, length, ◌∷◌, ◌++◌, [], take, get_or, ap, sym, subst, refl, ◌∙◌, add-one, arith}
use Rattle.std.proofs.lemmas.List.{take_all}
use Rattle.std.proofs.Math.Seq.{take-suc}
use Rattle.std.specs.Int.Bits.{or_zero_r}
use Rattle.std.specs.Int.RustNames.{bit_or}
use Rattle.type_terms.proofs.InfoFacts.{or-assoc}
use Rattle.search_paths.specs.declared.dependencies.CycleHead.{CycleHead}
use Rattle.search_paths.specs.Heads.{IsHead, paths_to}
use Rattle.search_paths.proofs.HeadFacts.{paths_to-append}
use Rattle.search_paths.proofs.dependencies.add_all_paths.Goals as goal

pub loop-head-init : goal.loop-head-init
loop-head-init c = record { same = refl; counted = λ place there. sym (or_zero_r _) }

pub loop-head-preserved : goal.loop-head-preserved
loop-head-preserved c =
    let inv = c.loop-head.invariant in
    let more : List CycleHead = c.args.more.now in
    let i : ℕ = c.loop-head.head-index in
    let test : i < length more = c.loop-head-test.true in
    let head : CycleHead = get_or more i record { index = 0; paths = record { 0 = 0 } } in
    let longer : take (i + 1) more ≡ take i more ++ head ∷ [] = rw add-one (take-suc more i record { index = 0; paths = record { 0 = 0 } } test) in
    record {
      same = c.add_paths-start.ensures.same ∙ inv.same;
      counted = λ place there.
          c.add_paths-start.ensures.counted place (subst (IsHead place) (sym inv.same) there)
          ∙ ap (λ n. bit_or n (paths_to (head ∷ []) place)) (inv.counted place there)
          ∙ or-assoc (paths_to c.args.heads.now.items place) (paths_to (take i more) place) (paths_to (head ∷ []) place)
          ∙ ap (bit_or (paths_to c.args.heads.now.items place)) (sym (paths_to-append (take i more) (head ∷ []) place) ∙ ap (λ xs. paths_to xs place) (sym longer));
    }

pub returns-clause-counted : goal.returns-clause-counted
returns-clause-counted c = λ place there.
    let more : List CycleHead = c.args.more.now in
    let whole : take c.loop-head.head-index more ≡ more = take_all c.loop-head.head-index more (omega arith) in
    c.loop-head.invariant.counted place there ∙ ap (λ l. bit_or (paths_to c.args.heads.now.items place) (paths_to l place)) whole
