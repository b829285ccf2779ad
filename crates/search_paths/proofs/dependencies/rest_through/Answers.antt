use Rattle.std.proofs.Common.{◌≡◌, ◌+◌, ◌<◌, ℕ, List, length, ◌∷◌, ◌++◌, [], take, get_or, refl, sym, subst, add-one, arith}
use Rattle.std.proofs.lemmas.List.{take_all}
use Rattle.std.proofs.Math.Seq.{take-suc}
use Rattle.search_paths.specs.declared.dependencies.CycleHead.{CycleHead}
use Rattle.search_paths.specs.Heads.{AreHeadsOfBoth, AreReadThrough}
use Rattle.search_paths.proofs.HeadFacts.{rests_none, rests_further}
use Rattle.search_paths.proofs.ReadHeads.{through_none, through_further}
use Rattle.search_paths.proofs.dependencies.rest_through.Goals as goal

pub loop-head-init : goal.loop-head-init
loop-head-init c = record { rests = rests_none _; read = through_none c.args.paths.0 c.args.heads.now.items }

pub loop-head-preserved : goal.loop-head-preserved
loop-head-preserved c =
    let more : List CycleHead = c.args.more.now in
    let i : ℕ = c.loop-head.head-index in
    let test : i < length more = c.loop-head-test.true in
    let head : CycleHead = get_or more i record { index = 0; paths = record { 0 = 0 } } in
    let longer : take (i + 1) more ≡ take i more ++ head ∷ [] = rw add-one (take-suc more i record { index = 0; paths = record { 0 = 0 } } test) in
    record {
      rests =
          subst (λ l. AreHeadsOfBoth c.args.heads.now.items l c.add_head.new.heads.items) (sym longer)
          (rests_further c.args.heads.now.items (take i more) (head ∷ []) c.loop-head.heads.items c.add_head.new.heads.items c.loop-head.invariant.rests c.in_ok-start.ensures.rests);
      read =
          subst (λ l. AreReadThrough c.args.paths.0 c.args.heads.now.items l c.add_head.new.heads.items) (sym longer)
          (through_further c.args.paths.0 c.args.heads.now.items (take i more) c.loop-head.heads.items c.add_head.new.heads.items head _ c.loop-head.invariant.read c.in_ok-start.ensures.united refl c.extend_with_each.ensures);
    }

pub returns-clause-read : goal.returns-clause-read
returns-clause-read c =
    let more : List CycleHead = c.args.more.now in
    let whole : take c.loop-head.head-index more ≡ more = take_all c.loop-head.head-index more (omega arith) in
    subst (λ l. AreReadThrough c.args.paths.0 c.args.heads.now.items l c.loop-head.heads.items) whole c.loop-head.invariant.read

pub returns-clause-rests : goal.returns-clause-rests
returns-clause-rests c =
    let more : List CycleHead = c.args.more.now in
    let whole : take c.loop-head.head-index more ≡ more = take_all c.loop-head.head-index more (omega arith) in
    subst (λ l. AreHeadsOfBoth c.args.heads.now.items l c.loop-head.heads.items) whole c.loop-head.invariant.rests
