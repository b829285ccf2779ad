use Rattle.std.proofs.Common.{◌≡◌, ◌+◌, ◌<◌, ℕ, List, length, ◌∷◌, ◌++◌, [], take, get_or, ap, sym, subst, refl, ◌∙◌, add-one, arith}
use Rattle.std.proofs.lemmas.List.{take_all}
use Rattle.std.proofs.Math.Seq.{take-suc}
use Rattle.std.specs.Global.{Vec}
use Rattle.std.specs.Int.Bits.{or_zero_r}
use Rattle.std.specs.Int.RustNames.{bit_or}
use Rattle.type_terms.proofs.InfoFacts.{or-assoc}
use Rattle.search_paths.specs.declared.dependencies.CycleHead.{CycleHead}
use Rattle.search_paths.specs.Heads.{IsHead}
use Rattle.search_paths.specs.Heads.{paths_to, paths_in}
use Rattle.search_paths.proofs.HeadFacts.{paths_in-append}
use Rattle.search_graph.proofs.reads.CandidateReads.count.Goals as goal

pub loop-read-init : goal.loop-read-init
loop-read-init c = record { same = refl; counted = λ place there. sym (or_zero_r _) }

pub loop-read-preserved : goal.loop-read-preserved
loop-read-preserved c =
    let inv = c.loop-read.invariant in
    let all : List (Vec CycleHead) = c.args.self.now.finished.items in
    let i : ℕ = c.loop-read.read-index in
    let read : Vec CycleHead = c.read-item.result in
    let test : i < length all = subst (λ (l : List (Vec CycleHead)). i < length l) c.deref-read-items.ensures.value c.loop-read-test.true in
    let is : read ≡ get_or all i read = c.read-item.is ∙ ap (λ l. get_or l i read) c.deref-read-items.ensures.value in
    let longer : take (i + 1) all ≡ take i all ++ read ∷ [] = rw add-one (take-suc all i read test) ∙ ap (λ r. take i all ++ r ∷ []) (sym is) in
    let first = paths_to c.args.heads.now.items in
    record {
      same = c.add_all_paths.ensures.same ∙ inv.same;
      counted = λ place there.
          c.add_all_paths.ensures.counted place (subst (IsHead place) (sym inv.same) there)
          ∙ ap (λ l. bit_or (paths_to c.loop-read.heads.items place) (paths_to l place)) c.deref.ensures.value
          ∙ ap (λ n. bit_or n (paths_to read.items place)) (inv.counted place there)
          ∙ or-assoc (first place) (paths_in (take i all) place) (paths_to read.items place)
          ∙ ap (bit_or (first place)) (sym (paths_in-append (take i all) read place) ∙ ap (λ l. paths_in l place) (sym longer));
    }

pub returns-clause-counted : goal.returns-clause-counted
returns-clause-counted c = λ place there.
    let all : List (Vec CycleHead) = c.args.self.now.finished.items in
    let whole : take c.loop-read.read-index all ≡ all = take_all c.loop-read.read-index all (omega arith) in
    c.loop-read.invariant.counted place there ∙ ap (λ l. bit_or (paths_to c.args.heads.now.items place) (paths_in l place)) whole
