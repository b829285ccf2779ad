use Rattle.std.proofs.Common.{◌≡◌, ◌+◌, ◌<◌, ℕ, List, length, ◌∷◌, ◌++◌, [], take, get_or, ap, sym, subst, refl, ◌∙◌, add-one, arith}
use Rattle.std.proofs.lemmas.List.{take_all}
use Rattle.std.proofs.Math.Seq.{take-suc}
use Rattle.std.specs.Int.Bits.{or_zero_r}
use Rattle.std.specs.Int.RustNames.{bit_or}
use Rattle.type_terms.proofs.InfoFacts.{or-assoc}
use Rattle.search_paths.specs.declared.dependencies.CycleHead.{CycleHead}
use Rattle.search_paths.specs.Heads.{paths_to, AreHeadsOfBoth}
use Rattle.search_paths.proofs.HeadFacts.{paths_to-append, rests_none, rests_further}
use Rattle.search_paths.proofs.dependencies.merge_heads.Goals as goal

pub loop-head-init : goal.loop-head-init
loop-head-init c = record { unread = λ h. refl; united = λ place. sym (or_zero_r _); rests = rests_none _ }

pub loop-head-preserved : goal.loop-head-preserved
loop-head-preserved c =
    let inv = c.loop-head.invariant in
    let more : List CycleHead = c.args.more.now in
    let i : ℕ = c.loop-head.head-index in
    let test : i < length more = c.loop-head-test.true in
    record {
      unread = λ h. absurd (omega (arith, ap length h));
      rests =
          let head : CycleHead = get_or more i record { index = 0; paths = record { 0 = 0 } } in
          let longer : take (i + 1) more ≡ take i more ++ head ∷ [] = rw add-one (take-suc more i record { index = 0; paths = record { 0 = 0 } } test) in
          subst (λ l. AreHeadsOfBoth c.args.heads.now.items l c.add_head.new.heads.items) (sym longer)
          (rests_further c.args.heads.now.items (take i more) (head ∷ []) c.loop-head.heads.items c.add_head.new.heads.items inv.rests c.in_ok-start.ensures.rests);
      united = λ place.
          let head : CycleHead = get_or more i record { index = 0; paths = record { 0 = 0 } } in
          let longer : take (i + 1) more ≡ take i more ++ head ∷ [] = rw add-one (take-suc more i record { index = 0; paths = record { 0 = 0 } } test) in
          c.in_ok-start.ensures.united place
          ∙ ap (λ n. bit_or n (paths_to (head ∷ []) place)) (inv.united place)
          ∙ or-assoc (paths_to c.args.heads.now.items place) (paths_to (take i more) place) (paths_to (head ∷ []) place)
          ∙ ap (bit_or (paths_to c.args.heads.now.items place)) (sym (paths_to-append (take i more) (head ∷ []) place) ∙ ap (λ xs. paths_to xs place) (sym longer));
    }

pub returns-clause-rests : goal.returns-clause-rests
returns-clause-rests c =
    let more : List CycleHead = c.args.more.now in
    let whole : take c.loop-head.head-index more ≡ more = take_all c.loop-head.head-index more (omega arith) in
    subst (λ l. AreHeadsOfBoth c.args.heads.now.items l c.loop-head.heads.items) whole c.loop-head.invariant.rests
