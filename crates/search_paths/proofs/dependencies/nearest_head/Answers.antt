use Rattle.std.proofs.Common.{◌≡◌, ◌+◌, ◌<◌, ◌⊎◌, inl, inr, ℕ, suc, zero, List, length, ◌∷◌, ◌++◌, [], take, get_or, max, refl, add-one, arith}
use Rattle.std.proofs.Math.Seq.{take-suc}
use Rattle.search_paths.specs.declared.dependencies.CycleHead.{CycleHead}
use Rattle.search_paths.specs.KeptPaths.{indices}
use Rattle.search_paths.specs.Heads.{RestsOn}
use Rattle.search_paths.proofs.HeadFacts.{below_head, all_below, rests_append}
use Rattle.search_paths.proofs.dependencies.nearest_head.Goals as goal

max_is : (a b : ℕ) → (max a b ≡ a) ⊎ (max a b ≡ b)
max_is zero b = inr (omega arith)
max_is (suc a) zero = inl (omega arith)
max_is (suc a) (suc b) = elim (max_is a b) [ inl e ↦ inl (omega (arith, e)) | inr e ↦ inr (omega (arith, e)) ]

head_in : (heads : List CycleHead) (i : ℕ) (d : CycleHead) → i < length heads → RestsOn heads (get_or heads i d).index
head_in [] i d h = absurd (omega (arith, h))
head_in (x ∷ heads) zero d h = inl refl
head_in (x ∷ heads) (suc i) d h = inr (head_in heads i d (omega (arith, h)))

pub loop-head-preserved : goal.loop-head-preserved
loop-head-preserved c =
    let inv = c.loop-head.invariant in
    let heads : List CycleHead = c.args.heads.now in
    let i : ℕ = c.loop-head.head-index in
    let test : i < length heads = c.loop-head-test.true in
    let head : CycleHead = get_or heads i record { index = 0; paths = record { 0 = 0 } } in
    let longer : take (i + 1) heads ≡ take i heads ++ head ∷ [] = rw add-one (take-suc heads i record { index = 0; paths = record { 0 = 0 } } test) in
    let is : c.max-nearest.result ≡ max c.loop-head.nearest head.index = c.max-nearest.ensures in
    record {
      among = elim (max_is c.loop-head.nearest head.index) [
        | inl e ↦ rw (is, e) inv.among
        | inr e ↦ rw (is, e) (head_in heads i record { index = 0; paths = record { 0 = 0 } } test)
      ];
      below = rw longer (all_below (c.max-nearest.result + 1) (indices (take i heads ++ head ∷ [])) (λ place h. elim ((rests_append (take i heads) (head ∷ []) place).0 h) [
        | inl old ↦ let low = below_head (c.loop-head.nearest + 1) place (indices (take i heads)) inv.below old in omega (arith, low, is)
        | inr new ↦ elim new [ inl e ↦ omega (arith, e, is) | inr none ↦ absurd none ]
      ]));
    }
