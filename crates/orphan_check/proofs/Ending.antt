-- Ends of walks.
use Rattle.std.proofs.Common.{refl, true, false, Bool, ◌≡◌, sym, ap, subst, ◌∙◌, inl, inr, List, Option, Some, None, Ok, Err}
use Rattle.type_terms.specs.Promised.Trees.{Trees}
use Rattle.type_terms.specs.Promised.Handles.{Entry, trees_at}
use Rattle.type_terms.specs.declared.kinds.Ty.{Ty}
use Rattle.orphan_check.specs.declared.errors.OrphanCheckMode.{OrphanCheckMode}
use Rattle.orphan_check.specs.declared.errors.InCrate.{InCrate}
use Rattle.orphan_check.specs.declared.errors.InCrate.TheVariants.{Local}
use Rattle.orphan_check.specs.declared.errors.WalkError.{WalkError}
use Rattle.orphan_check.specs.declared.errors.WalkError.TheVariants.{Normalize, Deep, Memory}
use Rattle.orphan_check.specs.declared.walk.Met.{Met}
use Rattle.orphan_check.specs.declared.walk.Met.TheVariants.{Local as MetLocal}
use Rattle.orphan_check.specs.declared.walk.End.{End}
use Rattle.orphan_check.specs.declared.walk.End.TheVariants.{Uncovered as EndUncovered}
use Rattle.orphan_check.specs.Steps.{Step, met_local, met_open, first_end, second_end}
use Rattle.orphan_check.specs.Walks.{IsStep, IsFirstEnd, IsSecondEnd, IsDecisive, is_local}
use Rattle.orphan_check.specs.declared.decisive.Decisive.{Decisive}
use Rattle.orphan_check.specs.declared.decisive.Decisive.TheVariants.{Local as DecidesLocal, Uncovered as DecidesOpen}
use Rattle.std.specs.Option.{is_some}
use Rattle.orphan_check.specs.Answers.{IsOrphanAnswer, IsKnowableAnswer, Passes, IsDeep, IsUncovered, RanOut, IsBarred}

pub ended-local : {E : Type 0} (es : List Entry) (all before after : List (Step E)) (m : Option Met) (t : Ty) → m ≡ Some (MetLocal t) → first_end all ≡ first_end before → IsStep es before (Ok m) after
    → first_end all ≡ Some (met_local (trees_at es t.0))
ended-local es all before after m t is inv h = inv ∙ ap first_end (subst (λ z. IsStep es before (Ok z) after) is h)

-- an error that is no refusal ends a second walk
pub second-failed : {E : Type 0} (es : List Entry) (all before after : List (Step E)) (x : WalkError E) → ((e : E) → x ≡ Normalize e → ⊥) → second_end all ≡ second_end before → IsStep es before (Err x) after → IsSecondEnd es all (Err x)
second-failed es all before after (Normalize e) apart inv h = absurd (apart e refl)
second-failed es all before after Deep apart inv h = (h.0, h.1, inv ∙ ap second_end h.3)
second-failed es all before after Memory apart inv h = tt

-- a second walk gives no answer where it meets a type that lies too deep, or for want of memory
second-error : {E : Type 0} (es : List Entry) (k : InCrate) (mode : OrphanCheckMode) (ss : List (Step E)) (t : Trees) (x : WalkError E) → k ≡ Local mode → first_end ss ≡ Some (met_open t) → IsSecondEnd es ss (Err x)
    → IsOrphanAnswer es k ss (Err x)
second-error es k mode ss t (Normalize e) is f h = absurd h
second-error es k mode ss t Deep is f h = inr (t, subst (λ z. IsUncovered z (first_end ss) t) (sym is) f, subst IsDeep (sym h.2) tt)
second-error es k mode ss t Memory is f h = tt

pub second-refused : {E : Type 0} (es : List Entry) (k : InCrate) (mode : OrphanCheckMode) (ss : List (Step E)) (end : End) (t : Ty) (x : WalkError E) → k ≡ Local mode → end ≡ EndUncovered t → IsFirstEnd es ss (Ok end)
    → IsSecondEnd es ss (Err x) → IsOrphanAnswer es k ss (Err x)
second-refused es k mode ss end t x is e f h = second-error es k mode ss (trees_at es t.0) x is (subst (λ z. IsFirstEnd es ss (Ok z)) e f) h

-- ---- knowable
pub none-decides : {E : Type 0} (ss : List (Step E)) (x : Option Decisive) → is_some x ≡ false → IsDecisive ss (Ok x) → RanOut ss
none-decides ss None e h = h
none-decides ss (Some d) e h = cc

pub local-passes : {E : Type 0} (mode : OrphanCheckMode) (ss : List (Step E)) (x : Option Decisive) → is_local x ≡ true → IsDecisive ss (Ok x) → Passes (Local mode) (first_end ss)
local-passes mode ss (Some DecidesLocal) e h = subst (Passes (Local mode)) (sym h.1) tt
local-passes mode ss (Some DecidesOpen) e h = cc
local-passes mode ss None e h = cc

pub not-local : {E : Type 0} (ss : List (Step E)) (x : Option Decisive) → is_local x ≡ false → IsDecisive ss (Ok x) → IsBarred (first_end ss)
not-local ss (Some DecidesLocal) e h = cc
not-local ss (Some DecidesOpen) e h = subst IsBarred (sym h.1) tt
not-local ss None e h = subst IsBarred (sym h) tt

-- what ends the walk for the crate that asks with an error ends the whole with it
pub own-error : {E : Type 0} (k : InCrate) (own : Bool) (rs ls : List (Step E)) (x : WalkError E) → RanOut rs → own ≡ false → IsDecisive ls (Err x) → IsKnowableAnswer own rs ls k (Err x)
own-error k own rs ls (Normalize e) r o h = inr (r, o, h)
own-error k own rs ls Deep r o h = inr (r, o, inl (subst IsDeep (sym h.2) tt))
own-error k own rs ls Memory r o h = tt
