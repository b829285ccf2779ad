-- Goals that are noted as asked under others.
use Rattle.std.proofs.Common.{◌≡◌, ◌∙◌, ◌<◌, ℕ, sym, ap, refl, subst, Bool, true, false, nat_eq, cond, List, length, get_or, slice_get, Option, Some, None, inl, inr}
use Rattle.std.proofs.Math.ListN.{set}
use Rattle.std.proofs.lemmas.Bool.{eqb-true}
use Rattle.std.proofs.lemmas.Option.{same_Some, slice_get-get_or, slice_get_within}
use Rattle.search_graph.specs.declared.cache.Asked.{Asked}
use Rattle.search_graph.specs.Cache.{KeepsResults}
use Rattle.search_graph.specs.Chain.{IsUsedUnder, used, further, IsAskedUnder, AreBlockers}
use Rattle.search_graph.proofs.Chains.{get_or_set}

-- what was used under a goal still is where more is listed
used_keeps : (old new : List Asked) → KeepsResults old new → (place below : ℕ) → IsUsedUnder old place below → IsUsedUnder new place below
used_keeps old new keeps place _ (used i at is) = used i (keeps place _ at) is
used_keeps old new keeps place _ (further {above = above} i under at is) = further i (used_keeps old new keeps place above under) (keeps above _ at) is

asked_keeps : (old new : List Asked) → KeepsResults old new → (place n : ℕ) → IsAskedUnder old place n → IsAskedUnder new place n
asked_keeps old new keeps place n (inl (e, at, is)) = inl (e, keeps place e at, is)
asked_keeps old new keeps place n (inr (below, e, under, at, how)) = inr (below, e, used_keeps old new keeps place below under, keeps below e at, how)

pub blockers_keep : (blockers : List (Option ℕ)) (old new : List Asked) → KeepsResults old new → AreBlockers blockers old → AreBlockers blockers new
blockers_keep blockers old new keeps are place n at absent = are place n at (λ under. absent (asked_keeps old new keeps place n under))

-- the one that is noted for a place
pub blocker_at : (blockers : List (Option ℕ)) (place n : ℕ) → slice_get blockers place ≡ Some (Some n) → get_or blockers place None ≡ Some n
blocker_at blockers place n at = sym (same_Some (Some n) (get_or blockers place None) (sym at ∙ slice_get-get_or blockers place None (slice_get_within blockers place (Some n) at)))

-- one more is noted
pub blockers_noted : (old new : List (Option ℕ)) (asked : List Asked) (place n : ℕ) → AreBlockers old asked → ((other : ℕ) → get_or new other None ≡ get_or old other None)
    → place < length new → IsAskedUnder asked place n → AreBlockers (set new place (Some n)) asked
blockers_noted old new asked place n are same within under p m at absent = by (nat_eq p place) refl
  where
    by : (b : Bool) → nat_eq p place ≡ b → ⊥
    by true is =
        let noted : Some n ≡ Some m = ap (λ b. cond b (Some n) (get_or new p None)) (sym is) ∙ sym (get_or_set new place p (Some n) None within) ∙ at in
        absent (subst (λ k. IsAskedUnder asked k m) (sym (eqb-true p place is)) (subst (IsAskedUnder asked place) (same_Some n m noted) under))
    by false is = are p m (sym (same p) ∙ ap (λ b. cond b (Some n) (get_or new p None)) (sym is) ∙ sym (get_or_set new place p (Some n) None within) ∙ at) absent
