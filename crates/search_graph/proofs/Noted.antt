-- Goals are recorded if they are listed as evaluated.
use Rattle.std.proofs.Common.{◌≡◌, ◌∙◌, ◌≤◌, ◌<◌, ◌+◌, ℕ, suc, zero, sym, ap, refl, subst, Bool, true, false, nat_eq, List, [], ◌∷◌, ◌++◌, length, get_or, slice_get, Some, All, ◌⊎◌, inl, inr, arith, IsSome}
use Rattle.std.proofs.Math.ListN.{set}
use Rattle.std.proofs.lemmas.Bool.{eqb-true, eq-eqb}
use Rattle.std.proofs.lemmas.List.{length-set}
use Rattle.std.proofs.lemmas.Option.{same_Some}
use Rattle.std.specs.Map.{lookup}
use Rattle.search_graph.specs.declared.cache.Asked.{Asked}
use Rattle.search_paths.specs.Nested.{IsWithin}
use Rattle.search_graph.specs.Chain.{IsAskedUnder, AreCovered, IsNotedBy, KeepsNoted, AreNoted}
use Rattle.search_graph.proofs.Chains.{push_cases, get_or_set}
use Rattle.search_graph.proofs.Ranges.{all_at, all_from, asked_within, used_older}
use Rattle.type_terms.proofs.BooleanBasics.{true-false as true_not_false}

noted_later_place : (first : List ℕ) (place later n : ℕ) → place ≤ later → IsNotedBy first place n → IsNotedBy first later n
noted_later_place first place later n h noted = (noted.0, omega (arith, h, noted.1))

-- what was asked under a place is noted by it
pub noted_under : (first : List ℕ) (es : List Asked) → AreCovered es → AreNoted first es → (place n : ℕ) → IsAskedUnder es place n → IsNotedBy first place n
noted_under first es covered noted place n (inl (e, at, (i, is))) = all_at (IsNotedBy first place) e.nested_goals.goals.items i n (noted place e at).1 is
noted_under first es covered noted place n (inr (below, d, under, there, how)) =
    let older = (used_older es covered place below under).0 in
    noted_later_place first below place n (omega (arith, older)) (by how)
  where
    by : (d.number ≡ n) ⊎ ((i : ℕ) × (slice_get d.nested_goals.goals.items i ≡ Some n)) → IsNotedBy first below n
    by (inl is) = subst (IsNotedBy first below) is (noted below d there).0
    by (inr (i, is)) = all_at (IsNotedBy first below) d.nested_goals.goals.items i n (noted below d there).1 is

-- where no goal of the stack in the range is noted by the place, none was asked under it
pub noted_clear : (first : List ℕ) (es : List Asked) → AreCovered es → AreNoted first es → (IsOnStack : ℕ → Type 0) (place : ℕ) (e : Asked) → slice_get es place ≡ Some e
    → ((n : ℕ) → IsOnStack n → IsWithin e.nested_goals.span n → IsNotedBy first place n → ⊥) → (n : ℕ) → IsAskedUnder es place n → IsOnStack n → ⊥
noted_clear first es covered noted IsOnStack place e at none n under on = none n on (asked_within es covered place e at n under) (noted_under first es covered noted place n under)

-- one more is listed
pub noted_push : (old first : List ℕ) (es : List Asked) (x : Asked) → AreNoted old es → KeepsNoted old first → IsNotedBy first (length es) x.number → All (IsNotedBy first (length es)) x.nested_goals.goals.items → AreNoted first (es ++ x ∷ [])
noted_push old first es x noted keeps own goals place e at = by (push_cases es x e place at)
  where
    by : ((place < length es) × (slice_get es place ≡ Some e)) ⊎ ((place ≡ length es) × (x ≡ e)) → IsNotedBy first place e.number × All (IsNotedBy first place) e.nested_goals.goals.items
    by (inl (within, was)) =
        let had = noted place e was in
        (keeps place e.number had.0, all_from (IsNotedBy first place) e.nested_goals.goals.items (λ i n is. keeps place n (all_at (IsNotedBy old place) e.nested_goals.goals.items i n had.1 is)))
    by (inr (end, is)) = rw (end, ← is) (own, goals)

-- more is noted
pub noted_keeps : (old first : List ℕ) (es : List Asked) → AreNoted old es → KeepsNoted old first → AreNoted first es
noted_keeps old first es noted keeps place e at =
    let had = noted place e at in
    (keeps place e.number had.0, all_from (IsNotedBy first place) e.nested_goals.goals.items (λ i n is. keeps place n (all_at (IsNotedBy old place) e.nested_goals.goals.items i n had.1 is)))

-- one more of the goals is noted
pub noted_next : (old first : List ℕ) (place : ℕ) (goals : List ℕ) (index goal : ℕ) → KeepsNoted old first → ((i n : ℕ) → i < index → slice_get goals i ≡ Some n → IsNotedBy old place n)
    → slice_get goals index ≡ Some goal → IsNotedBy first place goal → (i n : ℕ) → i < index + 1 → slice_get goals i ≡ Some n → IsNotedBy first place n
noted_next old first place goals index goal keeps before there now i n within at = by (nat_eq i index) refl
  where
    by : (b : Bool) → nat_eq i index ≡ b → IsNotedBy first place n
    by true is = subst (IsNotedBy first place) (same_Some goal n (sym there ∙ ap (slice_get goals) (sym (eqb-true i index is)) ∙ at)) now
    by false is =
        let other : i ≡ index → ⊥ = λ s. true_not_false (sym (eq-eqb i index s) ∙ is) in
        keeps place n (before i n (omega (arith, other, within)) at)

-- room for one more goal
pub noted_room : (first : List ℕ) (x : ℕ) → KeepsNoted first (first ++ x ∷ [])
noted_room first x place n (within, at) = by first n within at
  where
    by : (xs : List ℕ) (k : ℕ) → k < length xs → get_or xs k 0 ≤ place → IsNotedBy (xs ++ x ∷ []) place k
    by [] k h at = absurd (omega (arith, h))
    by (y ∷ xs) zero h at = (omega arith, at)
    by (y ∷ xs) (suc k) h at = let more = by xs k (omega (arith, h)) at in (omega (arith, more.0), more.1)

-- an older place for a goal
pub noted_set : (first : List ℕ) (number place : ℕ) → number < length first → place ≤ get_or first number 0 → KeepsNoted first (set first number place) × IsNotedBy (set first number place) place number
noted_set first number place within older = (
  (λ p n noted. by p n noted (nat_eq n number) refl),
  (rw (length-set first number place) within, rw (get_or_set first number number place 0 within, eq-eqb number number refl) (omega arith)),
)
  where
    by : (p n : ℕ) → IsNotedBy first p n → (b : Bool) → nat_eq n number ≡ b → IsNotedBy (set first number place) p n
    by p n noted true is =
        let same = eqb-true n number is in
        (rw (length-set first number place) noted.0, rw (get_or_set first number n place 0 within, is) (let h : get_or first number 0 ≤ p = subst (λ k. get_or first k 0 ≤ p) same noted.1 in omega (arith, h, older)))
    by p n noted false is = (rw (length-set first number place) noted.0, rw (get_or_set first number n place 0 within, is) noted.1)

-- a key of the map stands among its entries
pub key_at : {X : Type 0} (es : List (ℕ × X)) (n : ℕ) → IsSome (lookup (nat_eq n) es) → (i : ℕ) × (e : ℕ × X) × (slice_get es i ≡ Some e) × (n ≡ e.0) × (i < length es)
key_at [] n h = absurd (true_not_false (sym h))
key_at {X} (x ∷ es) n h = by (nat_eq n x.0) refl (key_at es n)
  where
    by : (b : Bool) → nat_eq n x.0 ≡ b → (IsSome (lookup (nat_eq n) es) → (i : ℕ) × (e : ℕ × X) × (slice_get es i ≡ Some e) × (n ≡ e.0) × (i < length es))
        → (i : ℕ) × (e : ℕ × X) × (slice_get (x ∷ es) i ≡ Some e) × (n ≡ e.0) × (i < length (x ∷ es))
    by true is rest = (0, x, refl, eqb-true n x.0 is, omega arith)
    by false is rest = let more = rest (rw is at h) in (suc more.0, more.1, more.2, more.3, (let inside = more.4 in omega (arith, inside)))
