-- The depth that a goal needed.
use Rattle.std.proofs.Common.{◌≡◌, ◌+◌, ◌-◌, ◌^◌, ◌<◌, ◌≤◌, ℕ, Bool, true, false, cond, ◌||◌, max, min, sym, ◌∙◌, refl, arith}
use Rattle.search_graph.specs.Chain.{IsWithinDepth}

pub depth_below : (needed nested depth : ℕ) → needed ≤ nested → nested < depth → needed < depth
depth_below needed nested depth h k = omega (arith, h, k)

-- the depth that a goal needed once it has asked one more
pub depth_gathered : (before now after : Bool) (needed nested most depth : ℕ) → after ≡ (before || now) → most ≡ max needed (min (nested + 1) (2 ^ 64 - 1))
    → (before ≡ false → needed ≤ depth) → (now ≡ false → nested < depth) → after ≡ false → most ≤ depth
depth_gathered true now after needed nested most depth is most_is old new off = absurd (let e : true ≡ false = sym is ∙ off in cc)
depth_gathered false true after needed nested most depth is most_is old new off = absurd (let e : true ≡ false = sym is ∙ off in cc)
depth_gathered false false after needed nested most depth is most_is old new off = let h = old refl in let k = new refl in omega (arith, h, k, most_is)

-- the depth that is kept with a result
pub kept_within : (overflowed kept : Bool) (depth needed at : ℕ) → kept ≡ overflowed → at ≡ cond overflowed depth needed → (overflowed ≡ false → needed ≤ depth) → IsWithinDepth kept at depth
kept_within true kept depth needed at is here within = (λ on. here, λ off. absurd (let e : true ≡ false = sym is ∙ off in cc))
kept_within false kept depth needed at is here within = (λ on. absurd (let e : true ≡ false = sym on ∙ is in cc), λ off. let h = within refl in omega (arith, here, h))
