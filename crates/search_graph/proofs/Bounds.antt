-- Bounds on started frames.
use Rattle.std.proofs.Common.{◌≡◌, ◌≤◌, ◌<◌, ◌+◌, ◌*◌, ℕ, suc, zero, refl, arith, inl, inr}
use Rattle.std.proofs.Math.Nat.{mul-le-mul_left, eq-or-lt_of_le}
use Rattle.search_graph.specs.Promised.FrameBound.{frame_bound}
use Rattle.search_graph.specs.Bound.{question_bound}

pub frame_bound_runs : (limit width depth : ℕ) → frame_bound limit width depth ≡ limit * (1 + width * question_bound limit width depth)
unfolding frame_bound question_bound
frame_bound_runs limit width zero = omega arith
frame_bound_runs limit width (suc depth) = refl

mul-le-mul_right : (c a b : ℕ) → a ≤ b → a * c ≤ b * c
mul-le-mul_right c a b h = let x = mul-le-mul_left c h in omega (arith, x)

times : (a b c : ℕ) → b ≤ c → a * b ≤ a * c
times a b c h = mul-le-mul_left a h

rises : (limit width depth : ℕ) → frame_bound limit width depth ≤ frame_bound limit width (suc depth)
unfolding frame_bound
rises limit width zero = omega (arith, times limit 1 (1 + width * limit) (omega arith))
rises limit width (suc depth) = times limit (1 + width * frame_bound limit width depth) (1 + width * frame_bound limit width (suc depth))
    (let h = times width (frame_bound limit width depth) (frame_bound limit width (suc depth)) (rises limit width depth) in omega arith)

pub frame_bound_mono : (limit width less more : ℕ) → less ≤ more → frame_bound limit width less ≤ frame_bound limit width more
frame_bound_mono limit width less zero h = let e : less ≡ 0 = omega arith in rw e (omega arith)
frame_bound_mono limit width less (suc more) h = elim (eq-or-lt_of_le h) [
  | inl e ↦ rw e (omega arith)
  | inr l ↦ (let p = frame_bound_mono limit width less more (omega arith) in omega (arith, rises limit width more))
]

-- a nested goal of this depth is within what a question may take
pub nested_within : (limit width nested depth : ℕ) → nested < depth → frame_bound limit width nested ≤ question_bound limit width depth
unfolding question_bound
nested_within limit width nested zero h = omega arith
nested_within limit width nested (suc depth) h = frame_bound_mono limit width nested depth (omega arith)

-- one more run
pub one_more_run : (first now then run x : ℕ) → now ≤ first + run * x → then ≤ now + x → then ≤ first + (run + 1) * x
one_more_run first now then run x h k = omega arith

-- runs within the limit
pub runs_within : (first now run limit x : ℕ) → run ≤ limit → now ≤ first + run * x → now ≤ first + limit * x
runs_within first now run limit x h k = let y = mul-le-mul_right x run limit h in omega arith

-- after a run in which this many questions were answered
pub done_within : (first now bound asked size width : ℕ) → now ≤ first + 1 + asked * bound → asked ≤ size → size ≤ width → now ≤ first + (1 + width * bound)
done_within first now bound asked size width h k l = let y = mul-le-mul_right bound asked width (omega arith) in omega arith

-- after one more question
pub asked_within : (first now then bound asked size width : ℕ) → now ≤ first + 1 + asked * bound → then ≤ now + bound → asked < size → size ≤ width → then ≤ first + (1 + width * bound)
asked_within first now then bound asked size width h k l j = let y = mul-le-mul_right bound (asked + 1) width (omega arith) in omega arith

pub asked_more : (first now then bound asked : ℕ) → now ≤ first + 1 + asked * bound → then ≤ now + bound → then ≤ first + 1 + (asked + 1) * bound
asked_more first now then bound asked h k = omega arith
