-- How many frames a goal starts at most.
use Rattle.std.specs.Prelude.{ℕ, ◌+◌, ◌*◌}
use Rattle.std.proofs.Common.{suc, zero}

-- The number of frames for a goal of this depth, if each goal has at most `limit` runs, and each run at most `width` nested goals.
-- For example, with 8 runs and 2 nested goals: 8 at depth 0, and 8 * (1 + 2 * 8) = 136 at depth 1
unfoldable pub frame_bound : ℕ → ℕ → ℕ → ℕ
frame_bound limit width zero = limit
frame_bound limit width (suc depth) = limit * (1 + width * frame_bound limit width depth)
