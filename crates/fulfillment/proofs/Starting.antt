-- The frames of evaluations, one after the other.
use Rattle.std.proofs.Common.{◌≤◌, ◌<◌, ◌+◌, ◌-◌, ◌*◌, ℕ, arith, List, mul-le-mul_left}
use Rattle.infer_table.specs.Canonical.{GoalTrees}
use Rattle.infer_table.specs.Unification.{TableTrees}
use Rattle.infer_table.specs.declared.certainty.TypingMode.{TypingMode}
use Rattle.goal_frames.specs.Meanings.{HandlerMeaning}
use Rattle.fulfillment.specs.Leaving.{GoalsLeave, EvaluationsStart, none, one_more}
use Rattle.fulfillment.proofs.Leaving.{leave-after}

-- ---- how many evaluations
-- those of a further round
pub one-round-more : (n a b : ℕ) → a + 1 ≤ b → n * a + n ≤ n * b
one-round-more n a b h = omega (arith, mul-le-mul_left n h)

pub fewer-rounds : (total now next : ℕ) → next < now → now ≤ total → (total - now) + 1 ≤ total - next
fewer-rounds total now next h k = omega (arith, h, k)

pub last-round : (total now : ℕ) → (total - now) + 1 ≤ total + 1
last-round total now = omega arith

-- ---- one after the other
module _ {Handler : Type 0} (handler : HandlerMeaning Handler) (mode : TypingMode) (w : handler.goals.World) (depth : ℕ) (gs : List GoalTrees) where
  abbrev Start : TableTrees → ℕ → ℕ → ℕ → Type 0
  Start t before n after = EvaluationsStart handler mode w depth gs t before n after

  -- more evaluations are allowed, and fewer frames are counted
  pub start-more : (t : TableTrees) (before m n after : ℕ) → m ≤ n → Start t before m after → Start t before n after
  start-more t before m n after le (none h) = none h
  start-more t before m n after le (one_more {m = k} s less u l g i h) = one_more s (omega (arith, less, le)) u l g i h

  start-fewer : (t : TableTrees) (before n after less : ℕ) → less ≤ after → Start t before n after → Start t before n less
  start-fewer t before n after less le (none h) = none (omega (arith, le, h))
  start-fewer t before n after less le (one_more {m = k} s lower u l g i h) = one_more s lower u l g i (omega (arith, le, h))

  pub start-further : (t u : TableTrees) → GoalsLeave handler mode w gs t u → (before m between n after k : ℕ) → Start t before m between → Start u between n after → m + n ≤ k → Start t before k after
  start-further t u covers before m between n after k a (none h) le = start-more t before m k after (omega (arith, le)) (start-fewer t before m between after h a)
  start-further t u covers before m between n after k a (one_more {m = j} {between = mid} s less v l g i h) le =
      one_more (start-further t u covers before m between j mid (m + j) a s (omega arith)) (omega (arith, less, le)) v (leave-after handler mode w gs t u v covers l) g i h
