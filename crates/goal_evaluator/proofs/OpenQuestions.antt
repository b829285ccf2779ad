-- The number of responses that a waiting candidate can still request.
use Rattle.std.proofs.Common.{◌≡◌, ℕ, zero, suc, ◌+◌, ◌*◌, ◌≤◌, ◌<◌, arith, Bool, true, false, List, [], ◌∷◌, ◌++◌, length, length-append, Result, Ok, Err, IfOk, refl, ◌∙◌, ap}
use Rattle.type_terms.specs.Promised.Handles.{Entry}
use Rattle.infer_table.specs.declared.goal.Goal.{Goal}
use Rattle.goal_evaluator.specs.declared.goal.GoalSource.{GoalSource}
use Rattle.goal_evaluator.specs.declared.resuming.CandidateStep.{CandidateStep}
use Rattle.goal_evaluator.specs.declared.resuming.CandidateStep.TheVariants.{Ready as IsReady, Ask}
use Rattle.goal_evaluator.specs.declared.resuming.OpenCandidate.{OpenCandidate}
use Rattle.goal_evaluator.specs.declared.resuming.OpenRound.{OpenRound}
use Rattle.goal_evaluator.specs.OpenCandidates.{most_questions, questions_left, CandidateIsOver, AsksAtMost}
use Rattle.goal_evaluator.specs.Trial.{premises_trees}

-- a round that ends begins the next one with the goals that stay
pub next-most : (m left : ℕ) → most_questions (suc m) left 0 ≡ most_questions m 0 left
next-most zero left = omega arith
next-most (suc m) left = let e = next-most m left in omega (arith, e)

-- one goal more that stays costs no more than one that is not asked any more
pub most-falls : (m left more goals : ℕ) → more ≤ left + 1 → most_questions m more goals < most_questions m left (suc goals)
most-falls zero left more goals le = omega arith
most-falls (suc m) left more goals le = let e = most-falls m left more goals le in omega (arith, e, le)

-- at the beginning
pub most-begins : (goals : ℕ) → most_questions 7 0 goals ≡ 8 * goals
most-begins goals = omega arith

pub asks-fewer : (m n : ℕ) → m ≤ n → (s : CandidateStep) → AsksAtMost m s → AsksAtMost n s
asks-fewer m n le (IsReady answer) a = tt
asks-fewer m n le (Ask waiting input source) a = omega (arith, le, a)

-- one that has answered asks none
pub over-most : (n : ℕ) (s : CandidateStep) → CandidateIsOver s → AsksAtMost n s
over-most n (IsReady answer) h = tt
over-most n (Ask waiting input source) h = absurd h

-- the goals that stay are one more at most
pub one-more-left : (o : OpenCandidate) (s : OpenRound) (d b : Bool) → d ≡ b → (d ≡ true → s ≡ o.round) → (d ≡ false → s.left.items ≡ o.round.left.items ++ o.goal ∷ [])
    → length s.left.items ≤ length o.round.left.items + 1
one-more-left o s d true y same more = let e = ap (λ (x : OpenRound). length x.left.items) (same y) in omega (arith, e)
one-more-left o s d false y same more =
    let e = ap (λ (x : List (GoalSource × Goal)). length x) (more y) ∙ length-append o.round.left.items (o.goal ∷ []) in omega (arith, e)

pub ok-more : {T E : Type 0} (P Q : T → Type 0) → ((x : T) → P x → Q x) → (r : Result T E) → IfOk r P → IfOk r Q
ok-more P Q f (Ok x) h = f x h
ok-more P Q f (Err e) h = tt

pub fewer-than : (m n left : ℕ) → m < left → n + 1 ≡ left → m ≤ n
fewer-than m n left l e = omega (arith, l, e)

-- one that waits has a question left
one-left : (m left goals : ℕ) → 0 < most_questions m left (suc goals)
one-left zero left goals = omega arith
one-left (suc m) left goals = omega arith

pub some-left : (o : OpenCandidate) → 0 < questions_left o
some-left o = one-left o.rounds_left (length o.round.left.items) (length o.goals.items)

-- each goal is one tree
pub premises-length : (es : List Entry) (ns : List (GoalSource × Goal)) → length (premises_trees es ns) ≡ length ns
premises-length es [] = refl
premises-length es (n ∷ ns) = ap suc (premises-length es ns)
