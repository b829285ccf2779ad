-- A delegate over scripts: the frame of the goal n makes the requests of the n-th script in order.
-- An answer is 0 for no, 1 for an overflow, 2 for yes and 3 for another ambiguity.
use Rattle.std.specs.Prelude.{◌≡◌, ◌==◌, ◌+◌, ℕ, cond, nat_lt, List, [], ◌∷◌, length, slice_get, Option, Some, None}
use Rattle.search_graph.specs.SearchPaths.declared.path_kind.PathKind.{PathKind}
use Rattle.search_graph.specs.SearchPaths.declared.path_kind.PathKind.TheVariants.{Inductive, Unknown, Coinductive, ForcedAmbiguity}
use Rattle.search_graph.specs.declared.delegate.Request.{Request}
use Rattle.search_graph.specs.declared.delegate.Request.TheVariants.{Evaluate, EnterCandidate, FinishCandidate, IgnoreCandidate, Done}
use Rattle.search_graph.specs.declared.delegate.Reply.{Reply}
use Rattle.search_graph.specs.declared.delegate.Reply.TheVariants.{Begin, Result, Entered, Finished, Ignored}
use Rattle.test_delegate.specs.declared.ToyFrame.{ToyFrame}
use Rattle.test_delegate.specs.declared.Step.{Step}
use Rattle.test_delegate.specs.declared.Step.TheVariants.{Ask, Enter, Finish, Ignore}
use Rattle.test_delegate.specs.declared.Rule.{Rule}
use Rattle.test_delegate.specs.declared.Rule.TheVariants.{All, Any, Map}
use Rattle.test_delegate.specs.declared.Script.{Script}
use Rattle.test_delegate.specs.declared.Scripts.{Scripts}
use Rattle.search_graph.specs.Meaning.{Meaning}

-- the result of a frame of this rule that gets this answer, if the frame ends with it
abbrev pub decided : Rule → ℕ → Option ℕ
decided All a = cond (a == 2) None (Some a)
decided Any a = cond (a == 2) (Some 2) None
decided (Map for_no for_overflow for_yes otherwise) a = Some (cond (a == 0) for_no (cond (a == 1) for_overflow (cond (a == 2) for_yes otherwise)))

-- the request of a step, or the result after the last one
abbrev pub request_at : Option Step → ℕ → Request ℕ ℕ
request_at None otherwise = Done otherwise
request_at (Some (Ask g k)) otherwise = Evaluate g k
request_at (Some Enter) otherwise = EnterCandidate
request_at (Some Finish) otherwise = FinishCandidate
request_at (Some (Ignore n)) otherwise = IgnoreCandidate n

-- at most this many steps of a script are read
abbrev pub step_at : Script → ℕ → Request ℕ ℕ
step_at s n = cond (nat_lt n 64) (request_at (slice_get s.steps.items n) s.otherwise) (Done 1)

abbrev pub unless_decided : Option ℕ → Request ℕ ℕ → Request ℕ ℕ
unless_decided None q = q
unless_decided (Some a) q = Done a

-- after n replies and this one
abbrev pub asks_next : Option Script → ℕ → Reply ℕ → Request ℕ ℕ
asks_next None n reply = Done 0
asks_next (Some s) n Begin = step_at s n
asks_next (Some s) n (Result a) = unless_decided (decided s.rule a) (step_at s n)
asks_next (Some s) n Entered = step_at s n
asks_next (Some s) n (Finished k) = step_at s n
asks_next (Some s) n Ignored = step_at s n

abbrev pub toy_asks : Scripts → ℕ → List (Reply ℕ) → Request ℕ ℕ
toy_asks w g [] = Done 0
toy_asks w g (reply ∷ heard) = asks_next (slice_get w.goals.items g) (length heard) reply

abbrev pub toy_initial : PathKind → ℕ
toy_initial Inductive = 0
toy_initial Unknown = 1
toy_initial Coinductive = 2
toy_initial ForcedAmbiguity = 1

-- a frame of the goal ends with a yes
abbrev pub EndsInYes : Scripts → ℕ → Type 0
EndsInYes w g = (heard : List (Reply ℕ)) × (toy_asks w g heard ≡ Done 2)

-- its rules are its frames
abbrev pub toy_meaning : Meaning Scripts ℕ ℕ ToyFrame
toy_meaning = record {
  World = Scripts;
  Goal = ℕ;
  Answer = ℕ;
  world = λ c. c;
  IsFull = λ c. ⊥;
  IsInput = λ c i. Unit {0};
  goal_of = λ c i. i;
  IsResult = λ c r. Unit {0};
  answer_of = λ c r. r;
  HasHeard = λ c g heard f. (f.goal ≡ g) × (f.heard ≡ length heard) × (f.left + f.heard ≡ 100);
  Held = ⊥;
  Holds = λ c x. ⊥;
  asks = toy_asks;
  is_yes = λ a. a == 2;
  is_ambiguous = λ a. a == 3;
  Follows = λ w g premises. EndsInYes w g;
  initial = λ w g k. toy_initial k;
  stack_overflow = λ w g. 1;
  fixpoint_overflow = λ w g. 1;
  Covers = λ w g a. Unit {0};
  number_of = λ w g. 65;
  number_in = λ w a. 0;
}
