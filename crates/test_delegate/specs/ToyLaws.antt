-- The toy delegate is lawful.
use Rattle.std.proofs.Common.{◌≡◌, ◌<◌, ◌≤◌, ◌+◌, ◌∙◌, inl, inr, ap, refl, arith, ℕ, Bool, true, false, cond, List, [], ◌∷◌, length, slice_get, Option, Some, None}
use Rattle.std.specs.Prelude.{◌==◌, nat_lt}
use borrow.Author.Tests.{eqb-true, ltb-true}
use Rattle.std.proofs.lemmas.Bool.{cases_lt}
use Rattle.search_graph.specs.SearchPaths.declared.path_kind.PathKind.{PathKind}
use Rattle.search_graph.specs.SearchPaths.declared.path_kind.PathKind.TheVariants.{Inductive, Unknown, Coinductive, ForcedAmbiguity}
use Rattle.search_graph.specs.declared.delegate.Request.{Request}
use Rattle.search_graph.specs.declared.delegate.Request.TheVariants.{Evaluate, EnterCandidate, FinishCandidate, IgnoreCandidate, Done}
use Rattle.search_graph.specs.declared.delegate.Reply.{Reply}
use Rattle.search_graph.specs.declared.delegate.Reply.TheVariants.{Begin, Result, Entered, Finished, Ignored}
use Rattle.test_delegate.specs.declared.ToyFrame.{ToyFrame}
use Rattle.test_delegate.specs.declared.Scripts.{Scripts}
use Rattle.test_delegate.specs.declared.Script.{Script}
use Rattle.search_graph.specs.Meaning.{IsFair, IsLawful, IsDue, IsDueAfter, IsReplyTo, Steps, IsRequest, request_of, reply_of, answer_count}
use Rattle.test_delegate.specs.Toy.{toy_asks, asks_next, step_at, request_at, unless_decided, decided, toy_initial, toy_meaning}

toy_initial_yes : (k : PathKind) → (toy_initial k == 2) ≡ true → k ≡ Coinductive
toy_initial_yes Inductive h = cc
toy_initial_yes Unknown h = cc
toy_initial_yes Coinductive h = refl
toy_initial_yes ForcedAmbiguity h = cc

toy_fair : (w : Scripts) (g a : ℕ) → IsFair toy_meaning w g a
toy_fair w g a = record { covers = tt; within = omega arith }

answers_among : (heard : List (Reply ℕ)) → answer_count toy_meaning heard ≤ length heard
answers_among [] = omega arith
answers_among (Begin ∷ heard) = omega (arith, answers_among heard)
answers_among (Result a ∷ heard) = omega (arith, answers_among heard)
answers_among (Entered ∷ heard) = omega (arith, answers_among heard)
answers_among (Finished n ∷ heard) = omega (arith, answers_among heard)
answers_among (Ignored ∷ heard) = omega (arith, answers_among heard)

cond_evaluates : (b : Bool) (q : Request ℕ ℕ) (g : ℕ) (k : PathKind) → cond b q (Done 1) ≡ Evaluate g k → b ≡ true
cond_evaluates true q g k e = refl
cond_evaluates false q g k e = cc

step_evaluates : (s : Script) (n g : ℕ) (k : PathKind) → step_at s n ≡ Evaluate g k → n < 64
step_evaluates s n g k e = ltb-true n 64 (cond_evaluates (nat_lt n 64) (request_at (slice_get s.steps.items n) s.otherwise) g k e)

undecided_evaluates : (d : Option ℕ) (q : Request ℕ ℕ) (g : ℕ) (k : PathKind) → unless_decided d q ≡ Evaluate g k → q ≡ Evaluate g k
undecided_evaluates None q g k e = e
undecided_evaluates (Some a) q g k e = cc

next_evaluates : (s : Option Script) (n : ℕ) (reply : Reply ℕ) (g : ℕ) (k : PathKind) → asks_next s n reply ≡ Evaluate g k → n < 64
next_evaluates None n reply g k e = cc
next_evaluates (Some s) n Begin g k e = step_evaluates s n g k e
next_evaluates (Some s) n (Result a) g k e = step_evaluates s n g k (undecided_evaluates (decided s.rule a) (step_at s n) g k e)
next_evaluates (Some s) n Entered g k e = step_evaluates s n g k e
next_evaluates (Some s) n (Finished j) g k e = step_evaluates s n g k e
next_evaluates (Some s) n Ignored g k e = step_evaluates s n g k e

toy_asks_fair : (w : Scripts) (g q : ℕ) (k : PathKind) (heard : List (Reply ℕ)) → toy_asks w g heard ≡ Evaluate q k → answer_count toy_meaning heard < 65
toy_asks_fair w g q k [] e = cc
toy_asks_fair w g q k (reply ∷ heard) e =
    let few = next_evaluates (slice_get w.goals.items g) (length heard) reply q k e in
    omega (arith, answers_among (reply ∷ heard))

pub toy_lawful : IsLawful toy_meaning
toy_lawful = record {
  sound = λ w g heard a replies e y. (heard, e ∙ ap (λ z. Done z) (eqb-true a 2 y));
  initial = λ w g k y. toy_initial_yes k y;
  stack_overflow = λ w g. refl;
  fixpoint_overflow = λ w g. refl;
  initial_fair = λ w g k. toy_fair w g (toy_initial k);
  stack_overflow_fair = λ w g. toy_fair w g 1;
  fixpoint_overflow_fair = λ w g. toy_fair w g 1;
  done_fair = λ w g heard a replies e. toy_fair w g a;
  asks_fair = λ w g q k heard replies e. (toy_asks_fair w g q k heard e, omega arith);
}

pub same_request : (c : Scripts) (q : Request ℕ ℕ) → request_of toy_meaning c q ≡ q
same_request c (Evaluate g k) = refl
same_request c EnterCandidate = refl
same_request c FinishCandidate = refl
same_request c (IgnoreCandidate n) = refl
same_request c (Done a) = refl

pub same_reply : (c : Scripts) (r : Reply ℕ) → reply_of toy_meaning c r ≡ r
same_reply c Begin = refl
same_reply c (Result a) = refl
same_reply c Entered = refl
same_reply c (Finished n) = refl
same_reply c Ignored = refl

known_request : (c : Scripts) (q : Request ℕ ℕ) → IsRequest toy_meaning c q
known_request c (Evaluate g k) = tt
known_request c EnterCandidate = tt
known_request c FinishCandidate = tt
known_request c (IgnoreCandidate n) = tt
known_request c (Done a) = tt

-- after 65 replies each frame ends
past_is_done : (b : Bool) (q : Request ℕ ℕ) → (b ≡ true → ⊥) → cond b q (Done 1) ≡ Done 1
past_is_done true q never = absurd (never refl)
past_is_done false q never = refl

step_is_done : (s : Script) (n : ℕ) → 64 ≤ n → step_at s n ≡ Done 1
step_is_done s n past = past_is_done (nat_lt n 64) (request_at (slice_get s.steps.items n) s.otherwise) (λ e. let less = ltb-true n 64 e in omega arith)

decided_is_done : (d : Option ℕ) (q : Request ℕ ℕ) → q ≡ Done 1 → (a : ℕ) × (unless_decided d q ≡ Done a)
decided_is_done None q e = (1, e)
decided_is_done (Some a) q e = (a, refl)

next_is_done : (s : Option Script) (n : ℕ) (reply : Reply ℕ) → 64 ≤ n → (a : ℕ) × (asks_next s n reply ≡ Done a)
next_is_done None n reply past = (0, refl)
next_is_done (Some s) n Begin past = (1, step_is_done s n past)
next_is_done (Some s) n (Result a) past = decided_is_done (decided s.rule a) (step_at s n) (step_is_done s n past)
next_is_done (Some s) n Entered past = (1, step_is_done s n past)
next_is_done (Some s) n (Finished j) past = (1, step_is_done s n past)
next_is_done (Some s) n Ignored past = (1, step_is_done s n past)

nothing_after_done : (w : Scripts) (g a : ℕ) (heard : List (Reply ℕ)) (reply : Reply ℕ) → IsReplyTo toy_meaning w g heard (Done a) reply → ⊥
nothing_after_done w g a heard Begin h = h
nothing_after_done w g a heard (Result b) h = h
nothing_after_done w g a heard Entered h = h
nothing_after_done w g a heard (Finished n) h = h
nothing_after_done w g a heard Ignored h = h

heard_few : (w : Scripts) (g : ℕ) (heard : List (Reply ℕ)) (reply : Reply ℕ) → IsDueAfter toy_meaning w g heard reply → length heard ≤ 64
heard_few w g [] reply due = omega arith
heard_few w g (last ∷ heard) reply due = elim (cases_lt (length heard) 64) [
  | inl few ↦ omega (arith, few)
  | inr past ↦ let done = next_is_done (slice_get w.goals.items g) (length heard) last past in absurd (nothing_after_done w g done.0 (last ∷ heard) reply (rw done.1 at due.1))
]

-- a frame that waits for a reply has steps left
pub has_steps_left : (c : Scripts) (f : ToyFrame) (reply : Reply ℕ) → IsDue toy_meaning c f reply → (1 ≤ f.left) × (f.heard ≤ 64)
has_steps_left c f reply due =
    let few = heard_few c due.0 due.1 (reply_of toy_meaning c reply) due.3 in
    let heard = due.2.1 in
    let left = due.2.2 in
    (omega arith, omega arith)

-- a frame that makes the request of its script takes a step
pub toy_steps : (c : Scripts) (f h : ToyFrame) (reply : Reply ℕ) (q : Request ℕ ℕ) → h.goal ≡ f.goal → h.heard ≡ f.heard + 1 → h.left + 1 ≡ f.left → q ≡ asks_next (slice_get c.goals.items f.goal) f.heard reply → Steps toy_meaning c f reply c h q
toy_steps c f h reply q goal count left is = (
  known_request c q,
  λ g heard had due. (
    (goal ∙ had.0, let n = had.1 in omega arith, let n = had.2 in omega arith),
    same_request c q ∙ is ∙ rw (had.0, had.1, same_reply c reply) refl,
  ),
)
