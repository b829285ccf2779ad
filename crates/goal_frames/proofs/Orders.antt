-- The frames of lawful programs make their requests in order, and end.
use Rattle.std.proofs.Common.{◌≡◌, List, [], ◌∷◌, refl, sym, ap, subst, Option, arith}
use Rattle.search_graph.specs.declared.delegate.Request.{Request}
use Rattle.search_graph.specs.declared.delegate.Request.TheVariants.{Evaluate, EnterCandidate, FinishCandidate, IgnoreCandidate, Done}
use Rattle.search_graph.specs.declared.delegate.Reply.{Reply}
use Rattle.search_graph.specs.declared.delegate.Reply.TheVariants.{Begin, Result, Entered, Finished, Ignored}
use Rattle.search_graph.specs.Meaning.{Meaning, IsInOrder, IsReplyBy, AreReplies}
use Rattle.search_graph.specs.Computed.{Hears, nothing, also, given, computed, IsGiven, here, below}
use Rattle.goal_evaluator.specs.Table.{Tables}
use Rattle.goal_evaluator.specs.Handler.{Handled}
use Rattle.goal_evaluator.specs.Frame.{Frame}
use Rattle.goal_evaluator.specs.History as Frames
use Rattle.goal_evaluator.specs.History.{CameInOrder}
use Rattle.goal_evaluator.specs.Promises.{frame_of_goal, Anything}
use Rattle.goal_evaluator.proofs.Ends.{is_bounded, ignores_finished}
use Rattle.goal_frames.specs.Programs.{Programs, ArePrograms}
use Rattle.goal_frames.specs.Searches.{replies_of, request_of, Handles, kind_of, GoalInMode, goal_in, asks, meaning}
use Rattle.goal_frames.specs.Orders.{KeepOrder, End}
use Rattle.goal_frames.proofs.Histories.{came, in_order, long, told-begin}

module _ {C I R F : Type 0} (m : Meaning C I R F) where
  abbrev Whatever : m.Goal → m.Answer → Type 0
  Whatever q a = Unit {0}

  whatever : (q : Request m.Goal m.Answer) (reply : Reply m.Answer) → IsReplyBy m Whatever q reply
  whatever (Evaluate h k) Begin = tt
  whatever (Evaluate h k) (Result a) = tt
  whatever (Evaluate h k) Entered = tt
  whatever (Evaluate h k) (Finished n) = tt
  whatever (Evaluate h k) Ignored = tt
  whatever EnterCandidate reply = tt
  whatever FinishCandidate reply = tt
  whatever (IgnoreCandidate n) reply = tt
  whatever (Done a) reply = tt

  are_replies : (w : m.World) (Given : m.Goal → m.Answer → Type 0) {g : m.Goal} {heard : List (Reply m.Answer)} → Hears m w Given g heard → AreReplies m Whatever w g heard
  are_replies w Given nothing = tt
  are_replies w Given {g = g} (also {heard = heard} {reply = reply} h due none) = (due, whatever (m.asks w g heard) reply, are_replies w Given h)
  are_replies w Given {g = g} (given {heard = heard} {a = a} h e due x) = (due, whatever (m.asks w g heard) (Result a), are_replies w Given h)
  are_replies w Given {g = g} (computed {heard = heard} {a = a} h e due x f o) = (due, whatever (m.asks w g heard) (Result a), are_replies w Given h)

  -- before the first reply a request is in order where it is so after it
  before_begin : (w : m.World) (g : m.Goal) (q : Request m.Goal m.Answer) → IsInOrder m w g (Begin ∷ []) q → IsInOrder m w g [] q
  before_begin w g (Evaluate h k) i = i
  before_begin w g EnterCandidate i = i
  before_begin w g FinishCandidate i = i
  before_begin w g (IgnoreCandidate n) i = i
  before_begin w g (Done a) i = i

module _ {Question Response : Type 0} (t : Tables Question Response) (p : Programs t) (laws : ArePrograms t p)
    {C I R F : Type 0} (handles : Handles C I R F p.World (GoalInMode t p) (Option Response)) where
  abbrev m : Meaning C I R F
  m = meaning t p handles

  abbrev handled : p.World → GoalInMode t p → Handled t
  handled w g = p.handled w g.0 g.1

  abbrev frame : p.World → GoalInMode t p → Frame Question (Option Response)
  frame w g = frame_of_goal t (handled w g)

  abbrev Heard : p.World → GoalInMode t p → List (Reply (Option Response)) → Type 0
  Heard w g heard = AreReplies m (λ q a. Unit {0}) w g heard

  came_anyhow : (w : p.World) (g : GoalInMode t p) (last : Reply (Option Response)) (heard : List (Reply (Option Response))) → Heard w g (last ∷ heard)
      → CameInOrder (Anything t (handled w g)) (frame w g) (replies_of (last ∷ heard))
  came_anyhow w g last heard r =
      came m Question (goal_in t p g.0) (kind_of t) w g (frame w g) (λ h. refl) (λ q a. Unit {0}) (Anything t (handled w g)) (λ before q a c e fair. tt) last heard r

  ordered_after : (w : p.World) (g : GoalInMode t p) (last : Reply (Option Response)) (heard : List (Reply (Option Response))) → Heard w g (last ∷ heard)
      → IsInOrder m w g (last ∷ heard) (asks t p w g (last ∷ heard))
  ordered_after w g last heard r =
      in_order m Question (goal_in t p g.0) (kind_of t) w g (frame w g) (λ h. refl) (λ q a. Unit {0}) last heard r
      (λ n e. ignores_finished t (handled w g) (laws.handlers w g.0 g.1) (replies_of (last ∷ heard)) n (came_anyhow w g last heard r) e)

  begins : (w : p.World) (g : GoalInMode t p) → asks t p w g [] ≡ asks t p w g (Begin ∷ [])
  begins w g = ap (λ x. request_of (goal_in t p g.0) (kind_of t) (Frames.request x)) (sym (told-begin (Frames.between [] [] (frame w g))))

  ordered : (w : p.World) (g : GoalInMode t p) (heard : List (Reply (Option Response))) → Heard w g heard → IsInOrder m w g heard (asks t p w g heard)
  ordered w g [] r =
      before_begin m w g (asks t p w g [])
      (subst (IsInOrder m w g (Begin ∷ [])) (sym (begins w g)) (ordered_after w g Begin [] (refl, whatever m (asks t p w g []) Begin, tt)))
  ordered w g (last ∷ heard) r = ordered_after w g last heard r

  pub keeps_order : KeepOrder t p handles
  keeps_order w g (here {heard = heard} h n) = n (ordered w g heard (are_replies m w (IsGiven m w) h))
  keeps_order w g (below {q = q} h e x) = keeps_order w q x

  pub ends : End t p handles
  ends w g [] r = omega arith
  ends w g (last ∷ heard) r =
      let h = handled w g in
      let few = (is_bounded t h (laws.handlers w g.0 g.1)).replies (replies_of (last ∷ heard)) (came_anyhow w g last heard r) in
      let size = long m Question (goal_in t p g.0) (kind_of t) w g (frame w g) (λ h. refl) (λ q a. Unit {0}) last heard r in
      let a = few.0 in
      let b = few.1 in
      omega (arith, size, a, b)
