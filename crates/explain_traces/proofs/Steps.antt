-- Frames that are walked, step by step.
use Rattle.std.proofs.Common.{◌≡◌, ◌≤◌, true, false, [], ◌∷◌, length, refl, sym, ap, subst, ◌∙◌, Option}
use Rattle.search_graph.specs.declared.candidates.Candidates.{Candidates}
use Rattle.search_graph.specs.declared.delegate.Reply.{Reply}
use Rattle.search_graph.specs.declared.delegate.Reply.TheVariants.{Begin, Result, Entered, Finished}
use Rattle.search_graph.specs.declared.delegate.Request.{Request}
use Rattle.search_graph.specs.declared.delegate.Request.TheVariants.{Evaluate, EnterCandidate, FinishCandidate, IgnoreCandidate, Done}
use Rattle.search_graph.specs.SearchPaths.declared.path_kind.PathKind.{PathKind}
use Rattle.search_graph.specs.Meaning.{Meaning, KeepsContext, IsRequest, request_of, reply_of, has_open_candidate, finished, IsDueAt, Steps}
use Rattle.goal_frames.specs.Meanings.{HandlerMeaning}
use Rattle.goal_frames.specs.declared.frame.GoalFrame.{GoalFrame}
use Rattle.goal_frames.specs.declared.store.InputId.{InputId}
use Rattle.goal_frames.specs.declared.store.ResponseId.{ResponseId}
use Rattle.solver_graph.specs.Contexts.{Asked}
use Rattle.solver_graph.specs.Lawful.{steps-kept}
use Rattle.solver_graph.specs.Searching.{solver_meaning, FrameHasHeard, steps_left}
use Rattle.solver_graph.specs.declared.context.SolverCx.{SolverCx}
use Rattle.explain_traces.specs.Frames.{IsWalked}
use Rattle.explain_traces.specs.declared.frames.FrameWalk.{FrameWalk}

module _ {Handler : Type 0} (handler : HandlerMeaning Handler) where
  abbrev pub m : Meaning (SolverCx Handler) InputId (Option ResponseId) GoalFrame
  m = solver_meaning handler

  abbrev Asking : Type 0
  Asking = Request InputId (Option ResponseId)

  request-known : (c d : SolverCx Handler) → KeepsContext m c d → (q : Asking) → IsRequest m c q → IsRequest m d q
  request-known c d k (Evaluate i p) h = (k.inputs i h).0
  request-known c d k EnterCandidate h = tt
  request-known c d k FinishCandidate h = tt
  request-known c d k (IgnoreCandidate n) h = tt
  request-known c d k (Done r) h = (k.results r h).0

  request-same : (c d : SolverCx Handler) → KeepsContext m c d → (q : Asking) → IsRequest m c q → request_of m d q ≡ request_of m c q
  request-same c d k (Evaluate i p) h = ap (λ g. Evaluate g p) (k.inputs i h).1
  request-same c d k EnterCandidate h = refl
  request-same c d k FinishCandidate h = refl
  request-same c d k (IgnoreCandidate n) h = refl
  request-same c d k (Done r) h = ap (λ a. Done a) (k.results r h).1

  -- a context that has grown knows the frame
  pub walked-later : (c d : SolverCx Handler) → KeepsContext m c d → (w : FrameWalk) → IsWalked handler c w → IsWalked handler d w
  walked-later c d k w x = record {
    goal = x.goal;
    last = x.last;
    heard = x.heard;
    hears = k.frames x.goal (x.last ∷ x.heard) w.frame x.hears;
    known = request-known c d k w.request x.known;
    asks = request-same c d k w.request x.known ∙ x.asks ∙ ap (λ z. m.asks z x.goal (x.last ∷ x.heard)) (sym k.world);
    opened = x.opened;
    listed = x.listed ∙ ap (λ z. finished m z x.goal (x.last ∷ x.heard)) (sym k.world);
  }

  -- after it the frame is walked on
  pub stepped : (c d : SolverCx Handler) → KeepsContext m c d → (w : FrameWalk) (x : IsWalked handler c w) (reply : Reply (Option ResponseId)) (g : GoalFrame) (q : Asking) (cs : Candidates)
      → Steps m c w.frame reply d g q
      → IsDueAt m (m.world c) x.goal (x.last ∷ x.heard) (request_of m c w.request) (reply_of m c reply)
      → cs.open ≡ has_open_candidate m (reply_of m c reply ∷ x.last ∷ x.heard)
      → cs.finished.items ≡ finished m (m.world c) x.goal (reply_of m c reply ∷ x.last ∷ x.heard)
      → IsWalked handler d (record { frame = g; request = q; candidates = cs })
  stepped c d k w x reply g q cs s h o l =
      let there = s.1 x.goal (x.last ∷ x.heard) x.hears (subst (λ z. IsDueAt m (m.world c) x.goal (x.last ∷ x.heard) z (reply_of m c reply)) x.asks h) in
      record {
        goal = x.goal;
        last = reply_of m c reply;
        heard = x.last ∷ x.heard;
        hears = there.0;
        known = s.0;
        asks = there.1 ∙ ap (λ z. m.asks z x.goal (reply_of m c reply ∷ x.last ∷ x.heard)) (sym k.world);
        opened = o;
        listed = l ∙ ap (λ z. finished m z x.goal (reply_of m c reply ∷ x.last ∷ x.heard)) (sym k.world);
      }

  pub begun : (c d : SolverCx Handler) → KeepsContext m c d → (goal : Asked) (f g : GoalFrame) → FrameHasHeard handler c goal [] f → (q : Asking) (cs : Candidates) → Steps m c f Begin d g q
      → cs.open ≡ false → cs.finished.items ≡ [] → IsWalked handler d (record { frame = g; request = q; candidates = cs })
  begun c d k goal f g h q cs s o l =
      let there = s.1 goal [] h refl in
      record {
        goal = goal;
        last = Begin;
        heard = [];
        hears = there.0;
        known = s.0;
        asks = there.1 ∙ ap (λ z. m.asks z goal (Begin ∷ [])) (sym k.world);
        opened = o;
        listed = l;
      }

  -- what is due at each request
  pub hears-due : (c : SolverCx Handler) (w : FrameWalk) (x : IsWalked handler c w) (i : InputId) (p : PathKind) (a : Option ResponseId) → w.request ≡ Evaluate i p
      → IsDueAt m (m.world c) x.goal (x.last ∷ x.heard) (request_of m c w.request) (reply_of m c (Result a))
  hears-due c w x i p a e = subst (λ z. IsDueAt m (m.world c) x.goal (x.last ∷ x.heard) (request_of m c z) (reply_of m c (Result a))) (sym e) (tt, tt)

  pub enters-due : (c : SolverCx Handler) (w : FrameWalk) (x : IsWalked handler c w) → w.request ≡ EnterCandidate → w.candidates.open ≡ false
      → IsDueAt m (m.world c) x.goal (x.last ∷ x.heard) (request_of m c w.request) (reply_of m c Entered)
  enters-due c w x e o = subst (λ z. IsDueAt m (m.world c) x.goal (x.last ∷ x.heard) (request_of m c z) (reply_of m c Entered)) (sym e) (sym x.opened ∙ o, tt)

  pub finishes-due : (c : SolverCx Handler) (w : FrameWalk) (x : IsWalked handler c w) (n : _) → w.request ≡ FinishCandidate → w.candidates.open ≡ true → n ≡ length w.candidates.finished.items
      → IsDueAt m (m.world c) x.goal (x.last ∷ x.heard) (request_of m c w.request) (reply_of m c (Finished n))
  finishes-due c w x n e o l = subst (λ z. IsDueAt m (m.world c) x.goal (x.last ∷ x.heard) (request_of m c z) (reply_of m c (Finished n))) (sym e) (sym x.opened ∙ o, l ∙ ap length x.listed)

  -- a frame that is known later has no more steps left
  pub steps-later : (c d : SolverCx Handler) → KeepsContext m c d → (w : FrameWalk) → IsWalked handler c w → steps_left handler d w.frame ≤ steps_left handler c w.frame
  steps-later c d k w x = steps-kept handler c d x.goal (x.last ∷ x.heard) w.frame k x.hears
