-- What is due after a frame's request, by its candidates.
use Rattle.std.proofs.Common.{◌≡◌, Bool, true, false, List, [], ◌∷◌, ◌++◌, Some, length, ℕ, slice_get, slice_set, refl, sym, ◌∙◌, ap, subst}
use Rattle.search_graph.specs.declared.delegate.Request.{Request}
use Rattle.search_graph.specs.declared.delegate.Request.TheVariants.{Evaluate, EnterCandidate, FinishCandidate, IgnoreCandidate, Done}
use Rattle.search_graph.specs.declared.delegate.Reply.{Reply}
use Rattle.search_graph.specs.declared.delegate.Reply.TheVariants.{Entered, Finished, Ignored}
use Rattle.search_graph.specs.declared.candidates.Turn.{Turn}
use Rattle.search_graph.specs.declared.candidates.Turn.TheVariants.{Ask, Tell, End}
use Rattle.search_paths.specs.declared.path_kind.PathKind.{PathKind}
use Rattle.search_graph.specs.Meaning.{Meaning, IsFair, IsReply, IsReplyBy, IsDueAt, IsInOrder, has_open_candidate, finished, ignoring, answer_count, request_of, reply_of}
use Rattle.search_graph.specs.Computed.{HoldsNoResult}
use Rattle.search_graph.specs.Stack.{yes_questions}
use Rattle.search_graph.specs.Faithful.{IsOnPlainTrack}
use Rattle.search_graph.specs.Turn.{IsInTurn, IsTurn}
use Rattle.search_graph.proofs.Faithfuls.{plain_entered, plain_finished, plain_ignored}

module _ {I R : Type 0} (one_open now : Bool) (done later : List Bool) where
  -- a question
  pub asked_in_turn : (q : Request I R) (turn : Turn I R) (i : I) (k : PathKind) → turn ≡ Ask i k → IsTurn one_open done q turn now later → (q ≡ Evaluate i k) × (now ≡ one_open) × (later ≡ done)
  asked_in_turn (Evaluate j l) turn i k is h = (let e : ◌≡◌ {A = Turn I R} (Ask j l) (Ask i k) = sym h.0 ∙ is in cc, h.1, h.2)
  asked_in_turn EnterCandidate turn i k is h = absurd (let e : ◌≡◌ {A = Turn I R} (Tell Entered) (Ask i k) = sym h.0 ∙ is in cc)
  asked_in_turn FinishCandidate turn i k is h = absurd (let e : ◌≡◌ {A = Turn I R} (Tell (Finished (length done))) (Ask i k) = sym h.0 ∙ is in cc)
  asked_in_turn (IgnoreCandidate n) turn i k is h = absurd (let e : ◌≡◌ {A = Turn I R} (Tell Ignored) (Ask i k) = sym h.0 ∙ is in cc)
  asked_in_turn (Done r) turn i k is h = absurd (let e : ◌≡◌ {A = Turn I R} (End r) (Ask i k) = sym h.0 ∙ is in cc)

  -- a result
  pub ended_in_turn : (q : Request I R) (turn : Turn I R) (r : R) → turn ≡ End r → IsTurn one_open done q turn now later → (q ≡ Done r) × (one_open ≡ false)
  ended_in_turn (Evaluate j l) turn r is h = absurd (let e : ◌≡◌ {A = Turn I R} (Ask j l) (End r) = sym h.0 ∙ is in cc)
  ended_in_turn EnterCandidate turn r is h = absurd (let e : ◌≡◌ {A = Turn I R} (Tell Entered) (End r) = sym h.0 ∙ is in cc)
  ended_in_turn FinishCandidate turn r is h = absurd (let e : ◌≡◌ {A = Turn I R} (Tell (Finished (length done))) (End r) = sym h.0 ∙ is in cc)
  ended_in_turn (IgnoreCandidate n) turn r is h = absurd (let e : ◌≡◌ {A = Turn I R} (Tell Ignored) (End r) = sym h.0 ∙ is in cc)
  ended_in_turn (Done s) turn r is h = (let e : ◌≡◌ {A = Turn I R} (End s) (End r) = sym h.0 ∙ is in cc, h.1)

module _ {C I R F : Type 0} (m : Meaning C I R F) (w : m.World) (g : m.Goal) (heard : List (Reply m.Answer)) (c : C) (one_open now : Bool) (done later : List Bool) (opened : one_open ≡ has_open_candidate m heard) (listed : done ≡ finished m w g heard) where
  pub in_order_in_turn : (q : Request I R) → IsInOrder m w g heard (request_of m c q) → IsInTurn one_open done q
  in_order_in_turn (Evaluate i k) h = tt
  in_order_in_turn EnterCandidate h = opened ∙ h
  in_order_in_turn FinishCandidate h = opened ∙ h
  in_order_in_turn (IgnoreCandidate n) h = rw listed h
  in_order_in_turn (Done r) h = opened ∙ h

  -- the reply to a request on a candidate
  pub record IsToldAt (q : Request I R) (reply : Reply R) : Type 0 where
    pub due : IsDueAt m w g heard (request_of m c q) (reply_of m c reply)
    pub by : IsReplyBy m (IsFair m w) (request_of m c q) (reply_of m c reply)
    pub quiet : HoldsNoResult (reply_of m c reply)
    pub given : IsReply m c reply
    pub counts : answer_count m (reply_of m c reply ∷ heard) ≡ answer_count m heard
    pub shows : yes_questions m w g (reply_of m c reply ∷ heard) ≡ yes_questions m w g heard
    pub open_after : now ≡ has_open_candidate m (reply_of m c reply ∷ heard)
    pub done_after : later ≡ finished m w g (reply_of m c reply ∷ heard)

  pub told_in_turn : (q : Request I R) (turn : Turn I R) (reply : Reply R) → turn ≡ Tell reply → IsTurn one_open done q turn now later → request_of m c q ≡ m.asks w g heard → IsToldAt q reply
  told_in_turn (Evaluate j l) turn reply is h asks = absurd (let e : ◌≡◌ {A = Turn I R} (Ask j l) (Tell reply) = sym h.0 ∙ is in cc)
  told_in_turn EnterCandidate turn reply is h asks =
      let e : Entered ≡ reply = (let s : ◌≡◌ {A = Turn I R} (Tell Entered) (Tell reply) = sym h.0 ∙ is in cc) in
      subst (λ r. IsToldAt EnterCandidate r) e (record { due = (sym opened ∙ h.1, tt); by = tt; quiet = tt; given = tt; counts = refl; shows = refl; open_after = h.2; done_after = h.3 ∙ listed })
  told_in_turn FinishCandidate turn reply is h asks =
      let e : Finished (length done) ≡ reply = (let s : ◌≡◌ {A = Turn I R} (Tell (Finished (length done))) (Tell reply) = sym h.0 ∙ is in cc) in
      subst (λ r. IsToldAt FinishCandidate r) e
      (record { due = (sym opened ∙ h.1, ap length listed); by = tt; quiet = tt; given = tt; counts = refl; shows = refl; open_after = h.2; done_after = h.3 ∙ ap (λ z. z ++ false ∷ []) listed })
  told_in_turn (IgnoreCandidate n) turn reply is h asks =
      let e : Ignored ≡ reply = (let s : ◌≡◌ {A = Turn I R} (Tell Ignored) (Tell reply) = sym h.0 ∙ is in cc) in
      subst (λ r. IsToldAt (IgnoreCandidate n) r) e
      (record {
        due = (subst (λ z. slice_get z n ≡ Some false) listed h.1, tt);
        by = tt;
        quiet = tt;
        given = tt;
        counts = refl;
        shows = refl;
        open_after = h.2 ∙ opened;
        done_after = h.3 ∙ ap (λ z. slice_set z n true) listed ∙ ap (λ z. ignoring m z (finished m w g heard)) asks;
      })
  told_in_turn (Done s) turn reply is h asks = absurd (let e : ◌≡◌ {A = Turn I R} (End s) (Tell reply) = sym h.0 ∙ is in cc)

  pub plain_in_turn : (reach : ℕ) (steps : List (m.Goal × PathKind)) (overflowed : Bool) (heads : List ℕ) → IsOnPlainTrack m w reach steps g overflowed heads heard
      → (q : Request I R) (turn : Turn I R) (reply : Reply R) → turn ≡ Tell reply → IsTurn one_open done q turn now later → request_of m c q ≡ m.asks w g heard
      → IsOnPlainTrack m w reach steps g overflowed heads (reply_of m c reply ∷ heard)
  plain_in_turn reach steps overflowed heads track (Evaluate j l) turn reply is h asks = absurd (let e : ◌≡◌ {A = Turn I R} (Ask j l) (Tell reply) = sym h.0 ∙ is in cc)
  plain_in_turn reach steps overflowed heads track EnterCandidate turn reply is h asks =
      let e : Entered ≡ reply = (let s : ◌≡◌ {A = Turn I R} (Tell Entered) (Tell reply) = sym h.0 ∙ is in cc) in
      subst (λ r. IsOnPlainTrack m w reach steps g overflowed heads (reply_of m c r ∷ heard)) e (plain_entered m w reach steps g overflowed heads heard track (sym asks))
  plain_in_turn reach steps overflowed heads track FinishCandidate turn reply is h asks =
      let e : Finished (length done) ≡ reply = (let s : ◌≡◌ {A = Turn I R} (Tell (Finished (length done))) (Tell reply) = sym h.0 ∙ is in cc) in
      subst (λ r. IsOnPlainTrack m w reach steps g overflowed heads (reply_of m c r ∷ heard)) e (plain_finished m w reach steps g overflowed heads heard track (length done) (ap length listed) (sym asks))
  plain_in_turn reach steps overflowed heads track (IgnoreCandidate n) turn reply is h asks =
      let e : Ignored ≡ reply = (let s : ◌≡◌ {A = Turn I R} (Tell Ignored) (Tell reply) = sym h.0 ∙ is in cc) in
      subst (λ r. IsOnPlainTrack m w reach steps g overflowed heads (reply_of m c r ∷ heard)) e (plain_ignored m w reach steps g overflowed heads heard track n (sym asks))
  plain_in_turn reach steps overflowed heads track (Done s) turn reply is h asks = absurd (let e : ◌≡◌ {A = Turn I R} (End s) (Tell reply) = sym h.0 ∙ is in cc)
