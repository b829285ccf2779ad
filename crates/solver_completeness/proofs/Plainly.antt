-- Plain recursion over the requests of a frame is a run of the frame.
use Rattle.std.proofs.Common.{◌≡◌, ℕ, List, [], ◌∷◌, length, refl, sym, ◌∙◌, ap, subst}
use Rattle.search_graph.specs.SearchPaths.declared.path_kind.PathKind.{PathKind}
use Rattle.search_graph.specs.declared.delegate.Request.{Request}
use Rattle.search_graph.specs.declared.delegate.Request.TheVariants.{Evaluate, EnterCandidate, FinishCandidate, IgnoreCandidate, Done}
use Rattle.search_graph.specs.declared.delegate.Reply.{Reply}
use Rattle.search_graph.specs.declared.delegate.Reply.TheVariants.{Begin, Result, Entered, Finished, Ignored}
use Rattle.search_graph.specs.Meaning.{Meaning, IsDueAt, IsInOrder, IsReplyTo, IsReplyBy, AreReplies, finished}
use Rattle.search_graph.specs.Plain.{Completes}
use Rattle.goal_evaluator.specs.Script.{Script, done, ask}
use Rattle.goal_evaluator.specs.Frame.{considers, answers}
use Rattle.goal_evaluator.specs.History.{Position, between, inside, request, told, position}
use Rattle.goal_frames.specs.Searches.{reply_of, replies_of, request_of}
use Rattle.solver_completeness.specs.Plays.{Ends, FrameEnds, CanEnd}
use Rattle.goal_evaluator.specs.Frame as Scripts
use Rattle.goal_evaluator.specs.History as Frames

told-begin : {Q A : Type 0} (p : Position Q A) → told Frames.begin p ≡ p
told-begin (between heard gone (considers s go)) = refl
told-begin (between heard gone (answers a [])) = refl
told-begin (between heard gone (answers a (n ∷ ns))) = refl
told-begin (inside heard replies (ask q k) go) = refl
told-begin (inside heard replies (done a) go) = refl

-- ---- a frame of which the search asks what the frame asks
module _ {C I R F : Type 0} (m : Meaning C I R F) (Q : Type 0) (goal : Q → m.Goal) (kind : Q → PathKind) (w : m.World) (g : m.Goal) (f : Scripts.Frame Q m.Answer)
    (same : (heard : List (Reply m.Answer)) → m.asks w g heard ≡ request_of goal kind (Frames.asks f (replies_of heard))) (P : m.Goal → m.Answer → Type 0) where
  abbrev By : Q → m.Answer → Type 0
  By q a = P (goal q) a

  -- how the frame ends from a place on
  abbrev pub PlaceEnds : Position Q m.Answer → m.Answer → Type 0
  PlaceEnds (between before gone x) a = FrameEnds By x a
  PlaceEnds (inside before replies s go) a = (b : m.Answer) × (n : ℕ) × Ends By s b × FrameEnds By (go b n) a

  abbrev asked : Position Q m.Answer → Request m.Goal m.Answer
  asked p = request_of goal kind (request p)

  at_end : (p : Position Q m.Answer) (a : m.Answer) → asked p ≡ Done a → PlaceEnds p a
  at_end (between before gone (considers s go)) a e = absurd (cc)
  at_end (between before gone (answers b [])) a e = cc
  at_end (between before gone (answers b (n ∷ ns))) a e = absurd (cc)
  at_end (inside before replies (ask q k) go) a e = absurd (cc)
  at_end (inside before replies (done b) go) a e = absurd (cc)

  -- a reply that is due leads on
  back : (heard : List (Reply m.Answer)) (a : m.Answer) (p : Position Q m.Answer) (reply : Reply m.Answer) → IsReplyTo m w g heard (asked p) reply → IsReplyBy m P (asked p) reply
      → PlaceEnds (told (reply_of reply) p) a → PlaceEnds p a
  back heard a (between before gone (considers s go)) Entered i b e = e
  back heard a (between before gone (considers s go)) Begin i b e = absurd i
  back heard a (between before gone (considers s go)) (Result c) i b e = absurd i
  back heard a (between before gone (considers s go)) (Finished n) i b e = absurd i
  back heard a (between before gone (considers s go)) Ignored i b e = absurd i
  back heard a (between before gone (answers c (n ∷ ns))) Ignored i b e = e
  back heard a (between before gone (answers c (n ∷ ns))) Begin i b e = absurd i
  back heard a (between before gone (answers c (n ∷ ns))) (Result d) i b e = absurd i
  back heard a (between before gone (answers c (n ∷ ns))) Entered i b e = absurd i
  back heard a (between before gone (answers c (n ∷ ns))) (Finished j) i b e = absurd i
  back heard a (between before gone (answers c [])) reply i b e = absurd (by reply i)
    where
      by : (reply : Reply m.Answer) → IsReplyTo m w g heard (Done c) reply → ⊥
      by Begin i = i
      by (Result d) i = i
      by Entered i = i
      by (Finished n) i = i
      by Ignored i = i
  back heard a (inside before replies (ask q k) go) (Result c) i b e = (e.0, e.1, (c, b, e.2), e.3)
  back heard a (inside before replies (ask q k) go) Begin i b e = absurd i
  back heard a (inside before replies (ask q k) go) Entered i b e = absurd i
  back heard a (inside before replies (ask q k) go) (Finished n) i b e = absurd i
  back heard a (inside before replies (ask q k) go) Ignored i b e = absurd i
  back heard a (inside before replies (done c) go) (Finished n) i b e = (c, n, refl, e)
  back heard a (inside before replies (done c) go) Begin i b e = absurd i
  back heard a (inside before replies (done c) go) (Result d) i b e = absurd i
  back heard a (inside before replies (done c) go) Entered i b e = absurd i
  back heard a (inside before replies (done c) go) Ignored i b e = absurd i

  completes_ends : (rest heard : List (Reply m.Answer)) (a : m.Answer) → Completes m w P g heard rest a → PlaceEnds (position f (replies_of heard)) a
  completes_ends [] heard a e = at_end (position f (replies_of heard)) a (sym (same heard) ∙ e)
  completes_ends (reply ∷ rest) heard a e =
      back heard a (position f (replies_of heard)) reply (subst (λ q. IsReplyTo m w g heard q reply) (same heard) e.0.1) (subst (λ q. IsReplyBy m P q reply) (same heard) e.1)
      (completes_ends rest (reply ∷ heard) a e.2)

  -- what completes the requests of the frame plays it
  pub plays : (rest : List (Reply m.Answer)) (a : m.Answer) → Completes m w P g (Begin ∷ []) rest a → FrameEnds By f a
  plays rest a e = subst (λ p. PlaceEnds p a) (told-begin (between [] [] f)) (completes_ends rest (Begin ∷ []) a e)

  -- ---- and a frame that can end is completed, where all requests are in order
  module _ (ordered : (heard : List (Reply m.Answer)) → AreReplies m P w g heard → IsInOrder m w g heard (m.asks w g heard)) where
    abbrev pub Completed : List (Reply m.Answer) → Type 0
    Completed heard = (rest : List (Reply m.Answer)) × (a : m.Answer) × Completes m w P g heard rest a

    abbrev Heard : List (Reply m.Answer) → Type 0
    Heard heard = AreReplies m P w g heard

    -- one more reply
    more : (last : Reply m.Answer) (heard : List (Reply m.Answer)) (p : Position Q m.Answer) (reply : Reply m.Answer) → position f (replies_of (last ∷ heard)) ≡ p → Heard (last ∷ heard)
        → IsReplyTo m w g (last ∷ heard) (asked p) reply → IsReplyBy m P (asked p) reply
        → ((position f (replies_of (reply ∷ last ∷ heard)) ≡ told (reply_of reply) p) → Heard (reply ∷ last ∷ heard) → Completed (reply ∷ last ∷ heard)) → Completed (last ∷ heard)
    more last heard p reply e h i b go =
        let is : m.asks w g (last ∷ heard) ≡ asked p = same (last ∷ heard) ∙ ap asked e in
        let due : IsDueAt m w g (last ∷ heard) (m.asks w g (last ∷ heard)) reply = (ordered (last ∷ heard) h, subst (λ q. IsReplyTo m w g (last ∷ heard) q reply) (sym is) i) in
        let by = subst (λ q. IsReplyBy m P q reply) (sym is) b in
        let x = go (ap (told (reply_of reply)) e) (due, by, h) in
        (reply ∷ x.0, x.1, (due, by, x.2))

    finishes : (last : Reply m.Answer) (heard : List (Reply m.Answer)) (p : Position Q m.Answer) (a : m.Answer) → position f (replies_of (last ∷ heard)) ≡ p → asked p ≡ Done a → Completed (last ∷ heard)
    finishes last heard p a e d = ([], a, same (last ∷ heard) ∙ ap asked e ∙ d)

    ignores : (ns : List ℕ) (a : m.Answer) (last : Reply m.Answer) (heard : List (Reply m.Answer)) (before : List (Scripts.Finished Q m.Answer)) (gone : List ℕ)
        → position f (replies_of (last ∷ heard)) ≡ between before gone (answers a ns) → Heard (last ∷ heard) → Completed (last ∷ heard)
    ignores [] a last heard before gone e h = finishes last heard (between before gone (answers a [])) a e refl
    ignores (n ∷ ns) a last heard before gone e h =
        more last heard (between before gone (answers a (n ∷ ns))) Ignored e h tt tt (λ q c. ignores ns a Ignored (last ∷ heard) before (n ∷ gone) q c)

    -- through a script, and on
    through : (s : Script Q m.Answer m.Answer) (b : m.Answer) → Ends By s b → (go : m.Answer → ℕ → Scripts.Frame Q m.Answer) (last : Reply m.Answer) (heard : List (Reply m.Answer))
        (before : List (Scripts.Finished Q m.Answer)) (replies : List (Q × m.Answer)) → position f (replies_of (last ∷ heard)) ≡ inside before replies s go → Heard (last ∷ heard)
        → ((n : ℕ) (now : Reply m.Answer) (then : List (Reply m.Answer)) (since : List (Scripts.Finished Q m.Answer)) → position f (replies_of (now ∷ then)) ≡ between since [] (go b n) → Heard (now ∷ then) → Completed (now ∷ then))
        → Completed (last ∷ heard)
    through (done c) b r go last heard before replies e h onward =
        let n = length (finished m w g (last ∷ heard)) in
        more last heard (inside before replies (done c) go) (Finished n) e h refl tt
        (λ q k. onward n (Finished n) (last ∷ heard) ((n, replies) ∷ before) (q ∙ ap (λ z. between ((n, replies) ∷ before) [] (go z n)) r) k)
    through (ask q k) b r go last heard before replies e h onward =
        more last heard (inside before replies (ask q k) go) (Result r.0) e h tt r.1
        (λ d c. through (k r.0) b r.2 go (Result r.0) (last ∷ heard) before ((q, r.0) ∷ replies) d c onward)

    -- through a frame
    over : (x : Scripts.Frame Q m.Answer) → CanEnd By x → (last : Reply m.Answer) (heard : List (Reply m.Answer)) (before : List (Scripts.Finished Q m.Answer)) (gone : List ℕ)
        → position f (replies_of (last ∷ heard)) ≡ between before gone x → Heard (last ∷ heard) → Completed (last ∷ heard)
    over (answers a ns) c last heard before gone e h = ignores ns a last heard before gone e h
    over (considers s go) c last heard before gone e h =
        more last heard (between before gone (considers s go)) Entered e h tt tt
        (λ d i. through s c.0 c.1 go Entered (last ∷ heard) before [] d i (λ n now then since q k. over (go c.0 n) (c.2 n) now then since [] q k))

    pub completes : CanEnd By f → Completed (Begin ∷ [])
    completes c = over f c Begin [] [] [] (told-begin (between [] [] f)) (refl, begin_by (m.asks w g []), tt)
      where
        begin_by : (q : Request m.Goal m.Answer) → IsReplyBy m P q Begin
        begin_by (Evaluate h k) = tt
        begin_by EnterCandidate = tt
        begin_by FinishCandidate = tt
        begin_by (IgnoreCandidate n) = tt
        begin_by (Done a) = tt
