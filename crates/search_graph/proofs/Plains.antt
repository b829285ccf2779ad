-- Plain recursion, and runs that follow it.
use Rattle.std.proofs.Common.{◌≡◌, ℕ, suc, List, [], ◌∷◌, refl, sym, ◌∙◌, ap, subst, arith, length}
use Rattle.search_paths.specs.declared.path_kind.PathKind.{PathKind}
use Rattle.search_graph.specs.declared.delegate.Request.{Request}
use Rattle.search_graph.specs.declared.delegate.Request.TheVariants.{Evaluate, EnterCandidate, FinishCandidate, IgnoreCandidate, Done}
use Rattle.search_graph.specs.declared.delegate.Reply.{Reply}
use Rattle.search_graph.specs.declared.delegate.Reply.TheVariants.{Begin, Result, Entered, Finished, Ignored}
use Rattle.search_graph.specs.Meaning.{Meaning, IsReplyTo, finished}
use Rattle.search_graph.specs.Plain.{Completes, IsPlain, Descends, IsOnTrack}

module _ {C I R F : Type 0} (m : Meaning C I R F) (w : m.World) where
  pub Descends-trans : (limit : ℕ) (f g h : m.Goal) → Descends m w limit f g → Descends m w limit g h → Descends m w limit f h
  Descends-trans limit f g h d e n b within p =
      let x = d n b within p in
      let less = x.2 in
      let y = e x.0 x.1 (omega arith) x.3 in
      let lesser = y.2 in
      (y.0, y.1, omega arith, y.3)

  pub on_track_first : (n : ℕ) (g : m.Goal) (a : m.Answer) → IsPlain m w (suc n) g a → IsOnTrack m w n g (Begin ∷ []) a
  on_track_first n g a p = p

  -- what completes a frame that asks a question
  pub asked : (P : m.Goal → m.Answer → Type 0) (g q : m.Goal) (k : PathKind) (heard rest : List (Reply m.Answer)) (a : m.Answer)
      → m.asks w g heard ≡ Evaluate q k → Completes m w P g heard rest a → (b : m.Answer) × (more : List (Reply m.Answer)) × P q b × Completes m w P g (Result b ∷ heard) more a
  asked P g q k heard [] a is done = let clash : Done a ≡ Evaluate q k = sym done ∙ is in absurd cc
  asked P g q k heard (Result b ∷ rest) a is c = (b, rest, rw is at c.1, c.2)
  asked P g q k heard (Begin ∷ rest) a is c = absurd (rw is at c.0).1
  asked P g q k heard (Entered ∷ rest) a is c = absurd (rw is at c.0).1
  asked P g q k heard (Finished n ∷ rest) a is c = absurd (rw is at c.0).1
  asked P g q k heard (Ignored ∷ rest) a is c = absurd (rw is at c.0).1

  -- the reply to a request about a candidate is determined
  entered_only : (heard : List (Reply m.Answer)) (g : m.Goal) (x : Reply m.Answer) → IsReplyTo m w g heard EnterCandidate x → x ≡ Entered
  entered_only heard g Begin h = absurd h
  entered_only heard g (Result a) h = absurd h
  entered_only heard g Entered h = refl
  entered_only heard g (Finished n) h = absurd h
  entered_only heard g Ignored h = absurd h

  finished_only : (heard : List (Reply m.Answer)) (g : m.Goal) (x : Reply m.Answer) → IsReplyTo m w g heard FinishCandidate x → x ≡ Finished (length (finished m w g heard))
  finished_only heard g Begin h = absurd h
  finished_only heard g (Result a) h = absurd h
  finished_only heard g Entered h = absurd h
  finished_only heard g (Finished n) h = ap (λ z. Finished z) h
  finished_only heard g Ignored h = absurd h

  ignored_only : (heard : List (Reply m.Answer)) (g : m.Goal) (n : ℕ) (x : Reply m.Answer) → IsReplyTo m w g heard (IgnoreCandidate n) x → x ≡ Ignored
  ignored_only heard g n Begin h = absurd h
  ignored_only heard g n (Result a) h = absurd h
  ignored_only heard g n Entered h = absurd h
  ignored_only heard g n (Finished k) h = absurd h
  ignored_only heard g n Ignored h = refl

  -- what completes a frame that waits for this reply
  awaits : (P : m.Goal → m.Answer → Type 0) (g : m.Goal) (q : Request m.Goal m.Answer) (heard rest : List (Reply m.Answer)) (reply : Reply m.Answer) (a : m.Answer)
      → m.asks w g heard ≡ q → (q ≡ Done a → ⊥) → ((x : Reply m.Answer) → IsReplyTo m w g heard q x → x ≡ reply) → Completes m w P g heard rest a
      → (more : List (Reply m.Answer)) × Completes m w P g (reply ∷ heard) more a
  awaits P g q heard [] reply a is on only c = absurd (on (sym is ∙ c))
  awaits P g q heard (x ∷ rest) reply a is on only c = (rest, subst (λ z. Completes m w P g (z ∷ heard) rest a) (only x (rw is at c.0).1) c.2)

  candidate_next : (n : ℕ) (g : m.Goal) (a : m.Answer) (q : Request m.Goal m.Answer) (heard : List (Reply m.Answer)) (reply : Reply m.Answer) → m.asks w g heard ≡ q → (q ≡ Done a → ⊥)
      → ((x : Reply m.Answer) → IsReplyTo m w g heard q x → x ≡ reply) → IsOnTrack m w n g heard a → IsOnTrack m w n g (reply ∷ heard) a
  candidate_next n g a q heard reply is on only track = awaits (IsPlain m w n) g q heard track.0 reply a is on only track.1

  pub entered_next : (n : ℕ) (g : m.Goal) (a : m.Answer) (heard : List (Reply m.Answer)) → m.asks w g heard ≡ EnterCandidate → IsOnTrack m w n g heard a → IsOnTrack m w n g (Entered ∷ heard) a
  entered_next n g a heard is track = candidate_next n g a EnterCandidate heard Entered is (λ e. cc) (entered_only heard g) track

  pub finished_next : (n : ℕ) (g : m.Goal) (a : m.Answer) (heard : List (Reply m.Answer)) (number : ℕ) → number ≡ length (finished m w g heard) → m.asks w g heard ≡ FinishCandidate → IsOnTrack m w n g heard a → IsOnTrack m w n g (Finished number ∷ heard) a
  finished_next n g a heard number is asks track = rw is (candidate_next n g a FinishCandidate heard (Finished (length (finished m w g heard))) asks (λ e. cc) (finished_only heard g) track)

  pub ignored_next : (n : ℕ) (g : m.Goal) (a : m.Answer) (heard : List (Reply m.Answer)) (number : ℕ) → m.asks w g heard ≡ IgnoreCandidate number → IsOnTrack m w n g heard a → IsOnTrack m w n g (Ignored ∷ heard) a
  ignored_next n g a heard number is track = candidate_next n g a (IgnoreCandidate number) heard Ignored is (λ e. cc) (ignored_only heard g number) track

  no_reply_when_done : (heard : List (Reply m.Answer)) (g : m.Goal) (a : m.Answer) (x : Reply m.Answer) → IsReplyTo m w g heard (Done a) x → ⊥
  no_reply_when_done heard g a Begin h = h
  no_reply_when_done heard g a (Result b) h = h
  no_reply_when_done heard g a Entered h = h
  no_reply_when_done heard g a (Finished n) h = h
  no_reply_when_done heard g a Ignored h = h

  -- what completes a frame that is done
  done : (P : m.Goal → m.Answer → Type 0) (g : m.Goal) (heard rest : List (Reply m.Answer)) (a b : m.Answer)
      → m.asks w g heard ≡ Done a → Completes m w P g heard rest b → b ≡ a
  done P g heard [] a b is c = let e : Done b ≡ Done a = sym c ∙ is in cc
  done P g heard (x ∷ rest) a b is c = absurd (no_reply_when_done heard g a x (rw is at c.0).1)

  pub on_track_done : (n : ℕ) (g : m.Goal) (heard : List (Reply m.Answer)) (a b : m.Answer) → m.asks w g heard ≡ Done a → IsOnTrack m w n g heard b → b ≡ a
  on_track_done n g heard a b is track = done (IsPlain m w n) g heard track.0 a b is track.1
