-- Corresponding workings have corresponding rounds, candidates and frames.
use Rattle.std.proofs.Common.{◌≡◌, ℕ, zero, suc, Bool, true, false, ◌||◌, List, [], ◌∷◌, refl, ◌∙◌, ap, subst, Option, Some, None}
use Rattle.infer_table.specs.declared.certainty.Certainty.{Certainty}
use Rattle.infer_table.specs.declared.certainty.Certainty.TheVariants.{Maybe}
use Rattle.infer_table.specs.declared.certainty.MaybeCause.TheVariants.{Ambiguity}
use Rattle.infer_table.specs.Certainties.{joined, unsettled}
use Rattle.goal_evaluator.specs.Lists.{IsNoneOf, Pairwise, OnBoth}
use Rattle.goal_evaluator.specs.Script.{Script, done, ask, followed}
use Rattle.goal_evaluator.specs.Frame.{Frame, considers, answers, Finished, numbers}
use Rattle.goal_evaluator.specs.Operations.{Operations, Workings, is_yes}
use Rattle.goal_evaluator.specs.Replays.{run}
use Rattle.goal_evaluator.specs.Rounds.{Round, Rounds, kept, judged, applied, replied, round, settled, next_round, rounds}
use Rattle.goal_evaluator.specs.Candidate.{Spec, Considered, Next, consider, answer, used_numbers, IsHistory, answered, equated, candidate, goes_on, frame}
use Rattle.goal_evaluator.specs.History.{Reply, begin, entered, ignored, evaluated, finished, Position, between, inside, request, told, position, asks, IsAwaitedReply, CameInOrder}
use Rattle.goal_evaluator.specs.Correspondences.{Correspondence, IsCorrespondence, AnswersCorrespond, AreAnswers, RepliesCorrespond, Runs, RoundEndsTogether, RoundsEndTogether, RoundsCorrespond, CandidateCorrespondence, IsCandidateCorrespondence, Results, Specs, CandidatesCorrespond, BothConsidered, BothNext, Handlers, Replies, Requests, FramesCorrespond}
use Rattle.goal_evaluator.proofs.Histories.{step, holds}

abbrev first_or : ℕ → List ℕ → ℕ
first_or m [] = m
first_or m (n ∷ ns) = n

abbrev rest_of : List ℕ → List ℕ
rest_of [] = []
rest_of (n ∷ ns) = ns

module _ {Question Response OtherQuestion OtherResponse : Type 0} (one : Operations Question Response) (other : Operations OtherQuestion OtherResponse) (c : Correspondence one other) where
  abbrev Answer : Question → Option Response → Option OtherResponse → Type 0
  Answer q a b = AnswersCorrespond one other c q a b

  -- the scripts ask corresponding questions while the answers correspond, and end with what R holds of
  abbrev pub Alike : {X Y : Type 0} → (X → Y → Type 0) → Script Question (Option Response) X → Script OtherQuestion (Option OtherResponse) Y → Type 0
  Alike R (done x) (done y) = R x y
  Alike R (ask p j) (ask q k) = c.Questions p q × ((a : Option Response) (b : Option OtherResponse) → Answer p a b → Alike R (j a) (k b))
  Alike R (done x) (ask q k) = ⊥
  Alike R (ask p j) (done y) = ⊥

  -- the rule of composition
  pub alike_followed : {X Y V W : Type 0} (R : X → Y → Type 0) (S : V → W → Type 0)
      (f : X → Script Question (Option Response) V) (g : Y → Script OtherQuestion (Option OtherResponse) W) → ((x : X) (y : Y) → R x y → Alike S (f x) (g y))
      → (s : Script Question (Option Response) X) (t : Script OtherQuestion (Option OtherResponse) Y) → Alike R s t → Alike S (followed f s) (followed g t)
  alike_followed R S f g on (done x) (done y) h = on x y h
  alike_followed R S f g on (ask p j) (ask q k) h = (h.0, λ a b r. alike_followed R S f g on (j a) (k b) (h.1 a b r))
  alike_followed R S f g on (done x) (ask q k) h = absurd h
  alike_followed R S f g on (ask p j) (done y) h = absurd h

  -- their runs over corresponding answers correspond
  pub alike_runs : {X Y : Type 0} (R : X → Y → Type 0) (s : Script Question (Option Response) X) (t : Script OtherQuestion (Option OtherResponse) Y) → Alike R s t
      → (replies : List (Option Response)) (others : List (Option OtherResponse)) → AreAnswers one other c s replies others → Runs one other c R (run s replies) (run t others)
  alike_runs R (done x) (done y) h replies others p = h
  alike_runs R (ask p j) (ask q k) h [] [] e = h.0
  alike_runs R (ask p j) (ask q k) h (a ∷ replies) (b ∷ others) e = alike_runs R (j a) (k b) (h.1 a b e.0) replies others e.1
  alike_runs R (ask p j) (ask q k) h [] (b ∷ others) e = absurd e
  alike_runs R (ask p j) (ask q k) h (a ∷ replies) [] e = absurd e
  alike_runs R (done x) (ask q k) h replies others e = absurd h
  alike_runs R (ask p j) (done y) h replies others e = absurd h

  module _ (laws : IsCorrespondence one other c) where
    same_yes : (q : Question) (r : Response) (s : OtherResponse) → c.Responses q r s → is_yes one r ≡ is_yes other s
    same_yes q r s h = let e = laws.certainty q r s h in let f = laws.has_values q r s h in rw (e, f) refl

    -- ---- a round
    abbrev RoundAlike : List one.Nested → List other.Nested → Type 0
    RoundAlike ns ms =
        (T : one.Table) (U : other.Table) → c.Tables T U → Alike (OnBoth (RoundEndsTogether one other c)) (round one ns T) (round other ms U)

    kept_alike : (q : Question) (n : one.Nested) (m : other.Nested) (r : Response) (s : OtherResponse) → c.Goals n m → c.Responses q r s
        → (x : Option (Round one)) (y : Option (Round other)) → OnBoth (RoundEndsTogether one other c) x y
        → Alike (OnBoth (RoundEndsTogether one other c)) (kept one n r x) (kept other m s y)
    kept_alike q n m r s g h None None e = tt
    kept_alike q n m r s g h (Some x) (Some y) e = record {
      table = e.table;
      left = (g, e.left);
      changed = ap (λ b. b || x.changed) (laws.has_values q r s h) ∙ ap (λ b. other.has_values s || b) e.changed;
      certainty = ap (λ d. joined d x.certainty) (laws.certainty q r s h) ∙ ap (λ d. joined (other.certainty s) d) e.certainty;
    }
    kept_alike q n m r s g h None (Some y) e = absurd e
    kept_alike q n m r s g h (Some x) None e = absurd e

    judged_alike : (q : Question) (n : one.Nested) (m : other.Nested) (ns : List one.Nested) (ms : List other.Nested) (r : Response) (s : OtherResponse)
        → c.Goals n m → c.Responses q r s → RoundAlike ns ms → (T : one.Table) (U : other.Table) → c.Tables T U → (b d : Bool) → b ≡ d
        → Alike (OnBoth (RoundEndsTogether one other c)) (judged one (round one ns) n r T b) (judged other (round other ms) m s U d)
    judged_alike q n m ns ms r s g h rest T U t true true e = rest T U t
    judged_alike q n m ns ms r s g h rest T U t false false e =
        alike_followed (OnBoth (RoundEndsTogether one other c)) (OnBoth (RoundEndsTogether one other c)) (kept one n r) (kept other m s) (λ x y k. kept_alike q n m r s g h x y k)
        (round one ns T) (round other ms U) (rest T U t)
    judged_alike q n m ns ms r s g h rest T U t true false e = absurd (cc)
    judged_alike q n m ns ms r s g h rest T U t false true e = absurd (cc)

    applied_alike : (q : Question) (n : one.Nested) (m : other.Nested) (ns : List one.Nested) (ms : List other.Nested) (r : Response) (s : OtherResponse)
        → c.Goals n m → c.Responses q r s → RoundAlike ns ms → (o : Option one.Table) (p : Option other.Table) → OnBoth c.Tables o p
        → Alike (OnBoth (RoundEndsTogether one other c)) (applied one (round one ns) n r o) (applied other (round other ms) m s p)
    applied_alike q n m ns ms r s g h rest None None t = tt
    applied_alike q n m ns ms r s g h rest (Some T) (Some U) t = judged_alike q n m ns ms r s g h rest T U t (is_yes one r) (is_yes other s) (same_yes q r s h)
    applied_alike q n m ns ms r s g h rest None (Some U) t = absurd t
    applied_alike q n m ns ms r s g h rest (Some T) None t = absurd t

    replied_alike : (n : one.Nested) (m : other.Nested) (ns : List one.Nested) (ms : List other.Nested) → c.Goals n m → RoundAlike ns ms
        → (T : one.Table) (U : other.Table) → c.Tables T U → (a : Option Response) (b : Option OtherResponse) → Answer (one.question T n) a b
        → Alike (OnBoth (RoundEndsTogether one other c)) (replied one (round one ns) T n a) (replied other (round other ms) U m b)
    replied_alike n m ns ms g rest T U t None None h = tt
    replied_alike n m ns ms g rest T U t (Some r) (Some s) h =
        applied_alike (one.question T n) n m ns ms r s g h rest (one.apply T n r) (other.apply U m s) (laws.apply T U n m r s t g h)
    replied_alike n m ns ms g rest T U t None (Some s) h = absurd h
    replied_alike n m ns ms g rest T U t (Some r) None h = absurd h

    pub round_alike : (ns : List one.Nested) (ms : List other.Nested) → Pairwise c.Goals ns ms → RoundAlike ns ms
    round_alike [] [] g T U t = record { table = t; left = tt; changed = refl; certainty = refl }
    round_alike (n ∷ ns) (m ∷ ms) g T U t = (laws.question T U n m t g.0, λ a b h. replied_alike n m ns ms g.0 (λ V W v. round_alike ns ms g.1 V W v) T U t a b h)
    round_alike [] (m ∷ ms) g T U t = absurd g
    round_alike (n ∷ ns) [] g T U t = absurd g

    -- ---- the rounds
    abbrev RoundsAlike : ℕ → Type 0
    RoundsAlike limit =
        (ns : List one.Nested) (ms : List other.Nested) → Pairwise c.Goals ns ms → (T : one.Table) (U : other.Table) → c.Tables T U
        → Alike (OnBoth (RoundsEndTogether one other c)) (rounds one limit ns T) (rounds other limit ms U)

    settled_alike : (limit : ℕ) → RoundsAlike limit → (ns : List one.Nested) (ms : List other.Nested) → Pairwise c.Goals ns ms
        → (T : one.Table) (U : other.Table) → c.Tables T U → (x y : Certainty) → x ≡ y → (b d : Bool) → b ≡ d
        → Alike (OnBoth (RoundsEndTogether one other c)) (settled one (rounds one limit) ns T x b) (settled other (rounds other limit) ms U y d)
    settled_alike limit rest ns ms g T U t x y e true true f = rest ns ms g T U t
    settled_alike limit rest [] [] g T U t x y e false false f = record { table = t; left = tt; certainty = refl }
    settled_alike limit rest (n ∷ ns) (m ∷ ms) g T U t x y e false false f = record { table = t; left = g; certainty = ap unsettled e }
    settled_alike limit rest [] (m ∷ ms) g T U t x y e false false f = absurd g
    settled_alike limit rest (n ∷ ns) [] g T U t x y e false false f = absurd g
    settled_alike limit rest ns ms g T U t x y e true false f = absurd (cc)
    settled_alike limit rest ns ms g T U t x y e false true f = absurd (cc)

    next_alike : (limit : ℕ) → RoundsAlike limit → (x : Option (Round one)) (y : Option (Round other)) → OnBoth (RoundEndsTogether one other c) x y
        → Alike (OnBoth (RoundsEndTogether one other c)) (next_round one (rounds one limit) x) (next_round other (rounds other limit) y)
    next_alike limit rest None None e = tt
    next_alike limit rest (Some x) (Some y) e = settled_alike limit rest x.left y.left e.left x.table y.table e.table x.certainty y.certainty e.certainty x.changed y.changed e.changed
    next_alike limit rest None (Some y) e = absurd e
    next_alike limit rest (Some x) None e = absurd e

    pub rounds_alike : (limit : ℕ) → RoundsAlike limit
    rounds_alike zero ns ms g T U t = record { table = t; left = g; certainty = refl }
    rounds_alike (suc limit) ns ms g T U t =
        alike_followed (OnBoth (RoundEndsTogether one other c)) (OnBoth (RoundsEndTogether one other c)) (next_round one (rounds one limit)) (next_round other (rounds other limit))
        (λ x y e. next_alike limit (λ ks ls h V W v. rounds_alike limit ks ls h V W v) x y e) (round one ns T) (round other ms U) (round_alike ns ms g T U t)

    pub rounds_correspond : RoundsCorrespond one other c
    rounds_correspond = record {
      of_round = λ ns ms T U replies others g t h. alike_runs (OnBoth (RoundEndsTogether one other c)) (round one ns T) (round other ms U) (round_alike ns ms g T U t) replies others h;
      of_rounds = λ limit ns ms T U replies others g t h.
          alike_runs (OnBoth (RoundsEndTogether one other c)) (rounds one limit ns T) (rounds other limit ms U) (rounds_alike limit ns ms g T U t) replies others h;
    }

module _ {Question Response OtherQuestion OtherResponse : Type 0} (one : Workings Question Response) (other : Workings OtherQuestion OtherResponse) (c : CandidateCorrespondence one other) where
  abbrev Result : Option Response → Option OtherResponse → Type 0
  Result a b = Results one other c a b

  abbrev Same : {X Y : Type 0} → (X → Y → Type 0) → Script Question (Option Response) X → Script OtherQuestion (Option OtherResponse) Y → Type 0
  Same R s t = Alike one.operations other.operations c.rounds R s t

  abbrev Ended : Option (Rounds one.operations) → Option (Rounds other.operations) → Type 0
  Ended a b = OnBoth (RoundsEndTogether one.operations other.operations c.rounds) a b

  module _ (laws : IsCandidateCorrespondence one other c) where
    answered_alike : (x y : Certainty) → x ≡ y → (a : Option (Rounds one.operations)) (b : Option (Rounds other.operations)) → Ended a b
        → Same Result (answered one x a) (answered other y b)
    answered_alike x y e None None h = tt
    answered_alike x y e (Some a) (Some b) h =
        subst (λ d. c.Responses (one.respond a.table (joined x a.certainty)) (other.respond b.table d)) (ap (λ d. joined d a.certainty) e ∙ ap (joined y) h.certainty)
        (laws.respond a.table b.table (joined x a.certainty) h.table)
    answered_alike x y e None (Some b) h = absurd h
    answered_alike x y e (Some a) None h = absurd h

    equated_alike : (limit : ℕ) (x : Spec one) (y : Spec other) → Specs one other c x y → (o : Option one.operations.Table) (p : Option other.operations.Table) → OnBoth c.rounds.Tables o p
        → Same Result (equated one limit x o) (equated other limit y p)
    equated_alike limit x y s None None t = tt
    equated_alike limit x y s (Some T) (Some U) t =
        alike_followed one.operations other.operations c.rounds Ended Result (answered one x.certainty) (answered other y.certainty) (λ a b h. answered_alike x.certainty y.certainty s.certainty a b h)
        (rounds one.operations limit x.nested (one.recorded T x.regions)) (rounds other.operations limit y.nested (other.recorded U y.regions))
        (rounds_alike one.operations other.operations c.rounds laws.rounds limit x.nested y.nested s.nested (one.recorded T x.regions) (other.recorded U y.regions) (laws.recorded T U x.regions y.regions t s.regions))
    equated_alike limit x y s None (Some U) t = absurd t
    equated_alike limit x y s (Some T) None t = absurd t

    pub candidate_alike : (limit : ℕ) (T : one.operations.Table) (U : other.operations.Table) (x : Spec one) (y : Spec other) → c.rounds.Tables T U → Specs one other c x y
        → Same Result (candidate one limit T x) (candidate other limit U y)
    candidate_alike limit T U x y t s =
        equated_alike limit x y s (one.equate (one.fresh T x.kinds) x.equations) (other.equate (other.fresh U y.kinds) y.equations)
        (laws.equate (one.fresh T x.kinds) (other.fresh U y.kinds) x.equations y.equations (laws.fresh T U x.kinds y.kinds t s.kinds) s.equations)

    pub candidates_correspond : CandidatesCorrespond one other c
    candidates_correspond limit T U x y replies others t s h =
        alike_runs one.operations other.operations c.rounds Result (candidate one limit T x) (candidate other limit U y) (candidate_alike limit T U x y t s) replies others h

  -- ---- frames
  -- the candidates are alike, the answers correspond, and the same numbers are ignored, while numbers are new
  abbrev pub FramesAlike : List ℕ → Frame Question (Option Response) → Frame OtherQuestion (Option OtherResponse) → Type 0
  FramesAlike used (considers s go) (considers t on) =
      Same Result s t × ((a : Option Response) (b : Option OtherResponse) → Result a b → (n : ℕ) → IsNoneOf n used → FramesAlike (n ∷ used) (go a n) (on b n))
  FramesAlike used (answers a ns) (answers b ms) = Result a b × (ns ≡ ms)
  FramesAlike used (considers s go) (answers b ms) = ⊥
  FramesAlike used (answers a ns) (considers t on) = ⊥

  same_numbers : (seen : List (Considered one)) (known : List (Considered other)) → Pairwise (BothConsidered one other c) seen known → used_numbers one seen ≡ used_numbers other known
  same_numbers [] [] p = refl
  same_numbers (x ∷ seen) (y ∷ known) p = let e = p.0.number in let f = same_numbers seen known p.1 in rw (e, f) refl
  same_numbers [] (y ∷ known) p = absurd p
  same_numbers (x ∷ seen) [] p = absurd p

  module _ (laws : IsCandidateCorrespondence one other c) (limit : ℕ) (T : one.operations.Table) (U : other.operations.Table) (next : List (Considered one) → Next one) (then : List (Considered other) → Next other)
      (t : c.rounds.Tables T U) (handlers : Handlers one other c next then) where
    abbrev Framed : ℕ → Type 0
    Framed fuel =
        (seen : List (Considered one)) (known : List (Considered other)) → Pairwise (BothConsidered one other c) seen known → IsHistory one next seen → IsHistory other then known
        → FramesAlike (used_numbers one seen) (frame one limit T next fuel seen) (frame other limit U then fuel known)

    goes_alike : (fuel : ℕ) → Framed fuel → (seen : List (Considered one)) (known : List (Considered other)) → Pairwise (BothConsidered one other c) seen known → IsHistory one next seen
        → IsHistory other then known → (x : Next one) (y : Next other) → next seen ≡ x → then known ≡ y → BothNext one other c x y
        → FramesAlike (used_numbers one seen) (goes_on one limit T next (frame one limit T next fuel) seen x) (goes_on other limit U then (frame other limit U then fuel) known y)
    goes_alike fuel rest seen known p h k (consider x) (consider y) e f n = (
      candidate_alike laws limit T U x y t n,
      λ a b r m new.
          rest (record { spec = x; response = a; number = m } ∷ seen) (record { spec = y; response = b; number = m } ∷ known) (record { spec = n; response = r; number = refl }, p) (e, new, h)
          (f, subst (IsNoneOf m) (same_numbers seen known p) new, k),
    )
    goes_alike fuel rest seen known p h k (answer a ns) (answer b ms) e f n = n
    goes_alike fuel rest seen known p h k (consider x) (answer b ms) e f n = absurd n
    goes_alike fuel rest seen known p h k (answer a ns) (consider y) e f n = absurd n

    pub frame_alike : (fuel : ℕ) → Framed fuel
    frame_alike zero seen known p h k = (laws.respond T U (Maybe Ambiguity) t, refl)
    frame_alike (suc fuel) seen known p h k = goes_alike fuel (λ s l q i j. frame_alike fuel s l q i j) seen known p h k (next seen) (then known) refl refl (handlers seen known p h k)

  -- ---- their positions
  abbrev PositionsAlike : Position Question (Option Response) → Position OtherQuestion (Option OtherResponse) → Type 0
  PositionsAlike (between heard gone f) (between known left g) = FramesAlike (numbers heard) f g
  PositionsAlike (inside heard replies s go) (inside known others t on) =
      Same Result s t × ((a : Option Response) (b : Option OtherResponse) → Result a b → (n : ℕ) → IsNoneOf n (numbers heard) → FramesAlike (n ∷ numbers heard) (go a n) (on b n))
  PositionsAlike (between heard gone f) (inside known others t on) = ⊥
  PositionsAlike (inside heard replies s go) (between known left g) = ⊥

  abbrev Place : Type 0
  Place = Position OtherQuestion (Option OtherResponse)

  abbrev OtherReply : Type 0
  OtherReply = Reply (Option OtherResponse)

  abbrev Heard : Type 0
  Heard = List (Finished Question (Option Response))

  on_entered : (heard : Heard) (gone : List ℕ) (s : Script Question (Option Response) (Option Response)) (go : Option Response → ℕ → Frame Question (Option Response))
      → (q : Place) (y : OtherReply) → Replies one other c (between heard gone (considers s go)) entered y → PositionsAlike (between heard gone (considers s go)) q → PositionsAlike (inside heard [] s go) (told y q)
  on_entered heard gone s go (between known left (considers t on)) entered r p = p
  on_entered heard gone s go q entered r p = absurd p
  on_entered heard gone s go q reply r p = absurd r

  on_ignored : (heard : Heard) (gone : List ℕ) (a : Option Response) (n : ℕ) (ns : List ℕ)
      → (q : Place) (y : OtherReply) → Replies one other c (between heard gone (answers a (n ∷ ns))) ignored y → PositionsAlike (between heard gone (answers a (n ∷ ns))) q → PositionsAlike (between heard (n ∷ gone) (answers a ns)) (told y q)
  on_ignored heard gone a n ns (between known left (answers b (m ∷ ms))) ignored r p = (p.0, ap rest_of p.1)
  on_ignored heard gone a n ns (between known left (answers b [])) ignored r p = let e = p.1 in absurd (cc)
  on_ignored heard gone a n ns q ignored r p = absurd p
  on_ignored heard gone a n ns q reply r p = absurd r

  on_evaluated : (heard : Heard) (replies : List (Question × Option Response)) (p : Question) (j : Option Response → Script Question (Option Response) (Option Response))
      (go : Option Response → ℕ → Frame Question (Option Response)) (a : Option Response)
      → (q : Place) (y : OtherReply) → Replies one other c (inside heard replies (ask p j) go) (evaluated a) y → PositionsAlike (inside heard replies (ask p j) go) q → PositionsAlike (inside heard ((p, a) ∷ replies) (j a) go) (told y q)
  on_evaluated heard replies p j go a (inside known others (ask q k) on) (evaluated b) r h = (h.0.1 a b r, h.1)
  on_evaluated heard replies p j go a (inside known others (done b) on) (evaluated d) r h = absurd h.0
  on_evaluated heard replies p j go a q (evaluated b) r h = absurd h
  on_evaluated heard replies p j go a q reply r h = absurd r

  on_finished : (heard : Heard) (replies : List (Question × Option Response)) (a : Option Response) (go : Option Response → ℕ → Frame Question (Option Response)) (n : ℕ) → IsNoneOf n (numbers heard)
      → (q : Place) (y : OtherReply) → Replies one other c (inside heard replies (done a) go) (finished n) y → PositionsAlike (inside heard replies (done a) go) q → PositionsAlike (between ((n, replies) ∷ heard) [] (go a n)) (told y q)
  on_finished heard replies a go n new (inside known others (done b) on) (finished m) r h = subst (λ i. FramesAlike (n ∷ numbers heard) (go a n) (on b i)) r (h.1 a b h.0 n new)
  on_finished heard replies a go n new (inside known others (ask q k) on) (finished m) r h = absurd h.0
  on_finished heard replies a go n new q (finished m) r h = absurd h
  on_finished heard replies a go n new q reply r h = absurd r

  -- the same reply keeps positions alike
  abbrev Anything : Question → Option Response → Type 0
  Anything q a = Unit {0}

  told_alike : (p : Position Question (Option Response)) (x : Reply (Option Response)) → IsAwaitedReply Anything p x
      → (q : Place) (y : OtherReply) → Replies one other c p x y → PositionsAlike p q → PositionsAlike (told x p) (told y q)
  told_alike =
      step Anything (λ p x after. (q : Place) (y : OtherReply) → Replies one other c p x y → PositionsAlike p q → PositionsAlike after (told y q))
      (λ heard gone s go. on_entered heard gone s go) (λ heard gone a n ns. on_ignored heard gone a n ns)
      (λ heard replies p j go a r. on_evaluated heard replies p j go a) (λ heard replies a go n new. on_finished heard replies a go n new)

  requests_alike : (p : Position Question (Option Response)) (q : Place) → PositionsAlike p q → Requests one other c (request p) (request q)
  requests_alike (between heard gone (considers s go)) (between known left (considers t on)) h = tt
  requests_alike (between heard gone (answers a [])) (between known left (answers b [])) h = h.0
  requests_alike (between heard gone (answers a (n ∷ ns))) (between known left (answers b (m ∷ ms))) h = ap (first_or n) h.1
  requests_alike (between heard gone (answers a [])) (between known left (answers b (m ∷ ms))) h = let e = h.1 in absurd (cc)
  requests_alike (between heard gone (answers a (n ∷ ns))) (between known left (answers b [])) h = let e = h.1 in absurd (cc)
  requests_alike (inside heard replies (ask p j) go) (inside known others (ask q k) on) h = h.0.0
  requests_alike (inside heard replies (done a) go) (inside known others (done b) on) h = tt
  requests_alike (inside heard replies (ask p j) go) (inside known others (done b) on) h = absurd h.0
  requests_alike (inside heard replies (done a) go) (inside known others (ask q k) on) h = absurd h.0
  requests_alike p q h = absurd h

  module _ (f : Frame Question (Option Response)) (g : Frame OtherQuestion (Option OtherResponse)) (alike : FramesAlike [] f g) where
    abbrev Stays : List (Reply (Option Response)) → Position Question (Option Response) → Type 0
    Stays heard p = (position f heard ≡ p) × ((replies : List OtherReply) → RepliesCorrespond one other c f heard replies → PositionsAlike p (position g replies))

    started : (replies : List OtherReply) → RepliesCorrespond one other c f (begin ∷ []) replies → PositionsAlike (between [] [] f) (position g replies)
    started (begin ∷ []) h = alike
    started (begin ∷ y ∷ replies) h = absurd h.1
    started [] h = absurd h
    started (reply ∷ replies) h = absurd h.0

    starts : Stays (begin ∷ []) (between [] [] f)
    starts = (refl, started)

    goes_to : (heard : List (Reply (Option Response))) (p : Position Question (Option Response)) (x : Reply (Option Response)) → IsAwaitedReply Anything p x → Stays heard p
        → (replies : List OtherReply) → RepliesCorrespond one other c f (x ∷ heard) replies → PositionsAlike (told x p) (position g replies)
    goes_to heard p x i stays [] h = absurd h
    goes_to heard p x i stays (y ∷ replies) h = told_alike p x i (position g replies) y (subst (λ z. Replies one other c z x y) stays.0 h.0) (stays.1 replies h.1)

    goes : (heard : List (Reply (Option Response))) (p : Position Question (Option Response)) (x : Reply (Option Response)) → IsAwaitedReply Anything p x → Stays heard p → Stays (x ∷ heard) (told x p)
    goes heard p x i stays = (ap (told x) stays.0, goes_to heard p x i stays)

    -- alike frames make corresponding requests
    pub asks_alike : (heard : List (Reply (Option Response))) (replies : List OtherReply) → RepliesCorrespond one other c f heard replies → CameInOrder Anything f heard
        → Requests one other c (asks f heard) (asks g replies)
    asks_alike heard replies h came = requests_alike (position f heard) (position g replies) ((holds Anything f Stays starts goes heard came).1 replies h)

  pub frames_correspond : IsCandidateCorrespondence one other c → FramesCorrespond one other c
  frames_correspond laws limit fuel T U next then heard replies t handlers h came =
      asks_alike (frame one limit T next fuel []) (frame other limit U then fuel []) (frame_alike laws limit T U next then t handlers fuel [] [] tt tt tt) heard replies h came
