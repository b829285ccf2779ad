-- The frame of a list of candidates: it evaluates the first ones, or all, and then its result is made of their responses.
use Rattle.std.proofs.Common.{◌≡◌, ◌<◌, ℕ, zero, suc, arith, Bool, true, false, if◌then◌else◌, List, [], ◌∷◌, ◌++◌, filter, length, refl, sym, ◌∙◌, ap, subst, Option}
use Rattle.goal_evaluator.specs.Lists.{Every, Pairwise}
use Rattle.goal_evaluator.specs.Frame.{Frame}
use Rattle.goal_evaluator.specs.Table.{Tables, workings}
use Rattle.goal_evaluator.specs.Candidate.{Spec, Considered, Next, consider, answer, candidate, goes_on, frame}
use Rattle.goal_evaluator.specs.Merge.{if_there, responses}
use Rattle.solver_completeness.specs.Plays.{Ends, FrameEnds, CanEnd}
use Rattle.solver_completeness.specs.Exact.{WereConsidered, GoesTo}
use Rattle.solver_completeness.proofs.Merging.{present, present_in}
use Rattle.type_terms.proofs.ListBasics.{append-empty as append-nil, append-assoc as append-all}

-- the second list is the first with some left out, up to where the third begins
pub data IsThinned {A : Type 0} (left : List A) : List A → List A → Type 0 where
  stop : IsThinned left left []
  take : {x : A} {xs ys : List A} → IsThinned left xs ys → IsThinned left (x ∷ xs) (x ∷ ys)
  skip : {x : A} {xs ys : List A} → IsThinned left xs ys → IsThinned left (x ∷ xs) ys

thin-skip : {A : Type 0} (left skipped xs ys : List A) → IsThinned left xs ys → IsThinned left (skipped ++ xs) ys
thin-skip left [] xs ys h = h
thin-skip left (x ∷ skipped) xs ys h = skip (thin-skip left skipped xs ys h)

no-first : {A : Type 0} (xs ys : List A) → xs ++ ys ≡ [] → xs ≡ []
no-first [] ys e = refl
no-first (x ∷ xs) ys e = absurd (cc)

every-right : {A : Type 0} (P : A → Type 0) (xs ys : List A) → Every P (xs ++ ys) → Every P ys
every-right P [] ys h = h
every-right P (x ∷ xs) ys h = every-right P xs ys h.1

behind : {A : Type 0} (skipped : List A) (x : A) (rest : List A) → length rest < length (skipped ++ x ∷ rest)
behind [] x rest = less (length rest)
  where
    less : (n : ℕ) → n < suc n
    less n = omega arith
behind (y ∷ skipped) x rest = more (length rest) (length (skipped ++ x ∷ rest)) (behind skipped x rest)
  where
    more : (n m : ℕ) → n < m → n < suc m
    more n m h = omega (arith, h)

module _ {Question Response : Type 0} (t : Tables Question Response) (P : Question → Option Response → Type 0) (limit : ℕ) (begin : t.Table) (next : List (Considered (workings t)) → Next (workings t))
    (left_of : List (Considered (workings t)) → List (Spec (workings t)))
    (considered : (seen : List (Considered (workings t))) (c : Spec (workings t)) → WereConsidered t next seen → next seen ≡ consider c → GoesTo t left_of seen c) where
  abbrev pub frame_from : ℕ → List (Considered (workings t)) → Frame Question (Option Response)
  frame_from fuel seen = frame (workings t) limit begin next fuel seen

  abbrev pub CandidateEnds : Spec (workings t) → Option Response → Type 0
  CandidateEnds c x = Ends P (candidate (workings t) limit begin c) x

  -- some candidates were considered in order, each ended so, and then the answer was made; where all were refused, none was left out
  pub record ConsideredSome (seen : List (Considered (workings t))) (cs : List (Spec (workings t))) (a : Option Response) : Type 0 where
    pub taken : List (Spec (workings t))
    pub results : List (Option Response)
    pub each : Pairwise CandidateEnds taken results
    pub last : List (Considered (workings t))
    pub thinned : IsThinned (left_of last) cs taken
    pub whole : responses t last ≡ [] → cs ≡ taken ++ left_of last
    pub were : WereConsidered t next last
    pub ignored : List ℕ
    pub answered : next last ≡ answer a ignored
    pub heard : responses t last ≡ responses t seen ++ present results
    pub heard_from : (p : Spec (workings t) → Bool) → responses t (filter (λ c. p c.spec) last) ≡ responses t (filter (λ c. p c.spec) seen) ++ present_in p taken results

  abbrev Onward : ℕ → Type 0
  Onward fuel =
      (cs : List (Spec (workings t))) (seen : List (Considered (workings t))) → length cs < fuel → WereConsidered t next seen → left_of seen ≡ cs
      → (a : Option Response) → FrameEnds P (frame_from fuel seen) a → ConsideredSome seen cs a

  shorter : (fuel : ℕ) (c : Spec (workings t)) (cs skipped rest : List (Spec (workings t))) → cs ≡ skipped ++ c ∷ rest → length cs < suc fuel → length rest < fuel
  shorter fuel c cs skipped rest e l = less (length rest) (length (skipped ++ c ∷ rest)) (behind skipped c rest) (subst (λ z. length z < suc fuel) e l)
    where
      less : (n m : ℕ) → n < m → m < suc fuel → n < fuel
      less n m h g = omega (arith, h, g)

  heard-on : (seen now more all : List Response) → all ≡ (seen ++ now) ++ more → all ≡ seen ++ (now ++ more)
  heard-on seen now more all e = e ∙ append-all seen now more

  heard-here : (p : Spec (workings t) → Bool) (c : Considered (workings t)) (seen : List (Considered (workings t)))
      → responses t (filter (λ d. p d.spec) (c ∷ seen)) ≡ responses t (filter (λ d. p d.spec) seen) ++ (if p c.spec then if_there c.response else [])
  heard-here p c seen = by (p c.spec)
    where
      by : (b : Bool) → responses t (if b then c ∷ filter (λ d. p d.spec) seen else filter (λ d. p d.spec) seen) ≡ responses t (filter (λ d. p d.spec) seen) ++ (if b then if_there c.response else [])
      by true = refl
      by false = sym (append-nil (responses t (filter (λ d. p d.spec) seen)))

  whole-on : (c : Spec (workings t)) (cs skipped rest taken left : List (Spec (workings t))) (seen now more all : List Response) → cs ≡ skipped ++ c ∷ rest → (seen ≡ [] → skipped ≡ []) → all ≡ (seen ++ now) ++ more
      → (all ≡ [] → rest ≡ taken ++ left) → all ≡ [] → cs ≡ c ∷ (taken ++ left)
  whole-on c cs skipped rest taken left seen now more all e why f g h =
      e ∙ ap (λ z. z ++ c ∷ rest) (why (no-first seen now (no-first (seen ++ now) more (sym f ∙ h)))) ∙ ap (λ z. c ∷ z) (g h)

  considers-one : (fuel : ℕ) → Onward fuel → (cs : List (Spec (workings t))) (seen : List (Considered (workings t))) → length cs < suc fuel → WereConsidered t next seen → left_of seen ≡ cs
      → (a : Option Response) (n : Next (workings t)) → next seen ≡ n → FrameEnds P (goes_on (workings t) limit begin next (frame_from fuel) seen n) a → ConsideredSome seen cs a
  considers-one fuel go cs seen l w e a (answer b ignored) q f = record {
    taken = [];
    results = [];
    each = tt;
    last = seen;
    thinned = subst (λ z. IsThinned (left_of seen) z []) e stop;
    whole = λ h. sym e;
    were = w;
    ignored = ignored;
    answered = subst (λ z. next seen ≡ answer z ignored) f q;
    heard = sym (append-nil (responses t seen));
    heard_from = λ p. sym (append-nil (responses t (filter (λ c. p c.spec) seen)));
  }
  considers-one fuel go cs seen l w e a (consider c) q f =
      let x = considered seen c w q in
      let all : cs ≡ x.skipped ++ c ∷ x.rest = sym e ∙ x.is in
      let y = go x.rest (record { spec = c; response = f.0; number = f.1 } ∷ seen) (shorter fuel c cs x.skipped x.rest all l) (q, w) (x.after f.0 f.1) a f.3 in
      record {
        taken = c ∷ y.taken;
        results = f.0 ∷ y.results;
        each = (f.2, y.each);
        last = y.last;
        thinned = subst (λ z. IsThinned (left_of y.last) z (c ∷ y.taken)) (sym all) (thin-skip (left_of y.last) x.skipped (c ∷ x.rest) (c ∷ y.taken) (take y.thinned));
        whole = whole-on c cs x.skipped x.rest y.taken (left_of y.last) (responses t seen) (if_there f.0) (present y.results) (responses t y.last) all x.why y.heard y.whole;
        were = y.were;
        ignored = y.ignored;
        answered = y.answered;
        heard = heard-on (responses t seen) (if_there f.0) (present y.results) (responses t y.last) y.heard;
        heard_from = λ p.
            heard-on (responses t (filter (λ d. p d.spec) seen)) (if p c then if_there f.0 else []) (present_in p y.taken y.results) (responses t (filter (λ d. p d.spec) y.last))
            (y.heard_from p ∙ ap (λ z. z ++ present_in p y.taken y.results) (heard-here p (record { spec = c; response = f.0; number = f.1 }) seen));
      }

  pub considers_some : (fuel : ℕ) (cs : List (Spec (workings t))) (seen : List (Considered (workings t))) → length cs < fuel → WereConsidered t next seen → left_of seen ≡ cs
      → (a : Option Response) → FrameEnds P (frame_from fuel seen) a → ConsideredSome seen cs a
  considers_some zero cs seen l w e a f = absurd (omega (arith, l))
  considers_some (suc fuel) cs seen l w e a f = considers-one fuel (λ ds before m v d b g. considers_some fuel ds before m v d b g) cs seen l w e a (next seen) refl f

  -- where each candidate can end, so can the frame
  abbrev CanGo : ℕ → Type 0
  CanGo fuel =
      (cs : List (Spec (workings t))) (seen : List (Considered (workings t))) → length cs < fuel → WereConsidered t next seen → left_of seen ≡ cs
      → Every (λ c. (x : Option Response) × CandidateEnds c x) cs → CanEnd P (frame_from fuel seen)

  can-one : (fuel : ℕ) → CanGo fuel → (cs : List (Spec (workings t))) (seen : List (Considered (workings t))) → length cs < suc fuel → WereConsidered t next seen → left_of seen ≡ cs
      → Every (λ c. (x : Option Response) × CandidateEnds c x) cs → (n : Next (workings t)) → next seen ≡ n → CanEnd P (goes_on (workings t) limit begin next (frame_from fuel) seen n)
  can-one fuel go cs seen l w e h (answer b ignored) q = tt
  can-one fuel go cs seen l w e h (consider c) q =
      let x = considered seen c w q in
      let all : cs ≡ x.skipped ++ c ∷ x.rest = sym e ∙ x.is in
      let g = every-right (λ c. (x : Option Response) × CandidateEnds c x) x.skipped (c ∷ x.rest) (subst (Every (λ c. (x : Option Response) × CandidateEnds c x)) all h) in
      (g.0.0, g.0.1, λ n. go x.rest (record { spec = c; response = g.0.0; number = n } ∷ seen) (shorter fuel c cs x.skipped x.rest all l) (q, w) (x.after g.0.0 n) g.1)

  pub can_consider : (fuel : ℕ) (cs : List (Spec (workings t))) (seen : List (Considered (workings t))) → length cs < fuel → WereConsidered t next seen → left_of seen ≡ cs
      → Every (λ c. (x : Option Response) × CandidateEnds c x) cs → CanEnd P (frame_from fuel seen)
  can_consider zero cs seen l w e h = absurd (omega (arith, l))
  can_consider (suc fuel) cs seen l w e h = can-one fuel (λ ds before m v d g. can_consider fuel ds before m v d g) cs seen l w e h (next seen) refl
