-- A lawful plan is a lawful handler, and plans composed of lawful plans are lawful.
use Rattle.std.proofs.Common.{◌≡◌, ℕ, zero, suc, ◌+◌, ◌≤◌, List, [], ◌∷◌, length, inl, inr, refl, sym, ◌∙◌, ap, subst, Option, Some, None, arith}
use Rattle.goal_evaluator.specs.Lists.{Every, SomeOf, IsNoneOf, IsDistinct}
use Rattle.goal_evaluator.specs.Table.{Tables, workings}
use Rattle.goal_evaluator.specs.Candidate.{Spec, Considered, Next, consider, answer, used_numbers, IsHistory}
use Rattle.goal_evaluator.specs.Handler.{Handled, nested_of, CandidateIsLawful, IsCandidate, AnswerIsLawful, IsHandler}
use Rattle.goal_evaluator.specs.Plans.{Plan, considers, answers, told, after, wanted, Planned, planned, came, KeepsLaws, IsPlan, each_of, if_refused, first_alone, GoesByConsidering, nested_in}

module _ {Question Response : Type 0} (t : Tables Question Response) where
  -- ---- along a history
  -- so many candidates and nested goals are left
  pub record IsLeft (h : Handled t) (candidates number : ℕ) (seen : List (Considered (workings t))) (p : Plan t) : Type 0 where
    pub room : ℕ
    pub left : ℕ
    pub rooms : room + length seen ≤ candidates
    pub lefts : left + nested_of t seen ≤ number
    pub keeps : KeepsLaws t h room left seen p

  abbrev spec_in : Spec (workings t) → Next (workings t) → Spec (workings t)
  spec_in s (consider c) = c
  spec_in s (answer a ignored) = s

  same_considered : (s : Spec (workings t)) (c : Considered (workings t)) → s ≡ c.spec → came t s c.response c.number ≡ c
  same_considered s c e = ap (λ z. came t z c.response c.number) e

  step : (h : Handled t) (candidates number : ℕ) (c : Considered (workings t)) (seen : List (Considered (workings t))) (p : Plan t)
      → wanted t p ≡ consider c.spec → IsNoneOf c.number (used_numbers (workings t) seen) → IsLeft h candidates number seen p → IsLeft h candidates number (c ∷ seen) (told t c p)
  step h candidates number c seen (answers a ignored) e new l = absurd (cc)
  step h candidates number c seen (considers s go) e new l = by l.room l.left l.rooms l.lefts l.keeps
    where
      same : s ≡ c.spec
      same = ap (spec_in s) e

      by : (room left : ℕ) → room + length seen ≤ candidates → left + nested_of t seen ≤ number → KeepsLaws t h room left seen (considers s go) → IsLeft h candidates number (c ∷ seen) (go c.response c.number)
      by zero left r n k = absurd k
      by (suc room) left r n k =
          let f = k.1.1 in
          let g : length s.nested ≡ length c.spec.nested = ap (λ (z : Spec (workings t)). length z.nested) same in
          record {
            room = room;
            left = k.1.0;
            rooms = omega (arith, r);
            lefts = omega (arith, n, f, g);
            keeps = subst (λ z. KeepsLaws t h room k.1.0 (z ∷ seen) (go c.response c.number)) (same_considered s c same) (k.1.2 c.response c.number new);
          }

  walk : (h : Handled t) (p : Plan t) → ((seen : List (Considered (workings t))) → h.next seen ≡ wanted t (after t p seen)) → (candidates number : ℕ) → KeepsLaws t h candidates number [] p
      → (seen : List (Considered (workings t))) → IsHistory (workings t) h.next seen → IsLeft h candidates number seen (after t p seen)
  walk h p is candidates number k [] hist = record { room = candidates; left = number; rooms = omega arith; lefts = omega arith; keeps = k }
  walk h p is candidates number k (c ∷ seen) hist =
      step h candidates number c seen (after t p seen) (sym (is seen) ∙ hist.0) hist.1 (walk h p is candidates number k seen hist.2)

  candidate_at : (h : Handled t) (seen : List (Considered (workings t))) (q : Plan t) (c : Spec (workings t)) → wanted t q ≡ consider c → IsLeft h h.candidates h.number seen q → IsCandidate t h seen c
  candidate_at h seen (answers a ignored) c e l = absurd (cc)
  candidate_at h seen (considers s go) c e l = subst (IsCandidate t h seen) (ap (spec_in s) e) (by l.room l.left l.rooms l.lefts l.keeps)
    where
      by : (room left : ℕ) → room + length seen ≤ h.candidates → left + nested_of t seen ≤ h.number → KeepsLaws t h room left seen (considers s go) → IsCandidate t h seen s
      by zero left r n k = absurd k
      by (suc room) left r n k =
          let f = k.1.1 in
          record { lawful = k.0; ends = omega (arith, r); asks = omega (arith, n, f) }

  abbrev answer_in : Option Response → Next (workings t) → Option Response
  answer_in b (consider c) = b
  answer_in b (answer a ignored) = a

  abbrev ignored_in : List ℕ → Next (workings t) → List ℕ
  ignored_in b (consider c) = b
  ignored_in b (answer a ignored) = ignored

  answer_at : (h : Handled t) (seen : List (Considered (workings t))) (q : Plan t) (a : Option Response) (ignored : List ℕ) → IsDistinct (used_numbers (workings t) seen) → wanted t q ≡ answer a ignored → IsLeft h h.candidates h.number seen q → AnswerIsLawful t h seen a ignored
  answer_at h seen (considers s go) a ignored d e l = absurd (cc)
  answer_at h seen (answers b others) a ignored d e l = subst (λ z. AnswerIsLawful t h seen z ignored) (ap (answer_in b) e) (subst (AnswerIsLawful t h seen b) (ap (ignored_in others) e) (l.keeps d))

  distinct_numbers : (next : List (Considered (workings t)) → Next (workings t)) (seen : List (Considered (workings t))) → IsHistory (workings t) next seen → IsDistinct (used_numbers (workings t) seen)
  distinct_numbers next [] hist = tt
  distinct_numbers next (c ∷ seen) hist = (hist.1, distinct_numbers next seen hist.2)

  pub plan_is_lawful : (p : Planned t) → IsPlan t p → IsHandler t (planned t p)
  plan_is_lawful p laws = record {
    begins = laws.begins;
    says_nothing = laws.says_nothing;
    begins_within = laws.begins_within;
    candidate = λ seen c hist e. candidate_at (planned t p) seen (after t p.plan seen) c e (walk (planned t p) p.plan (λ xs. refl) p.candidates p.number laws.keeps seen hist);
    answer = λ seen a ignored hist e. answer_at (planned t p) seen (after t p.plan seen) a ignored (distinct_numbers (planned t p).next seen hist) e (walk (planned t p) p.plan (λ xs. refl) p.candidates p.number laws.keeps seen hist);
  }

  -- ---- plans that are made of others
  pub keeps_more : (h : Handled t) (room more left much : ℕ) (seen : List (Considered (workings t))) (p : Plan t) → room ≤ more → left ≤ much → KeepsLaws t h room left seen p → KeepsLaws t h more much seen p
  keeps_more h room more left much seen (answers a ignored) r l k = k
  keeps_more h zero more left much seen (considers s go) r l k = absurd k
  keeps_more h (suc room) zero left much seen (considers s go) r l k = absurd (omega (arith, r))
  keeps_more h (suc room) (suc more) left much seen (considers s go) r l k =
      let f = k.1.1 in
      (k.0, (k.1.0, omega (arith, f, l), λ a n new. keeps_more h room more k.1.0 k.1.0 (came t s a n ∷ seen) (go a n) (omega (arith, r)) (omega arith) (k.1.2 a n new)))

  -- a list of lawful candidates one after the other
  pub keeps_each : (h : Handled t) (room left : ℕ) (specs : List (Spec (workings t))) (go : List (Considered (workings t)) → Plan t) (seen : List (Considered (workings t)))
      → Every (CandidateIsLawful t h) specs → ((later : List (Considered (workings t))) → GoesByConsidering t specs seen later → KeepsLaws t h room left later (go later))
      → KeepsLaws t h (length specs + room) (nested_in t specs + left) seen (each_of t specs go seen)
  keeps_each h room left [] go seen laws k = keeps_more h room (length {A = Spec (workings t)} [] + room) left (nested_in t [] + left) seen (go seen) (omega arith) (omega arith) (k seen refl)
  keeps_each h room left (s ∷ specs) go seen laws k =
      keeps_more h (suc (length specs + room)) (length (s ∷ specs) + room) (length s.nested + (nested_in t specs + left)) (nested_in t (s ∷ specs) + left) seen (each_of t (s ∷ specs) go seen) (omega arith) (omega arith)
      (laws.0, (nested_in t specs + left, omega arith, λ a n new. keeps_each h room left specs go (came t s a n ∷ seen) laws.1 (λ later g. k later (a, n, g))))

  keeps_if : (h : Handled t) (room left : ℕ) (seen : List (Considered (workings t))) (refused held : Plan t) (a : Option Response)
      → KeepsLaws t h room left seen refused → KeepsLaws t h room left seen held → KeepsLaws t h room left seen (if_refused t refused held a)
  keeps_if h room left seen refused held None k l = k
  keeps_if h room left seen refused held (Some r) k l = l

  -- one before the others
  pub keeps_first : (h : Handled t) (room left : ℕ) (s : Spec (workings t)) (refused held : List (Considered (workings t)) → Plan t) (seen : List (Considered (workings t)))
      → CandidateIsLawful t h s
      → ((later : List (Considered (workings t))) → GoesByConsidering t (s ∷ []) seen later → KeepsLaws t h room left later (refused later))
      → ((later : List (Considered (workings t))) → GoesByConsidering t (s ∷ []) seen later → KeepsLaws t h room left later (held later))
      → KeepsLaws t h (suc room) (length s.nested + left) seen (first_alone t s refused held seen)
  keeps_first h room left s refused held seen law k l =
      (law, (left, omega arith, λ a n new. keeps_if h room left (came t s a n ∷ seen) (refused (came t s a n ∷ seen)) (held (came t s a n ∷ seen)) a (k (came t s a n ∷ seen) (a, n, refl)) (l (came t s a n ∷ seen) (a, n, refl))))

  -- what was considered stays considered
  pub goes_on : (Q : Considered (workings t) → Type 0) (specs : List (Spec (workings t))) (seen later : List (Considered (workings t))) → GoesByConsidering t specs seen later → SomeOf Q seen → SomeOf Q later
  goes_on Q [] seen later g s = subst (SomeOf Q) (sym g) s
  goes_on Q (c ∷ specs) seen later g s = goes_on Q specs (came t c g.0 g.1 ∷ seen) later g.2 (inr s)

  -- what holds of one of these holds of one that was considered
  pub goes_through : (P : Spec (workings t) → Type 0) (specs : List (Spec (workings t))) (seen later : List (Considered (workings t))) → GoesByConsidering t specs seen later → SomeOf P specs → SomeOf (λ (c : Considered (workings t)). P c.spec) later
  goes_through P [] seen later g s = absurd s
  goes_through P (c ∷ specs) seen later g (inl p) = goes_on (λ (d : Considered (workings t)). P d.spec) specs (came t c g.0 g.1 ∷ seen) later g.2 (inl p)
  goes_through P (c ∷ specs) seen later g (inr s) = goes_through P specs (came t c g.0 g.1 ∷ seen) later g.2 s
